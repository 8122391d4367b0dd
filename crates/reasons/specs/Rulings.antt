-- Why a rule refused a command, in words: by what a trusted command asks for, or else by the rule (ACS-3, TRUSTED SEND and
-- TRUSTED RECEIVE; Opal SSC 2.01, sections 3.1.1 and 3.3.3; SPC-4, SECURITY PROTOCOL IN). The texts are this project's:
--   because a response waits on the ComID
--   because Level 0 discovery, ComID 0001h, is received and takes no send
--   because a response carries at most 65480 bytes of tokens
--   because a response carries what its host takes by Properties, at first 1992 and at most 65480 bytes of tokens
--   because security protocol 00h is its list alone: a receive, SP Specific 0000h, one block or more
--   because security protocol 00h is a receive, SP Specific 0000h or 0001h, one block or more
--   because TPerInfo ProgrammaticResetEnable = 0
--   lifted by: Set of TPerInfo ProgrammaticResetEnable = 1 by SID (ACE_TPerInfo_Set_ProgrammaticResetEnable)
use Rattle.std.specs.Prelude.{◌≡◌, ℕ, ◌==◌, Bool, true, false, ◌&&◌, List, [], ◌∷◌, ◌++◌, Option, None, Some, codes, decimal, Result, Ok, Err, if◌then◌else◌}
use Rattle.basics.specs.declared.profile.Profile.{Profile}
use Rattle.basics.specs.declared.profile.Profile.TheVariants.{Base, Field, Opal}
use Rattle.fis.specs.declared.h2d.RegH2d.{RegH2d}
use Rattle.sp_cells.specs.declared.names.Sp.TheVariants.{Admin}
use Rattle.sp_cells.specs.Names.{tper_info}
use Rattle.sp_cells.specs.ColumnNames.{programmatic_reset_enable_column}
use Rattle.sp_cells.specs.Flat.{LookUp}
use Rattle.trusted_cmds.specs.Commands.{is_programmatic_reset, reading as command_in}
use Rattle.trusted_cmds.specs.declared.command.Command.{Command}
use Rattle.trusted_cmds.specs.declared.command.Command.TheVariants.{Send, Receive}
use Rattle.trusted_cmds.specs.declared.command.CommandError.{CommandError}
use Rattle.audit.specs.declared.rules.rule.Rule.{Rule}
use Rattle.audit.specs.declared.rules.rule.Rule.TheVariants as rules
use Rattle.audit.specs.Words.{rule_words}
use Rattle.tcg_calls.specs.Limits.{most_response}
use Rattle.sessions.specs.Beside.{least_limits, room_in}
use Rattle.history.specs.Facts.{Facts}
use Rattle.history.specs.Decisions.{discovery_com_id, lets_reset}
use Rattle.history.specs.Tcg.{unqueued}
use Rattle.reasons.specs.Called.{called_object, called_column}
use Rattle.reasons.specs.Remedies.{set_text}
use Rattle.reasons.specs.declared.rulings.Matter.{Matter}
use Rattle.reasons.specs.declared.rulings.Matter.TheVariants.{Reset, OtherThanList, OtherThanCertificates, SendToDiscovery, LongResponse, LongForHost, Plain}

-- by security protocol 00h
abbrev pub is_by_protocol_0 : Command → Bool
is_by_protocol_0 (Send protocol sp_specific blocks dma) = protocol == 0
is_by_protocol_0 (Receive protocol sp_specific blocks dma) = protocol == 0
is_by_protocol_0 _ = false

-- something else than what security protocol 00h tells on a drive of this profile
abbrev pub other_than_told : Profile → Matter
other_than_told Base = Plain
other_than_told Field = OtherThanList
other_than_told Opal = OtherThanCertificates

abbrev pub is_send_to_discovery : Command → Bool
is_send_to_discovery (Send protocol sp_specific blocks dma) = sp_specific == discovery_com_id
is_send_to_discovery _ = false

-- status 11h goes by the bytes of a response, and under Opal by what its host takes
abbrev pub matter_of_length : Profile → Matter
matter_of_length Base = LongResponse
matter_of_length Field = LongResponse
matter_of_length Opal = LongForHost

-- what a command asks for that its rule does not tell
abbrev pub matter_of_protocol : Profile → Command → Matter
matter_of_protocol profile command =
    if is_programmatic_reset command then Reset
    else (if is_by_protocol_0 command then other_than_told profile else Plain)

abbrev pub matter_of_com_id : Command → Matter
matter_of_com_id command = if is_send_to_discovery command then SendToDiscovery else Plain

abbrev pub matter_of : Profile → Command → Rule → Matter
matter_of profile command rules.Protocol = matter_of_protocol profile command
matter_of profile command rules.ComId = matter_of_com_id command
matter_of profile command rules.TooLong = matter_of_length profile
matter_of profile command _ = Plain

abbrev pub matter_at : Profile → Option Command → Rule → Matter
matter_at profile None rule = Plain
matter_at profile (Some command) rule = matter_of profile command rule

-- a line, with its line feed
abbrev pub because_text : List ℕ → List ℕ
because_text words = codes "because " ++ words ++ 10 ∷ []

-- the column that lets a command reset the drive, and who may set it
abbrev pub no_reset_words : List ℕ
no_reset_words =
    called_object tper_info ++ codes " "
    ++ called_column tper_info programmatic_reset_enable_column ++ codes " = 0"

abbrev pub no_reset_text : Profile → LookUp → List ℕ
no_reset_text profile look =
    because_text no_reset_words ++ codes "lifted by: "
    ++ set_text profile look Admin tper_info programmatic_reset_enable_column 1 ++ 10 ∷ []

abbrev pub list_words : List ℕ
list_words =
    codes "security protocol 00h is its list alone: a receive, SP Specific 0000h, one block or more"

abbrev pub certificate_words : List ℕ
certificate_words =
    codes "security protocol 00h is a receive, SP Specific 0000h or 0001h, one block or more"

abbrev pub discovery_words : List ℕ
discovery_words = codes "Level 0 discovery, ComID 0001h, is received and takes no send"

abbrev pub long_words : List ℕ
long_words =
    codes "a response carries at most " ++ decimal most_response ++ codes " bytes of tokens"

abbrev pub host_words : List ℕ
host_words =
    codes "a response carries what its host takes by Properties, at first "
    ++ decimal (room_in least_limits) ++ codes " and at most " ++ decimal most_response
    ++ codes " bytes of tokens"

abbrev pub matter_text : Profile → LookUp → Rule → Matter → List ℕ
matter_text profile look rule Reset = no_reset_text profile look
matter_text profile look rule OtherThanList = because_text list_words
matter_text profile look rule OtherThanCertificates = because_text certificate_words
matter_text profile look rule SendToDiscovery = because_text discovery_words
matter_text profile look rule LongResponse = because_text long_words
matter_text profile look rule LongForHost = because_text host_words
matter_text profile look rule Plain = because_text (rule_words rule)

-- the rule alone; no line where there is none
abbrev pub rule_text : Option Rule → List ℕ
rule_text None = []
rule_text (Some rule) = because_text (rule_words rule)

-- and by the command, by the rows in force
abbrev pub ruled_text : Profile → LookUp → Option Command → Option Rule → List ℕ
ruled_text profile look command None = []
ruled_text profile look command (Some rule) =
    matter_text profile look rule (matter_at profile command rule)

-- the command of a FIS, if it carries one that each drive knows
abbrev pub command_of_reading : Result (Command × Option ℕ) CommandError → Option Command
command_of_reading (Ok read) = Some read.0
command_of_reading (Err fault) = None

abbrev pub command_carried : RegH2d → Option Command
command_carried h = command_of_reading (command_in h)

-- What is told of the command that resets is so: where it is refused for its protocol the rows don't let it reset.
abbrev pub ResetRuleLaw : Type 0
ResetRuleLaw =
    (f : Facts) (payload : List ℕ) (protocol sp_specific blocks : ℕ) (dma : Bool)
    → matter_of f.config.profile (Send protocol sp_specific blocks dma) rules.Protocol ≡ Reset
    → (unqueued f payload (Send protocol sp_specific blocks dma)).rule ≡ Some rules.Protocol
    → lets_reset f.rows ≡ false
