-- What is told of a denial in a session: what the session holds, since when what denied it has been in force, and what would
-- lift it. A method was judged by the rows that its session sees (Core 2.01, sections 5.3 and 3.3.9), and so the ACEs that were
-- asked are told by them. An attempt to authenticate was judged by the rows in force (section 5.3.4.1): what the session has set,
-- and not committed, is told to be in force behind its commit. The texts are this project's:
--   lifted by: the commit of session 4097, which set User1 Enabled = 1
--   lifted by: the PIN of User1 in force, or behind the commit of session 4097 the one that it set
use Rattle.std.specs.Prelude.{ℕ, ◌==◌, Bool, true, List, [], ◌++◌, Option, None, Some, codes, if◌then◌else◌}
use Rattle.std.specs.Str.{bytes_eq}
use Rattle.basics.specs.declared.profile.Profile.{Profile}
use Rattle.sp_cells.specs.declared.names.Uid.{Uid}
use Rattle.sp_cells.specs.declared.names.Sp.{Sp}
use Rattle.sp_cells.specs.declared.cells.Cell.{Cell}
use Rattle.sp_cells.specs.declared.cells.Cell.TheVariants.{Bytes}
use Rattle.sp_cells.specs.ColumnNames.{enabled_column, pin_column}
use Rattle.sp_cells.specs.Flat.{LookUp}
use Rattle.sp_cells.specs.Ranges.{number as number_at}
use Rattle.audit.specs.declared.reason.AttemptFailure.{AttemptFailure}
use Rattle.audit.specs.declared.reason.AttemptFailure.TheVariants.{WrongPin, LockedOut, Disabled, Blocked, Unknown}
use Rattle.audit.specs.declared.reason.Why.{Why}
use Rattle.audit.specs.declared.reason.Why.TheVariants.{NoEntryHolds, AttemptFailed}
use Rattle.sessions.specs.Attempts.{credential}
use Rattle.reasons.specs.declared.explained.condition.Place.{Place}
use Rattle.reasons.specs.declared.explained.condition.Condition.{Condition}
use Rattle.reasons.specs.declared.explained.onset.Counted.{Counted}
use Rattle.reasons.specs.declared.explained.onset.Onset.{Onset}
use Rattle.reasons.specs.Called.{called_object}
use Rattle.reasons.specs.Remedies.{remedy_text}
use Rattle.reasons.specs.Reasons.{worded_number, set_cell_text, told_with}
use Rattle.reasons.specs.Holdings.{holds_text}

-- who asked: the session of a number on a drive of this profile, and the rows that it sees
pub record Asker : Type 0 where
  pub profile : Profile
  pub number : ℕ
  pub look : LookUp

abbrev pub asker_with : Profile → ℕ → LookUp → Asker
asker_with profile number look = record { profile = profile; number = number; look = look }

-- the column Enabled of an authority is 1
abbrev pub is_enabled_in : LookUp → Sp → Uid → Bool
is_enabled_in look sp authority = number_at look sp authority enabled_column == 1

-- the PIN of an authority, and whether it is the same by other rows
abbrev pub pin_in : LookUp → Sp → Uid → Option Cell
pin_in look sp authority = look sp (credential look sp authority) pin_column

abbrev pub is_same_pin : Option Cell → Option Cell → Bool
is_same_pin (Some (Bytes pin)) (Some (Bytes other)) = bytes_eq pin other
is_same_pin _ _ = true

abbrev pub commit_words : ℕ → List ℕ
commit_words number = worded_number (codes "the commit of session ") number

-- it is enabled behind the commit, and has another PIN
abbrev pub enabled_text : ℕ → Uid → List ℕ
enabled_text number authority =
    codes "lifted by: " ++ commit_words number ++ codes ", which set "
    ++ set_cell_text authority enabled_column

abbrev pub pins_text : ℕ → Uid → List ℕ
pins_text number authority =
    codes "lifted by: the PIN of " ++ called_object authority ++ codes " in force, or behind "
    ++ commit_words number ++ codes " the one that it set"

-- an authority that is not enabled, by the rows that the session sees: it alone may set them now
abbrev pub disabled_within : Asker → Sp → Uid → List ℕ
disabled_within asker sp authority =
    if is_enabled_in asker.look sp authority then enabled_text asker.number authority
    else remedy_text asker.profile asker.look (AttemptFailed sp authority Disabled)

abbrev pub wrong_within : Profile → LookUp → Asker → Sp → Uid → List ℕ
wrong_within profile look asker sp authority =
    if is_same_pin (pin_in look sp authority) (pin_in asker.look sp authority)
    then remedy_text profile look (AttemptFailed sp authority WrongPin)
    else pins_text asker.number authority

abbrev pub attempt_within : Profile → LookUp → Asker → Sp → Uid → AttemptFailure → List ℕ
attempt_within profile look asker sp authority WrongPin =
    wrong_within profile look asker sp authority
attempt_within profile look asker sp authority LockedOut =
    remedy_text profile look (AttemptFailed sp authority LockedOut)
attempt_within profile look asker sp authority Disabled = disabled_within asker sp authority
attempt_within profile look asker sp authority Blocked =
    remedy_text profile look (AttemptFailed sp authority Blocked)
attempt_within profile look asker sp authority Unknown =
    remedy_text profile look (AttemptFailed sp authority Unknown)

-- of a method for which no ACE holds, of an attempt, and of what goes by the rows in force alone
abbrev pub remedy_within : Profile → LookUp → Asker → Why → List ℕ
remedy_within profile look asker (NoEntryHolds sp object method column need) =
    remedy_text asker.profile asker.look (NoEntryHolds sp object method column need)
remedy_within profile look asker (AttemptFailed sp authority failure) =
    attempt_within profile look asker sp authority failure
remedy_within profile look asker why = remedy_text profile look why

-- what the session holds, where its authorities were asked for
abbrev pub holdings_text : ℕ → Option (List Uid) → Why → List ℕ
holdings_text number held (NoEntryHolds sp object method column need) = holds_text sp number held
holdings_text number held _ = []

-- all that is told of a denial
abbrev pub told_within : Counted → (Condition → Option Onset) → (ℕ → Place) → Profile → LookUp
    → Asker → Option (List Uid) → Why → List ℕ
told_within counted onset place profile look asker held why =
    holdings_text asker.number held why
    ++ told_with counted onset place why (remedy_within profile look asker why)
