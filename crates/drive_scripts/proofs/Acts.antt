-- The bytes of FISes, and what they are read back as.
use Rattle.std.proofs.Common.{◌≡◌, ◌∙◌, ◌+◌, ◌/◌, ◌%◌, ◌^◌, nat_le, ℕ, Bool, true, false, List, length, slice_index, refl, sym, ap, subst, arith}
use Rattle.std.specs.Prelude.{if◌then◌else◌, ◌==◌, ◌∷◌}
use Rattle.std.proofs.lemmas.Bool.{le-leb, lt-leb}
use Rattle.fis.specs.Bytes.{bit}
use Rattle.fis.specs.H2d.{h2d_at, IsH2d, IsH2dSpelling}
use Rattle.fis.specs.Types.{h2d_type}
use Rattle.fis.specs.declared.h2d.RegH2d.{RegH2d}
use Rattle.sp_cells.specs.Config.{Config}
use Rattle.trusted_cmds.specs.Commands.{fis_of, payload_length}
use Rattle.trusted_cmds.specs.General.{is_general}
use Rattle.trusted_cmds.specs.Profiles.{payload_length_in}
use Rattle.trusted_cmds.specs.declared.command.Command.{Command}
use Rattle.history.specs.Answers.{payload_of, expected}
use Rattle.history.specs.Opening.{Origin}
use Rattle.history.specs.Events.{Event}
use Rattle.history.specs.Facts.{Facts, facts}
use Rattle.audit.specs.declared.rules.rule.Rule.TheVariants.{NoCommand}
use Rattle.history.specs.Decisions.{refuses}
use Rattle.history.specs.Tcg.{accepted, commanded}
use Rattle.history.specs.History.{Act, Accept, log, event}
use Rattle.history.specs.Readers.{held}
use Rattle.drive.specs.Answers.{IsAnswer}
use Rattle.drive.specs.Queue.{held_at}
use Rattle.drive.specs.State.{DriveState, KeepsDrive, Agrees}
use Rattle.drive.specs.declared.answer.Accepted.{Accepted}
use Rattle.port_history.proofs.Fises.{fis_back, any_profile}
use Rattle.drive_scripts.specs.Acts.{accept_of, step_of}

flag-of : (n : ℕ) (b : Bool) → n / 128 ≡ bit b → nat_le 128 n ≡ b
flag-of n true e = le-leb 128 n (omega (arith, e))
flag-of n false e = lt-leb 128 n (omega (arith, e))

-- what is read of the bytes that spell a FIS
pub read-back : (bytes : List ℕ) (h : RegH2d) → IsH2d bytes h → h2d_at bytes ≡ h
read-back bytes h is =
    rw (
      flag-of
          (slice_index bytes 1) h.is_command is.is_command,
      is.port,
      is.command,
      is.feature,
      is.lba,
      is.device,
      is.count,
      is.icc,
      is.control,
    ) refl

-- the bytes that come with the spelling of a command that each profile has are as many under each profile
spelling-brings : (config : Config) (command : Command) (tag : ℕ) (bytes : List ℕ)
    → is_general command ≡ false → IsH2d bytes (fis_of command tag)
    → payload_of config bytes ≡ payload_length (fis_of command tag)
spelling-brings config command tag bytes known is =
    ap
    (λ kind. if kind == h2d_type then payload_length_in config.profile (h2d_at bytes) else 0)
    is.kind
    ∙ ap (payload_length_in config.profile) (read-back bytes (fis_of command tag) is)
    ∙ any_profile config.profile command tag known

pub brings : (config : Config) (command : Command) (tag : ℕ) (h : RegH2d) (bytes payload : List ℕ)
    → is_general command ≡ false → length payload ≡ payload_length (fis_of command tag)
    → h ≡ fis_of command tag → IsH2dSpelling bytes h → length payload ≡ payload_of config bytes
brings config command tag h bytes payload known size same spelt =
    size
    ∙ sym
    (spelling-brings config command tag bytes known (subst (IsH2dSpelling bytes) same spelt).writing)

by-command : (f : Facts) (command : Command) (tag : ℕ) (bytes payload : List ℕ)
    → IsH2d bytes (fis_of command tag)
    → accepted f bytes payload ≡ commanded f (fis_of command tag) payload
by-command f command tag bytes payload is =
    ap (λ kind. if kind == h2d_type then commanded f (h2d_at bytes) payload else refuses NoCommand) is.kind
    ∙ ap (λ h. commanded f h payload) (read-back bytes (fis_of command tag) is)

-- the event of a spelling is that of the bytes
pub same-event : (o : Origin) (past : List Event) (command : Command) (tag : ℕ)
    (bytes payload : List ℕ) → IsH2dSpelling bytes (fis_of command tag)
    → event o past (Accept bytes payload) ≡ event o past (accept_of command tag payload)
same-event o past command tag bytes payload is =
    by-command (facts o past) command tag bytes payload is.writing
    ∙ sym (ap (λ h. commanded (facts o past) h payload) (fis_back command tag))

-- a drive agrees with the act of the command, and its answer is that of the command's event
pub agrees-so : (d : DriveState) (o : Origin) (acts : List Act) (command : Command) (tag : ℕ)
    (bytes payload : List ℕ) → IsH2dSpelling bytes (fis_of command tag)
    → Agrees d o (Accept bytes payload ∷ acts) → Agrees d o (accept_of command tag payload ∷ acts)
agrees-so d o acts command tag bytes payload is agrees =
    subst (λ made. KeepsDrive d o (made ∷ log o acts))
    (same-event o (log o acts) command tag bytes payload is) agrees

pub answers-so : (accepted : Accepted) (o : Origin) (acts : List Act) (command : Command) (tag : ℕ)
    (bytes payload : List ℕ) → IsH2dSpelling bytes (fis_of command tag)
    → IsAnswer (facts o (log o acts)) (h2d_at bytes)
    (event o (log o acts) (Accept bytes payload)) accepted
    → IsAnswer (facts o (log o acts)) (fis_of command tag)
    (event o (log o acts) (accept_of command tag payload)) accepted
answers-so accepted o acts command tag bytes payload is answer =
    subst
    (λ h. IsAnswer (facts o (log o acts)) h
    (event o (log o acts) (accept_of command tag payload)) accepted)
    (read-back bytes (fis_of command tag) is.writing)
    (subst (λ made. IsAnswer (facts o (log o acts)) (h2d_at bytes) made accepted)
    (same-event o (log o acts) command tag bytes payload is) answer)

pub counted-so : (n : ℕ) (acts : List Act) (act : Act) → n ≡ step_of acts
    → (n + 1) % 2 ^ 64 ≡ step_of (act ∷ acts)
counted-so n acts act e = omega (arith, e)

-- a drive expects as many bytes for what it holds as the acts say
pub expects_so : (d : DriveState) (o : Origin) (acts : List Act) (tag : ℕ) → Agrees d o acts
    → expected (held_at d.queue tag) ≡ expected (held (log o acts) tag)
expects_so d o acts tag agrees = ap expected (agrees.held tag)
