-- What the opal profile reads beside is read by no other profile.
use Rattle.std.specs.Prelude.{◌||◌, ◌&&◌}
use Rattle.std.proofs.Common.{◌≡◌, ◌∙◌, ℕ, ◌==◌, Bool, true, false, Option, Some, None, refl, ap, arith}
use Rattle.fis.specs.declared.h2d.RegH2d.{RegH2d}
use Rattle.trusted_cmds.specs.declared.command.Command.{Command}
use Rattle.trusted_cmds.specs.declared.command.Command.TheVariants.{WriteDma, ReadPio, WritePio, Verify, Trim, Control}
use Rattle.trusted_cmds.specs.declared.command.CommandError.TheVariants.{Unknown}
use Rattle.trusted_cmds.specs.declared.control.Control as controls
use Rattle.trusted_cmds.specs.declared.control.Control.TheVariants.{SetMultiple, Idle, Standby, CheckPowerMode, Diagnose}
use Rattle.trusted_cmds.specs.Commands.{fault_of, is_known_code, is_log_read, set_features}
use Rattle.trusted_cmds.specs.Profiles.{beside, is_short_transfer, short_flush_cache}
use Rattle.trusted_cmds.specs.General.{CarriesMore, reads_pio, writes_pio, verifies, writes_through, names_control, asks_trim}
use Rattle.trusted_cmds.proofs.Profiles.{unknown as unknown-code}

same : (a b : ℕ) → (a == b) ≡ true → a ≡ b
same a b h = grind arith

-- A code that is one number or another has what each of these has.
one-more : (f : ℕ → Bool) (v : Bool) (code n : ℕ) (rest : Bool) → (rest ≡ true → f code ≡ v) → f n ≡ v
    → (rest || code == n) ≡ true → f code ≡ v
one-more f v code n true before at is = before refl
one-more f v code n false before at is = ap f (same code n is) ∙ at

pub at-code : (f : ℕ → Bool) (v : Bool) (code n : ℕ) → f n ≡ v → (code == n) ≡ true → f code ≡ v
at-code f v code n at is = ap f (same code n is) ∙ at

pub reads-at : (f : ℕ → Bool) (v : Bool) → f 0x20 ≡ v → f 0x24 ≡ v → f 0xc4 ≡ v → f 0x29 ≡ v → (code : ℕ)
    → reads_pio code ≡ true → f code ≡ v
reads-at f v a b c d code is =
    one-more f v code 0x29 _ (one-more f v code 0xc4 _ (one-more f v code 0x24 _ (at-code f v code 0x20 a) b) c) d is

pub writes-at : (f : ℕ → Bool) (v : Bool) → f 0x30 ≡ v → f 0x34 ≡ v → f 0xc5 ≡ v → f 0x39 ≡ v → f 0xce ≡ v → (code : ℕ)
    → writes_pio code ≡ true → f code ≡ v
writes-at f v a b c d e code is =
    one-more f v code 0xce _
    (one-more f v code 0x39 _ (one-more f v code 0xc5 _ (one-more f v code 0x34 _ (at-code f v code 0x30 a) b) c) d) e is

pub verifies-at : (f : ℕ → Bool) (v : Bool) → f 0x40 ≡ v → f 0x42 ≡ v → (code : ℕ) → verifies code ≡ true → f code ≡ v
verifies-at f v a b code is = one-more f v code 0x42 _ (at-code f v code 0x40 a) b is

pub through-at : (f : ℕ → Bool) (v : Bool) → f 0x3d ≡ v → (code : ℕ) → writes_through code ≡ true → f code ≡ v
through-at f v a code is = at-code f v code 0x3d a is

both-left : (a b : Bool) → (a && b) ≡ true → a ≡ true
both-left true b is = refl
both-left false b is = is

pub control-at : (f : ℕ → Bool) (v : Bool) → f 0xc6 ≡ v → f 0xe1 ≡ v → f 0xe3 ≡ v → f 0xe0 ≡ v → f 0xe2 ≡ v → f 0xe6 ≡ v
    → f 0xe5 ≡ v → f 0x90 ≡ v → (h : RegH2d) (c : controls.Control) → names_control c h ≡ true → f h.command ≡ v
control-at f v a b c s t u d e h SetMultiple is = at-code f v h.command 0xc6 a (both-left _ _ is)
control-at f v a b c s t u d e h Idle is = one-more f v h.command 0xe3 _ (at-code f v h.command 0xe1 b) c is
control-at f v a b c s t u d e h Standby is =
    one-more f v h.command 0xe6 _ (one-more f v h.command 0xe2 _ (at-code f v h.command 0xe0 s) t) u is
control-at f v a b c s t u d e h CheckPowerMode is = at-code f v h.command 0xe5 d is
control-at f v a b c s t u d e h Diagnose is = at-code f v h.command 0x90 e is

pub trim-at : (f : ℕ → Bool) (v : Bool) → f 0x06 ≡ v → (h : RegH2d) → asks_trim h ≡ true → f h.command ≡ v
trim-at f v a h is = at-code f v h.command 0x06 a (both-left _ _ (both-left _ _ is))

carried-at : (f : ℕ → Bool) (v : Bool) → f 0x20 ≡ v → f 0x24 ≡ v → f 0xc4 ≡ v → f 0x29 ≡ v → f 0x30 ≡ v → f 0x34 ≡ v
    → f 0xc5 ≡ v → f 0x39 ≡ v → f 0xce ≡ v → f 0x40 ≡ v → f 0x42 ≡ v → f 0x3d ≡ v → f 0x06 ≡ v → f 0xc6 ≡ v → f 0xe1 ≡ v → f 0xe3 ≡ v
    → f 0xe0 ≡ v → f 0xe2 ≡ v → f 0xe6 ≡ v → f 0xe5 ≡ v → f 0x90 ≡ v → (h : RegH2d) (c : Command) (t : Option ℕ)
    → CarriesMore h c t → f h.command ≡ v
carried-at f v r1 r2 r3 r4 w1 w2 w3 w4 w5 v1 v2 fua dsm m i1 i2 s1 s2 s3 p x h (ReadPio lba count) None k = reads-at f v r1 r2 r3 r4 h.command k.code_is
carried-at f v r1 r2 r3 r4 w1 w2 w3 w4 w5 v1 v2 fua dsm m i1 i2 s1 s2 s3 p x h (WritePio lba count) None k = writes-at f v w1 w2 w3 w4 w5 h.command k.code_is
carried-at f v r1 r2 r3 r4 w1 w2 w3 w4 w5 v1 v2 fua dsm m i1 i2 s1 s2 s3 p x h (Verify lba count) None k = verifies-at f v v1 v2 h.command k.code_is
carried-at f v r1 r2 r3 r4 w1 w2 w3 w4 w5 v1 v2 fua dsm m i1 i2 s1 s2 s3 p x h (WriteDma lba count) None k = through-at f v fua h.command k.code_is
carried-at f v r1 r2 r3 r4 w1 w2 w3 w4 w5 v1 v2 fua dsm m i1 i2 s1 s2 s3 p x h (Trim blocks) None k = trim-at f v dsm h k.trims
carried-at f v r1 r2 r3 r4 w1 w2 w3 w4 w5 v1 v2 fua dsm m i1 i2 s1 s2 s3 p x h (Control control) None k = control-at f v m i1 i2 s1 s2 s3 p x h control k.control_is
carried-at f v r1 r2 r3 r4 w1 w2 w3 w4 w5 v1 v2 fua dsm m i1 i2 s1 s2 s3 p x h _ _ k = absurd k

is-command : (h : RegH2d) (c : Command) (t : Option ℕ) → CarriesMore h c t → h.is_command ≡ true
is-command h (ReadPio lba count) None k = k.is_command
is-command h (WritePio lba count) None k = k.is_command
is-command h (Verify lba count) None k = k.is_command
is-command h (WriteDma lba count) None k = k.is_command
is-command h (Trim blocks) None k = k.is_command
is-command h (Control control) None k = k.is_command
is-command h _ _ k = absurd k

-- No drive of the base profile knows such a code.
pub unknown : (h : RegH2d) (c : Command) (t : Option ℕ) → CarriesMore h c t → fault_of h ≡ Some Unknown
unknown h c t k =
    unknown-code h (is-command h c t k)
    (carried-at is_known_code false refl refl refl refl refl refl refl refl refl refl refl refl refl refl refl refl refl refl refl refl refl h c t k)

-- Nor does the field profile read it beside.
abbrev pub is_beside : ℕ → Bool
is_beside code =
    is_short_transfer code || (code == short_flush_cache || (code == set_features || is_log_read code))

pub beside-none : (h : RegH2d) → h.is_command ≡ true → is_beside h.command ≡ false → beside h ≡ None
beside-none h is not = grind arith

pub apart : (h : RegH2d) (c : Command) (t : Option ℕ) → CarriesMore h c t → beside h ≡ None
apart h c t k =
    beside-none h (is-command h c t k)
    (carried-at is_beside false refl refl refl refl refl refl refl refl refl refl refl refl refl refl refl refl refl refl refl refl refl h c t k)
