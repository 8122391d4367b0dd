-- How many bytes come with what the opal profile reads, by the command that it reads.
use Rattle.std.specs.Prelude.{not, ◌||◌, option_map, if◌then◌else◌}
use Rattle.std.proofs.Common.{◌≡◌, ◌∙◌, ◌*◌, ℕ, ◌==◌, ◌&&◌, Bool, true, false, Option, Some, None, Result, Ok, Err, cond, refl, sym, ap, subst, arith}
use Rattle.basics.specs.declared.profile.Profile.TheVariants.{Field, Opal}
use Rattle.fis.specs.declared.h2d.RegH2d.{RegH2d}
use Rattle.trusted_cmds.specs.declared.command.Command.{Command}
use Rattle.trusted_cmds.specs.declared.command.Command.TheVariants.{ReadQueued, WriteQueued, ReadDma, WriteDma, Send, Receive, Identify, ReadLog10, Flush, SetFeatures, ReadLog, ReadPio, WritePio, Verify, Trim, Control}
use Rattle.trusted_cmds.specs.declared.command.CommandError.{CommandError}
use Rattle.trusted_cmds.specs.declared.command.CommandError.TheVariants.{Unknown, NotCommand}
use Rattle.trusted_cmds.specs.declared.control.Control as controls
use Rattle.trusted_cmds.specs.declared.control.Control.TheVariants.{SetMultiple, Idle, Standby, CheckPowerMode, Diagnose}
use Rattle.trusted_cmds.specs.Commands.{sector_size, has_lba_bit, write_dma, is_send, is_known_code, fault_of, read_unless}
use Rattle.trusted_cmds.specs.Profiles.{beside, read_or, reading_in, payload_length_in, field_payload_length, short_write_dma}
use Rattle.trusted_cmds.specs.General.{CarriesMore, reads_pio, writes_pio, verifies, writes_more, brings_more, blocks_brought, moves_more, asks_trim, names_control, control_named, first_moved, sectors_moved, moving, more}
use Rattle.trusted_cmds.proofs.Apart.{reads-at, writes-at, verifies-at, at-code, through-at, trim-at, control-at, is_beside, beside-none}
use Rattle.trusted_cmds.proofs.Profiles.{unknown as unknown-code}

some-is : {c d : Command} → Some c ≡ Some d → c ≡ d
some-is h = cc

none-some : {c : Command} → None ≡ Some c → ⊥
none-some h = cc

-- What is read is carried.
carries : (h : RegH2d) (x c : Command) → x ≡ c → CarriesMore h x None → CarriesMore h c None
carries h x c is k = subst (λ (y : Command). CarriesMore h y None) is k

last-of : (a b c d : Bool) → (a || b || c || d) ≡ true → a ≡ false → b ≡ false → c ≡ false → d ≡ true
last-of a b c d is na nb nc = grind arith

moving-carries : (h : RegH2d) (c : Command) → h.is_command ≡ true → moves_more h.command ≡ true → has_lba_bit h.device ≡ true
    → moving h ≡ c → CarriesMore h c None
moving-carries h c is moves device e =
    by (reads_pio h.command) (writes_pio h.command) (verifies h.command) refl refl refl e
  where
    by : (a b v : Bool) → reads_pio h.command ≡ a → writes_pio h.command ≡ b → verifies h.command ≡ v
        → cond a (ReadPio (first_moved h) (sectors_moved h)) (cond b (WritePio (first_moved h) (sectors_moved h))
        (cond v (Verify (first_moved h) (sectors_moved h)) (WriteDma (first_moved h) (sectors_moved h)))) ≡ c
        → CarriesMore h c None
    by true b v a-is b-is v-is e =
        carries h (ReadPio (first_moved h) (sectors_moved h)) c e
        (record { is_command = is; code_is = a-is; lba = refl; count = refl; device = device })
    by false true v a-is b-is v-is e =
        carries h (WritePio (first_moved h) (sectors_moved h)) c e
        (record { is_command = is; code_is = b-is; lba = refl; count = refl; device = device })
    by false false true a-is b-is v-is e =
        carries h (Verify (first_moved h) (sectors_moved h)) c e
        (record { is_command = is; code_is = v-is; lba = refl; count = refl; device = device })
    by false false false a-is b-is v-is e =
        carries h (WriteDma (first_moved h) (sectors_moved h)) c e
        (record {
          is_command = is;
          code_is = last-of _ _ _ _ moves a-is b-is v-is;
          lba = refl;
          count = refl;
          device = device;
        })

named : (h : RegH2d) (x : Option controls.Control) (c : Command) → control_named h ≡ x → h.is_command ≡ true
    → option_map Control x ≡ Some c → CarriesMore h c None
named h None c e is g = absurd (none-some g)
named h (Some control) c e is g =
    carries h (Control control) c (some-is g) (record { is_command = is; control_is = names h control e })
  where
    names : (h : RegH2d) (control : controls.Control) → control_named h ≡ Some control → names_control control h ≡ true
    names h SetMultiple e = grind arith
    names h Idle e = grind arith
    names h Standby e = grind arith
    names h CheckPowerMode e = grind arith
    names h Diagnose e = grind arith

pub more-carries : (h : RegH2d) (c : Command) → more h ≡ Some c → CarriesMore h c None
more-carries h c g = by h.is_command (moves_more h.command) (has_lba_bit h.device) (asks_trim h) refl refl refl refl g
  where
    by : (a b d e : Bool) → h.is_command ≡ a → moves_more h.command ≡ b → has_lba_bit h.device ≡ d → asks_trim h ≡ e
        → cond (not a) None (cond b (cond d (Some (moving h)) None)
        (cond e (Some (Trim h.count)) (option_map Control (control_named h)))) ≡ Some c
        → CarriesMore h c None
    by false b d e a-is b-is d-is e-is g = absurd (none-some g)
    by true true true e a-is b-is d-is e-is g = moving-carries h c a-is b-is d-is (some-is g)
    by true true false e a-is b-is d-is e-is g = absurd (none-some g)
    by true false d true a-is b-is d-is e-is g =
        carries h (Trim h.count) c (some-is g) (record { is_command = a-is; trims = e-is; count = refl })
    by true false d false a-is b-is d-is e-is g = named h (control_named h) c refl a-is g

-- The bytes that come with a command that is carried so: those of its sectors, where it writes.
abbrev pub size_with : Command → ℕ
size_with (WritePio lba count) = sector_size * count
size_with (WriteDma lba count) = sector_size * count
size_with (Trim blocks) = sector_size * blocks
size_with _ = 0

abbrev brings : ℕ → Bool
brings code = code == short_write_dma || code == write_dma || is_send code

no-bytes : (h : RegH2d) → brings h.command ≡ false → field_payload_length h ≡ 0
no-bytes h not = grind arith

none-brought : (h : RegH2d) → brings_more h.command ≡ false → brings h.command ≡ false → payload_length_in Opal h ≡ 0
none-brought h not none = ap (λ b. cond b (sector_size * blocks_brought h) (field_payload_length h)) not ∙ no-bytes h none

all-brought : (h : RegH2d) (count : ℕ) → brings_more h.command ≡ true → writes_more h.command ≡ true → sectors_moved h ≡ count
    → payload_length_in Opal h ≡ sector_size * count
all-brought h count is writes are =
    ap (λ b. cond b (sector_size * blocks_brought h) (field_payload_length h)) is
    ∙ ap (λ b. sector_size * cond b (sectors_moved h) h.count) writes ∙ ap (λ n. sector_size * n) are

entries-brought : (h : RegH2d) (blocks : ℕ) → asks_trim h ≡ true → h.count ≡ blocks → payload_length_in Opal h ≡ sector_size * blocks
entries-brought h blocks trims are =
    ap (λ b. cond b (sector_size * blocks_brought h) (field_payload_length h)) (trim-at brings_more true refl h trims)
    ∙ ap (λ b. sector_size * cond b (sectors_moved h) h.count) (trim-at writes_more false refl h trims) ∙ ap (λ n. sector_size * n) are

carried-size : (h : RegH2d) (c : Command) → CarriesMore h c None → payload_length_in Opal h ≡ size_with c
carried-size h (ReadPio lba count) k =
    none-brought h (reads-at brings_more false refl refl refl refl h.command k.code_is)
    (reads-at brings false refl refl refl refl h.command k.code_is)
carried-size h (WritePio lba count) k =
    all-brought h count (writes-at brings_more true refl refl refl refl refl h.command k.code_is)
    (writes-at writes_more true refl refl refl refl refl h.command k.code_is) k.count
carried-size h (Verify lba count) k =
    none-brought h (verifies-at brings_more false refl refl h.command k.code_is)
    (verifies-at brings false refl refl h.command k.code_is)
carried-size h (WriteDma lba count) k =
    all-brought h count (through-at brings_more true refl h.command k.code_is)
    (through-at writes_more true refl h.command k.code_is) k.count
carried-size h (Trim blocks) k = entries-brought h blocks k.trims k.count
carried-size h (Control control) k =
    none-brought h (control-at brings_more false refl refl refl refl refl refl refl refl h control k.control_is)
    (control-at brings false refl refl refl refl refl refl refl refl h control k.control_is)
carried-size h (ReadQueued lba count) k = absurd k
carried-size h (WriteQueued lba count) k = absurd k
carried-size h (ReadDma lba count) k = absurd k
carried-size h (Send protocol com_id blocks dma) k = absurd k
carried-size h (Receive protocol com_id blocks dma) k = absurd k
carried-size h Identify k = absurd k
carried-size h (ReadLog10 dma) k = absurd k
carried-size h Flush k = absurd k
carried-size h (SetFeatures feature) k = absurd k
carried-size h (ReadLog pages dma) k = absurd k

pub more-size : (h : RegH2d) (c : Command) → more h ≡ Some c → payload_length_in Opal h ≡ size_with c
more-size h c g = carried-size h c (more-carries h c g)

-- What the opal profile reads, the field profile reads, with as many bytes; or it is read beside.
pub data OpalReads (h : RegH2d) (c : Command) (t : Option ℕ) : Type 0 where
  as_field : ◌≡◌ {A = Result (Command × Option ℕ) CommandError} (reading_in Field h) (Ok (c, t))
      → payload_length_in Opal h ≡ payload_length_in Field h → OpalReads h c t
  by_more : more h ≡ Some c → t ≡ None → OpalReads h c t

either-at : (f : ℕ → Bool) (v a b : Bool) (code : ℕ) → (a ≡ true → f code ≡ v) → (b ≡ true → f code ≡ v) → (a || b) ≡ true → f code ≡ v
either-at f v true b code by-a by-b is = by-a refl
either-at f v false b code by-a by-b is = by-b is

written-at : (f : ℕ → Bool) (v : Bool) → f 0x30 ≡ v → f 0x34 ≡ v → f 0xc5 ≡ v → f 0x39 ≡ v → f 0xce ≡ v → f 0x3d ≡ v → f 0x06 ≡ v
    → (code : ℕ) → brings_more code ≡ true → f code ≡ v
written-at f v a b c d m e g code is =
    either-at f v _ _ code (λ w. either-at f v _ _ code (writes-at f v a b c d m code) (through-at f v e code) w)
    (at-code f v code 0x06 g) is

no-command : (h : RegH2d) → h.is_command ≡ false → fault_of h ≡ Some NotCommand
no-command h not = grind arith

none-beside : (h : RegH2d) → h.is_command ≡ false → beside h ≡ None
none-beside h not = grind arith

refused : (h : RegH2d) (e : CommandError) → fault_of h ≡ Some e → beside h ≡ None → reading_in Field h ≡ Err e
refused h e fault none =
    ap (λ (x : Option CommandError). read_or (read_unless x h) (beside h)) fault
    ∙ ap (λ (x : Option Command). read_or (Err e) x) none

no-ok : {e : CommandError} {x : Command × Option ℕ} → ◌≡◌ {A = Result (Command × Option ℕ) CommandError} (Err e) (Ok x) → ⊥
no-ok h = cc

-- The field profile refuses each write that the opal profile reads beside.
not-by-field : (h : RegH2d) (x : Command × Option ℕ) → brings_more h.command ≡ true
    → ◌≡◌ {A = Result (Command × Option ℕ) CommandError} (reading_in Field h) (Ok x) → ⊥
not-by-field h x writes g = by h.is_command refl
  where
    by : (b : Bool) → h.is_command ≡ b → ⊥
    by false is = no-ok (sym (refused h NotCommand (no-command h is) (none-beside h is)) ∙ g)
    by true is =
        no-ok (sym (refused h Unknown
        (unknown-code h is (written-at is_known_code false refl refl refl refl refl refl refl h.command writes))
        (beside-none h is (written-at is_beside false refl refl refl refl refl refl refl h.command writes))) ∙ g)

as-many : (h : RegH2d) (x : Command × Option ℕ) → ◌≡◌ {A = Result (Command × Option ℕ) CommandError} (reading_in Field h) (Ok x)
    → payload_length_in Opal h ≡ payload_length_in Field h
as-many h x g = by (brings_more h.command) refl
  where
    by : (b : Bool) → brings_more h.command ≡ b → payload_length_in Opal h ≡ payload_length_in Field h
    by true is = absurd (not-by-field h x is g)
    by false is = ap (λ b. cond b (sector_size * blocks_brought h) (field_payload_length h)) is

ok-same : {p q : Command × Option ℕ} → ◌≡◌ {A = Result (Command × Option ℕ) CommandError} (Ok p) (Ok q) → p ≡ q
ok-same h = cc

ok-pair : {c d : Command} {t u : Option ℕ} → ◌≡◌ {A = Result (Command × Option ℕ) CommandError} (Ok (c, t)) (Ok (d, u)) → (c ≡ d) × (t ≡ u)
ok-pair h = (ap (λ (p : Command × Option ℕ). p.0) (ok-same h), ap (λ (p : Command × Option ℕ). p.1) (ok-same h))

pub opal-reads : (h : RegH2d) (c : Command) (t : Option ℕ)
    → ◌≡◌ {A = Result (Command × Option ℕ) CommandError} (reading_in Opal h) (Ok (c, t)) → OpalReads h c t
opal-reads h c t g = by (reading_in Field h) (more h) refl refl g
  where
    by : (r : Result (Command × Option ℕ) CommandError) (x : Option Command) → reading_in Field h ≡ r → more h ≡ x
        → ◌≡◌ {A = Result (Command × Option ℕ) CommandError} (read_or r x) (Ok (c, t)) → OpalReads h c t
    by (Ok read) x r-is x-is k = as_field (r-is ∙ k) (as-many h (c, t) (r-is ∙ k))
    by (Err e) None r-is x-is k = absurd (no-ok k)
    by (Err e) (Some d) r-is x-is k = by_more (x-is ∙ ap (λ (y : Command). Some y) (ok-pair k).0) (sym (ok-pair k).1)
