-- How many bytes come with a write that is not queued: those of its sectors.
use Rattle.std.proofs.Common.{◌≡◌, ℕ, ◌*◌, ◌==◌, Bool, true, false, ◌||◌, not, Option, Some, None, refl, sym, ◌∙◌, ap, cond, eqb-true}
use Rattle.std.specs.Prelude.{Result, Ok, Err, option_map}
use Rattle.basics.specs.declared.profile.Profile.{Profile}
use Rattle.basics.specs.declared.profile.Profile.TheVariants.{Base, Field, Opal}
use Rattle.fis.specs.declared.h2d.RegH2d.{RegH2d}
use Rattle.locking.specs.declared.range.Op.{Op}
use Rattle.locking.specs.declared.range.Op.TheVariants.{Write}
use Rattle.trusted_cmds.specs.declared.command.Command.{Command}
use Rattle.trusted_cmds.specs.declared.command.Command.TheVariants.{ReadQueued, WriteQueued, ReadDma, WriteDma, Send, Receive, Identify, ReadLog10, Flush, SetFeatures, ReadLog, ReadPio, WritePio, Verify, Trim, Control}
use Rattle.trusted_cmds.specs.declared.command.CommandError.{CommandError}
use Rattle.trusted_cmds.specs.declared.feature.Feature.{Feature}
use Rattle.trusted_cmds.specs.declared.log_pages.LogPages.{LogPages}
use Rattle.trusted_cmds.specs.Commands.{sectors, blocks, read_queued, write_queued, read_dma as read_dma_code, write_dma as write_dma_code, trusted_send, trusted_send_dma, trusted_receive_dma, identify_device, read_log_dma, set_features, is_send, is_receive, is_log_read, protocol_of, sp_specific_of, has_lba_bit, fault_of, read_unless, reading, payload_length, short_lba, short_sectors}
use Rattle.trusted_cmds.specs.Profiles.{reading_in, payload_length_in, field_payload_length, beside, beside_without_sectors, read_or, is_short_transfer, short_transfer, short_read_dma, short_write_dma, short_flush_cache, feature_named, pages_named}
use Rattle.trusted_cmds.proofs.Sizes.{size_with, more-size, OpalReads, as_field, by_more, opal-reads}
use Rattle.history.specs.DenialLaws.{Reaches, read_queued as reaches_read_queued, write_queued as reaches_write_queued, read_dma, write_dma, read_pio, write_pio, verify}

-- the sectors of a command that is such a write
abbrev written : Command → Option ℕ
written (WriteDma lba count) = Some count
written (WritePio lba count) = Some count
written _ = None

abbrev written_of : Option Command → Option ℕ
written_of None = None
written_of (Some c) = written c

none-some : {n : ℕ} → None ≡ Some n → ⊥
none-some h = cc

false-true : false ≡ true → ⊥
false-true h = cc

some-same : {m n : ℕ} → Some m ≡ Some n → m ≡ n
some-same h = cc

written-is : (c : Command) (t : Option ℕ) (op : Op) (lba count : ℕ) → Reaches c t op lba count → t ≡ None → op ≡ Write → written c ≡ Some count
written-is c t op lba count (reaches_read_queued {lba = x} {count = y} {tag = z}) none is = cc
written-is c t op lba count (reaches_write_queued {lba = x} {count = y} {tag = z}) none is = cc
written-is c t op lba count (read_dma {lba = x} {count = y}) none is = cc
written-is c t op lba count (write_dma {lba = x} {count = y}) none is = refl
written-is c t op lba count (read_pio {lba = x} {count = y}) none is = cc
written-is c t op lba count (write_pio {lba = x} {count = y}) none is = refl
written-is c t op lba count (verify {lba = x} {count = y}) none is = cc

none-if : (b : Bool) (x y : Command) → written x ≡ None → written y ≡ None → written (cond b x y) ≡ None
none-if true x y h g = h
none-if false x y h g = g

none-of : (b : Bool) (x y : Option Command) → written_of x ≡ None → written_of y ≡ None → written_of (cond b x y) ≡ None
none-of true x y h g = h
none-of false x y h g = g

not-ok : {e : CommandError} {x : Command × Option ℕ} → ◌≡◌ {A = Result (Command × Option ℕ) CommandError} (Err e) (Ok x) → ⊥
not-ok k = cc

ok-command : {c d : Command} {x y : Option ℕ} → ◌≡◌ {A = Result (Command × Option ℕ) CommandError} (Ok (c, x)) (Ok (d, y)) → c ≡ d
ok-command h = ap (λ (p : Command × Option ℕ). p.0) (pair h)
  where
    pair : {p q : Command × Option ℕ} → ◌≡◌ {A = Result (Command × Option ℕ) CommandError} (Ok p) (Ok q) → p ≡ q
    pair g = cc

-- what each drive reads
record IsWrite (h : RegH2d) (count : ℕ) : Type 0 where
  code_is : (h.command == write_dma_code) ≡ true
  count_is : sectors h.count ≡ count

is-write : (h : RegH2d) (a b c d : Bool) (rest : Command) (l n count : ℕ) → (h.command == write_dma_code) ≡ d → written rest ≡ None
    → written (cond a (ReadQueued l n) (cond b (WriteQueued l n) (cond c (ReadDma l (sectors h.count)) (cond d (WriteDma l (sectors h.count)) rest)))) ≡ Some count → IsWrite h count
is-write h true b c d rest l n count is other g = absurd (none-some g)
is-write h false true c d rest l n count is other g = absurd (none-some g)
is-write h false false true d rest l n count is other g = absurd (none-some g)
is-write h false false false true rest l n count is other g = record { code_is = is; count_is = some-same g }
is-write h false false false false rest l n count is other g = absurd (none-some (sym other ∙ g))

read-write : (h : RegH2d) (c : Command) (count : ℕ) (x : Option CommandError) → read_unless x h ≡ Ok (c, None) → written c ≡ Some count → IsWrite h count
read-write h c count (Some e) g w = absurd (not-ok g)
read-write h c count None g w =
    let send : Command = Send (protocol_of h) (sp_specific_of h) (blocks h) (h.command == trusted_send_dma) in
    let receive : Command = Receive (protocol_of h) (sp_specific_of h) (blocks h) (h.command == trusted_receive_dma) in
    let log : Command = ReadLog10 (h.command == read_log_dma) in
    is-write h (h.command == read_queued) (h.command == write_queued) (h.command == read_dma_code) (h.command == write_dma_code)
    (cond (is_send h.command) send (cond (is_receive h.command) receive (cond (is_log_read h.command) log (cond (h.command == identify_device) Identify Flush))))
    h.lba (sectors h.feature) count refl
    (none-if (is_send h.command) send _ refl
    (none-if (is_receive h.command) receive _ refl
    (none-if (is_log_read h.command) log _ refl
    (none-if (h.command == identify_device) Identify Flush refl refl))))
    (ap written (ok-command g) ∙ w)

base-size : (h : RegH2d) (count : ℕ) → IsWrite h count → payload_length h ≡ 512 * count
base-size h count w =
    ap (λ b. cond b (512 * sectors h.count) (cond (h.command == trusted_send || h.command == trusted_send_dma) (512 * blocks h) 0)) w.code_is
    ∙ ap (λ n. 512 * n) w.count_is

-- what the field profile reads beside: a write of 28 bits
record IsShortWrite (h : RegH2d) (count : ℕ) : Type 0 where
  code_is : (h.command == short_write_dma) ≡ true
  count_is : short_sectors h ≡ count

transferred : (h : RegH2d) (a b : Bool) (count : ℕ) → (h.command == short_write_dma) ≡ b → (a || b) ≡ true
    → written (cond a (ReadDma (short_lba h) (short_sectors h)) (WriteDma (short_lba h) (short_sectors h))) ≡ Some count → IsShortWrite h count
transferred h true b count is either g = absurd (none-some g)
transferred h false true count is either g = record { code_is = is; count_is = some-same g }
transferred h false false count is either g = absurd (false-true either)

no-page : (page : Option LogPages) (dma : Bool) → written_of (option_map (λ (p : LogPages). ReadLog p dma) page) ≡ None
no-page None dma = refl
no-page (Some p) dma = refl

no-feature : (feature : Option Feature) → written_of (option_map SetFeatures feature) ≡ None
no-feature None = refl
no-feature (Some f) = refl

no-plain : (h : RegH2d) → written_of (beside_without_sectors h) ≡ None
no-plain h =
    none-of (h.command == short_flush_cache) (Some Flush) _ refl
    (none-of (h.command == set_features) (option_map SetFeatures (feature_named h)) _ (no-feature (feature_named h))
    (none-of (is_log_read h.command) (option_map (λ (p : LogPages). ReadLog p (h.command == read_log_dma)) (pages_named h)) None (no-page (pages_named h) (h.command == read_log_dma)) refl))

short-write : (h : RegH2d) (c : Command) (count : ℕ) → beside h ≡ Some c → written c ≡ Some count → IsShortWrite h count
short-write h c count g w = by_command (not h.is_command) (is_short_transfer h.command) (has_lba_bit h.device) refl (ap written_of g ∙ w)
  where
    by_command : (a b d : Bool) → is_short_transfer h.command ≡ b
        → written_of (cond a None (cond b (cond d (Some (short_transfer h)) None) (beside_without_sectors h))) ≡ Some count → IsShortWrite h count
    by_command true b d is k = absurd (none-some k)
    by_command false true true is k = transferred h (h.command == short_read_dma) (h.command == short_write_dma) count refl is k
    by_command false true false is k = absurd (none-some k)
    by_command false false d is k = absurd (none-some (sym (no-plain h) ∙ k))

field-write : (h : RegH2d) (c : Command) (count : ℕ) (r : Result (Command × Option ℕ) CommandError) (x : Option Command) → reading h ≡ r → beside h ≡ x
    → ◌≡◌ {A = Result (Command × Option ℕ) CommandError} (read_or r x) (Ok (c, None)) → written c ≡ Some count → field_payload_length h ≡ 512 * count
field-write h c count (Ok y) x is m k w =
    let one = read-write h c count (fault_of h) (is ∙ k) w in
    ap (λ (code : ℕ). cond (code == short_write_dma) (512 * short_sectors h) (payload_length h)) (eqb-true h.command write_dma_code one.code_is)
    ∙ base-size h count one
field-write h c count (Err error) None is m k w = absurd (not-ok k)
field-write h c count (Err error) (Some d) is m k w =
    let one = short-write h d count m (ap written (ok-command k) ∙ w) in
    ap (λ b. cond b (512 * short_sectors h) (payload_length h)) one.code_is ∙ ap (λ n. 512 * n) one.count_is

-- what the opal profile reads: as the field profile, or beside
more-write : (c : Command) (count : ℕ) → written c ≡ Some count → size_with c ≡ 512 * count
more-write (WriteDma lba n) count w = ap (λ x. 512 * x) (some-same w)
more-write (WritePio lba n) count w = ap (λ x. 512 * x) (some-same w)
more-write (ReadQueued lba n) count w = absurd (none-some w)
more-write (WriteQueued lba n) count w = absurd (none-some w)
more-write (ReadDma lba n) count w = absurd (none-some w)
more-write (Send protocol com_id n dma) count w = absurd (none-some w)
more-write (Receive protocol com_id n dma) count w = absurd (none-some w)
more-write Identify count w = absurd (none-some w)
more-write (ReadLog10 dma) count w = absurd (none-some w)
more-write Flush count w = absurd (none-some w)
more-write (SetFeatures feature) count w = absurd (none-some w)
more-write (ReadLog page dma) count w = absurd (none-some w)
more-write (ReadPio lba n) count w = absurd (none-some w)
more-write (Verify lba n) count w = absurd (none-some w)
more-write (Trim blocks) count w = absurd (none-some w)
more-write (Control control) count w = absurd (none-some w)

opal-size : (h : RegH2d) (c : Command) (count : ℕ) → OpalReads h c None → written c ≡ Some count → payload_length_in Opal h ≡ 512 * count
opal-size h c count (as_field is size) w = size ∙ field-write h c count (reading h) (beside h) refl refl is w
opal-size h c count (by_more is none) w = more-size h c is ∙ more-write c count w

size-in : (p : Profile) (h : RegH2d) (c : Command) (count : ℕ) → reading_in p h ≡ Ok (c, None) → written c ≡ Some count → payload_length_in p h ≡ 512 * count
size-in Base h c count g w = base-size h count (read-write h c count (fault_of h) g w)
size-in Field h c count g w = field-write h c count (reading h) (beside h) refl refl g w
size-in Opal h c count g w = opal-size h c count (opal-reads h c None g) w

pub size-of-write : (p : Profile) (h : RegH2d) (c : Command) (lba count : ℕ) → Reaches c None Write lba count → reading_in p h ≡ Ok (c, None) → payload_length_in p h ≡ 512 * count
size-of-write p h c lba count writes g = size-in p h c count g (written-is c None Write lba count writes refl refl)

pub write-size : (p : Profile) (h : RegH2d) (lba count : ℕ) → reading_in p h ≡ Ok (WriteDma lba count, None) → payload_length_in p h ≡ 512 * count
write-size p h lba count g = size-in p h (WriteDma lba count) count g refl

pub pio-write-size : (p : Profile) (h : RegH2d) (lba count : ℕ) → reading_in p h ≡ Ok (WritePio lba count, None) → payload_length_in p h ≡ 512 * count
pio-write-size p h lba count g = size-in p h (WritePio lba count) count g refl
