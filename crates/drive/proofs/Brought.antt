-- How many bytes come with a transfer that is not queued, under each profile.
use Rattle.std.proofs.Common.{◌≡◌, ◌∙◌, ℕ, ◌*◌, ◌==◌, Bool, true, false, not, Option, Some, None, Result, Ok, Err, refl, sym, ap, cond, eqb-true}
use Rattle.std.specs.Prelude.{option_map}
use Rattle.basics.specs.declared.profile.Profile.{Profile}
use Rattle.basics.specs.declared.profile.Profile.TheVariants.{Base, Field, Opal}
use Rattle.fis.specs.declared.h2d.RegH2d.{RegH2d}
use Rattle.locking.specs.declared.range.Op.{Op}
use Rattle.locking.specs.declared.range.Op.TheVariants.{Read, Write}
use Rattle.trusted_cmds.specs.declared.command.Command.{Command}
use Rattle.trusted_cmds.specs.declared.command.Command.TheVariants.{ReadQueued, WriteQueued, ReadDma, WriteDma, Flush, SetFeatures, ReadLog, ReadPio, Verify}
use Rattle.trusted_cmds.specs.declared.command.CommandError.{CommandError}
use Rattle.trusted_cmds.specs.declared.feature.Feature.{Feature}
use Rattle.trusted_cmds.specs.declared.log_pages.LogPages.{LogPages}
use Rattle.trusted_cmds.specs.Commands.{reading, fault_of, read_unless, command_without_sectors, read_queued, write_queued, read_dma, write_dma, is_send, is_receive, is_log_read, identify_device, read_log_dma, set_features, has_lba_bit, sectors, blocks, sector_size, payload_length, short_lba, short_sectors}
use Rattle.trusted_cmds.specs.Profiles.{reading_in, read_or, beside, payload_length_in, field_payload_length, short_read_dma, short_write_dma, short_flush_cache, is_short_transfer, short_transfer, beside_without_sectors, feature_named, pages_named}
use Rattle.trusted_cmds.proofs.Sizes.{OpalReads, as_field, by_more, opal-reads, more-size, size_with}
use Rattle.history.proofs.WriteSizes.{write-size, pio-write-size}
use Rattle.drive.specs.Transfer.{by_op, unqueued_command, payload_size_of, CanGo}
use Rattle.drive.specs.declared.transfer.Transfer.{Transfer}
use Rattle.drive.specs.declared.transfer.Way.{Way}
use Rattle.drive.specs.declared.transfer.Way.TheVariants as ways

-- The commands that read sectors.
abbrev is_read : Command → Bool
is_read (ReadDma lba count) = true
is_read (ReadPio lba count) = true
is_read (Verify lba count) = true
is_read _ = false

false_true : false ≡ true → ⊥
false_true h = cc

ok-command : {c d : Command} {x y : Option ℕ} → ◌≡◌ {A = Result (Command × Option ℕ) CommandError} (Ok (c, x)) (Ok (d, y)) → c ≡ d
ok-command h = ap (λ (p : Command × Option ℕ). p.0) (pair h)
  where
    pair : {p q : Command × Option ℕ} → ◌≡◌ {A = Result (Command × Option ℕ) CommandError} (Ok p) (Ok q) → p ≡ q
    pair g = cc

no-error : {e : CommandError} {x : Command × Option ℕ} → ◌≡◌ {A = Result (Command × Option ℕ) CommandError} (Err e) (Ok x) → ⊥
no-error h = cc

other : {c d : Command} → is_read c ≡ false → is_read d ≡ true → c ≡ d → ⊥
other none reads g = false_true (sym none ∙ ap is_read g ∙ reads)

-- Of them each drive reads READ DMA EXT alone.
rest-no-read : (h : RegH2d) → is_read (command_without_sectors h) ≡ false
rest-no-read h = pick _ _ (is_send h.command) refl (pick _ _ (is_receive h.command) refl (pick _ _ (is_log_read h.command) refl (pick _ _ (h.command == identify_device) refl refl)))
  where
    pick : (a b : Command) (c : Bool) → is_read a ≡ false → is_read b ≡ false → is_read (cond c a b) ≡ false
    pick a b true x y = x
    pick a b false x y = y

read-code : (h : RegH2d) (a b c d : Bool) (rest its : Command) (l n : ℕ) → (h.command == read_dma) ≡ c → is_read rest ≡ false → is_read its ≡ true
    → cond a (ReadQueued l n) (cond b (WriteQueued l n) (cond c (ReadDma l (sectors h.count)) (cond d (WriteDma l (sectors h.count)) rest))) ≡ its
    → (h.command == read_dma) ≡ true
read-code h true b c d rest its l n is none reads g = absurd (other refl reads g)
read-code h false true c d rest its l n is none reads g = absurd (other refl reads g)
read-code h false false true d rest its l n is none reads g = is
read-code h false false false true rest its l n is none reads g = absurd (other refl reads g)
read-code h false false false false rest its l n is none reads g = absurd (other none reads g)

base-code : (h : RegH2d) (its : Command) (x : Option CommandError) → is_read its ≡ true → read_unless x h ≡ Ok (its, None) → (h.command == read_dma) ≡ true
base-code h its (Some e) reads g = absurd (no-error g)
base-code h its None reads g =
    read-code h (h.command == read_queued) (h.command == write_queued) (h.command == read_dma) (h.command == write_dma)
    (command_without_sectors h) its h.lba (sectors h.feature) refl (rest-no-read h) reads (ok-command g)

-- a read beside is one of 28 bits
some-is : {c d : Command} → Some c ≡ Some d → c ≡ d
some-is h = cc

no-some : {its : Command} → None ≡ Some its → ⊥
no-some h = cc

no-page : (page : Option LogPages) (dma : Bool) (its : Command) → is_read its ≡ true
    → option_map (λ (p : LogPages). ReadLog p dma) page ≡ Some its → ⊥
no-page None dma its reads g = no-some g
no-page (Some p) dma its reads g = other refl reads (some-is g)

no-feature : (feature : Option Feature) (its : Command) → is_read its ≡ true → option_map SetFeatures feature ≡ Some its → ⊥
no-feature None its reads g = no-some g
no-feature (Some f) its reads g = other refl reads (some-is g)

no-plain : (h : RegH2d) (a b c : Bool) (its : Command) → is_read its ≡ true
    → cond a (Some Flush) (cond b (option_map SetFeatures (feature_named h))
    (cond c (option_map (λ (p : LogPages). ReadLog p (h.command == read_log_dma)) (pages_named h)) None))
    ≡ Some its → ⊥
no-plain h true b c its reads g = other refl reads (some-is g)
no-plain h false true c its reads g = no-feature (feature_named h) its reads g
no-plain h false false true its reads g = no-page (pages_named h) (h.command == read_log_dma) its reads g
no-plain h false false false its reads g = no-some g

transferred : (h : RegH2d) (a : Bool) (its : Command) → (h.command == short_read_dma) ≡ a → is_read its ≡ true
    → cond a (ReadDma (short_lba h) (short_sectors h)) (WriteDma (short_lba h) (short_sectors h)) ≡ its
    → (h.command == short_read_dma) ≡ true
transferred h true its is reads g = is
transferred h false its is reads g = absurd (other refl reads g)

short-read : (h : RegH2d) (its : Command) → is_read its ≡ true → beside h ≡ Some its → (h.command == short_read_dma) ≡ true
short-read h its reads g = by_command (not h.is_command) (is_short_transfer h.command) (has_lba_bit h.device) g
  where
    by_command : (a b c : Bool)
        → cond a None (cond b (cond c (Some (short_transfer h)) None) (beside_without_sectors h)) ≡ Some its
        → (h.command == short_read_dma) ≡ true
    by_command true b c k = absurd (no-some k)
    by_command false true true k = transferred h (h.command == short_read_dma) its refl reads (some-is k)
    by_command false true false k = absurd (no-some k)
    by_command false false c k =
        absurd (no-plain h (h.command == short_flush_cache) (h.command == set_features) (is_log_read h.command) its reads k)

-- no bytes come with a read
abbrev lengths : RegH2d → ℕ → ℕ
lengths h code =
    cond (code == short_write_dma) (sector_size * short_sectors h)
    (cond (code == write_dma) (sector_size * sectors h.count) (cond (is_send code) (sector_size * blocks h) 0))

base-none : (h : RegH2d) → (h.command == read_dma) ≡ true → payload_length h ≡ 0
base-none h is =
    ap (λ (n : ℕ). cond (n == write_dma) (sector_size * sectors h.count) (cond (is_send n) (sector_size * blocks h) 0))
    (eqb-true h.command read_dma is)

field-none : (h : RegH2d) (code : ℕ) → (h.command == code) ≡ true → lengths h code ≡ 0 → field_payload_length h ≡ 0
field-none h code is none = ap (lengths h) (eqb-true h.command code is) ∙ none

field-size : (h : RegH2d) (its : Command) (r : Result (Command × Option ℕ) CommandError) (x : Option Command) → is_read its ≡ true
    → reading h ≡ r → beside h ≡ x
    → ◌≡◌ {A = Result (Command × Option ℕ) CommandError} (read_or r x) (Ok (its, None))
    → field_payload_length h ≡ 0
field-size h its (Ok z) x reads is m k = field-none h read_dma (base-code h its (fault_of h) reads (is ∙ k)) refl
field-size h its (Err error) None reads is m k = absurd (no-error k)
field-size h its (Err error) (Some c) reads is m k =
    field-none h short_read_dma (short-read h its reads (m ∙ ap (λ (y : Command). Some y) (ok-command k))) refl

-- Under the opal profile as much as under the field profile, or as the command says.
read-size : (p : Profile) (h : RegH2d) (its : Command) → is_read its ≡ true → size_with its ≡ 0
    → reading_in p h ≡ Ok (its, None) → payload_length_in p h ≡ 0
read-size Base h its reads none g = base-none h (base-code h its (fault_of h) reads g)
read-size Field h its reads none g = field-size h its (reading h) (beside h) reads refl refl g
read-size Opal h its reads none g = by (opal-reads h its None g)
  where
    by : OpalReads h its None → payload_length_in Opal h ≡ 0
    by (as_field e same) = same ∙ field-size h its (reading h) (beside h) reads refl refl e
    by (by_more e untagged) = more-size h its e ∙ none

-- What an unqueued transfer wants is what its command brings.
no-write : Write ≡ Read → ⊥
no-write h = cc

sized : (p : Profile) (h : RegH2d) (way : Way) (op : Op) (lba count : ℕ) → CanGo way op
    → reading_in p h ≡ Ok (unqueued_command way (record { op = op; lba = lba; count = count }), None)
    → payload_length_in p h ≡ by_op op 0 (sector_size * count)
sized p h ways.Dma Read lba count goes g = read-size p h (ReadDma lba count) refl refl g
sized p h ways.Dma Write lba count goes g = write-size p h lba count g
sized p h ways.Pio Read lba count goes g = read-size p h (ReadPio lba count) refl refl g
sized p h ways.Pio Write lba count goes g = pio-write-size p h lba count g
sized p h ways.Verify Read lba count goes g = read-size p h (Verify lba count) refl refl g
sized p h ways.Verify Write lba count goes g = absurd (no-write goes)

pub moved-size : (p : Profile) (h : RegH2d) (way : Way) (t : Transfer) → CanGo way t.op → reading_in p h ≡ Ok (unqueued_command way t, None)
    → payload_length_in p h ≡ payload_size_of t
moved-size p h way t goes g = sized p h way t.op t.lba t.count goes g
