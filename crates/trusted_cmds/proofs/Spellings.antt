-- What is read under a profile, by what each drive reads and what a profile reads beside.
use Rattle.std.proofs.Common.{◌≡◌, ◌∙◌, ℕ, ◌==◌, Bool, true, false, Option, Some, None, Result, Ok, Err, refl, sym, ap, arith}
use Rattle.basics.specs.declared.profile.Profile.{Profile}
use Rattle.basics.specs.declared.profile.Profile.TheVariants.{Base, Field, Opal}
use Rattle.fis.specs.declared.h2d.RegH2d.{RegH2d}
use Rattle.trusted_cmds.specs.declared.command.Command.{Command}
use Rattle.std.specs.Prelude.{not, ◌||◌, option_map, if◌then◌else◌}
use Rattle.std.proofs.Common.{cond}
use Rattle.trusted_cmds.specs.declared.command.Command.TheVariants.{ReadDma, WriteDma, Flush, SetFeatures, ReadLog}
use Rattle.trusted_cmds.specs.declared.feature.Feature.{Feature}
use Rattle.trusted_cmds.specs.declared.log_pages.LogPages.{LogPages}
use Rattle.trusted_cmds.specs.declared.command.CommandError.{CommandError}
use Rattle.trusted_cmds.specs.Commands.{reading, short_lba, short_sectors, has_lba_bit, is_log_read, read_log_dma, set_features}
use Rattle.trusted_cmds.specs.Profiles.{reading_in, read_or, beside, short_read_dma, short_write_dma, short_flush_cache, is_short_transfer, short_transfer, beside_without_sectors, feature_named, pages_named}
use Rattle.trusted_cmds.specs.General.{more}

-- What each drive reads, every profile reads.
pub ok-reads : (p : Profile) (h : RegH2d) {x : Command × Option ℕ} → ◌≡◌ {A = Result (Command × Option ℕ) CommandError} (reading h) (Ok x)
    → ◌≡◌ {A = Result (Command × Option ℕ) CommandError} (reading_in p h) (Ok x)
ok-reads Base h e = e
ok-reads Field h e = ap (λ (r : Result (Command × Option ℕ) CommandError). read_or r (beside h)) e
ok-reads Opal h e = ap (λ (r : Result (Command × Option ℕ) CommandError). read_or (read_or r (beside h)) (more h)) e

ok-same : {p q : Command × Option ℕ} → ◌≡◌ {A = Result (Command × Option ℕ) CommandError} (Ok p) (Ok q) → p ≡ q
ok-same h = cc

ok-tag : {c d : Command} {x y : Option ℕ} → ◌≡◌ {A = Result (Command × Option ℕ) CommandError} (Ok (c, x)) (Ok (d, y)) → x ≡ y
ok-tag h = ap (λ (p : Command × Option ℕ). p.1) (ok-same h)

no_error : {e : CommandError} {x : Command × Option ℕ} → ◌≡◌ {A = Result (Command × Option ℕ) CommandError} (Err e) (Ok x) → ⊥
no_error h = cc

no_tag : {tag : ℕ} → None ≡ Some tag → ⊥
no_tag h = cc

-- What is read beside has no tag: a tag was read as each drive reads it.
tag_or : (h : RegH2d) (command : Command) (tag : ℕ) (r : Result (Command × Option ℕ) CommandError) (more : Option Command) → reading h ≡ r
    → ◌≡◌ {A = Result (Command × Option ℕ) CommandError} (read_or r more) (Ok (command, Some tag))
    → ◌≡◌ {A = Result (Command × Option ℕ) CommandError} (reading h) (Ok (command, Some tag))
tag_or h command tag (Ok x) more is g = is ∙ g
tag_or h command tag (Err error) None is g = absurd (no_error g)
tag_or h command tag (Err error) (Some c) is g = absurd (no_tag (ok-tag g))

pub tag-reads : (p : Profile) (h : RegH2d) (command : Command) (tag : ℕ)
    → ◌≡◌ {A = Result (Command × Option ℕ) CommandError} (reading_in p h) (Ok (command, Some tag))
    → ◌≡◌ {A = Result (Command × Option ℕ) CommandError} (reading h) (Ok (command, Some tag))
tag-reads Base h command tag e = e
tag-reads Field h command tag e = tag_or h command tag (reading h) (beside h) refl e
tag-reads Opal h command tag e = tag_or_more (reading h) (beside h) (more h) refl e
  where
    tag_or_more : (r : Result (Command × Option ℕ) CommandError) (x y : Option Command) → reading h ≡ r
        → ◌≡◌ {A = Result (Command × Option ℕ) CommandError} (read_or (read_or r x) y) (Ok (command, Some tag))
        → ◌≡◌ {A = Result (Command × Option ℕ) CommandError} (reading h) (Ok (command, Some tag))
    tag_or_more (Ok read) x y is g = is ∙ g
    tag_or_more (Err error) (Some c) y is g = absurd (no_tag (ok-tag g))
    tag_or_more (Err error) None None is g = absurd (no_error g)
    tag_or_more (Err error) None (Some c) is g = absurd (no_tag (ok-tag g))

-- A write that is read beside is one of 28 bits.
pub record IsShortWrite (h : RegH2d) (lba count : ℕ) : Type 0 where
  pub code : (h.command == short_write_dma) ≡ true
  pub sectors_are : short_sectors h ≡ count

no_write : {lba count : ℕ} → None ≡ Some (WriteDma lba count) → ⊥
no_write h = cc

some_is : {c d : Command} → Some c ≡ Some d → c ≡ d
some_is h = cc

abbrev is_write : Command → Bool
is_write (WriteDma lba count) = true
is_write _ = false

abbrev count_written : Command → ℕ
count_written (WriteDma lba count) = count
count_written _ = 0

false_true : false ≡ true → ⊥
false_true h = cc

not_write : {c : Command} {lba count : ℕ} → is_write c ≡ false → Some c ≡ Some (WriteDma lba count) → ⊥
not_write none h = false_true (sym none ∙ ap is_write (some_is h))

no_page : (h : RegH2d) (page : Option LogPages) (dma : Bool) (lba count : ℕ)
    → option_map (λ (p : LogPages). ReadLog p dma) page ≡ Some (WriteDma lba count) → ⊥
no_page h None dma lba count g = no_write g
no_page h (Some p) dma lba count g = not_write refl g

no_feature : (feature : Option Feature) (lba count : ℕ) → option_map SetFeatures feature ≡ Some (WriteDma lba count) → ⊥
no_feature None lba count g = no_write g
no_feature (Some f) lba count g = not_write refl g

no_plain : (h : RegH2d) (a b c : Bool) (lba count : ℕ)
    → cond a (Some Flush) (cond b (option_map SetFeatures (feature_named h))
    (cond c (option_map (λ (p : LogPages). ReadLog p (h.command == read_log_dma)) (pages_named h)) None))
    ≡ Some (WriteDma lba count) → ⊥
no_plain h true b c lba count g = not_write refl g
no_plain h false true c lba count g = no_feature (feature_named h) lba count g
no_plain h false false true lba count g = no_page h (pages_named h) (h.command == read_log_dma) lba count g
no_plain h false false false lba count g = no_write g

transferred : (h : RegH2d) (a b : Bool) (lba count : ℕ) → (h.command == short_write_dma) ≡ b → (a || b) ≡ true
    → cond a (ReadDma (short_lba h) (short_sectors h)) (WriteDma (short_lba h) (short_sectors h)) ≡ WriteDma lba count
    → IsShortWrite h lba count
transferred h true b lba count is either g = absurd (false_true (ap is_write g))
transferred h false true lba count is either g = record { code = is; sectors_are = ap count_written g }
transferred h false false lba count is either g = absurd (false_true either)

pub short-write : (h : RegH2d) (lba count : ℕ) → beside h ≡ Some (WriteDma lba count) → IsShortWrite h lba count
short-write h lba count g = by_command (not h.is_command) (is_short_transfer h.command) (has_lba_bit h.device) refl g
  where
    by_command : (a b c : Bool) → is_short_transfer h.command ≡ b
        → cond a None (cond b (cond c (Some (short_transfer h)) None) (beside_without_sectors h)) ≡ Some (WriteDma lba count)
        → IsShortWrite h lba count
    by_command true b c is k = absurd (no_write k)
    by_command false true true is k =
        transferred h (h.command == short_read_dma) (h.command == short_write_dma) lba count refl is (some_is k)
    by_command false true false is k = absurd (no_write k)
    by_command false false c is k =
        absurd (no_plain h (h.command == short_flush_cache) (h.command == set_features) (is_log_read h.command) lba count k)
