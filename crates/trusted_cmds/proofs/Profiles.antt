-- What a profile reads.
use Rattle.std.specs.Prelude.{option_map}
use Rattle.std.proofs.Common.{◌≡◌, ◌∙◌, ◌%◌, ℕ, Bool, true, false, Option, Some, None, Result, Ok, Err, cond, refl, sym, ap, arith}
use Rattle.basics.specs.declared.profile.Profile.{Profile}
use Rattle.basics.specs.declared.profile.Profile.TheVariants.{Base, Field, Opal}
use Rattle.fis.specs.declared.h2d.RegH2d.{RegH2d}
use Rattle.trusted_cmds.specs.declared.command.Command.{Command}
use Rattle.trusted_cmds.specs.declared.command.Command.TheVariants.{ReadDma, WriteDma, Flush, SetFeatures, ReadLog}
use Rattle.trusted_cmds.specs.declared.command.CommandError.{CommandError}
use Rattle.trusted_cmds.specs.declared.command.CommandError.TheVariants.{Unknown, LogPage}
use Rattle.trusted_cmds.specs.declared.feature.Feature.{Feature}
use Rattle.trusted_cmds.specs.declared.feature.Feature.TheVariants.{WriteCache, ReadLookAhead, TransferMode}
use Rattle.trusted_cmds.specs.declared.log_pages.LogPages.{LogPages}
use Rattle.trusted_cmds.specs.declared.log_pages.LogPages.TheVariants.{Directory, IdentifyData}
use Rattle.trusted_cmds.specs.Commands.{reading, read_unless, fault_of, is_known_code, names_error_log, read_log, read_log_dma, by_dma, log_place, pages_asked, log_read_fis, feature_fis}
use Rattle.trusted_cmds.specs.General.{more}
use Rattle.trusted_cmds.specs.Profiles.{reading_in, read_or, beside, names_pages, names_feature, feature_named, pages_named, is_transfer_mode, is_offered, CarriesBeside}

-- What each drive reads, every profile reads the same.
pub base-reads : (h : RegH2d) → reading_in Base h ≡ reading h
base-reads h = refl

pub known-reads : (p : Profile) (h : RegH2d) → fault_of h ≡ None → reading_in p h ≡ reading h
known-reads Base h none = refl
known-reads Field h none =
    ap (λ e. read_or (read_unless e h) (beside h)) none ∙ ap (λ e. read_unless e h) (sym none)
known-reads Opal h none =
    ap (λ e. read_or (read_or (read_unless e h) (beside h)) (more h)) none ∙ ap (λ e. read_unless e h) (sym none)

pub unknown : (h : RegH2d) → h.is_command ≡ true → is_known_code h.command ≡ false → fault_of h ≡ Some Unknown
unknown h is not = grind arith

not-error-log : (pages : LogPages) (h : RegH2d) → names_pages pages h ≡ true → names_error_log h ≡ false
not-error-log Directory h named = grind arith
not-error-log (IdentifyData first count) h named = grind arith

of-log : (dma : Bool) (h : RegH2d) → h.is_command ≡ true → h.command ≡ by_dma dma read_log read_log_dma → names_error_log h ≡ false → fault_of h ≡ Some LogPage
of-log true h is code not = grind arith
of-log false h is code not = grind arith

-- A FIS that carries a command beside those of each drive is refused by `Base`.
pub faulty : (h : RegH2d) (c : Command) (t : Option ℕ) → CarriesBeside h c t → (e : CommandError) × (fault_of h ≡ Some e)
faulty h (ReadDma lba count) None k = (Unknown, unknown h k.is_command (ap is_known_code k.command))
faulty h (WriteDma lba count) None k = (Unknown, unknown h k.is_command (ap is_known_code k.command))
faulty h Flush None k = (Unknown, unknown h k.is_command (ap is_known_code k.command))
faulty h (SetFeatures feature) None k = (Unknown, unknown h k.is_command (ap is_known_code k.command))
faulty h (ReadLog pages dma) None k = (LogPage, of-log dma h k.is_command k.command (not-error-log pages h k.page_field))
faulty h _ _ k = absurd k

-- The spelling of pages is read as the pages, and that of a feature as the feature.
pub pages-back : (pages : LogPages) (dma : Bool) (p : Profile) → is_offered p (ReadLog pages dma) ≡ true
    → reading_in p (log_read_fis (log_place pages) (pages_asked pages) dma) ≡ Ok (ReadLog pages dma, None)
pages-back Directory true Field is = refl
pages-back Directory false Field is = refl
pages-back (IdentifyData first count) true Field is = grind arith
pages-back (IdentifyData first count) false Field is = grind arith
pages-back Directory true Opal is = refl
pages-back Directory false Opal is = refl
pages-back (IdentifyData first count) true Opal is = grind arith
pages-back (IdentifyData first count) false Opal is = grind arith
pages-back pages dma Base is = grind arith

mode-is : (mode : ℕ) → is_transfer_mode mode ≡ true → mode % 256 ≡ mode
mode-is mode is = grind arith

-- What the field profile reads, the opal profile reads.
field-reads : (h : RegH2d) {x : Command × Option ℕ} → ◌≡◌ {A = Result (Command × Option ℕ) CommandError} (reading_in Field h) (Ok x)
    → ◌≡◌ {A = Result (Command × Option ℕ) CommandError} (reading_in Opal h) (Ok x)
field-reads h e = ap (λ (r : Result (Command × Option ℕ) CommandError). read_or r (more h)) e

mode-back : (mode : ℕ) → is_transfer_mode mode ≡ true → reading_in Field (feature_fis (TransferMode mode)) ≡ Ok (SetFeatures (TransferMode mode), None)
mode-back mode is =
    ap (λ m. read_or (Err Unknown) (option_map SetFeatures (cond (is_transfer_mode m) (Some (TransferMode m)) None))) (mode-is mode is)
    ∙ ap (λ b. read_or (Err Unknown) (option_map SetFeatures (cond b (Some (TransferMode mode)) None))) is

pub feature-back : (feature : Feature) (p : Profile) → is_offered p (SetFeatures feature) ≡ true
    → reading_in p (feature_fis feature) ≡ Ok (SetFeatures feature, None)
feature-back (WriteCache true) Field is = refl
feature-back (WriteCache false) Field is = refl
feature-back (ReadLookAhead true) Field is = refl
feature-back (ReadLookAhead false) Field is = refl
feature-back (TransferMode mode) Field is = mode-back mode is
feature-back (WriteCache true) Opal is = refl
feature-back (WriteCache false) Opal is = refl
feature-back (ReadLookAhead true) Opal is = refl
feature-back (ReadLookAhead false) Opal is = refl
feature-back (TransferMode mode) Opal is = field-reads (feature_fis (TransferMode mode)) (mode-back mode is)
feature-back feature Base is = grind arith
