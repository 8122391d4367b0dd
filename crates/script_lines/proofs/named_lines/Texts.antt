-- Words that are text, and words that are none.
use Rattle.std.proofs.Common.{◌≡◌, ℕ, Bool, true, false, List, ap, refl, sym, ◌∙◌, Option, None}
use Rattle.std.specs.Prelude.{if◌then◌else◌}
use Rattle.std.specs.Str.{IsUtf8, is_utf8}
use Rattle.std.proofs.lemmas.Str.{IsUtf8-from_is_utf8, is_utf8-from_IsUtf8}
use Rattle.tcg_calls.specs.Objects.{object_by_name}
use Rattle.tcg_calls.specs.Columns.{column_by_name}
use Rattle.script_lines.specs.Phrases.{object_said, column_said}

no_text : (word : List ℕ) → ¬ (IsUtf8 word) → is_utf8 word ≡ false
no_text word not_so = by-test (is_utf8 word) refl
  where
    by-test : (b : Bool) → is_utf8 word ≡ b → is_utf8 word ≡ false
    by-test true is = absurd (not_so (IsUtf8-from_is_utf8 word is))
    by-test false is = is

pub object_of_text : (word : List ℕ) → IsUtf8 word → object_said word ≡ object_by_name word
object_of_text word is =
    ap (λ (b : Bool). if b then object_by_name word else None) (is_utf8-from_IsUtf8 word is)

pub no_object : (word : List ℕ) → ¬ (IsUtf8 word) → object_said word ≡ None
no_object word is = ap (λ (b : Bool). if b then object_by_name word else None) (no_text word is)

pub column_of_text : (table : ℕ) (word : List ℕ) → IsUtf8 word
    → column_said table word ≡ column_by_name table word
column_of_text table word is =
    ap (λ (b : Bool). if b then column_by_name table word else None) (is_utf8-from_IsUtf8 word is)

pub no_column : (table : ℕ) (word : List ℕ) → ¬ (IsUtf8 word) → column_said table word ≡ None
no_column table word is =
    ap (λ (b : Bool). if b then column_by_name table word else None) (no_text word is)

pub ruleset texts = (object_of_text, no_object, column_of_text, no_column)
