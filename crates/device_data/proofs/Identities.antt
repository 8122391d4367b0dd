-- The checksum of IDENTIFY DEVICE data, and how many bytes they are.
use Rattle.std.proofs.Common.{◌≡◌, ◌∙◌, ℕ, zero, suc, ◌+◌, ◌*◌, ◌-◌, ◌%◌, List, [], ◌∷◌, ◌++◌, refl, ap, sym, arith}
use Rattle.std.specs.Prelude.{length, slice_index_or}
use Rattle.std.specs.List.{flat_map}
use Rattle.std.proofs.lemmas.List.{length-append, append_assoc}
use Rattle.std.proofs.Math.Seq.{get_or-append_seam}
use Rattle.basics.specs.Sums.{byte_sum}
use Rattle.basics.specs.declared.profile.Profile.TheVariants.{Opal}
use Rattle.sp_cells.specs.Config.{Config}
use Rattle.device_data.specs.declared.settings.Settings.{Settings}
use Rattle.device_data.specs.Checksums.{with_sum}
use Rattle.device_data.specs.Identity.{low_first, run_from, opal_word, opal_words, has_checksum, opal_identity, identity_in}

byte_sum-append : (xs ys : List ℕ) → byte_sum (xs ++ ys) ≡ byte_sum xs + byte_sum ys
byte_sum-append [] ys = omega arith
byte_sum-append (x ∷ xs) ys = omega (arith, byte_sum-append xs ys)

filled : (s : ℕ) → (s + ((256 - s % 256) % 256 + 0)) % 256 ≡ 0
filled s = omega arith

pub sum_of_all : (content : List ℕ) → byte_sum (with_sum content) % 256 ≡ 0
sum_of_all content =
    ap (λ n. n % 256) (byte_sum-append content ((256 - byte_sum content % 256) % 256 ∷ []))
    ∙ filled (byte_sum content)

pub length-words : (word : ℕ → ℕ) (xs : List ℕ) → length (flat_map (λ x. low_first (word x)) xs) ≡ 2 * length xs
length-words word [] = refl
length-words word (x ∷ xs) = omega (arith, length-words word xs)

pub length-run : (first n : ℕ) → length (run_from first n) ≡ n
length-run first zero = refl
length-run first (suc n) = omega (arith, length-run (suc first) n)

pub length-opal_words : (config : Config) (settings : Settings) → length (opal_words config settings) ≡ 510
length-opal_words config settings =
    length-words (opal_word config settings) (run_from 0 255)
    ∙ ap (λ (n : ℕ). 2 * n) (length-run 0 255)

pub length-with_sum : (content : List ℕ) → length (with_sum content) ≡ length content + 1
length-with_sum content = length-append content ((256 - byte_sum content % 256) % 256 ∷ [])

pub opal_length : (config : Config) (settings : Settings) → length (identity_in Opal config settings) ≡ 512
opal_length config settings =
    let words : List ℕ = opal_words config settings in
    omega (
      arith,
      length-with_sum (words ++ has_checksum ∷ []),
      length-append words (has_checksum ∷ []),
      length-opal_words config settings,
    )

pub opal_sum : (config : Config) (settings : Settings) → byte_sum (identity_in Opal config settings) % 256 ≡ 0
opal_sum config settings = sum_of_all (opal_words config settings ++ has_checksum ∷ [])

pub opal_checked : (config : Config) (settings : Settings) → slice_index_or (identity_in Opal config settings) 510 0 ≡ 0xa5
opal_checked config settings =
    let words : List ℕ = opal_words config settings in
    let last : ℕ = (256 - byte_sum (words ++ has_checksum ∷ []) % 256) % 256 in
    ap (λ xs. slice_index_or xs 510 0) (append_assoc words (has_checksum ∷ []) (last ∷ []))
    ∙ ap (λ n. slice_index_or (words ++ has_checksum ∷ last ∷ []) n 0) (sym (length-opal_words config settings))
    ∙ get_or-append_seam words has_checksum (last ∷ []) 0
