-- Sectors that are kept no more, since they hold zeros.
use Rattle.std.proofs.Common.{◌≡◌, ℕ, ◌+◌, ◌<◌, ◌≢◌, List, [], ◌∷◌, ◌++◌, length, take, set, get_or, nat_eq, true, false, Bool, ◌||◌, refl, ap, sym, ◌∙◌, arith, inl, inr, Option, Some, None}
use Rattle.std.specs.Prelude.{is_some, IfSome, unwrap_or, if◌then◌else◌, ◌==◌}
use Rattle.std.specs.List.{list_any}
use Rattle.std.proofs.lemmas.Bool.{cases_eq, cases_Bool}
use Rattle.std.proofs.lemmas.Bool.Decides.{nat_tests}
use Rattle.std.proofs.lemmas.List.Folds.{list_any_more, list_any-append}
use Rattle.shadow_mbr.specs.Stored.{block_in, kept_sector, zeros}
use Rattle.shadow_mbr.specs.Places.{place_at, blocks_of, AreOwn}
use Rattle.shadow_mbr.proofs.Blocks.{any_of_first, one_block, chosen, other}
use Rattle.shadow_mbr.proofs.Runs.{own_put}
use Rattle.shadow_mbr.proofs.Same.{is_kept}
use Rattle.std.specs.Map.{keys_of}

-- Another block stands where that of a sector stood, which is kept.
pub put_one : (ps : List (ℕ × ℕ)) (blocks new : List (List ℕ)) (o : Option ℕ) (n : ℕ) (v : List ℕ) → AreOwn ps blocks → o ≡ place_at ps n → is_some (place_at ps n) ≡ true → length v ≡ 512 → IfSome o (λ p. new ≡ set blocks p v) → AreOwn ps new × ((s : ℕ) → block_in (blocks_of ps new) s ≡ (if s == n then Some v else block_in (blocks_of ps blocks) s))
put_one ps blocks new None n v own at there size is = absurd (let no = ap (λ (o : Option ℕ). is_some o) at ∙ there in cc)
put_one ps blocks new (Some p) n v own at there size is =
    rw is (own_put ps blocks p v own (own.below n p (sym at)) size, λ s. one_block ps blocks n p v own (sym at) s)

-- One more of some numbers.
listed_more : (s i : ℕ) (xs : List ℕ) → i < length xs → list_any (nat_eq s) (take (i + 1) xs) ≡ (list_any (nat_eq s) (take i xs) || nat_eq s (get_or xs i 0))
listed_more s i xs below = list_any_more (nat_eq s) xs i 0 below

is_it : (s x : ℕ) (b : Bool) → s ≡ x → (b || nat_eq s x) ≡ true
is_it s x b same = grind (arith, nat_tests)

not_it : (s x : ℕ) (b : Bool) → s ≢ x → (b || nat_eq s x) ≡ b
not_it s x b apart = grind (arith, nat_tests)

-- One more of the numbers that are looked at is listed if its sector is no zeros.
pub skipped : (holds : ℕ → List ℕ) (sectors filled : List ℕ) (i : ℕ) → i < length sectors → holds (get_or sectors i 0) ≡ zeros → ((s : ℕ) → list_any (nat_eq s) (take i sectors) ≡ true → list_any (nat_eq s) filled ≡ false → holds s ≡ zeros) → (s : ℕ) → list_any (nat_eq s) (take (i + 1) sectors) ≡ true → list_any (nat_eq s) filled ≡ false → holds s ≡ zeros
skipped holds sectors filled i below is so_far s looked unlisted = elim (cases_eq s (get_or sectors i 0)) [
  | inl same ↦ rw same is
  | inr apart ↦ so_far s (sym (not_it s (get_or sectors i 0) (list_any (nat_eq s) (take i sectors)) apart) ∙ sym (listed_more s i sectors below) ∙ looked) unlisted
]

same_or : (a b : Bool) → (a || (b || false)) ≡ (a || b)
same_or a b = grind (arith, nat_tests)

last_listed : (s : ℕ) (filled : List ℕ) (x : ℕ) → list_any (nat_eq s) (filled ++ x ∷ []) ≡ (list_any (nat_eq s) filled || nat_eq s x)
last_listed s filled x = list_any-append (nat_eq s) filled (x ∷ []) ∙ same_or (list_any (nat_eq s) filled) (nat_eq s x)

pub listed : (holds : ℕ → List ℕ) (sectors filled : List ℕ) (i : ℕ) → i < length sectors → ((s : ℕ) → list_any (nat_eq s) (take i sectors) ≡ true → list_any (nat_eq s) filled ≡ false → holds s ≡ zeros) → (s : ℕ) → list_any (nat_eq s) (take (i + 1) sectors) ≡ true → list_any (nat_eq s) (filled ++ get_or sectors i 0 ∷ []) ≡ false → holds s ≡ zeros
listed holds sectors filled i below so_far s looked unlisted =
    let x : ℕ = get_or sectors i 0 in
    let none : (list_any (nat_eq s) filled || nat_eq s x) ≡ false = sym (last_listed s filled x) ∙ unlisted in
    elim (cases_eq s x) [
      | inl same ↦ absurd (let no = sym (is_it s x (list_any (nat_eq s) filled) same) ∙ none in cc)
      | inr apart ↦
          so_far s (sym (not_it s x (list_any (nat_eq s) (take i sectors)) apart) ∙ sym (listed_more s i sectors below) ∙ looked)
          (sym (not_it s x (list_any (nat_eq s) filled) apart) ∙ none)
    ]

-- One more sector has the bytes that it has elsewhere.
pub copied : (holds before now : ℕ → List ℕ) (sectors : List ℕ) (i : ℕ) (new : ℕ → List ℕ) → i < length sectors → ((s : ℕ) → new s ≡ (if s == get_or sectors i 0 then holds (get_or sectors i 0) else now s)) → ((s : ℕ) → now s ≡ (if list_any (nat_eq s) (take i sectors) then holds s else before s)) → (s : ℕ) → new s ≡ (if list_any (nat_eq s) (take (i + 1) sectors) then holds s else before s)
copied holds before now sectors i new below put so_far s =
    let x : ℕ = get_or sectors i 0 in
    elim (cases_eq s x) [
      | inl same ↦
          put s ∙ chosen s x (holds x) (now s) same ∙ ap holds (sym same)
          ∙ sym (rw (listed_more s i sectors below, is_it s x (list_any (nat_eq s) (take i sectors)) same) refl)
      | inr apart ↦
          put s ∙ other s x (holds x) (now s) apart ∙ so_far s
          ∙ sym (rw (listed_more s i sectors below, not_it s x (list_any (nat_eq s) (take i sectors)) apart) refl)
    ]

pub still_kept : (o : Option (List ℕ)) (s n : ℕ) (v : List ℕ) (new : Option (List ℕ)) (at : Option (List ℕ)) → is_some at ≡ true → (s ≡ n → o ≡ at) → new ≡ (if s == n then Some v else o) → is_some new ≡ is_some o
still_kept o s n v new at there here is = elim (cases_eq s n) [
  | inl same ↦ ap is_some (is ∙ chosen s n (Some v) o same) ∙ sym (ap is_some (here same) ∙ there)
  | inr apart ↦ ap is_some (is ∙ other s n (Some v) o apart)
]

pub sector_put : (o new : Option (List ℕ)) (s n : ℕ) (v : List ℕ) → new ≡ (if s == n then Some v else o) → unwrap_or new zeros ≡ (if s == n then v else unwrap_or o zeros)
sector_put o new s n v is = elim (cases_eq s n) [
  | inl same ↦ ap (λ (o : Option (List ℕ)). unwrap_or o zeros) (is ∙ chosen s n (Some v) o same) ∙ sym (chosen s n v (unwrap_or o zeros) same)
  | inr apart ↦ ap (λ (o : Option (List ℕ)). unwrap_or o zeros) (is ∙ other s n (Some v) o apart) ∙ sym (other s n v (unwrap_or o zeros) apart)
]

pub is_listed : (xs : List ℕ) (i : ℕ) → i < length xs → list_any (nat_eq (get_or xs i 0)) xs ≡ true
is_listed xs i below =
    let x : ℕ = get_or xs i 0 in
    any_of_first (nat_eq x) (i + 1) xs (listed_more x i xs below ∙ is_it x x (list_any (nat_eq x) (take i xs)) refl)

no_some : (o : Option (List ℕ)) → is_some o ≡ false → unwrap_or o zeros ≡ zeros
no_some None is = refl
no_some (Some v) is = let no = is in cc

no_sector : (es : List (ℕ × List ℕ)) (s : ℕ) → list_any (nat_eq s) (keys_of es) ≡ false → kept_sector es s ≡ zeros
no_sector es s none = no_some (block_in es s) (is_kept es s ∙ none)

-- What is listed was copied, and what is not listed is zeros.
pub shrunk : (old new made : List (ℕ × List ℕ)) (filled : List ℕ) → ((s : ℕ) → block_in new s ≡ (if list_any (nat_eq s) filled then Some zeros else None)) → ((s : ℕ) → list_any (nat_eq s) (keys_of old) ≡ true → list_any (nat_eq s) filled ≡ false → kept_sector old s ≡ zeros) → ((s : ℕ) → kept_sector made s ≡ (if list_any (nat_eq s) filled then kept_sector old s else kept_sector new s)) → (s : ℕ) → kept_sector made s ≡ kept_sector old s
shrunk old new made filled added zero are s = elim (cases_Bool (list_any (nat_eq s) filled)) [
  | inl is ↦ are s ∙ rw is refl
  | inr not ↦
      let none : block_in new s ≡ None = rw not at (added s) in
      let blank : kept_sector new s ≡ zeros = ap (λ (o : Option (List ℕ)). unwrap_or o zeros) none in
      are s ∙ rw not blank
      ∙ elim (cases_Bool (list_any (nat_eq s) (keys_of old))) [
        | inl kept ↦ sym (zero s kept not)
        | inr lost ↦ sym (no_sector old s lost)
      ]
]
