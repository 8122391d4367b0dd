-- What is kept tells all.
use Rattle.std.proofs.Common.{◌≡◌, ◌≢◌, ℕ, Bool, List, [], ◌∷◌, Some, true, ◌||◌, nat_eq, refl, sym, ◌∙◌, ap, arith, inl, inr, nat_cmp}
use Rattle.std.specs.Prelude.{is_some}
use Rattle.std.specs.List.{list_any, AllByRecursion}
use Rattle.std.specs.List.Sorted.{IsStrictlySortedBy}
use Rattle.std.specs.Map.{keys_of}
use Rattle.std.specs.declared.cmp.Ordering.TheVariants.{Less}
use Rattle.std.proofs.lemmas.Bool.{cases_eq}
use Rattle.std.proofs.lemmas.Bool.Decides.{nat_tests}
use Rattle.shadow_mbr.specs.Stored.{StoredSectors, IsSound, block_in, kept_sector, sector_at, byte_at}
use Rattle.shadow_mbr.specs.Same.{KeepSame}
use Rattle.shadow_mbr.proofs.Numbers.{at_same, at_other}
use Rattle.shadow_mbr.proofs.Groups.{less_than}

-- A sector is kept if its number is among the keys.
listed_first : (s k : ℕ) (b : Bool) → s ≡ k → (nat_eq s k || b) ≡ true
listed_first s k b same = grind (arith, nat_tests)

listed_later : (s k : ℕ) (b : Bool) → s ≢ k → (nat_eq s k || b) ≡ b
listed_later s k b apart = grind (arith, nat_tests)

found_first : (s : ℕ) (e : ℕ × List ℕ) (es : List (ℕ × List ℕ)) → s ≡ e.0 → block_in (e ∷ es) s ≡ Some e.1
found_first s e es same = rw same (rw (at_same e.0) refl)

found_later : (s : ℕ) (e : ℕ × List ℕ) (es : List (ℕ × List ℕ)) → s ≢ e.0 → block_in (e ∷ es) s ≡ block_in es s
found_later s e es apart = rw (at_other s e.0 (λ same. apart (sym same))) refl

pub is_kept : (es : List (ℕ × List ℕ)) (s : ℕ) → is_some (block_in es s) ≡ list_any (nat_eq s) (keys_of es)
is_kept [] s = refl
is_kept (e ∷ es) s = elim (cases_eq s e.0) [
  | inl same ↦ ap is_some (found_first s e es same) ∙ sym (listed_first s e.0 (list_any (nat_eq s) (keys_of es)) same)
  | inr apart ↦ ap is_some (found_later s e es apart) ∙ is_kept es s ∙ sym (listed_later s e.0 (list_any (nat_eq s) (keys_of es)) apart)
]

-- A number behind another one is another.
behind_apart : (k s : ℕ) (ks : List ℕ) → AllByRecursion (λ y. nat_cmp k y ≡ Less) ks → list_any (nat_eq s) ks ≡ true → s ≢ k
behind_apart k s [] above listed same = cc
behind_apart k s (y ∷ ys) above listed same = elim (cases_eq s y) [
  | inl here ↦ let lt = less_than k y above.0 in absurd (omega (arith, lt))
  | inr apart ↦ behind_apart k s ys above.1 (sym (listed_later s y (list_any (nat_eq s) ys) apart) ∙ listed) same
]

-- Sectors that are the same, with the same bytes.
first_value : (e : ℕ × List ℕ) (es : List (ℕ × List ℕ)) (s : ℕ) → s ≡ e.0 → kept_sector (e ∷ es) s ≡ e.1
first_value e es s same = rw (found_first s e es same) refl

later_value : (e : ℕ × List ℕ) (es : List (ℕ × List ℕ)) (s : ℕ) → s ≢ e.0 → kept_sector (e ∷ es) s ≡ kept_sector es s
later_value e es s apart = rw (found_later s e es apart) refl

same_entry : (e f : ℕ × List ℕ) → e.0 ≡ f.0 → e.1 ≡ f.1 → e ≡ f
same_entry e f key value = ap (λ (n : ℕ). let p : ℕ × List ℕ = (n, e.1) in p) key ∙ ap (λ (b : List ℕ). let p : ℕ × List ℕ = (f.0, b) in p) value

same_blocks : (es fs : List (ℕ × List ℕ)) → IsStrictlySortedBy nat_cmp (keys_of es) → keys_of es ≡ keys_of fs → ((s : ℕ) → list_any (nat_eq s) (keys_of es) ≡ true → kept_sector es s ≡ kept_sector fs s) → es ≡ fs
unfolding IsStrictlySortedBy
same_blocks [] [] sorted keys each = refl
same_blocks [] (f ∷ fs) sorted keys each = cc
same_blocks (e ∷ es) [] sorted keys each = cc
same_blocks (e ∷ es) (f ∷ fs) sorted keys each =
    let key : e.0 ≡ f.0 = cc in
    let rest : keys_of es ≡ keys_of fs = cc in
    let value : e.1 ≡ f.1 =
    sym (first_value e es e.0 refl) ∙ each e.0 (listed_first e.0 e.0 (list_any (nat_eq e.0) (keys_of es)) refl) ∙ first_value f fs e.0 key in
    let others : es ≡ fs =
    same_blocks es fs sorted.1 rest
    (λ s listed.
    let apart : s ≢ e.0 = behind_apart e.0 s (keys_of es) sorted.0 listed in
    sym (later_value e es s apart)
    ∙ each s (listed_later s e.0 (list_any (nat_eq s) (keys_of es)) apart ∙ listed)
    ∙ later_value f fs s (λ same. apart (same ∙ sym key))) in
    ap (λ (es : List (ℕ × List ℕ)). e ∷ es) others ∙ ap (λ (h : ℕ × List ℕ). h ∷ fs) (same_entry e f key value)

pub keep_same : (a b : StoredSectors) → IsSound a → IsSound b → KeepSame a b → a ≡ b
keep_same a b sound_a sound_b same =
    ap (λ (n : ℕ). let s : StoredSectors = record { sectors = n; kept = a.kept } in s) same.sectors
    ∙ ap (λ (es : List (ℕ × List ℕ)). let s : StoredSectors = record { sectors = b.sectors; kept = es } in s)
    (same_blocks a.kept b.kept sound_a.sorted same.kept same.each)

pub same_sector : (a b : StoredSectors) → IsSound a → IsSound b → KeepSame a b → (sector : ℕ) → sector_at a sector ≡ sector_at b sector
same_sector a b sound_a sound_b same sector = ap (λ (s : StoredSectors). sector_at s sector) (keep_same a b sound_a sound_b same)

pub same_byte : (a b : StoredSectors) → IsSound a → IsSound b → KeepSame a b → (place : ℕ) → byte_at a place ≡ byte_at b place
same_byte a b sound_a sound_b same place = ap (λ (s : StoredSectors). byte_at s place) (keep_same a b sound_a sound_b same)

pub ruleset same_kept = (is_kept, keep_same, same_sector, same_byte)
