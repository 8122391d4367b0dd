-- The lists of all parts are the lists of the whole.
use Rattle.std.proofs.Common.{◌≡◌, ℕ, zero, suc, ◌<◌, ◌≤◌, ◌+◌, ◌-◌, ◌*◌, ◌/◌, ◌==◌, Bool, true, false, ◌||◌, ◌&&◌, nat_lt, List, [], ◌∷◌, ◌++◌, cond, length, take, drop, refl, sym, ap, ap₂, subst, ◌∙◌, arith, inl, inr, append-nil, min}
use Rattle.std.proofs.Math.Nat.{zero-mul, zero-div, mul-le-mul_right, div-mul-le_self, mul-div_cancel_left}
use Rattle.std.proofs.Math.Seq.{take-add, take-append_seam, take-length}
use Rattle.std.proofs.lemmas.Bool.{cases_lt, cases_Bool}
use Rattle.std.proofs.lemmas.Bool.Decides.{nat_tests}
use Rattle.std.proofs.lemmas.Grind.{flat_map-append}
use Rattle.std.proofs.lemmas.List.{append_assoc, length-append, length-take, take_all}
use Rattle.std.proofs.lemmas.Nat.{le-div}
use Rattle.std.specs.List.{fold, flat_map}
use Rattle.sp_cells.specs.Config.{Config}
use Rattle.runs.specs.Answers.{goes_on, tries_behind}
use Rattle.runs.specs.Lists.{with_list, with_longer, lists_of}
use Rattle.runs.specs.Shares.{edge, own_lists, lists_for_each, divided, next_front, front_of, told_in, told_lists}
use Rattle.runs.specs.declared.explored.front.Front.{Front}
use Rattle.runs.specs.declared.explored.search.Search.{Search}
use Rattle.runs.specs.declared.explored.share.Share.{Share}
use Rattle.runs.specs.declared.explored.tries.Try.{Try}

abbrev pub Lists : Type 0
Lists = List (List ℕ)

-- what stands for the parts from the first on, one behind the other
abbrev pub gathered : ℕ → (ℕ → Lists) → Lists
gathered zero part = []
gathered (suc n) part = gathered n part ++ part (n + 1)

abbrev pub share_at : ℕ → ℕ → Share
share_at count number = record { number = number; count = count }

pub gathered_same : (n : ℕ) (one other : ℕ → Lists) → ((k : ℕ) → one k ≡ other k) → gathered n one ≡ gathered n other
gathered_same zero one other same = refl
gathered_same (suc n) one other same = ap₂ (λ a b. a ++ b) (gathered_same n one other same) (same (n + 1))

-- lists that are divided
edges : (a b k : ℕ) → 0 < k → a ≤ b → a / k ≤ b / k
edges a b k some less = le-div (a / k) b k some (omega (arith, div-mul-le_self a k))

between : (a b : ℕ) (xs : Lists) → a ≤ b → take a xs ++ take (b - a) (drop a xs) ≡ take b xs
between a b xs less =
    let whole : a + (b - a) ≡ b = omega (arith, less) in
    sym (take-add a (b - a) xs) ∙ ap (λ n. take n xs) whole

own_front : (count n : ℕ) (xs : Lists) → 1 ≤ count → gathered n (λ k. own_lists (share_at count k) xs) ≡ take (edge count (length xs) n) xs
own_front count zero xs some =
    let none : edge count (length xs) 0 ≡ 0 = ap (λ z. z / count) (zero-mul (length xs)) ∙ zero-div count in
    sym (ap (λ n. take n xs) none)
own_front count (suc n) xs some =
    let one : n + 1 ≡ suc n = omega arith in
    let before : n + 1 - 1 ≡ n = omega arith in
    let less : edge count (length xs) n ≤ edge count (length xs) (suc n) =
    edges (n * length xs) (suc n * length xs) count some (mul-le-mul_right (length xs) (omega arith)) in
    ap₂ (λ a b. a ++ b) (own_front count n xs some)
    (ap₂ (λ e s. take (edge count (length xs) e - edge count (length xs) s) (drop (edge count (length xs) s) xs)) one before)
    ∙ between (edge count (length xs) n) (edge count (length xs) (suc n)) xs less

pub own_whole : (count : ℕ) (xs : Lists) → 1 ≤ count → gathered count (λ k. own_lists (share_at count k) xs) ≡ xs
own_whole count xs some =
    own_front count count xs some
    ∙ ap (λ n. take n xs) (mul-div_cancel_left (length xs) some)
    ∙ take-length xs

-- what is every part's, and told by the first
pub first_tells : (n : ℕ) (xs : Lists) → 1 ≤ n → gathered n (λ k. cond (k == 1) xs []) ≡ xs
first_tells zero xs some = absurd (omega (arith, some))
first_tells (suc zero) xs some = refl
first_tells (suc (suc n)) xs some =
    let other : (suc n + 1 == 1) ≡ false = grind (arith, nat_tests) in
    ap₂ (λ a t. a ++ cond t xs []) (first_tells (suc n) xs (omega arith)) other ∙ append-nil xs

-- the lists that go on, were there no limit
abbrev pub goers : List Try → Lists
goers [] = []
goers (try ∷ tries) = cond (goes_on try.answer) (try.list ∷ []) [] ++ goers tries

full : (ls more : Lists) (limit : ℕ) → length ls ≡ limit → take limit (ls ++ more) ≡ ls
full ls more limit is = ap (λ n. take n (ls ++ more)) (sym is) ∙ take-append_seam ls more

limited : (limit : ℕ) (tries : List Try) (ls : Lists) → length ls ≤ limit
    → fold (with_list limit) ls tries ≡ take limit (ls ++ goers tries)
limited limit [] ls within = sym (ap (take limit) (append-nil ls) ∙ take_all limit ls within)
limited limit (try ∷ tries) ls within = at (goes_on try.answer) (limited limit tries)
  where
    at : (t : Bool) → ((ls : Lists) → length ls ≤ limit → fold (with_list limit) ls tries ≡ take limit (ls ++ goers tries))
        → fold (with_list limit) (cond (t && nat_lt (length ls) limit) (ls ++ try.list ∷ []) ls) tries
        ≡ take limit (ls ++ (cond t (try.list ∷ []) [] ++ goers tries))
    at false behind = behind ls within
    at true behind =
        elim (cases_lt (length ls) limit) [
          | inl room ↦
              let has : nat_lt (length ls) limit ≡ true = grind (arith, nat_tests) in
              ap (λ t. fold (with_list limit) (cond t (ls ++ try.list ∷ []) ls) tries) has
              ∙ behind (ls ++ try.list ∷ []) (omega (arith, length-append ls (try.list ∷ [])))
              ∙ ap (take limit) (append_assoc ls (try.list ∷ []) (goers tries))
          | inr none ↦
              let has : nat_lt (length ls) limit ≡ false = grind (arith, nat_tests) in
              let is : length ls ≡ limit = omega (arith, within, none) in
              ap (λ t. fold (with_list limit) (cond t (ls ++ try.list ∷ []) ls) tries) has
              ∙ behind ls within
              ∙ full ls (goers tries) limit is
              ∙ sym (full ls (try.list ∷ goers tries) limit is)
        ]

taken_twice : (n : ℕ) (xs ys : Lists) → take n (take n xs ++ ys) ≡ take n (xs ++ ys)
taken_twice zero xs ys = refl
taken_twice (suc n) [] ys = refl
taken_twice (suc n) (x ∷ xs) ys = ap (λ l. x ∷ l) (taken_twice n xs ys)

module _ (config : Config) (search : Search) where
  abbrev pub goers_behind : List ℕ → Lists
  goers_behind list = goers (tries_behind config search.opening search.letters list)

  abbrev pub all_longer : Lists → Lists
  all_longer lists = flat_map goers_behind lists

  longer_limited : (lists ls : Lists) → length ls ≤ search.limit
      → fold (with_longer config search) ls lists ≡ take search.limit (ls ++ all_longer lists)
  longer_limited [] ls within = sym (ap (take search.limit) (append-nil ls) ∙ take_all search.limit ls within)
  longer_limited (list ∷ lists) ls within =
      let next : with_longer config search ls list ≡ take search.limit (ls ++ goers_behind list) =
      limited search.limit (tries_behind config search.opening search.letters list) ls within in
      ap (λ l. fold (with_longer config search) l lists) next
      ∙ longer_limited lists (take search.limit (ls ++ goers_behind list))
      (omega (arith, length-take search.limit (ls ++ goers_behind list)))
      ∙ taken_twice search.limit (ls ++ goers_behind list) (all_longer lists)
      ∙ ap (take search.limit) (append_assoc ls (goers_behind list) (all_longer lists))

  pub longer_is : (lists : Lists) → fold (with_longer config search) [] lists ≡ take search.limit (all_longer lists)
  longer_is lists = longer_limited lists [] (omega arith)

  pub all_gathered : (n : ℕ) (part : ℕ → Lists) → all_longer (gathered n part) ≡ gathered n (λ k. all_longer (part k))
  all_gathered zero part = refl
  all_gathered (suc n) part =
      flat_map-append goers_behind (gathered n part) (part (n + 1))
      ∙ ap (λ l. l ++ all_longer (part (n + 1))) (all_gathered n part)

-- a limit that is not reached
pub none_taken : (limit : ℕ) (xs : Lists) → length (take limit xs) < limit → take limit xs ≡ xs
none_taken limit xs less = take_all limit xs (omega (arith, less, length-take limit xs))

pub gathered_free : (n limit : ℕ) (part : ℕ → Lists) → length (gathered n part) < limit
    → gathered n (λ k. take limit (part k)) ≡ gathered n part
gathered_free zero limit part less = refl
gathered_free (suc n) limit part less =
    let sum = length-append (gathered n part) (part (n + 1)) in
    ap₂ (λ a b. a ++ b) (gathered_free n limit part (omega (arith, less, sum)))
    (take_all limit (part (n + 1)) (omega (arith, less, sum)))

pub part_within : (n k : ℕ) (part : ℕ → Lists) → 1 ≤ k → k ≤ n → length (part k) ≤ length (gathered n part)
part_within zero k part some within = absurd (omega (arith, some, within))
part_within (suc n) k part some within =
    let sum = length-append (gathered n part) (part (n + 1)) in
    elim (cases_lt n k) [
      | inl last ↦
          let is : k ≡ n + 1 = omega (arith, last, within) in
          omega (arith, ap (λ i. length (part i)) is, sum)
      | inr before ↦ omega (arith, part_within n k part some before, sum)
    ]
