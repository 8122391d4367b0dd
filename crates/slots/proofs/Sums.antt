-- The descriptors of a table, one after the other.
use Rattle.std.proofs.Common.{◌≡◌, ℕ, ◌+◌, ◌<◌, true, false, List, [], ◌∷◌, ◌++◌, refl, sym, ap, ◌∙◌, arith}
use Rattle.std.specs.List.{list_all}
use Rattle.std.proofs.lemmas.List.Folds.{list_all-append, list_all_at}
use Rattle.std.proofs.lemmas.List.FromFn.{map-range_with_len_more, length-map-range_with_len, get_or-map-range_with_len, sum_by-map-range_with_len_more}
use Rattle.std.proofs.lemmas.List.Sums.{sum-map}
use Rattle.slots.specs.Table.{is_sound, byte_count_field, entry_at, descriptors, bytes_of}

one_more : (memory : List ℕ) (table k : ℕ) → descriptors memory table (k + 1) ≡ descriptors memory table k ++ entry_at memory table k ∷ []
one_more memory table k = map-range_with_len_more (entry_at memory table) 0 k k (omega arith)

pub one_more_sound : (memory : List ℕ) (table k : ℕ) → list_all is_sound (descriptors memory table k) ≡ true → is_sound (entry_at memory table k) ≡ true → list_all is_sound (descriptors memory table (k + 1)) ≡ true
one_more_sound memory table k before here =
    ap (list_all is_sound) (one_more memory table k) ∙ list_all-append is_sound (descriptors memory table k) (entry_at memory table k ∷ []) ∙ rw (before, here) refl

pub one_more_sum : (memory : List ℕ) (table k : ℕ) → bytes_of (descriptors memory table (k + 1)) ≡ bytes_of (descriptors memory table k) + byte_count_field (entry_at memory table k)
one_more_sum memory table k =
    sum-map byte_count_field (descriptors memory table (k + 1))
    ∙ sum_by-map-range_with_len_more byte_count_field (entry_at memory table) 0 k k (omega arith)
    ∙ ap (λ (s : ℕ). s + byte_count_field (entry_at memory table k)) (sym (sum-map byte_count_field (descriptors memory table k)))

pub unsound : (memory : List ℕ) (table k n : ℕ) → k < n → is_sound (entry_at memory table k) ≡ false → list_all is_sound (descriptors memory table n) ≡ false
unsound memory table k n below bad =
    list_all_at is_sound (descriptors memory table n) k [] (omega (arith, length-map-range_with_len (entry_at memory table) 0 n))
    (ap is_sound (get_or-map-range_with_len (entry_at memory table) 0 n k k [] below (omega arith)) ∙ bad)
