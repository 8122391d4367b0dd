-- Rows that are added one after another.
use Rattle.std.proofs.Common.{◌≡◌, ℕ, suc, ◌+◌, List, [], ◌∷◌, ◌++◌, length, refl, sym, ◌∙◌, ap, arith, append_assoc, append-nil, add-one, ◌<◌, take, get_or}
use Rattle.std.specs.List.{flat_map}
use Rattle.std.proofs.lemmas.List.Concat.{flat_map-append}
use Rattle.std.proofs.Math.Seq.{take-suc}
use Rattle.sp_cells.specs.declared.names.Column.{Column}
use Rattle.sp_cells.specs.declared.cells.Cell.{Cell}
use Rattle.sp_cells.specs.Names.{uid}
use Rattle.sp_tables.specs.Items.{Item, row_items, rows_from}
use Rattle.sp_tables.specs.Factory.{family}

pub flat_map-push : {R : Type 0} (f : R → List Item) (rows : List R) (r : R) → flat_map f (rows ++ r ∷ []) ≡ flat_map f rows ++ f r
flat_map-push f rows r = flat_map-append f rows (r ∷ []) ∙ ap (λ x. flat_map f rows ++ x) (append-nil (f r))

-- one more row at the end
pub rows_from-push : {R : Type 0} (f : R → List (Column × Cell)) (rows : List R) (first i : ℕ) (r : R) → length rows ≡ i → rows_from f first (rows ++ r ∷ []) ≡ rows_from f first rows ++ row_items (uid (first + i)) (f r)
rows_from-push f [] first i r h = let e : first ≡ first + i = omega (arith, h) in append-nil (row_items (uid first) (f r)) ∙ ap (λ n. row_items (uid n) (f r)) e
rows_from-push f (x ∷ xs) first i r h =
    let n : ℕ = length xs in
    let e : suc first + n ≡ first + i = omega (arith, h) in
    ap (λ q. row_items (uid first) (f x) ++ q) (rows_from-push f xs (suc first) n r refl ∙ ap (λ m. rows_from f (suc first) xs ++ row_items (uid m) (f r)) e) ∙ sym (append_assoc (row_items (uid first) (f x)) (rows_from f (suc first) xs) (row_items (uid (first + i)) (f r)))

family-more : (base : ℕ) (values : ℕ → List (Column × Cell)) (i : ℕ) → family base values (i + 1) ≡ family base values i ++ row_items (uid (base + (i + 1))) (values (i + 1))
family-more base values i = rw (add-one i) refl

-- one more row of a family
pub family-step : {R : Type 0} (f : R → List (Column × Cell)) (base : ℕ) (values : ℕ → List (Column × Cell)) (i : ℕ) (rows next : List R) (r : R) → next ≡ rows ++ r ∷ [] → f r ≡ values (i + 1) → length rows ≡ i → rows_from f (base + 1) rows ≡ family base values i → rows_from f (base + 1) next ≡ family base values (i + 1)
family-step f base values i rows next r new is len now =
    let e : base + 1 + i ≡ base + (i + 1) = omega arith in
    ap (rows_from f (base + 1)) new ∙ rows_from-push f rows (base + 1) i r len ∙ ap (λ q. q ++ row_items (uid (base + 1 + i)) (f r)) now ∙ ap (λ n. family base values i ++ row_items (uid n) (f r)) e ∙ ap (λ v. family base values i ++ row_items (uid (base + (i + 1))) v) is ∙ sym (family-more base values i)

-- the rows of one more entry
pub entries-step : {R E : Type 0} (f : R → List Item) (g : E → List Item) (old runs new : List R) (es : List E) (i : ℕ) (e : E) → i < length es → e ≡ get_or es i e → flat_map f runs ≡ flat_map f old ++ flat_map g (take i es) → flat_map f new ≡ flat_map f runs ++ g e → flat_map f new ≡ flat_map f old ++ flat_map g (take (i + 1) es)
entries-step f g old runs new es i e lt at inv h =
    let more : take (i + 1) es ≡ take i es ++ (get_or es i e ∷ []) = rw (add-one i) (take-suc es i e lt) in
    let last : flat_map g (take (i + 1) es) ≡ flat_map g (take i es) ++ g e = ap (flat_map g) more ∙ flat_map-append g (take i es) (get_or es i e ∷ []) ∙ ap (λ q. flat_map g (take i es) ++ q) (append-nil (g (get_or es i e)) ∙ ap g (sym at)) in
    h ∙ ap (λ q. q ++ g e) inv ∙ append_assoc (flat_map f old) (flat_map g (take i es)) (g e) ∙ ap (λ q. flat_map f old ++ q) (sym last)

pub ruleset pushing = (flat_map-push, append_assoc, append-nil)
