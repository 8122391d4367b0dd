-- A column among the cells of one row.
use Rattle.std.proofs.Common.{◌≡◌, ◌==◌, ◌<◌, ◌≤◌, ℕ, zero, suc, Bool, true, false, List, [], ◌∷◌, cond, Option, None, Some, refl, sym, ◌∙◌, ap, arith, take, drop, length, get_or, set, drop-cons}
use Rattle.std.proofs.Math.Nat.{not-suc-le-zero}
use Rattle.sp_cells.specs.declared.names.Column.{Column}
use Rattle.sp_cells.specs.declared.cells.Cell.{Cell}
use Rattle.sp_tables.specs.Items.{column_at, with_column}

-- the search ends here, or goes on
pub column_at-next : (cells : List (Column × Cell)) (i : ℕ) (p : Column × Cell) (c : Column) → i < length cells → p ≡ get_or cells i p → column_at (drop i cells) c ≡ cond (p.0.0 == c.0) (Some p.1) (column_at (drop (suc i) cells) c)
column_at-next cells i p c lt at =
    ap (λ cs. column_at cs c) (drop-cons cells i p lt) ∙ ap (λ r. cond (r.0.0 == c.0) (Some r.1) (column_at (drop (suc i) cells) c)) (sym at)

none-behind : (b : Bool) (x : Cell) (rest : Option Cell) → cond b (Some x) rest ≡ None → (b ≡ false) × (rest ≡ None)
none-behind true x rest h = cc
none-behind false x rest h = (refl, h)

-- none of the first i cells is of the column, nor is this one
pub column_at-more : (cells : List (Column × Cell)) (i : ℕ) (p : Column × Cell) (c : Column) → p ≡ get_or cells i p → column_at (take i cells) c ≡ None → (p.0.0 == c.0) ≡ false → column_at (take (suc i) cells) c ≡ None
column_at-more [] i p c at none is = refl
column_at-more (q ∷ cells) zero p c at none is = ap (λ r. cond (r.0.0 == c.0) (Some r.1) None) (sym at) ∙ ap (λ b. cond b (Some p.1) None) is
column_at-more (q ∷ cells) (suc i) p c at none is =
    let parts = none-behind (q.0.0 == c.0) q.1 (column_at (take i cells) c) none in
    ap (λ b. cond b (Some q.1) (column_at (take (suc i) cells) c)) parts.0 ∙ column_at-more cells i p c at parts.1 is

-- the first that is of the column is read
pub column_at-found : (cells : List (Column × Cell)) (i : ℕ) (p : Column × Cell) (c : Column) → i < length cells → p ≡ get_or cells i p → column_at (take i cells) c ≡ None → (p.0.0 == c.0) ≡ true → column_at cells c ≡ Some p.1
column_at-found [] i p c lt at none is = absurd (not-suc-le-zero lt)
column_at-found (q ∷ cells) zero p c lt at none is = ap (λ r. cond (r.0.0 == c.0) (Some r.1) (column_at cells c)) (sym at) ∙ ap (λ b. cond b (Some p.1) (column_at cells c)) is
column_at-found (q ∷ cells) (suc i) p c lt at none is =
    let parts = none-behind (q.0.0 == c.0) q.1 (column_at (take i cells) c) none in
    ap (λ b. cond b (Some q.1) (column_at cells c)) parts.0 ∙ column_at-found cells i p c (omega arith) at parts.1 is

-- and it is the one that changes
pub with_column-found : (cells : List (Column × Cell)) (i : ℕ) (p : Column × Cell) (c : Column) (v : Cell) → i < length cells → p ≡ get_or cells i p → column_at (take i cells) c ≡ None → (p.0.0 == c.0) ≡ true → set cells i (p.0, v) ≡ with_column cells c v
with_column-found [] i p c v lt at none is = absurd (not-suc-le-zero lt)
with_column-found (q ∷ cells) zero p c v lt at none is = sym (ap (λ r. cond (r.0.0 == c.0) ((r.0, v) ∷ cells) (r ∷ with_column cells c v)) (sym at) ∙ ap (λ b. cond b ((p.0, v) ∷ cells) (p ∷ with_column cells c v)) is)
with_column-found (q ∷ cells) (suc i) p c v lt at none is =
    let parts = none-behind (q.0.0 == c.0) q.1 (column_at (take i cells) c) none in
    ap (λ cs. q ∷ cs) (with_column-found cells i p c v (omega arith) at parts.1 is) ∙ sym (ap (λ b. cond b ((q.0, v) ∷ cells) (q ∷ with_column cells c v)) parts.0)

-- none is of the column, so none changes
pub with_column-beyond : (cells : List (Column × Cell)) (i : ℕ) (c : Column) (v : Cell) → length cells ≤ i → column_at (take i cells) c ≡ None → with_column cells c v ≡ cells
with_column-beyond [] i c v le none = refl
with_column-beyond (q ∷ cells) zero c v le none = absurd (not-suc-le-zero le)
with_column-beyond (q ∷ cells) (suc i) c v le none =
    let parts = none-behind (q.0.0 == c.0) q.1 (column_at (take i cells) c) none in
    ap (λ b. cond b ((q.0, v) ∷ cells) (q ∷ with_column cells c v)) parts.0 ∙ ap (λ cs. q ∷ cs) (with_column-beyond cells i c v (omega arith) parts.1)

-- what stands at a place is one thing
pub same-item : {A : Type 0} (xs : List A) (i : ℕ) (p q : A) → i < length xs → p ≡ get_or xs i p → q ≡ get_or xs i q → p ≡ q
same-item [] i p q lt a b = absurd (not-suc-le-zero lt)
same-item (x ∷ xs) zero p q lt a b = a ∙ sym b
same-item (x ∷ xs) (suc i) p q lt a b = same-item xs i p q (omega arith) a b
