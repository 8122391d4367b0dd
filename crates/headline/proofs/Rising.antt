-- What Get lists rises by its columns, as the columns of a kind do.
use Rattle.basics.specs.declared.profile.Profile.{Profile}
use Rattle.std.proofs.Common.{◌≡◌, ℕ, nat_lt, Bool, true, false, ◌&&◌, List, [], ◌∷◌, map, Option, None, Some, refl, arith, cond}
use Rattle.std.specs.Prelude.{filter, ◌++◌}
use Rattle.std.specs.List.{flat_map}
use Rattle.std.proofs.lemmas.Bool.Decides.{nat_tests}
use Rattle.sp_cells.specs.declared.names.Uid.{Uid}
use Rattle.sp_cells.specs.declared.names.Sp.{Sp}
use Rattle.sp_cells.specs.declared.names.Column.{Column}
use Rattle.sp_cells.specs.declared.cells.Cell.{Cell}
use Rattle.sp_cells.specs.Flat.{LookUp}
use Rattle.methods.specs.Kinds.{kind_of}
use Rattle.methods.specs.Columns.{columns_of}
use Rattle.methods.specs.Listed.{is_listed, shown_column, listed_among, listed}
use Rattle.methods.specs.Laws.{is_below, are_rising}
use Rattle.methods.proofs.ListLaws.{rise_law}

abbrev pub names : List (Column × Cell) → List Column
names pairs = map (λ (pair : Column × Cell). pair.0) pairs

both : (a b : Bool) → (a && b) ≡ true → (a ≡ true) × (b ≡ true)
both true b e = (refl, e)
both false b e = absurd (cc)

join : (a b : Bool) → a ≡ true → b ≡ true → (a && b) ≡ true
join a b e g = rw (e, g) refl

below : (n k : ℕ) → nat_lt n k ≡ true → (ks : List Column) → is_below k ks ≡ true → is_below n ks ≡ true
below n k h [] g = refl
below n k h (x ∷ ks) g = further h g
  where
    further : nat_lt n k ≡ true → nat_lt k x.0 ≡ true → nat_lt n x.0 ≡ true
    further a b = grind (arith, nat_tests)

-- what rises behind a column
record Rises (from to : List Column) : Type 0 where
  all : are_rising to ≡ true
  first : (n : ℕ) → is_below n from ≡ true → is_below n to ≡ true

with_shown : (k : Column) (x : Option Cell) (ks : List Column) (rest : List (Column × Cell))
    → is_below k.0 ks ≡ true → Rises ks (names rest)
    → Rises (k ∷ ks) (names (shown_column k x ++ rest))
with_shown k None ks rest over h = record {
  all = h.all;
  first = λ n low. below n k.0 low (names rest) (h.first k.0 over);
}
with_shown k (Some v) ks rest over h = record {
  all = join (is_below k.0 (names rest)) (are_rising (names rest)) (h.first k.0 over) h.all;
  first = λ n low. low;
}

without : (k : Column) (ks : List Column) (rest : List (Column × Cell)) → is_below k.0 ks ≡ true
    → Rises ks (names rest) → Rises (k ∷ ks) (names rest)
without k ks rest over h = with_shown k None ks rest over h

among : (test : Column → Bool) (cell : Column → Option Cell) (ks : List Column) → are_rising ks ≡ true
    → Rises ks (names (flat_map (λ (k : Column). shown_column k (cell k)) (filter test ks)))
among test cell [] h = record { all = refl; first = λ n low. refl }
among test cell (k ∷ ks) h =
    let p = both (is_below k.0 ks) (are_rising ks) h in
    by_test (test k) p.0 (among test cell ks p.1)
  where
    rest : List Column
    rest = filter test ks

    by_test : (b : Bool) → is_below k.0 ks ≡ true
        → Rises ks (names (flat_map (λ (k : Column). shown_column k (cell k)) rest))
        → Rises (k ∷ ks) (names (flat_map (λ (k : Column). shown_column k (cell k)) (cond b (k ∷ rest) rest)))
    by_test true over g = with_shown k (cell k) ks _ over g
    by_test false over g = without k ks _ over g

pub listed_rises : (profile : Profile) (look : LookUp) (sp : Sp) (object : Uid) (first last : ℕ) (held : List Uid)
    → are_rising (names (listed profile look sp object first last held)) ≡ true
unfolding listed_among
listed_rises profile look sp object first last held =
    (among (is_listed profile look sp object first last held) (look sp object) (columns_of (kind_of sp object))
    (rise_law (kind_of sp object))).all
