-- The names of rows, one after another.
use Rattle.std.proofs.Common.{◌≡◌, ◌==◌, ◌+◌, ◌<◌, ℕ, zero, suc, List, [], ◌∷◌, ◌++◌, cond, map, sym, ◌∙◌, ap, arith, take, drop, length, get_or, drop-cons, append-nil}
use Rattle.std.specs.List.{flat_map}
use Rattle.std.proofs.lemmas.List.Concat.{flat_map-append}
use Rattle.std.proofs.Math.Seq.{take-suc}
use Rattle.sp_cells.specs.declared.names.Uid.{Uid}
use Rattle.sp_tables.specs.declared.row_names.Names.{Names}
use Rattle.sp_tables.specs.declared.row_names.TableRows.{TableRows}
use Rattle.sp_tables.specs.RowNames.{numbered_uids, uids_in, listed_table, rows_among}

-- the search ends at this table, or goes on
pub rows-next : (ts : List TableRows) (i : ℕ) (t : TableRows) (table : ℕ) → i < length ts → t ≡ get_or ts i t
    → rows_among (map listed_table (drop i ts)) table ≡ cond (t.table == table) (flat_map uids_in t.rows.now) (rows_among (map listed_table (drop (suc i) ts)) table)
rows-next ts i t table lt at =
    ap (λ xs. rows_among (map listed_table xs) table) (drop-cons ts i t lt) ∙ ap (λ r. cond (r.table == table) (flat_map uids_in r.rows.now) (rows_among (map listed_table (drop (suc i) ts)) table)) (sym at)

-- one more name of a family
pub numbered-more : (name : ℕ → Uid) (first i : ℕ) → numbered_uids name first (suc i) ≡ numbered_uids name first i ++ (name (first + i) ∷ [])
numbered-more name first zero = let e : first ≡ first + 0 = omega arith in ap (λ n. name n ∷ []) e
numbered-more name first (suc i) =
    let e : suc first + i ≡ first + suc i = omega arith in
    ap (λ os. name first ∷ os) (numbered-more name (suc first) i ∙ ap (λ n. numbered_uids name (suc first) i ++ (name n ∷ [])) e)

-- the names of one more entry
pub names-more : (es : List Names) (i : ℕ) (e : Names) → i < length es → e ≡ get_or es i e → flat_map uids_in (take (suc i) es) ≡ flat_map uids_in (take i es) ++ uids_in e
names-more es i e lt at =
    ap (flat_map uids_in) (take-suc es i e lt) ∙ flat_map-append uids_in (take i es) (get_or es i e ∷ []) ∙ ap (λ q. flat_map uids_in (take i es) ++ q) (append-nil (uids_in (get_or es i e)) ∙ ap uids_in (sym at))
