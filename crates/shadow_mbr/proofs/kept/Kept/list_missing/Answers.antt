use Rattle.std.proofs.Common.{inl, inr, [], ◌∷◌, ◌++◌, ◌≡◌, ◌+◌, ◌&&◌, ◌||◌, ◌≤◌, ℕ, List, Bool, true, false, not, nat_le, nat_lt, nat_eq, ap, refl, sym, ◌∙◌, arith}
use Rattle.std.specs.Prelude.{is_some}
use Rattle.std.proofs.lemmas.Bool.Decides.{nat_tests}
use Rattle.shadow_mbr.specs.Stored.{block_in}
use Rattle.shadow_mbr.specs.Places.{place_at}
use Rattle.std.specs.List.{list_any}
use Rattle.std.proofs.lemmas.Bool.{cases_eq}
use Rattle.std.proofs.lemmas.List.Folds.{list_any-append}
use Rattle.shadow_mbr.proofs.Blocks.{same_none}
use Rattle.shadow_mbr.proofs.kept.Kept.list_missing.Goals as goal
use Rattle.shadow_mbr.proofs.kept.Kept.list_missing.Goals.{then-is_none+in_ok-push, else-is_none}

not_true : (none some : Bool) → some ≡ not none → none ≡ true → some ≡ false
not_true none some is yields = is ∙ ap not yields

or_false : (a b : Bool) → (a || (b || false)) ≡ (a || b)
or_false true b = refl
or_false false true = refl
or_false false false = refl

one_listed : (s n : ℕ) (xs : List ℕ) → list_any (nat_eq s) (xs ++ n ∷ []) ≡ (list_any (nat_eq s) xs || nat_eq s n)
one_listed s n xs = list_any-append (nat_eq s) xs (n ∷ []) ∙ or_false (list_any (nat_eq s) xs) (nat_eq s n)

lists_one : (has : ℕ → Bool) (first n s : ℕ) (listed : Bool) → first ≤ n → has n ≡ false → listed ≡ (nat_le first s && nat_lt s n && not (has s)) → (listed || nat_eq s n) ≡ (nat_le first s && nat_lt s (n + 1) && not (has s))
lists_one has first n s listed from none was =
    elim (cases_eq s n) [
      | inl same ↦ rw (was, same, none) (grind (arith, nat_tests))
      | inr apart ↦ rw was (grind (arith, nat_tests))
    ]

lists_none : (has : ℕ → Bool) (first n s : ℕ) (listed : Bool) → has n ≡ true → listed ≡ (nat_le first s && nat_lt s n && not (has s)) → listed ≡ (nat_le first s && nat_lt s (n + 1) && not (has s))
lists_none has first n s listed some was =
    elim (cases_eq s n) [
      | inl same ↦ rw (was, same, some) (grind (arith, nat_tests))
      | inr apart ↦ rw was (grind (arith, nat_tests))
    ]

pub loop-sector-preserved : goal.loop-sector-preserved
loop-sector-preserved c =
    let n = c.loop-sector.sector in
    let place : c.at.result ≡ place_at c.self.inside.places n = c.at.ensures.value ∙ ap (λ (ps : List (ℕ × ℕ)). place_at ps n) (c.loop-sector.invariant.finder ∙ c.finder-finder.ensures) in
    let here : is_some (block_in c.args.self.now n) ≡ is_some c.at.result = rw (sym c.self.view_is) (same_none c.self.inside.places c.self.inside.blocks.items n c.at.result place) in
    record {
      finder = c.at.ensures.same ∙ c.loop-sector.invariant.finder;
      lists = λ s. elim c.if-is_none.branch [
        | then-is_none+in_ok-push w ↦
            let none = here ∙ not_true c.is_none.result (is_some c.at.result) c.is_none.ensures w.if-is_none.true in
            rw (w.missing-is, w.in_ok-push.ensures.items)
            (one_listed s n c.loop-sector.missing.items ∙ lists_one (λ s. is_some (block_in c.args.self.now s)) c.args.first n s _ c.loop-sector.auto.sector none (c.loop-sector.invariant.lists s))
        | else-is_none w ↦
            let some = here ∙ w.if-is_none.ensures in
            rw w.missing-is (lists_none (λ s. is_some (block_in c.args.self.now s)) c.args.first n s _ some (c.loop-sector.invariant.lists s))
      ];
    }
