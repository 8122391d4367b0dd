-- The windows of a history, one after another.
use Rattle.std.proofs.Common.{◌≡◌, ℕ, Bool, ◌<◌, ◌≤◌, ◌+◌, ◌-◌, ◌*◌, ◌⊎◌, inl, inr, length, true, List, Some, slice_get, slice_index_or, All, sym, subst, arith}
use Rattle.std.proofs.lemmas.Bool.{cases_lt}
use Rattle.std.proofs.lemmas.Option.{slice_get_within}
use Rattle.locked_port.specs.Receipts.{HasOwnNumber, IsNamed, IsShown, HaveOwnNumbers, AreNamed, AreApartIn, AreNamedIn, AreOnly, AreMarked}
use Rattle.locked_port.specs.Counts.{is_client}
use Rattle.port_history.specs.declared.step.Entry.{Entry}
use Rattle.locked_port.specs.declared.ticket.Receipt.{Receipt}

-- up to a place, no two receipts have one number, and each client step has one
pub record AreMatchedBelow (place : ℕ) (history : List Entry) (receipts : List Receipt) : Type 0 where
  pub apart : AreApartIn 0 place receipts
  pub named : (k : ℕ) (e : Entry) → k < place → slice_get history k ≡ Some e → is_client e.step ≡ true → IsNamed (k + 1) receipts

-- one window more
pub window_more : (first size next : ℕ) (history : List Entry) (receipts : List Receipt) → next ≡ first + size → AreMatchedBelow first history receipts
    → AreApartIn first size receipts → AreNamedIn first size history receipts → AreMatchedBelow next history receipts
window_more first size next history receipts is below apart named = record {
  apart = λ j d within above least. elim (cases_lt first (slice_index_or receipts j d).number) [
    | inl behind ↦ apart j d within behind (omega (arith, least, is))
    | inr before ↦ below.apart j d within above (omega (arith, before))
  ];
  named = λ k e lt there client. elim (cases_lt k first) [
    | inl before ↦ below.named k e before there client
    | inr behind ↦
        let same : first + (k - first) ≡ k = omega (arith, behind) in
        subst (λ (n : ℕ). IsNamed (n + 1) receipts) same
        (named (k - first) e (omega (arith, lt, is, behind)) (subst (λ (n : ℕ). slice_get history n ≡ Some e) (sym same) there) client)
  ];
}

-- all windows
pub all_windows : (place : ℕ) (history : List Entry) (receipts : List Receipt) → length history ≤ place → AreMatchedBelow place history receipts
    → AreApartIn 0 (length history) receipts × AreNamed history receipts
all_windows place history receipts enough below = (
  (λ j d within above least. below.apart j d within above (omega (arith, least, enough))),
  (λ k e there client. let lt = slice_get_within history k e there in below.named k e (omega (arith, lt, enough)) there client),
)

-- receipts that the history shows have numbers of it
pub apart_of_shown : (history : List Entry) (receipts : List Receipt) → All (IsShown history) receipts → AreApartIn 0 (length history) receipts → HaveOwnNumbers receipts
apart_of_shown history receipts shown apart i j d before within =
    let here = shown j d within in
    let above : 0 < (slice_index_or receipts j d).number = here.0 in
    let least = slice_get_within history ((slice_index_or receipts j d).number - 1) _ here.1 in
    apart j d within above (omega (arith, above, least)) i d before

-- where each client step of a window is marked, and no mark is too much, each has a receipt
pub named_of_marked : (first size : ℕ) (history : List Entry) (receipts : List Receipt) (marks : List Bool) → length marks ≡ size
    → AreOnly first receipts (length receipts) marks → AreMarked history first marks (length marks) → AreNamedIn first size history receipts
named_of_marked first size history receipts marks is only marked k e lt there client =
    only k (marked k e (omega (arith, lt, is)) there client)
