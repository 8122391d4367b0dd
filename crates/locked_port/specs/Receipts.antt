-- Receipts for the steps of a history.
use Rattle.std.specs.Prelude.{◌≡◌, ◌≢◌, ℕ, ◌+◌, ◌-◌, ◌<◌, ◌≤◌, List, length, Bool, true, false, Some, slice_get, slice_index_or, Any, AllPairs}
use Rattle.port_history.specs.declared.step.Entry.{Entry}
use Rattle.locked_port.specs.Counts.{is_client}
use Rattle.locked_port.specs.declared.ticket.Receipt.{Receipt}

-- No earlier receipt has the number of the one at this place.
abbrev pub HasOwnNumber : List Receipt → ℕ → Type 0
HasOwnNumber receipts at = (i : ℕ) (d : Receipt) → i < at
    → (slice_index_or receipts i d).number ≢ (slice_index_or receipts at d).number

-- The numbers differ from one another.
abbrev pub HaveOwnNumbers : List Receipt → Type 0
HaveOwnNumbers receipts = AllPairs (λ r s. r.number ≢ s.number) receipts

-- The step and the reply stand in the history at the number, which counts from 1.
abbrev pub IsShown : List Entry → Receipt → Type 0
IsShown history r = (0 < r.number)
    × (slice_get history (r.number - 1) ≡ Some record { step = r.step; reply = r.reply })

-- Some receipt has the number.
abbrev pub IsNamed : ℕ → List Receipt → Type 0
IsNamed number receipts = Any (λ r. r.number ≡ number) receipts

-- Each client step has a receipt.
abbrev pub AreNamed : List Entry → List Receipt → Type 0
AreNamed history receipts = (k : ℕ) (e : Entry) → slice_get history k ≡ Some e
    → is_client e.step ≡ true → IsNamed (k + 1) receipts

-- In a window of so many steps behind a place: no receipt has the number of an earlier one,
abbrev pub AreApartIn : ℕ → ℕ → List Receipt → Type 0
AreApartIn first size receipts = (j : ℕ) (d : Receipt) → j < length receipts
    → first < (slice_index_or receipts j d).number
    → (slice_index_or receipts j d).number ≤ first + size
    → HasOwnNumber receipts j

-- and each client step has a receipt.
abbrev pub AreNamedIn : ℕ → ℕ → List Entry → List Receipt → Type 0
AreNamedIn first size history receipts = (k : ℕ) (e : Entry) → k < size
    → slice_get history (first + k) ≡ Some e
    → is_client e.step ≡ true → IsNamed (first + k + 1) receipts

-- The marks of a window are those of the numbers that the first so many receipts have: none is missing,
abbrev pub AreThere : ℕ → List Receipt → ℕ → List Bool → Type 0
AreThere first receipts many marks = (i p : ℕ) (d : Receipt) → i < many → p < length marks
    → (slice_index_or receipts i d).number ≡ first + p + 1 → slice_index_or marks p false ≡ true

-- and none is too much.
abbrev pub AreOnly : ℕ → List Receipt → ℕ → List Bool → Type 0
AreOnly first receipts many marks = (p : ℕ) → slice_index_or marks p false ≡ true
    → (i : ℕ) × (r : Receipt) × (i < many) × (slice_index_or receipts i r ≡ r)
    × (r.number ≡ first + p + 1)

-- Each client step is marked that stands at one of the first so many places of a window.
abbrev pub AreMarked : List Entry → ℕ → List Bool → ℕ → Type 0
AreMarked history first marks many = (k : ℕ) (e : Entry) → k < many
    → slice_get history (first + k) ≡ Some e
    → is_client e.step ≡ true → slice_index_or marks k false ≡ true
