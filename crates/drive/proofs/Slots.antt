-- The slots of held transfers.
use Rattle.std.proofs.Common.{◌≡◌, ℕ, ◌<◌, true, false, List, length, replicate, slice_set, ◌==◌, if◌then◌else◌, Option, Some, None, refl, sym, subst, arith, inl, inr}
use Rattle.std.proofs.lemmas.Bool.{cases_lt}
use Rattle.std.proofs.lemmas.Grind.{common_steps}
use Rattle.std.proofs.lemmas.List.{get_or-replicate, get_or_past}
use Rattle.drive.specs.declared.transfer.Held.{Held}
use Rattle.drive.specs.declared.queue.Queue.{Queue}
use Rattle.drive.specs.Transfer.{StandsOnDrive}
use Rattle.drive.specs.Queue.{slot_at, empty_slots, empty_queue, with_slot, SlotFits, AllFit}

pub no_slot : (t : ℕ) → slot_at empty_slots t ≡ None
unfolding empty_slots
no_slot t =
    elim (cases_lt t 32) [
      | inl lt ↦ get_or-replicate 32 t None None lt
      | inr le ↦ get_or_past (replicate 32 None) t None (omega arith)
    ]

pub none_length : length empty_slots ≡ 32
unfolding empty_slots
none_length = refl

-- one slot is filled or emptied, and the others stay
pub slot_set : (slots : List (Option Held)) (tag t : ℕ) (x : Option Held) → tag < length slots → slot_at (slice_set slots tag x) t ≡ (if tag == t then x else slot_at slots t)
slot_set slots tag t x lt = grind (arith, common_steps)

pub none_fit : (sectors mbr : ℕ) → AllFit sectors mbr empty_queue
none_fit sectors mbr t = subst (SlotFits sectors mbr) (sym (no_slot t)) tt

pub fit_set : (x : Option Held) (tag : ℕ) (queue : Queue) (sectors mbr : ℕ) → length queue.slots ≡ 32 → tag < 32 → SlotFits sectors mbr x → AllFit sectors mbr queue → AllFit sectors mbr (with_slot tag x queue)
fit_set x tag queue sectors mbr len small its fit = λ t.
    subst (SlotFits sectors mbr) (sym (slot_set queue.slots tag t x (omega (arith, small, len))))
    (elim (tag == t) as (λ b. SlotFits sectors mbr (if b then x else slot_at queue.slots t)) [ true ↦ its | false ↦ fit t ])

-- what is held fits with one more, or one less
pub fit_with : (held : Held) (tag : ℕ) (queue : Queue) (sectors mbr : ℕ) → length queue.slots ≡ 32 → tag < 32 → StandsOnDrive sectors mbr held → AllFit sectors mbr queue → AllFit sectors mbr (with_slot tag (Some held) queue)
fit_with held tag queue sectors mbr len small its fit = fit_set (Some held) tag queue sectors mbr len small its fit

pub fit_without : (tag : ℕ) (queue : Queue) (sectors mbr : ℕ) → length queue.slots ≡ 32 → tag < 32 → AllFit sectors mbr queue → AllFit sectors mbr (with_slot tag None queue)
fit_without tag queue sectors mbr len small fit = fit_set None tag queue sectors mbr len small tt fit
