-- Slots none of which can keep back a queued command.
use Rattle.std.proofs.Common.{◌≡◌, ℕ, ◌<◌, ◌==◌, ◌&&◌, not, nat_lt, List, length, true, false, slice_set, ap, ◌∙◌, sym, refl, rules, inl, inr, eq-eqb, arith}
use Rattle.std.proofs.lemmas.Bool.{cases_eq, ne_eqb}
use Rattle.fis.specs.Tags.{slot_count}
use Rattle.history.specs.Decisions.{any_below}
use Rattle.port_history.specs.Stages.{keeps_back, is_queued_command}
use Rattle.port_history.specs.declared.stages.Stage.{Stage}
use Rattle.port_history.specs.declared.stages.Stage.TheVariants.{Free, Prepared, Issued, Accepted, Answered}
use Rattle.port.specs.Answers.{stage_at, may_keep_back}
use Rattle.port.proofs.Slots.{stage_set}
use Rattle.port.proofs.Tests.{none_below}

keeps_none : (number : ℕ) (stage : Stage) → may_keep_back stage ≡ false → keeps_back number stage ≡ false
keeps_none number Free h = refl
keeps_none number (Prepared put) h = ap (λ b. b && nat_lt put.number number) h
keeps_none number (Issued put) h = h
keeps_none number (Accepted put) h = refl
keeps_none number (Answered put) h = refl

-- none is kept back
pub none_kept : (slots : List Stage) (number : ℕ) → ((tag : ℕ) → tag < slot_count → may_keep_back (stage_at slots tag) ≡ false)
    → any_below (λ tag. keeps_back number (stage_at slots tag)) slot_count ≡ false
none_kept slots number h =
    none_below (λ (tag : ℕ). keeps_back number (stage_at slots tag)) slot_count (λ tag lt. keeps_none number (stage_at slots tag) (h tag lt))

-- one slot is set
pub none_after : (slots : List Stage) (tag : ℕ) (stage : Stage) → tag < length slots → may_keep_back stage ≡ false
    → ((t : ℕ) → t < slot_count → may_keep_back (stage_at slots t) ≡ false)
    → (t : ℕ) → t < slot_count → may_keep_back (stage_at (slice_set slots tag stage) t) ≡ false
none_after slots tag stage lt here others t below =
    elim (cases_eq tag t) [
      | inl same ↦ ap may_keep_back (stage_set slots tag t stage lt ∙ rw (eq-eqb tag t same) refl) ∙ here
      | inr other ↦ ap may_keep_back (stage_set slots tag t stage lt ∙ rw (ne_eqb tag t other) refl) ∙ others t below
    ]
