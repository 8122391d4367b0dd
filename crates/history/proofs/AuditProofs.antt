-- The audit lines are those of the denied acts.
use Rattle.std.proofs.Common.{◌≡◌, ◌+◌, ℕ, List, [], ◌∷◌, ◌++◌, length, Option, Some, None, refl, sym, ◌∙◌, ap, ◌⊎◌, inl, inr}
use Rattle.audit.specs.declared.reason.Why.{Why}
use Rattle.audit.specs.declared.reason.AuditLine.{AuditLine}
use Rattle.history.specs.Opening.{Origin}
use Rattle.methods.specs.Laws.{IsAmong}
use Rattle.history.specs.Audit.{ClientAct, event_of, line_for, audit_of_acts, IsLineOfAct, ActAuditLaw}

none-some : {A : Type 0} {x : A} → None ≡ Some x → ⊥
none-some h = cc

among-left : {A : Type 0} (xs ys : List A) (y : A) → IsAmong xs y → IsAmong (xs ++ ys) y
among-left [] ys y h = absurd h
among-left (x ∷ xs) ys y (inl h) = inl h
among-left (x ∷ xs) ys y (inr h) = inr (among-left xs ys y h)

among-right : {A : Type 0} (xs ys : List A) (y : A) → IsAmong ys y → IsAmong (xs ++ ys) y
among-right [] ys y h = h
among-right (x ∷ xs) ys y h = inr (among-right xs ys y h)

among-cases : {A : Type 0} (xs ys : List A) (y : A) → IsAmong (xs ++ ys) y → IsAmong xs y ⊎ IsAmong ys y
among-cases [] ys y h = inr h
among-cases (x ∷ xs) ys y (inl h) = inl (inl h)
among-cases (x ∷ xs) ys y (inr h) = elim (among-cases xs ys y h) [ inl g ↦ inl (inr g) | inr g ↦ inr g ]

-- the line of the newest act
newest-is : (o : Origin) (c : ClientAct) (before : List ClientAct) (line : AuditLine) (why : Option Why) → (event_of o c before).denied ≡ why → IsAmong (line_for (length before + 1) c.0 why) line → IsLineOfAct o (c ∷ before) line
newest-is o c before line None is h = absurd h
newest-is o c before line (Some why) is (inr h) = absurd h
newest-is o c before line (Some why) is (inl h) = record {
  later = [];
  one = c;
  before = before;
  place = refl;
  step = ap (λ (l : AuditLine). l.step) (sym h);
  client = ap (λ (l : AuditLine). l.client) (sym h);
  denied = is ∙ ap (λ (l : AuditLine). Some l.why) h;
}

older-is : (o : Origin) (c : ClientAct) (before : List ClientAct) (line : AuditLine) → IsLineOfAct o before line → IsLineOfAct o (c ∷ before) line
older-is o c before line w =
    record { later = c ∷ w.later; one = w.one; before = w.before; place = ap (λ xs. c ∷ xs) w.place; step = w.step; client = w.client; denied = w.denied }

line-is : (o : Origin) (made : List ClientAct) (line : AuditLine) → IsAmong (audit_of_acts o made) line → IsLineOfAct o made line
line-is o [] line h = absurd h
line-is o (c ∷ before) line h = elim (among-cases (line_for (length before + 1) c.0 (event_of o c before).denied) (audit_of_acts o before) line h) [
  | inl here ↦ newest-is o c before line (event_of o c before).denied refl here
  | inr rest ↦ older-is o c before line (line-is o before line rest)
]

same-line : (line : AuditLine) (step client : ℕ) (why : Why) → line.step ≡ step → line.client ≡ client → line.why ≡ why → record { step = step; client = client; why = why } ≡ line
same-line line step client why a b c = rw (← a, ← b, ← c) refl

newest-in : (o : Origin) (c : ClientAct) (before : List ClientAct) (line : AuditLine) (why : Option Why) → (event_of o c before).denied ≡ why → line.step ≡ length before + 1 → line.client ≡ c.0 → why ≡ Some line.why → IsAmong (line_for (length before + 1) c.0 why) line
newest-in o c before line None is step client denied = absurd (none-some denied)
newest-in o c before line (Some why) is step client denied = inl (same-line line (length before + 1) c.0 why step client (sym (some-same denied)))
  where
    some-same : {x y : Why} → Some x ≡ Some y → x ≡ y
    some-same h = cc

is-line : (o : Origin) (made : List ClientAct) (line : AuditLine) (later : List ClientAct) (one : ClientAct) (before : List ClientAct) → made ≡ later ++ one ∷ before → line.step ≡ length before + 1 → line.client ≡ one.0 → (event_of o one before).denied ≡ Some line.why → IsAmong (audit_of_acts o made) line
is-line o made line [] one before place step client denied =
    rw place (among-left (line_for (length before + 1) one.0 (event_of o one before).denied) (audit_of_acts o before) line (newest-in o one before line (event_of o one before).denied refl step client denied))
is-line o made line (c ∷ later) one before place step client denied =
    rw place (among-right (line_for (length (later ++ one ∷ before) + 1) c.0 (event_of o c (later ++ one ∷ before)).denied) (audit_of_acts o (later ++ one ∷ before)) line (is-line o (later ++ one ∷ before) line later one before refl step client denied))

pub audit_law : ActAuditLaw
audit_law o made line = (line-is o made line, λ w. is-line o made line w.later w.one w.before w.place w.step w.client w.denied)
