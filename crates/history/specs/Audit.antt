-- The audit lines of a list of acts: one for each act that was denied, with its number and its
-- client. The newest comes first.
use Rattle.std.specs.Prelude.{◌≡◌, ◌↔◌, ◌+◌, ℕ, List, [], ◌∷◌, ◌++◌, length, map, Option, Some, None}
use Rattle.audit.specs.declared.reason.Why.{Why}
use Rattle.audit.specs.declared.reason.AuditLine.{AuditLine}
use Rattle.history.specs.Opening.{Origin}
use Rattle.history.specs.Events.{Event}
use Rattle.history.specs.History.{Act, event, log}
use Rattle.methods.specs.Laws.{IsAmong}

-- An act with the client that it is for.
abbrev pub ClientAct : Type 0
ClientAct = ℕ × Act

abbrev pub audited_acts : List ClientAct → List Act
audited_acts made = map (λ c. c.1) made

-- What an act did, after those before it.
abbrev pub event_of : Origin → ClientAct → List ClientAct → Event
event_of o c before = event o (log o (audited_acts before)) c.1

abbrev pub line_for : ℕ → ℕ → Option Why → List AuditLine
line_for step client None = []
line_for step client (Some why) = record { step = step; client = client; why = why } ∷ []

-- Acts are counted from 1.
abbrev pub audit_of_acts : Origin → List ClientAct → List AuditLine
audit_of_acts o [] = []
audit_of_acts o (c ∷ before) =
    line_for (length before + 1) c.0 (event_of o c before).denied ++ audit_of_acts o before

-- The line of a denied act: with its number, its client and what denied it.
pub record IsLineOfAct (o : Origin) (made : List ClientAct) (line : AuditLine) : Type 0 where
  pub later : List ClientAct
  pub one : ClientAct
  pub before : List ClientAct
  pub place : made ≡ later ++ one ∷ before
  pub step : line.step ≡ length before + 1
  pub client : line.client ≡ one.0
  pub denied : (event_of o one before).denied ≡ Some line.why

-- The lines are those of the denied acts, and no others.
abbrev pub ActAuditLaw : Type 0
ActAuditLaw =
    (o : Origin) (made : List ClientAct) (line : AuditLine)
    → IsAmong (audit_of_acts o made) line ↔ IsLineOfAct o made line
