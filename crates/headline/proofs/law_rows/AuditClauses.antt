-- What each clause of the law of the audit says of a list.
use Rattle.std.proofs.Common.{◌≡◌, ℕ, ◌+◌, ◌<◌, List, [], ◌∷◌, ◌++◌, length, refl, inl}
use Rattle.audit.specs.declared.reason.AuditLine.{AuditLine}
use Rattle.audit.specs.declared.reason.Why.TheVariants.{ReadLocked}
use Rattle.methods.specs.Laws.{IsAmong}
use Rattle.history.specs.Opening.{Origin}
use Rattle.port_history.specs.declared.request.Request.TheVariants.{ReadDma}
use Rattle.port_history.specs.declared.step.Step.{Step}
use Rattle.port_history.specs.declared.step.Step.TheVariants.{Put, Issue, Accept}
use Rattle.port_history.specs.Steps.{trace, audit}
use Rattle.headline.specs.Denials.{IsAudited, IsDeniedStep, lines_at}
use Rattle.headline.proofs.law_rows.Lists.{locked, into_range, lays}

-- `denied`: a denied acceptance, the third step, has its line and no second one.
denied_says : IsAudited locked into_range
    → IsDeniedStep locked (lays 1 0 (ReadDma 109 2)) (Accept 0) 1 (ReadLocked 109 2 1)
    → lines_at 3 (audit (trace locked into_range))
    ≡ record { step = 3; client = 1; why = ReadLocked 109 2 1 } ∷ []
denied_says law step =
    law.denied [] (lays 1 0 (ReadDma 109 2)) (Accept 0) 1 (ReadLocked 109 2 1) refl step

-- `others`: the second step, which issues the command, has none.
others_says : IsAudited locked into_range → lines_at 2 (audit (trace locked into_range)) ≡ []
others_says law =
    law.others (Accept 0 ∷ []) (Put 1 0 (ReadDma 109 2) ∷ []) (Issue 0) refl
    (λ client why step. no_accept step.accepts)
  where
    no_accept : {tag : ℕ} → Issue 0 ≡ Accept tag → ⊥
    no_accept e = cc

-- `lines`: a line has the number of a step that accepts the command of its client, and what denied it.
lines_says : (o : Origin) (list : List Step) (line : AuditLine) → IsAudited o list
    → IsAmong (audit (trace o list)) line
    → (later before : List Step) × (step : Step) × (tag : ℕ) × (step ≡ Accept tag)
    × (list ≡ later ++ step ∷ before) × (line.step ≡ 1 + length before)
    × IsDeniedStep o before step line.client line.why
lines_says o list line law among =
    let its = law.lines line among in
    (its.later, its.before, its.step, its.denied.tag, its.denied.accepts, its.place, its.number, its.denied)

-- `rises`: the line of a newer step stands before that of an older one.
rises_says : (o : Origin) (list : List Step) (first second third : AuditLine) → IsAudited o list
    → audit (trace o list) ≡ first ∷ second ∷ third ∷ [] → third.step < second.step
rises_says o list first second third law lines =
    law.rises (first ∷ []) (third ∷ []) second third lines (inl refl)
