use Rattle.std.proofs.Common.{◌∙◌, ℕ, sym, ap, subst}
use Rattle.reasons.specs.declared.explained.onset.Source.{Source}
use Rattle.reasons.specs.declared.explained.onset.Cause.{Cause}
use Rattle.reasons.specs.declared.explained.onset.Onset.TheVariants.{AtAct}
use Rattle.reasons.specs.Lives.{KeptLives, RecountsLives}
use Rattle.reasons.proofs.explained.Living.{goes_on}
use Rattle.reasons.proofs.explained.lives.SessionChronicle.note_act.Goals as goal

pub returns : goal.returns
returns c = λ o s past source cause admin locking kept.
    let new = c.note.new.self in
    goes_on o s past _ new c.args.admin c.args.locking _
    c.note.ensures.acts
    (ap (λ (n : ℕ). AtAct n c.args.source c.args.cause) (sym c.note.ensures.acts)
    ∙ ap (λ (x : Source). AtAct new.acts x c.args.cause) (sym source)
    ∙ ap (λ (x : Cause). AtAct new.acts s.source x) (sym cause))
    c.note.ensures.next c.note.ensures.on_admin c.note.ensures.on_locking admin locking
    (subst (λ (k : KeptLives). RecountsLives k o past) (sym c.self.view_is) kept)
