use Rattle.std.proofs.Common.{sym, ap, ◌∙◌, subst}
use Rattle.port_history.specs.declared.step.Step.TheVariants as steps
use Rattle.port.specs.State.{BareState, MakesNoted, IsAccepted, entry_of}
use Rattle.port.proofs.live.LivePort.do_accept.Goals as goal

pub returns-clause-state : goal.returns-clause-state
returns-clause-state c = rw (← c.self.view_is) (record {
  line = c.in_ok-line.line;
  noted = c.note.ensures.noted;
  state = λ f e. subst (λ (b : BareState). MakesNoted c.self.inside.bare b (entry_of (steps.Accept c.args.tag)) c.in_ok-line.line (λ p q. IsAccepted p q c.args.tag f.fis)) (sym c.note.ensures.bare) (c.in_ok-line.ensures.state f e);
  count = ap (λ (b : BareState). b.count) c.note.ensures.bare ∙ c.in_ok-line.ensures.count ∙ c.in_ok-number.ensures;
})
