use Rattle.std.proofs.Common.{◌≡◌, ℕ, false, ◌∷◌, List, refl, sym, ap, ◌∙◌, subst, rules}
use Rattle.std.specs.Prelude.{Some, slice_set}
use Rattle.fis.specs.declared.any.Fis.{Fis}
use Rattle.history.specs.History.{Complete as CompleteTag}
use Rattle.drive.specs.State.{Agrees as DriveAgrees}
use Rattle.port.specs.declared.outcome.Outcome.TheVariants as outcomes
use Rattle.port.specs.Answers.{buffer_front}
use Rattle.port.specs.State.{Receives, IsFilled}
use Rattle.port.proofs.bare.BarePort.complete_put.Goals as goal

pub returns-clause-state : goal.returns-clause-state
returns-clause-state c =
    let filled = c.take_in-len.ensures.filled in
    rw (← c.self.view_is) (λ history audit long. record {
      put = c.args.put;
      was = rw (← c.self.view_is) at c.requires.put;
      done = c.in-Ok.done;
      bytes = filled.0;
      drive = λ o acts h. rw c.give_back.ensures (subst (λ (xs : List ℕ). DriveAgrees c.complete.new.self o (CompleteTag c.args.tag xs ∷ acts)) (c.front-payload.ensures.value ∙ ap (buffer_front c.self.inside.memory c.args.tag) c.expects-len.ensures.stands) (c.in-Ok.ensures.agrees o acts h));
      answers = c.in-Ok.ensures.answer;
      memory = subst (λ (xs : List ℕ). IsFilled c.self.inside.memory c.take_in-len.new.memory c.args.tag false xs filled.0) c.deref.ensures.value filled.2;
      received = subst (Receives c.self.inside.memory c.take_in-len.new.memory) (c.as_slice-fises.ensures.value ∙ c.fises-told.ensures) c.take_in-len.ensures.received;
      slots = search rules;
      outcomes = (let h = filled.1 in search (rules, h));
      failed = refl;
      regs = search rules;
      history = refl;
      audit = refl;
      rule = refl;
    })
