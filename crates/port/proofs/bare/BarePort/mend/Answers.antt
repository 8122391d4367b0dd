use Rattle.std.proofs.Common.{◌≡◌, ℕ, ◌∷◌, List, [], refl, sym, ap, ◌∙◌, subst, rules}
use Rattle.fis.specs.H2d.{h2d_at}
use Rattle.fis.specs.declared.any.Fis.{Fis}
use Rattle.history.specs.Facts.{facts}
use Rattle.history.specs.History.{Accept as AcceptFis, log, event}
use Rattle.drive.specs.Answers.{IsAnswer}
use Rattle.drive.specs.State.{Agrees as DriveAgrees}
use Rattle.port.specs.State.{Receives}
use Rattle.port.proofs.bare.BarePort.mend.Goals as goal

pub returns-clause-state : goal.returns-clause-state
returns-clause-state c =
    let page : c.deref.result.now ≡ c.in-Ok.answer.bytes.items = c.deref.ensures.value in
    rw (← c.self.view_is) (λ history audit long. record {
      answer = c.in-Ok.answer;
      was = rw (← c.self.view_is) at c.requires.failed;
      took = record {
        drive = λ o acts h. subst (λ (xs : List ℕ). DriveAgrees c.accept.new.self o (AcceptFis xs [] ∷ acts)) c.log_fis.ensures (c.in-Ok.ensures.agrees o acts h);
        answers = λ o acts h. subst (λ (xs : List ℕ). IsAnswer (facts o (log o acts)) (h2d_at xs) (event o (log o acts) (AcceptFis xs [])) c.in-Ok.answer) c.log_fis.ensures (c.in-Ok.ensures.answer o acts h);
      };
      count = c.recover.ensures.len.0;
      count_outcomes = c.recover.ensures.len.1;
      slots = rw (← page, ← c.read-log.ensures.tag) c.recover.ensures.stages;
      outcomes = rw (← page, ← c.read-log.ensures.tag, ← c.read-log.ensures.status, ← c.read-log.ensures.error) c.recover.ensures.outcomes;
      failed = refl;
      elsewhere = c.receive.ensures.elsewhere;
      received = subst (Receives c.self.inside.memory c.receive.new.memory) (c.as_slice-2.ensures.value ∙ c.fises-fises.ensures) c.receive.ensures.received;
      regs = search rules;
      history = refl;
      audit = refl;
      rule = refl;
    })
