use Rattle.audit.specs.declared.reason.Why.{Why}
use Rattle.std.proofs.Common.{◌≡◌, Option, ℕ, Bool, ◌++◌, ◌∷◌, List, [], refl, sym, ap, ◌∙◌, subst, rules}
use Rattle.std.specs.Prelude.{length, ◌+◌, option_to_list}
use Rattle.audit.specs.declared.reason.AuditLine.{AuditLine}
use Rattle.fis.specs.H2d.{h2d_at}
use Rattle.slots.specs.declared.fetched.Fetched.{Fetched}
use Rattle.history.specs.Answers.{payload_of}
use Rattle.history.specs.Facts.{facts}
use Rattle.history.specs.History.{Accept as AcceptFis, log, event}
use Rattle.drive.specs.Answers.{IsAnswer}
use Rattle.drive.specs.State.{Agrees as DriveAgrees}
use Rattle.port_history.specs.Stages.{is_queued_command}
use Rattle.history.specs.Audit.{line_for}
use Rattle.port.specs.Answers.{buffer_front}
use Rattle.port.specs.State.{Receives, IsFilled}
use Rattle.port.proofs.Words.{ok_same}
use Rattle.port.proofs.bare.BarePort.accept_put.Goals as goal

pub returns-clause-state : goal.returns-clause-state
returns-clause-state c = rw (← c.self.view_is) (λ f e history audit long.
    let memory = c.self.inside.memory in
    let tag = c.args.tag in
    let answer = c.accept_into.new.answer in
    let filled = c.take_in-len.ensures.filled in
    let same : c.in-Ok.command ≡ f = ok_same c.in-Ok.command f (c.in-Ok.ensures.exact ∙ e) in
    let payload : c.front-payload.result.now ≡ buffer_front memory tag (payload_of c.self.inside.drive.tper.store.config c.in-Ok.command.fis) =
    c.front-payload.ensures.value
    ∙ ap (buffer_front memory tag) c.payload_len-len.ensures.stands in
    record {
      put = c.args.put;
      was = rw (← c.self.view_is) at c.requires.put;
      answer = answer;
      bytes = filled.0;
      took = record {
        drive = λ o acts h.
            subst (λ (g : Fetched). DriveAgrees c.accept_into.new.self o (AcceptFis g.fis (buffer_front memory tag (payload_of c.self.inside.drive.tper.store.config g.fis)) ∷ acts)) same
            (subst (λ (xs : List ℕ). DriveAgrees c.accept_into.new.self o (AcceptFis c.in-Ok.command.fis xs ∷ acts)) payload (c.in-Ok-accept_into.ensures.agrees o acts h));
        answers = λ o acts h.
            subst (λ (g : Fetched). IsAnswer (facts o (log o acts)) (h2d_at g.fis) (event o (log o acts) (AcceptFis g.fis (buffer_front memory tag (payload_of c.self.inside.drive.tper.store.config g.fis)))) answer) same
            (subst (λ (xs : List ℕ). IsAnswer (facts o (log o acts)) (h2d_at c.in-Ok.command.fis) (event o (log o acts) (AcceptFis c.in-Ok.command.fis xs)) answer) payload (c.in-Ok-accept_into.ensures.answer o acts h));
      };
      memory =
          subst (λ (xs : List ℕ). IsFilled memory c.take_in-len.new.memory tag (is_queued_command c.args.put.command) xs filled.0) c.deref.ensures.value
          (subst (λ (b : Bool). IsFilled memory c.take_in-len.new.memory tag b c.deref.result.now filled.0) c.is_queued-queued.ensures filled.2);
      received = subst (Receives memory c.take_in-len.new.memory) (c.as_slice-fises.ensures.value ∙ c.fises-told.ensures) c.take_in-len.ensures.received;
      slots = search rules;
      outcomes = (let h = filled.1 in search (rules, h));
      failed = search rules;
      regs = search rules;
      history = refl;
      audit =
          ap (λ (xs : List AuditLine). audit ++ xs)
          (c.line_of.ensures
          ∙ ap (λ (d : Option Why). line_for c.args.number c.args.put.client d) c.take.ensures.value
          ∙ ap (λ (n : ℕ). line_for n c.args.put.client answer.denied) ((rw (← c.self.view_is) at c.requires.number) ∙ ap (λ (n : ℕ). 1 + n) (sym long)));
      rule = refl;
    })
