use Rattle.std.proofs.Common.{◌≡◌, ◌∙◌, sym, ap, false, Some, None, rules}
use Rattle.compacket.specs.Frames.{Frame, reading}
use Rattle.compacket.specs.declared.session.Opened.{Opened}
use Rattle.history.specs.Facts.{facts}
use Rattle.history.specs.Tcg.{is_manager}
use Rattle.history.specs.History.{log}
use Rattle.tper.specs.Tper.{Tper}
use Rattle.tper.proofs.Sends.{IsFor, ByManager, BySession, found_at, on-ok, if-ok, nothing-kept, nothing-sent, other-frame, unframed-kept, unframed-sent, nobody-named, manager-is, no-manager, manager-kept, manager-sent, session-kept, session-sent, found-lives}
use Rattle.tper.proofs.trusted.Tper.send.Goals as goal
use Rattle.tper.proofs.trusted.Tper.send.Goals.{else-session-eq0-via-then-session-eq0+else-session-eq0-2, else-session-eq0-via-else-session-eq0}
use Rattle.audit.specs.declared.rules.rule.Rule.TheVariants.{NoFrame, NoSession}

abbrev frame_of : Opened → Frame
frame_of o = record { com_id = o.com_id; session = o.session; payload = o.payload.now }

pub returns-in_default-clause-kept : goal.returns-in_default-clause-kept
returns-in_default-clause-kept c = λ o acts k.
    unframed-kept c.args.self.now c.send_unframed.new.self o acts c.args.com_id c.args.payload.now c.in_default.field-0 c.send_unframed.result c.in_default.ensures.exact c.send_unframed.ensures.handled k

pub returns-in_default-clause-answer : goal.returns-in_default-clause-answer
returns-in_default-clause-answer c = λ o acts k.
    unframed-sent c.args.self.now c.send_unframed.new.self o acts c.args.com_id c.args.payload.now c.in_default.field-0 c.send_unframed.result c.in_default.ensures.exact c.send_unframed.ensures.handled k

pub returns-then-frame-com_id-clause-kept : goal.returns-then-frame-com_id-clause-kept
returns-then-frame-com_id-clause-kept c = λ o acts k.
    nothing-kept c.args.self.now o (log o acts) _ NoFrame
    (other-frame (facts o (log o acts)) c.args.com_id _ (reading c.args.payload.now) (frame_of c.in-Ok.frame) c.in-Ok.ensures.exact c.if-frame-com_id.true) k

pub returns-then-frame-com_id-clause-answer : goal.returns-then-frame-com_id-clause-answer
returns-then-frame-com_id-clause-answer c = λ o acts k.
    nothing-sent _ NoFrame c.nothing.result c.nothing.ensures.denied c.nothing.ensures.rule c.nothing.ensures.erases
    (other-frame (facts o (log o acts)) c.args.com_id _ (reading c.args.payload.now) (frame_of c.in-Ok.frame) c.in-Ok.ensures.exact c.if-frame-com_id.true)

pub returns-then-session-eq0-2-clause-kept : goal.returns-then-session-eq0-2-clause-kept
returns-then-session-eq0-2-clause-kept c =
    let frame : Frame = frame_of c.in-Ok.frame in
    let own : IsFor (reading c.args.payload.now) c.args.com_id frame = record { reads = c.in-Ok.ensures.exact; own = c.if-frame-com_id.false } in
    on-ok c.manage.result (ByManager c.args.self.now c.manage.new.self c.args.com_id frame) _ c.manage.ensures.handled
    (λ s its. λ o acts k. manager-kept c.args.self.now c.manage.new.self o acts c.args.com_id _ (reading c.args.payload.now) frame s own
    (manager-is frame.session c.if-session-eq0.true c.if-session-eq0-2.true) its k)

pub returns-then-session-eq0-2-clause-answer : goal.returns-then-session-eq0-2-clause-answer
returns-then-session-eq0-2-clause-answer c =
    let frame : Frame = frame_of c.in-Ok.frame in
    let own : IsFor (reading c.args.payload.now) c.args.com_id frame = record { reads = c.in-Ok.ensures.exact; own = c.if-frame-com_id.false } in
    if-ok c.manage.result (ByManager c.args.self.now c.manage.new.self c.args.com_id frame) _ c.manage.ensures.handled
    (λ s its. λ o acts k. manager-sent c.args.self.now c.manage.new.self o acts c.args.com_id _ (reading c.args.payload.now) frame s own
    (manager-is frame.session c.if-session-eq0.true c.if-session-eq0-2.true) its k)

pub serve-requires-clause-lives : goal.serve-requires-clause-lives
serve-requires-clause-lives c =
    let is : found_at c.args.self.now.live c.args.com_id c.in-Ok.frame.session ≡ Some c.in-Some.id = search rules in
    found-lives c.args.self.now.live c.args.com_id c.in-Ok.frame.session c.in-Some.id is

pub returns-in-None-clause-kept : goal.returns-in-None-clause-kept
returns-in-None-clause-kept c =
    let frame : Frame = frame_of c.in-Ok.frame in
    let own : IsFor (reading c.args.payload.now) c.args.com_id frame = record { reads = c.in-Ok.ensures.exact; own = c.if-frame-com_id.false } in
    let other : is_manager frame.session ≡ false = no-manager frame.session (λ t h. elim c.else-session-eq0.branch [
      | else-session-eq0-via-then-session-eq0+else-session-eq0-2 w ↦ w.if-session-eq0-2.false h
      | else-session-eq0-via-else-session-eq0 w ↦ w.if-session-eq0.false t
    ]) in
    let is : found_at c.args.self.now.live c.args.com_id c.in-Ok.frame.session ≡ None = ap (λ (t : Tper). found_at t.live c.args.com_id c.in-Ok.frame.session) (sym c.self.view_is) ∙ sym c.find.ensures ∙ c.in-None.is in
    λ o acts k. nothing-kept c.args.self.now o (log o acts) _ NoSession (nobody-named c.args.self.now o (log o acts) c.args.com_id _ (reading c.args.payload.now) frame own other is k) k

pub returns-in-None-clause-answer : goal.returns-in-None-clause-answer
returns-in-None-clause-answer c =
    let frame : Frame = frame_of c.in-Ok.frame in
    let own : IsFor (reading c.args.payload.now) c.args.com_id frame = record { reads = c.in-Ok.ensures.exact; own = c.if-frame-com_id.false } in
    let other : is_manager frame.session ≡ false = no-manager frame.session (λ t h. elim c.else-session-eq0.branch [
      | else-session-eq0-via-then-session-eq0+else-session-eq0-2 w ↦ w.if-session-eq0-2.false h
      | else-session-eq0-via-else-session-eq0 w ↦ w.if-session-eq0.false t
    ]) in
    let is : found_at c.args.self.now.live c.args.com_id c.in-Ok.frame.session ≡ None = ap (λ (t : Tper). found_at t.live c.args.com_id c.in-Ok.frame.session) (sym c.self.view_is) ∙ sym c.find.ensures ∙ c.in-None.is in
    λ o acts k. nothing-sent _ NoSession c.nothing-in-None.result c.nothing-in-None.ensures.denied c.nothing-in-None.ensures.rule c.nothing-in-None.ensures.erases
    (nobody-named c.args.self.now o (log o acts) c.args.com_id _ (reading c.args.payload.now) frame own other is k)

pub returns-in-Some-clause-kept : goal.returns-in-Some-clause-kept
returns-in-Some-clause-kept c =
    let frame : Frame = frame_of c.in-Ok.frame in
    let own : IsFor (reading c.args.payload.now) c.args.com_id frame = record { reads = c.in-Ok.ensures.exact; own = c.if-frame-com_id.false } in
    let other : is_manager frame.session ≡ false = no-manager frame.session (λ t h. elim c.else-session-eq0.branch [
      | else-session-eq0-via-then-session-eq0+else-session-eq0-2 w ↦ w.if-session-eq0-2.false h
      | else-session-eq0-via-else-session-eq0 w ↦ w.if-session-eq0.false t
    ]) in
    let is : found_at c.args.self.now.live c.args.com_id c.in-Ok.frame.session ≡ Some c.in-Some.id = ap (λ (t : Tper). found_at t.live c.args.com_id c.in-Ok.frame.session) (sym c.self.view_is) ∙ sym c.find.ensures ∙ c.in-Some.is in
    on-ok c.serve.result (BySession c.args.self.now c.serve.new.self c.args.com_id frame c.in-Some.id) _ c.serve.ensures.handled
    (λ s its. λ o acts k. session-kept c.args.self.now c.serve.new.self o acts c.args.com_id _ (reading c.args.payload.now) frame c.in-Some.id s own other is its k)

pub returns-in-Some-clause-answer : goal.returns-in-Some-clause-answer
returns-in-Some-clause-answer c =
    let frame : Frame = frame_of c.in-Ok.frame in
    let own : IsFor (reading c.args.payload.now) c.args.com_id frame = record { reads = c.in-Ok.ensures.exact; own = c.if-frame-com_id.false } in
    let other : is_manager frame.session ≡ false = no-manager frame.session (λ t h. elim c.else-session-eq0.branch [
      | else-session-eq0-via-then-session-eq0+else-session-eq0-2 w ↦ w.if-session-eq0-2.false h
      | else-session-eq0-via-else-session-eq0 w ↦ w.if-session-eq0.false t
    ]) in
    let is : found_at c.args.self.now.live c.args.com_id c.in-Ok.frame.session ≡ Some c.in-Some.id = ap (λ (t : Tper). found_at t.live c.args.com_id c.in-Ok.frame.session) (sym c.self.view_is) ∙ sym c.find.ensures ∙ c.in-Some.is in
    if-ok c.serve.result (BySession c.args.self.now c.serve.new.self c.args.com_id frame c.in-Some.id) _ c.serve.ensures.handled
    (λ s its. λ o acts k. session-sent c.args.self.now c.serve.new.self o acts c.args.com_id _ (reading c.args.payload.now) frame c.in-Some.id s own other is its k)
