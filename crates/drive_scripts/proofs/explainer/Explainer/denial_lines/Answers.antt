use Rattle.std.proofs.Common.{◌∙◌, ◌++◌, List, ℕ, ap}
use Rattle.transactions.specs.declared.change.SessionId.{SessionId}
use Rattle.history.specs.History.{log}
use Rattle.drive_scripts.specs.Explanations.{open_text, told_after, session_denied}
use Rattle.drive_scripts.proofs.explainer.Explainer.denial_lines.Goals as goal

pub returns : goal.returns
returns c = λ o past acts agrees kept.
    let why = c.args.why.now in
    c.in_ok-extend_from_slice.ensures.items
    ∙ ap (λ (l : List ℕ). c.in_ok-text.text.items ++ l) (c.deref.ensures.value ∙ c.in_ok-told.ensures o past acts agrees kept)
    ∙ ap (λ (id : SessionId). c.in_ok-text.text.items ++ told_after c.args.counted o past acts id why) c.session_denied.ensures
    ∙ ap (λ (l : List ℕ). l ++ told_after c.args.counted o past acts (session_denied c.args.payload.now why) why)
    (c.in_ok-text.ensures o acts agrees ∙ ap (open_text (log o acts)) c.sp_asked.ensures)
