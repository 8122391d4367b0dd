use Rattle.std.proofs.Common.{◌≡◌, ◌∙◌, IfOk, ℕ, List, sym, subst, Option}
use Rattle.std.specs.Prelude.{option_and_then}
use Rattle.script_lines.specs.KnownSessions.{session_in}
use Rattle.script_lines.proofs.named_lines.known.session_told.Goals as goal

pub returns-in-Some : goal.returns-in-Some
returns-in-Some c =
    subst (λ (o : Option (List ℕ)). IfOk c.session_in.result (λ session. session ≡ option_and_then session_in o))
    (sym c.in-Some.is ∙ c.in_ok-received.ensures)
    (subst (λ (bytes : List ℕ). IfOk c.session_in.result (λ session. session ≡ session_in bytes)) c.as_slice.ensures
    c.session_in.ensures)
