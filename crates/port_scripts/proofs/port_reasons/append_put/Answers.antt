use Rattle.std.proofs.Common.{◌≡◌, ◌∙◌, ◌++◌, ℕ, List, Option, Some, refl, sym, ap}
use Rattle.std.specs.Prelude.{codes}
use Rattle.std.proofs.lemmas.List.{append_assoc}
use Rattle.port_history.specs.declared.stages.Put.{Put}
use Rattle.port_scripts.specs.PortReasons.{labelled_number, put_text}
use Rattle.port_scripts.proofs.port_reasons.append_put.Goals as goal

put-is : (put : Put) → labelled_number (codes ", put by client ") put.client ++ labelled_number (codes " in step ") put.number ≡ put_text (Some put)
unfolding put_text
put-is put = refl

pub returns-in_ok-append_number-2 : goal.returns-in_ok-append_number-2
returns-in_ok-append_number-2 c =
    let before : List ℕ = c.args.text.now.items in
    let its : Put = c.in-Some.put in
    let first : List ℕ = labelled_number (codes ", put by client ") its.client in
    let second : List ℕ = labelled_number (codes " in step ") its.number in
    c.in_ok-append_number-2.ensures
    ∙ ap (λ items. items ++ second) (c.in_ok-append_number.ensures ∙ ap (λ n. before ++ labelled_number (codes ", put by client ") n) c.from.ensures)
    ∙ append_assoc before first second
    ∙ ap (λ t. before ++ t) (put-is its)
    ∙ ap (λ p. before ++ put_text p) (sym c.in-Some.is)
