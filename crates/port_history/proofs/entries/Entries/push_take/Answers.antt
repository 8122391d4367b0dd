use Rattle.std.proofs.Common.{◌∙◌, ◌++◌, ◌∷◌, [], List, ap}
use Rattle.port_history.specs.Entries.{EntriesState}
use Rattle.port_history.specs.declared.step.Entry.{Entry}
use Rattle.port_history.specs.declared.step.Step.TheVariants as steps
use Rattle.port_history.proofs.EntryProofs.{take_pushed}
use Rattle.port_history.proofs.entries.Entries.push_take.Goals as goal

pub returns : goal.returns
returns c =
    take_pushed c.self.inside.marks.items _ c.self.inside.requests.items c.self.inside.answers.items _
    c.args.reply c.args.tag c.args.client _ c.keep_answer-place.ensures
    c.push_reserved.ensures.items c.self.invariant.1
    ∙ ap (λ (s : EntriesState). s.items
    ++ record { step = steps.Take c.args.client c.args.tag; reply = c.args.reply } ∷ [])
    c.self.view_is
