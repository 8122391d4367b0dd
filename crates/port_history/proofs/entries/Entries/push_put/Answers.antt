use Rattle.std.proofs.Common.{◌∙◌, ◌++◌, ◌∷◌, [], List, ap}
use Rattle.port_history.specs.Entries.{EntriesState}
use Rattle.port_history.specs.Requests.{no_bytes}
use Rattle.port_history.specs.declared.step.Entry.{Entry}
use Rattle.port_history.specs.declared.step.Step.TheVariants as steps
use Rattle.port_history.proofs.EntryProofs.{put_pushed}
use Rattle.port_history.proofs.entries.Entries.push_put.Goals as goal

pub returns : goal.returns
returns c =
    put_pushed c.self.inside.marks.items _ c.self.inside.requests.items _ c.self.inside.answers.items
    c.args.request c.args.tag c.args.client _ c.push_reserved.ensures.items
    c.push_reserved-2.ensures.items c.place_behind-place.ensures c.self.invariant.0
    ∙ ap (λ (s : EntriesState). s.items
    ++ record { step = steps.Put c.args.client c.args.tag c.args.request; reply = no_bytes } ∷ [])
    c.self.view_is
