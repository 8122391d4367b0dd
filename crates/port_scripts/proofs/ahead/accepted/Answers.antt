use Rattle.std.proofs.Common.{◌≡◌, ◌∙◌, List, ℕ, Ok, ap, subst, sym}
use Rattle.compacket.specs.Frames.{reading as frame_in}
use Rattle.fis.specs.H2d.{h2d_at}
use Rattle.slots.specs.Fetch.{fetched}
use Rattle.history.specs.Answers.{payload_of}
use Rattle.port.specs.Answers.{buffer_front}
use Rattle.reasons.specs.Onsets.{cause_in}
use Rattle.port_scripts.proofs.PortTold.{brings-fetched}
use Rattle.port_scripts.proofs.ahead.accepted.Goals as goal

pub returns-clause-brings : goal.returns-clause-brings
returns-clause-brings c =
    let port = c.args.port.now.bare in
    let command = c.in-Ok.command in
    brings-fetched port (record { cause = c.cause_of-cause.result; payload = c.in_ok-payload.payload }) c.args.tag command
    (subst (λ memory. fetched memory c.args.tag ≡ Ok command) c.memory.ensures.value (sym c.in-Ok.ensures.exact))
    (λ kind. c.cause_of-cause.ensures kind
    ∙ ap (λ (xs : List ℕ). cause_in (h2d_at command.fis) (frame_in xs)) c.deref.ensures.value)
    (c.in_ok-payload.ensures.items ∙ c.front.ensures
    ∙ ap (λ memory. buffer_front memory c.args.tag c.payload_len-len.result) c.memory-2.ensures.value
    ∙ ap (buffer_front port.memory c.args.tag)
    (c.payload_len-len.ensures.stands
    ∙ ap (λ drive. payload_of drive.tper.store.config command.fis) c.drive.ensures))
