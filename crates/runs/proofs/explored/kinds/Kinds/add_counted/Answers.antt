use Rattle.std.proofs.Common.{◌≡◌, ◌∙◌, ◌<◌, ap, ap₂, not, arith, length}
use Rattle.std.proofs.lemmas.List.{get_or_read}
use Rattle.std.specs.List.{prefix_len}
use Rattle.std.specs.Str.{bytes_eq}
use Rattle.runs.specs.declared.explored.kinds.Kind.{Kind}
use Rattle.runs.proofs.explored.CountedKinds.{again_at, new_at}
use Rattle.runs.proofs.explored.kinds.Kinds.add_counted.Goals as goal

pub returns-then-place-len : goal.returns-then-place-len
returns-then-place-len c =
    let kinds = c.self.inside.items.items in
    let place_is : c.place_of-place.result ≡ prefix_len (λ (kind : Kind). not (bytes_eq kind.text c.args.kind.text)) kinds =
    c.place_of-place.ensures ∙ ap₂ (λ t ks. prefix_len (λ (kind : Kind). not (bytes_eq kind.text t)) ks) c.as_slice.ensures c.deref.ensures.value in
    let within : c.place_of-place.result < length kinds = omega (arith, c.if-place-len.true, c.len.ensures) in
    again_at c.args.self.now kinds c.args.kind c.place_of-place.result c.index.result.now c.index_mut.result.now
    c.self.view_is place_is within c.index.ensures
    (get_or_read kinds c.place_of-place.result c.index_mut.result.now within c.index_mut.ensures.value c.index.result.now)

pub returns : goal.returns
returns c =
    let kinds = c.self.inside.items.items in
    let place_is : c.place_of-place.result ≡ prefix_len (λ (kind : Kind). not (bytes_eq kind.text c.args.kind.text)) kinds =
    c.place_of-place.ensures ∙ ap₂ (λ t ks. prefix_len (λ (kind : Kind). not (bytes_eq kind.text t)) ks) c.as_slice.ensures c.deref.ensures.value in
    new_at c.args.self.now kinds c.args.kind c.place_of-place.result c.len.result c.push.new.self.items
    c.self.view_is place_is (omega (arith, c.len.ensures)) (omega (arith, c.if-place-len.false))
    c.in_ok-push.ensures.items
