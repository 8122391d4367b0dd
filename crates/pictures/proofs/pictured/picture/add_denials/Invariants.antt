use Rattle.std.proofs.Common.{◌≡◌, drop}
use Rattle.pictures.specs.Bars.{denials_from, with_marks}
use Rattle.pictures.proofs.pictured.picture.add_denials.Given as goal

abbrev pub invariant-loop-place : goal.invariant-loop-place
invariant-loop-place l =
    with_marks (denials_from 0 l.frames) l.fn.picture
    ≡ with_marks (denials_from l.place (drop l.place l.frames)) l.picture
