-- A part of the sectors that are lent.
use Rattle.std.proofs.Common.{◌≡◌, ◌∙◌, ◌+◌, ap, sym, subst, arith, length, Option, slice_range, List, ℕ}
use Rattle.drive.specs.Lending.{HaveRun, given_bytes}
use Rattle.drive.specs.declared.lending.Run.{Run}
use Rattle.drive.proofs.Lent.{run-size, sectors-part}
use Rattle.drive.proofs.lending.Given.fill.Goals as goal

pub read_from-requires-clause-inside : goal.read_from-requires-clause-inside
read_from-requires-clause-inside c =
    let there = subst (HaveRun c.self.inside.media.now.sectors) c.in-Some.is c.self.invariant.0 in
    let size = run-size c.self.inside.media.now c.self.inside.lent c.self.inside.bytes.now c.args.self.now c.in-Some.run' c.self.invariant.1 c.in-Some.is c.self.view_is in
    omega (arith, there, size, c.requires)

pub read_from-requires-clause-small : goal.read_from-requires-clause-small
read_from-requires-clause-small c =
    let there = subst (HaveRun c.self.inside.media.now.sectors) c.in-Some.is c.self.invariant.0 in
    let few = c.self.invariant.2 in
    let size = run-size c.self.inside.media.now c.self.inside.lent c.self.inside.bytes.now c.args.self.now c.in-Some.run' c.self.invariant.1 c.in-Some.is c.self.view_is in
    omega (arith, size, there, few, c.requires)

pub returns-in-Some : goal.returns-in-Some
returns-in-Some c =
    let size = run-size c.self.inside.media.now c.self.inside.lent c.self.inside.bytes.now c.args.self.now c.in-Some.run' c.self.invariant.1 c.in-Some.is c.self.view_is in
    let same = ap (λ (o : Option Run). given_bytes c.self.inside.media.now o c.self.inside.bytes.now) (sym c.in-Some.is) ∙ c.self.view_is in
    let long : length c.read_from.new.into ≡ length c.args.into.now = omega arith in
    sectors-part c.self.inside.media.now c.in-Some.run'.lba c.in-Some.run'.count c.args.from c.read_from.new.into c.self.invariant.1 (omega (arith, long, size, c.requires)) c.read_from.ensures
    ∙ ap (λ (xs : List ℕ). slice_range xs c.args.from (c.args.from + length c.read_from.new.into)) same
    ∙ ap (λ (n : ℕ). slice_range c.args.self.now c.args.from (c.args.from + n)) long
