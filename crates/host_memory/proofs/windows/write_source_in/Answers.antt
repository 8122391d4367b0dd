use Rattle.std.proofs.Common.{◌≡◌, ◌-◌, false, length, slice_range, refl, sym, subst, ℕ, arith}
use Rattle.std.proofs.lemmas.Grind.{common_steps}
use Rattle.host_memory.specs.Access.{Laid}
use Rattle.host_memory.specs.Windows.{NoWindowHas, IsFirst}
use Rattle.host_memory.proofs.SeveralWindows.{write_stands, none_stands}
use Rattle.host_memory.proofs.windows.write_source_in.Goals as goal

pub returns-in_default : goal.returns-in_default
returns-in_default g c =
    let size : length (slice_range (g.S.Source.bytes c.args.source.now) c.args.from c.args.to) ≡ c.args.to - c.args.from = grind (arith, common_steps) in
    none_stands c.args.windows.now (Laid c.args.at (slice_range (g.S.Source.bytes c.args.source.now) c.args.from c.args.to) false)
    (subst (λ (n : ℕ). NoWindowHas c.args.at n c.args.windows.now) (sym size) c.in_default.ensures.first) refl

pub returns : goal.returns
returns g c =
    let size : length (slice_range (g.S.Source.bytes c.args.source.now) c.args.from c.args.to) ≡ c.args.to - c.args.from = grind (arith, common_steps) in
    write_stands c.args.windows.now c.args.at (slice_range (g.S.Source.bytes c.args.source.now) c.args.from c.args.to) c.write_from.result
    c.in-Some.place _ c.write_from.new.self
    (subst (λ (n : ℕ). IsFirst c.args.at n c.args.windows.now c.in-Some.place) (sym size) c.in-Some.ensures.first) c.write_from.ensures
