use Rattle.std.proofs.Common.{◌≡◌, drop}
use Rattle.std.specs.List.{flat_map}
use Rattle.tcg_calls.specs.Objects.{object_in}
use Rattle.tcg_calls.specs.Families.{names_of}
use Rattle.tcg_calls.proofs.tcg_names.families.named_among.Given as goal

-- the rest answers as the whole does
abbrev pub invariant-loop-family : goal.invariant-loop-family
invariant-loop-family l = object_in (flat_map names_of l.families) l.name ≡ object_in (flat_map names_of (drop l.family-index l.families)) l.name
