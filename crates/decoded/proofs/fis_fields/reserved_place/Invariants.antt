use Rattle.std.proofs.Common.{◌≡◌, drop}
use Rattle.decoded.specs.FisLayouts.{reserved_place}
use Rattle.decoded.proofs.fis_fields.reserved_place.Given as goal

abbrev pub invariant-loop-place : goal.invariant-loop-place
invariant-loop-place l = reserved_place l.reserved l.bytes ≡ reserved_place (drop l.place-index l.reserved) l.bytes
