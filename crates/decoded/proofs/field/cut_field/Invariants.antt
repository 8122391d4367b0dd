use Rattle.std.proofs.Common.{◌≡◌, drop}
use Rattle.decoded.specs.Fields.{cut_field, rows_of}
use Rattle.decoded.proofs.field.cut_field.Given as goal

abbrev pub invariant-loop-field : goal.invariant-loop-field
invariant-loop-field l = cut_field (rows_of l.fields) l.size ≡ cut_field (rows_of (drop l.field-index l.fields)) l.size
