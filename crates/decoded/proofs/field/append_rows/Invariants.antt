use Rattle.std.proofs.Common.{◌≡◌, ◌++◌, drop}
use Rattle.decoded.specs.Fields.{row_lines, rows_of}
use Rattle.decoded.proofs.field.append_rows.Given as goal

abbrev pub invariant-loop-field : goal.invariant-loop-field
invariant-loop-field l = l.text.items ++ row_lines (rows_of (drop l.field-index l.fields)) l.bytes ≡ l.fn.text.items ++ row_lines (rows_of l.fields) l.bytes
