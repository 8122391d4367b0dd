-- The mark of a handle that has an object: the letters `opalport`, the first in the most significant byte.
use Rattle.std.specs.Prelude.{ℕ}

abbrev pub open_mark : ℕ
open_mark = 8030025253972308596
