-- The version of the library: as a number, its parts a byte each, and as a text.
use Rattle.std.specs.Prelude.{ℕ, List, codes, ◌*◌, ◌+◌}

abbrev pub major : ℕ
major = 0

abbrev pub minor : ℕ
minor = 2

abbrev pub patch : ℕ
patch = 0

abbrev pub version_number : ℕ
version_number = (major * 256 + minor) * 256 + patch

abbrev pub version_text : List ℕ
version_text = codes "0.2.0"
