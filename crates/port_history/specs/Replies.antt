-- The bytes that a reply holds.
use Rattle.std.specs.Prelude.{ℕ, ◌==◌, Bool, List, replicate}
use Rattle.std.specs.List.{list_all}
use Rattle.port_history.specs.declared.reply.Kept.{Kept}
use Rattle.port_history.specs.declared.reply.Kept.TheVariants.{Zeros, Own}

abbrev pub bytes_kept : Kept → List ℕ
bytes_kept (Zeros count) = replicate count 0
bytes_kept (Own bytes) = bytes.value

-- Whether bytes are all zero.
abbrev pub are_zero : List ℕ → Bool
are_zero bytes = list_all (λ byte. byte == 0) bytes
