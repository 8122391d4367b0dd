-- A seat as contracts see it.
use Rattle.std.specs.Prelude.{◌≡◌, ℕ, ◌^◌, List, [], Bool, refl, bit_or, if◌then◌else◌}
use Rattle.std.specs.Coded.{Coded, code_by, coded×, coded_ℕ, coded_list, coded_bool}
use Rattle.std.specs.Int.{bit_at}
use Rattle.atomic_table.specs.Seated.{TableId, table_id_coded}
use Rattle.locked_port.specs.Rule.{with_try}

-- Its board; the tags that it holds, one bit each; and the tags that it tried so far, each with
-- whether it was found taken.
pub record Seated : Type 0 where
  pub board : TableId
  pub held : ℕ
  pub tried : List (ℕ × Bool)

abbrev pub seated_code : Coded Seated
seated_code =
    code_by (TableId × (ℕ × List (ℕ × Bool)))
    (coded× table_id_coded (coded× coded_ℕ (coded_list (coded× coded_ℕ coded_bool))))
    (λ e. (e.board, (e.held, e.tried)))
    (λ p. record { board = p.0; held = p.1.0; tried = p.1.1 })
    (λ _. refl)

-- The seat holds the tag, or does not.
abbrev pub HasTag : Seated → ℕ → Type 0
HasTag seat tag = bit_at seat.held tag ≡ 1

abbrev pub Lacks : Seated → ℕ → Type 0
Lacks seat tag = bit_at seat.held tag ≡ 0

-- One try of a tag, which was found taken or not: where it was not, the seat holds it now.
abbrev pub after_try : ℕ → Bool → Seated → Seated
after_try tag taken seat = record {
  board = seat.board;
  held = if taken then seat.held else bit_or seat.held (2 ^ tag);
  tried = with_try tag seat.tried taken;
}

-- A seat that holds nothing.
abbrev pub idle : TableId → Seated
idle board = record { board = board; held = 0; tried = [] }

-- A seat that holds what two held, and tried what the first did.
abbrev pub both : Seated → Seated → Seated
both one other = record {
  board = one.board;
  held = bit_or one.held other.held;
  tried = one.tried;
}
