-- Tags as the bits of one word, and what seats know of them.
use Rattle.std.specs.Prelude.{◌≡◌, ℕ, zero, suc, true, ◌+◌, ◌*◌, ◌^◌, ◌<◌, ◌==◌, List, [], ◌∷◌, ◌++◌, Bool, bit_or, bit_and, if◌then◌else◌}
use Rattle.std.specs.Int.{bit_at}
use Rattle.atomic_table.specs.Table.{State, Step, Me}
use Rattle.locked_port.specs.declared.tag_board.plays.View.{View}

abbrev pub view_of : ℕ → List (ℕ × Bool) → ℕ × ℕ → View
view_of held tried halves = record { held = held; tried = tried; halves = halves }

-- What a new seat knows: it holds nothing, and tried nothing.
abbrev pub new_view : View
new_view = view_of 0 [] (0, 0)

-- A number of each view, added up.
abbrev pub sum_over : (View → ℕ) → List View → ℕ
sum_over f [] = 0
sum_over f (v ∷ vs) = f v + sum_over f vs

-- Whether a seat holds the tag: 1 or 0.
abbrev pub holding_bit : ℕ → View → ℕ
holding_bit tag v = bit_at v.held tag

-- Whether both halves of which a seat was joined had the tag: 1 or 0.
abbrev pub meeting : ℕ → View → ℕ
meeting tag v = bit_at v.halves.0 tag * bit_at v.halves.1 tag

-- The rule: the one word has bits 0 to 31 at most; as many seats hold a tag as its bit says, which
-- is one where the bit is set and none where it is clear; and no two seats that were joined held a
-- tag in common.
abbrev pub Kept : State (Unit {0}) View → Type 0
Kept s =
    (word : ℕ) × (s.words ≡ word ∷ []) × (word < 2 ^ 32)
    × ((tag : ℕ) → sum_over (holding_bit tag) s.views ≡ bit_at word tag)
    × ((tag : ℕ) → sum_over (meeting tag) s.views ≡ 0)

-- The tags that a seat tried, with one more, which was found taken or not.
abbrev pub with_try : ℕ → List (ℕ × Bool) → Bool → List (ℕ × Bool)
with_try tag tried taken = tried ++ (tag, taken) ∷ []

-- One try of a tag: where it was not found taken, the seat holds it from then on.
abbrev pub tried_at : ℕ → Bool → View → View
tried_at tag taken v =
    view_of (if taken then v.held else bit_or v.held (2 ^ tag))
    (with_try tag v.tried taken) v.halves

abbrev pub Claimed : Step (Unit {0}) → Me (Unit {0}) View → ℕ → Me (Unit {0}) View → Type 0
Claimed s me found now =
    (tag : ℕ) × (s.first ≡ 2 ^ tag)
    × (now.0 ≡ tried_at tag (bit_at found tag == 1) me.0) × (now.1 ≡ me.1)
    × (bit_at found tag ≡ 0 → bit_at me.0.held tag ≡ 0)

-- The word keeps the bits of a mask, and so does the seat.
abbrev pub Freed : Step (Unit {0}) → Me (Unit {0}) View → ℕ → Me (Unit {0}) View → Type 0
Freed s me found now =
    (now.0 ≡ view_of (bit_and me.0.held s.first) me.0.tried me.0.halves) × (now.1 ≡ me.1)

-- A seat that holds what two held, and keeps what each of them held.
abbrev pub joined : View → View → View
joined v w = view_of (bit_or v.held w.held) v.tried (v.held, w.held)

-- A look at the word tells a seat that its halves had no tag in common.
abbrev pub ToldApart : Step (Unit {0}) → Me (Unit {0}) View → ℕ → Me (Unit {0}) View → Type 0
ToldApart s me found now =
    (now.0 ≡ me.0) × (now.1 ≡ me.1) × ((tag : ℕ) → meeting tag me.0 ≡ 0)

-- The tags below n, each found taken.
abbrev pub takens : ℕ → List (ℕ × Bool)
takens zero = []
takens (suc n) = takens n ++ (n, true) ∷ []
