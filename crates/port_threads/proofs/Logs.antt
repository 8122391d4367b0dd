-- The logs of clients, one more.
use Rattle.std.proofs.Common.{◌≡◌, ℕ, suc, ◌+◌, ◌<◌, List, [], ◌∷◌, ◌++◌, map, length, get_or, append_assoc, append-nil, sym, ◌∙◌, ap, arith}
use Rattle.locked_port.specs.Hands.{Hand}
use Rattle.locked_port.specs.declared.ticket.Receipt.{Receipt}
use Rattle.port_threads.specs.Rounds.{ClientLog, rounds_of, receipts_of, Made, AreMade}

pub rounds_more : {W : Type 0} (f : W → ClientLog) (ws : List W) (w : W) → rounds_of (map f (ws ++ w ∷ [])) ≡ rounds_of (map f ws) + (f w).0
rounds_more f [] w = omega arith
rounds_more f (v ∷ vs) w = let h = rounds_more f vs w in omega arith

pub receipts_more : {W : Type 0} (f : W → ClientLog) (ws : List W) (w : W) → receipts_of (map f (ws ++ w ∷ [])) ≡ receipts_of (map f ws) ++ (f w).1
receipts_more f [] w = append-nil (f w).1
receipts_more f (v ∷ vs) w = ap (λ (xs : List Receipt). (f v).1 ++ xs) (receipts_more f vs w) ∙ sym (append_assoc (f v).1 (receipts_of (map f vs)) (f w).1)

-- A log of each pass before the engine's, by places.
pub made_each : {W : Type 0} (asked : ℕ) (f : W → ClientLog) (hs : List Hand) (engine : Hand) (ws : List W) → length ws ≡ length hs → ((i : ℕ) (d : W) (h : Hand) → i < length ws → Made (get_or hs i h).client asked (f (get_or ws i d)).0 (f (get_or ws i d)).1) → AreMade (hs ++ engine ∷ []) asked (map f ws)
made_each asked f [] engine [] same each = tt
made_each asked f (h ∷ []) engine (w ∷ ws) same each = (each 0 w h (omega arith), made_each asked f [] engine ws (omega (arith, same)) (λ i d p lt. each (suc i) d p (omega arith)))
made_each asked f (h ∷ k ∷ hs) engine (w ∷ ws) same each = (each 0 w h (omega arith), made_each asked f (k ∷ hs) engine ws (omega (arith, same)) (λ i d p lt. each (suc i) d p (omega arith)))
made_each asked f [] engine (w ∷ ws) same each = absurd (omega (arith, same))
made_each asked f (h ∷ hs) engine [] same each = absurd (omega (arith, same))
