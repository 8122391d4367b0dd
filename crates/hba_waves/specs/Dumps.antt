-- The dump of a controller by the moments that the lines of a host left behind: at time 0 what the start shows, and at the
-- number of each line what this left behind.
use Rattle.std.specs.Prelude.{ℕ, zero, suc, List, [], ◌∷◌, ◌++◌, Option, None, Some}
use Rattle.drawing.specs.Dumps.{declaration, preamble, definitions_end, values_begin, values_end, wire_value, changed_value, time_text}
use Rattle.hba_waves.specs.declared.look.Look.{Look}
use Rattle.hba_waves.specs.Looks.{Shown}
use Rattle.hba_waves.specs.Signals.{signal_at, signal_count, signal_name, signal_bits, signal_value}

-- of the first so many signals the declarations, the values at time 0, and the values that changed
unfoldable pub signals_to : ℕ → List ℕ
signals_to zero = []
signals_to (suc n) =
    signals_to n ++ declaration n (signal_bits (signal_at n)) (signal_name (signal_at n))

unfoldable pub first_values_to : Look → ℕ → List ℕ
first_values_to look zero = []
first_values_to look (suc n) =
    first_values_to look n
    ++ wire_value n (signal_bits (signal_at n)) (signal_value (signal_at n) look)

unfoldable pub new_values_to : Look → Look → ℕ → List ℕ
new_values_to before look zero = []
new_values_to before look (suc n) =
    new_values_to before look n
    ++ changed_value n (signal_bits (signal_at n)) (signal_value (signal_at n) before)
    (signal_value (signal_at n) look)

unfoldable pub signals_head : List ℕ
signals_head = preamble ++ signals_to signal_count ++ definitions_end

unfoldable pub start_values : Look → List ℕ
start_values look = values_begin ++ first_values_to look signal_count ++ values_end

-- the declarations, and what the first look shows
unfoldable pub start_text : Look → List ℕ
start_text look = signals_head ++ start_values look

-- a time, and what changed then
abbrev pub later_text : ℕ → Look → Look → List ℕ
later_text time before look = time_text time ++ new_values_to before look signal_count

-- what a look adds behind what one showed before, if one did
abbrev pub look_text : Option Look → ℕ → Look → List ℕ
look_text None time look = start_text look
look_text (Some before) time look = later_text time before look

-- what moments add
unfoldable pub moments_from : Option Look → List Shown → List ℕ
moments_from shown [] = []
moments_from shown (moment ∷ moments) =
    look_text shown moment.number moment.look ++ moments_from (Some moment.look) moments

-- what was shown last behind them
unfoldable pub last_look : Option Look → List Shown → Option Look
last_look shown [] = shown
last_look shown (moment ∷ moments) = last_look (Some moment.look) moments

-- the whole dump
abbrev pub moments_text : List Shown → List ℕ
moments_text moments = moments_from None moments
