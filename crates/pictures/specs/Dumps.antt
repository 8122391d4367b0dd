-- The dump of a run by the frames that its lines left behind: at time 0 what the opening shows, and at the number of each
-- line what this left behind.
use Rattle.std.specs.Prelude.{ℕ, zero, suc, List, [], ◌∷◌, ◌++◌, Option, None, Some}
use Rattle.pictures.specs.Samples.{Sample}
use Rattle.pictures.specs.declared.samples.frame.Frame.{Frame}
use Rattle.drawing.specs.Dumps.{declaration, preamble, definitions_end, values_begin, values_end, wire_value, changed_value, time_text}
use Rattle.pictures.specs.Waves.{wave_at, wave_count, wave_name, wave_bits, wave_value}

-- the declarations, the values and the changes of the first so many signals
unfoldable pub declared_to : ℕ → List ℕ
declared_to zero = []
declared_to (suc n) =
    declared_to n ++ declaration n (wave_bits (wave_at n)) (wave_name (wave_at n))

unfoldable pub values_to : Sample → ℕ → List ℕ
values_to sample zero = []
values_to sample (suc n) =
    values_to sample n ++ wire_value n (wave_bits (wave_at n)) (wave_value (wave_at n) sample)

unfoldable pub changes_to : Sample → Sample → ℕ → List ℕ
changes_to before sample zero = []
changes_to before sample (suc n) =
    changes_to before sample n
    ++ changed_value n (wave_bits (wave_at n)) (wave_value (wave_at n) before)
    (wave_value (wave_at n) sample)

unfoldable pub dump_head : List ℕ
dump_head = preamble ++ declared_to wave_count ++ definitions_end

unfoldable pub first_text : Sample → List ℕ
first_text sample = values_begin ++ values_to sample wave_count ++ values_end

-- the declarations, and what the opening shows
unfoldable pub opening_text : Sample → List ℕ
opening_text sample = dump_head ++ first_text sample

-- a time, and what changed then
abbrev pub moment_text : ℕ → Sample → Sample → List ℕ
moment_text time before sample = time_text time ++ changes_to before sample wave_count

-- what a frame adds behind what a look showed before, if one did: the number of its line is the time
abbrev pub frame_text : Option Sample → Frame → List ℕ
frame_text None frame = opening_text frame.sample
frame_text (Some before) frame = moment_text frame.number before frame.sample

unfoldable pub dump_from : Option Sample → List Frame → List ℕ
dump_from shown [] = []
dump_from shown (frame ∷ frames) =
    frame_text shown frame ++ dump_from (Some frame.sample) frames

-- the whole dump; there is none where nothing was opened
abbrev pub dump_text : List Frame → List ℕ
dump_text frames = dump_from None frames
