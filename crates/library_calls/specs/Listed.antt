-- The steps that the engine of a port may do, as numbers in a buffer.
use Rattle.std.specs.Prelude.{◌≡◌, ◌<◌, ◌≤◌, List, ◌++◌, length, drop}
use Rattle.library_calls.specs.declared.byte_calls.count.Count.{Count}
use Rattle.library_calls.specs.Copies.{short_count}
use Rattle.library_calls.specs.Counts.{given_count}
use Rattle.port_history.specs.declared.step.EngineStep.{EngineStep}
use Rattle.port_history.specs.declared.step.EngineStep.TheVariants.{Issue, Accept, Complete, Recover}
use Rattle.library_calls.specs.declared.port_calls.ready.ReadyStep.{ReadyStep}

abbrev pub ready_numbers : EngineStep → ReadyStep
ready_numbers (Issue tag) = record { kind = 0; tag = tag }
ready_numbers (Accept tag) = record { kind = 1; tag = tag }
ready_numbers (Complete tag) = record { kind = 2; tag = tag }
ready_numbers Recover = record { kind = 3; tag = 0 }

-- The steps stand at the front of the buffer, or it has no room for them and is as before. Their number is told.
pub record IsWrittenList (steps old new : List ReadyStep) (count : Count) : Type 0 where
  pub fits : length steps ≤ length old → count ≡ given_count (length steps)
  pub written : length steps ≤ length old → new ≡ steps ++ drop (length steps) old
  pub short : length old < length steps → count ≡ short_count (length steps)
  pub kept : length old < length steps → new ≡ old
