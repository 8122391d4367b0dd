-- What is kept beside a drive for the reasons of its refusals: since when conditions hold, and of its sessions.
use Rattle.std.specs.Prelude.{List}
use Rattle.history.specs.Opening.{Origin}
use Rattle.reasons.specs.Chronicles.{KeptOnsets, Recounts}
use Rattle.reasons.specs.Lives.{KeptLives, RecountsLives}
use Rattle.reasons.specs.Onsets.{Sourced}

pub record KeptReasons : Type 0 where
  pub onsets : KeptOnsets
  pub sessions : KeptLives

-- it keeps what the acts say
pub record RecountsAll (k : KeptReasons) (o : Origin) (past : List Sourced) : Type 0 where
  pub onsets : Recounts k.onsets o past
  pub sessions : RecountsLives k.sessions o past
