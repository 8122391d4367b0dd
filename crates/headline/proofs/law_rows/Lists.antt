-- Lists of steps on a drive of 1,000 sectors, whose range 1 is 100+10, its read lock enabled and set.
use Rattle.std.proofs.Common.{◌≡◌, ℕ, Bool, true, false, List, [], ◌∷◌, ◌++◌, replicate}
use Rattle.history.specs.Opening.{Origin}
use Rattle.history.proofs.Scripts.{range_row, opened}
use Rattle.port_history.specs.declared.request.Request.{Request}
use Rattle.port_history.specs.declared.request.Request.TheVariants.{ReadDma, WriteDma}
use Rattle.port_history.specs.declared.step.Step.{Step}
use Rattle.port_history.specs.declared.step.Step.TheVariants.{Put, Issue, Accept}

abbrev pub locked : Origin
locked = opened (range_row 1 100 10 true false true false)

-- The steps before a request is accepted, and with its acceptance; the newest comes first.
abbrev pub lays : ℕ → ℕ → Request → List Step
lays client tag request = Issue tag ∷ Put client tag request ∷ []

abbrev pub brings : ℕ → ℕ → Request → List Step
brings client tag request = Accept tag ∷ lays client tag request

-- A read that touches the range; one that ends beyond the drive; a write, and a read of what it wrote.
abbrev pub into_range : List Step
into_range = brings 1 0 (ReadDma 109 2)

abbrev pub beyond : List Step
beyond = brings 1 0 (ReadDma 999 2)

abbrev pub written : List Step
written = brings 1 1 (ReadDma 110 1) ++ brings 1 0 (WriteDma 110 (replicate 512 0xaa))

-- Both do not hold.
pub not_both : {b : Bool} → b ≡ true → b ≡ false → {A : Type 0} → A
not_both e f = absurd (cc)
