-- How a run of a script ended, within the program.
use Rattle.std.specs.Prelude.{ℕ, ⊤}
use Rattle.tool.specs.Courses.{PhaseStands}
use Rattle.tool.specs.declared.ending.End.{End}
use Rattle.tool.specs.declared.ending.End.TheVariants.{Done, ExpectationFailed, Bad}
use Rattle.tool.specs.declared.script.Opened.{Opened}
use Rattle.tool.specs.declared.script.Opened.TheVariants.{Ended, Runs}

abbrev pub exit_status : End → ℕ
exit_status Done = 0
exit_status (ExpectationFailed line) = 1
exit_status (Bad line fault) = 2

-- what runs, where something does, is as an origin and a course leave it
abbrev pub OpenedStands : Opened → Type 0
OpenedStands (Ended end) = ⊤
OpenedStands (Runs run count) = PhaseStands run
