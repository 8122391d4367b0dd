-- How far the runs of a transcript's script have come.
use Rattle.std.specs.Prelude.{◌≡◌, true, false, ◌++◌}
use Rattle.sp_cells.specs.Config.{Config}
use Rattle.runs.specs.Stepped.{RanTo, RunStands}
use Rattle.judged.specs.Transcripts.{entry_text}
use Rattle.judged.specs.Blanks.{other_text, other_config}
use Rattle.judged.specs.declared.bench.Bench.{Bench}
use Rattle.judged.specs.declared.entry.Entry.{Entry}
use Rattle.judged.specs.declared.judging.Judging.{Judging}

-- what runs stands
abbrev pub BenchStands : Bench → Type 0
BenchStands bench = RunStands bench.model × RunStands bench.explained × RunStands bench.other

-- each has run the script that it is to run
abbrev pub BenchFits : Bench → Config → Judging → Type 0
BenchFits bench config judging = RanTo bench.model false config judging.script
    × RanTo bench.explained true config judging.script
    × RanTo bench.other false (other_config config) judging.other

-- the scripts go on by the line of an entry
abbrev pub ScriptsGoOn : Judging → Judging → Entry → Type 0
ScriptsGoOn judging later entry = (later.script ≡ judging.script ++ entry_text entry)
    × (later.other ≡ judging.other ++ other_text entry)
