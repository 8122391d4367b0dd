-- The command line of the program, as `clap` reads it, and what its words ask for.
use Rattle.std.specs.Prelude.{Bool, List, [], ◌∷◌, map, true, Option, None, Some, codes, unwrap_or, option_map, option_and_then, if◌then◌else◌}
use Rattle.std.specs.Str.{bytes_eq}
use Rattle.clap.specs.Words.{App, Row, Rule, Shape, Text, all_of, first_of, new_app, new_rule, subcommand_of, with_rule, with_subcommand}
use Rattle.clap.specs.Simple.{on_top}
use Rattle.clap.specs.declared.builder.action.ArgAction.TheVariants.{Append, SetTrue}
use Rattle.tool.specs.OptionTexts.{DriveText, drive_text}
use Rattle.tcg_calls.specs.declared.named_tokens.naming.Naming.{Naming}
use Rattle.tcg_calls.specs.TokenTexts.{naming_of}
use Rattle.opalport.specs.declared.command_line.Request.{Request}
use Rattle.hba_program.specs.Ways.{way_by}
use Rattle.hba_program.specs.declared.hba_tool.way.Way.{Way}
use Rattle.opalport.specs.declared.command_line.Request.TheVariants.{Run, Draw, Level0, Threads, Tokens, Decode, Hba, Explore, Judge}

-- `--name TEXT`, and the text that stands for it where it is left out
abbrev pub option_rule : Text → Text → Rule
option_rule name default =
    record (new_rule name) { long = Some name; value_names = 1; defaults = default ∷ [] }

-- `--name TEXT`, which may be left out
abbrev pub free_rule : Text → Rule
free_rule name = record (new_rule name) { long = Some name; value_names = 1 }

-- with the options of a field or an opal drive: what it tells of itself, the PIN on its label, its DataStore, and its seed
abbrev pub with_label_rules : App → App
with_label_rules app =
    with_rule
    (with_rule
    (with_rule (with_rule (with_rule app (free_rule (codes "serial"))) (free_rule (codes "model")))
    (free_rule (codes "psid")))
    (free_rule (codes "datastore")))
    (free_rule (codes "seed"))

-- with the options that say which drive is opened
abbrev pub with_drive_rules : App → App
with_drive_rules app =
    with_label_rules
    (with_rule
    (with_rule
    (with_rule (with_rule app (free_rule (codes "sectors"))) (free_rule (codes "shadow")))
    (option_rule (codes "msid") (codes "4f50414c4d534944")))
    (option_rule (codes "profile") (codes "base")))

-- a command that opens a drive
abbrev pub drive_line : Text → App
drive_line name = with_drive_rules (new_app name)

-- `--name`
abbrev pub flag_rule : Text → Rule
flag_rule name = record (new_rule name) { long = Some name; action = Some SetTrue }

-- `run`, with the options of a drive, with reasons or without, and where its waveforms are written
abbrev pub run_line : App
run_line =
    with_rule (with_rule (drive_line (codes "run")) (flag_rule (codes "explain")))
    (free_rule (codes "vcd"))

-- `--name TEXT`, as often as it is wanted
abbrev pub repeated_rule : Text → Rule
repeated_rule name = record (new_rule name) {
  long = Some name;
  value_names = 1;
  action = Some Append;
}

-- `hba`, with the options of a drive, ranges, reasons or not, 64-bit addresses or not, and where its waveforms are
-- written
abbrev pub hba_line : App
hba_line =
    with_rule
    (with_rule
    (with_rule (with_rule (drive_line (codes "hba")) (repeated_rule (codes "range")))
    (flag_rule (codes "explain")))
    (flag_rule (codes "s64a")))
    (free_rule (codes "vcd"))

-- `threads`, with the options that say how many clients make how many rounds
abbrev pub threads_line : App
threads_line =
    with_rule (with_rule (new_app (codes "threads")) (option_rule (codes "clients") (codes "2")))
    (option_rule (codes "rounds") (codes "100"))

-- an argument that is wanted
abbrev pub required_rule : Text → Rule
required_rule name = record (new_rule name) { value_names = 1; required = true }

-- `tokens HEX`, with names or without
abbrev pub tokens_line : App
tokens_line =
    with_rule (with_rule (new_app (codes "tokens")) (required_rule (codes "hex")))
    (flag_rule (codes "names"))

-- an argument that may be left out
abbrev pub optional_rule : Text → Rule
optional_rule name = record (new_rule name) { value_names = 1 }

-- `decode KIND HEX`, of which HEX may be left out
abbrev pub decode_line : App
decode_line =
    with_rule (with_rule (new_app (codes "decode")) (required_rule (codes "kind")))
    (optional_rule (codes "hex"))

-- an argument that stands as often as it is wanted
abbrev pub files_rule : Text → Rule
files_rule name = record (new_rule name) { value_names = 1; action = Some Append }

-- `explore`, with the options of a drive, those that say how far it goes and what is looked for, and
-- those that say which part is run, or which parts are joined
abbrev pub explore_line : App
explore_line =
    with_rule
    (with_rule
    (with_rule
    (with_rule
    (with_rule
    (with_rule (drive_line (codes "explore")) (option_rule (codes "steps") (codes "4")))
    (option_rule (codes "limit") (codes "100000")))
    (free_rule (codes "find")))
    (free_rule (codes "part")))
    (flag_rule (codes "merge")))
    (files_rule (codes "files"))

-- `judge`, with the options of a drive, and those that say which freedoms are given, and what is told
abbrev pub judge_line : App
judge_line =
    with_rule
    (with_rule
    (with_rule (drive_line (codes "judge")) (repeated_rule (codes "freedom")))
    (flag_rule (codes "strict")))
    (flag_rule (codes "quiet"))

-- settings of a program that has a version, and wants one of its commands
abbrev pub wants_command : Shape → Shape
wants_command s =
    record s { has_version = true; subcommand_required = true; arg_required_else_help = true }

-- the program has a version, and takes one of its commands
abbrev pub top_line : App
top_line = on_top wants_command (new_app (codes "opalport"))

-- the program takes one of the nine, and nothing else
abbrev pub opalport_line : App
opalport_line =
    with_subcommand
    (with_subcommand
    (with_subcommand
    (with_subcommand
    (with_subcommand
    (with_subcommand
    (with_subcommand
    (with_subcommand
    (with_subcommand top_line
    run_line.top) (drive_line (codes "level0")).top) threads_line.top)
    tokens_line.top) decode_line.top) hba_line.top) (drive_line (codes "draw")).top)
    explore_line.top)
    judge_line.top

-- what words ask for, by the texts as they are written
pub data Wanted : Type 0 where
  run : Bool → DriveText → Text → Wanted
  draw : DriveText → Wanted
  level0 : DriveText → Wanted
  threads : Text → Text → Wanted
  tokens : Text → Naming → Wanted
  decode : Text → Text → Wanted
  hba : Way → DriveText → List Text → Text → Wanted
  explore : DriveText → Text → Text → Text → Option Text → Bool → List Text → Wanted
  judge : DriveText → List Text → Bool → Bool → Wanted

-- what a request asks for
abbrev pub wanted_by : Request → Wanted
wanted_by (Run texts) = run texts.explains (drive_text texts.drive) texts.vcd.now
wanted_by (Draw drive) = draw (drive_text drive)
wanted_by (Level0 drive) = level0 (drive_text drive)
wanted_by (Threads load) = threads load.clients.now load.rounds.now
wanted_by (Tokens tokens_asked) = tokens tokens_asked.hex.now tokens_asked.naming
wanted_by (Decode texts) = decode texts.kind.now texts.hex.now
wanted_by (Hba texts) =
    hba texts.way (drive_text texts.drive) (map (λ s. s.now) texts.ranges.items) texts.vcd.now
wanted_by (Explore texts) =
    explore (drive_text texts.drive) texts.steps.now texts.limit.now texts.find.now
    (option_map (λ s. s.now) texts.part) texts.merges (map (λ s. s.now) texts.files.items)
wanted_by (Judge texts) =
    judge (drive_text texts.drive) (map (λ s. s.now) texts.freedoms.items) texts.strict texts.quiet

-- the text of an argument; one that is required or has a default has one, and any other may be empty
abbrev pub text_of : Text → List Row → Text
text_of id rows = unwrap_or (first_of id rows) []

-- the texts of the options that say which drive; one that is left out, and has no default, has none
abbrev pub drive_in : List Row → DriveText
drive_in rows = record {
  sectors = first_of (codes "sectors") rows;
  shadow = first_of (codes "shadow") rows;
  msid = text_of (codes "msid") rows;
  profile = text_of (codes "profile") rows;
  serial = first_of (codes "serial") rows;
  model = first_of (codes "model") rows;
  psid = first_of (codes "psid") rows;
  datastore = first_of (codes "datastore") rows;
  seed = first_of (codes "seed") rows;
}

-- the texts of an option that is given as often as it is wanted, in their order
abbrev pub texts_in : Text → List Row → List Text
texts_in id rows = unwrap_or (all_of id rows) []

-- whether a flag is set
abbrev pub has_flag : Text → List Row → Bool
has_flag name rows = bytes_eq (text_of name rows) (codes "true")

-- names, where the flag is set
abbrev pub naming_in : List Row → Naming
naming_in rows = naming_of (has_flag (codes "names") rows)

-- how a host is served
abbrev pub way_in : List Row → Way
way_in rows = way_by (has_flag (codes "explain") rows) (has_flag (codes "s64a") rows)

-- what it asks for that takes an option as often as it is wanted
abbrev pub repeated_asked : Text → List Row → Option Wanted
repeated_asked name rows =
    if bytes_eq name (codes "hba")
    then Some (hba (way_in rows) (drive_in rows) (texts_in (codes "range") rows)
    (text_of (codes "vcd") rows))
    else if bytes_eq name (codes "judge")
    then Some (judge (drive_in rows) (texts_in (codes "freedom") rows)
    (has_flag (codes "strict") rows) (has_flag (codes "quiet") rows))
    else if bytes_eq name (codes "explore")
    then Some (explore (drive_in rows) (text_of (codes "steps") rows) (text_of (codes "limit") rows)
    (text_of (codes "find") rows) (first_of (codes "part") rows) (has_flag (codes "merge") rows)
    (texts_in (codes "files") rows))
    else None

-- what a subcommand with these arguments asks for
abbrev pub asked_of : Text × List Row → Option Wanted
asked_of (name, rows) =
    if bytes_eq name (codes "run")
    then Some (run (has_flag (codes "explain") rows) (drive_in rows) (text_of (codes "vcd") rows))
    else if bytes_eq name (codes "level0") then Some (level0 (drive_in rows))
    else if bytes_eq name (codes "threads")
    then Some (threads (text_of (codes "clients") rows) (text_of (codes "rounds") rows))
    else if bytes_eq name (codes "tokens")
    then Some (tokens (text_of (codes "hex") rows) (naming_in rows))
    else if bytes_eq name (codes "decode")
    then Some (decode (text_of (codes "kind") rows) (text_of (codes "hex") rows))
    else if bytes_eq name (codes "draw") then Some (draw (drive_in rows))
    else repeated_asked name rows

-- what the words of a command line ask for, where they are one
abbrev pub asked_by : List Text → Option Wanted
asked_by words = option_and_then asked_of (subcommand_of opalport_line words)
