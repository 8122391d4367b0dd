-- How the program ends, by the words of its command line.
use Rattle.std.specs.Prelude.{◌≡◌, ◌≢◌, ◌≤◌, ◌⊎◌, ℕ, Bool, true, false, List, [], ◌∷◌, ◌++◌, length, Option, None, Some, Ok, Err, MatchOption}
use Rattle.std.specs.Io.KnownBytes.{Appends}
use Rattle.hex.specs.Hex.{decode_of}
use Rattle.hex.specs.declared.error.FromHexError.{FromHexError}
use Rattle.sp_cells.specs.Config.{Config}
use Rattle.port_threads.specs.Loads.{WritesLoad, IsFirstLoadFault}
use Rattle.port_threads.specs.Works.{Ran}
use Rattle.port_threads.specs.declared.load.LoadFault.{LoadFault}
use Rattle.tool.specs.OptionTexts.{DriveText, WritesConfig, IsOfDrive}
use Rattle.tool.specs.Outcomes.{Yields, YieldsBy}
use Rattle.tool.specs.Level0.{level0_text}
use Rattle.tcg_calls.specs.TokenTexts.{token_text}
use Rattle.tcg_calls.specs.declared.named_tokens.naming.Naming.{Naming}
use Rattle.decoded.specs.Decodings.{DecodeEnds}
use Rattle.runs.specs.Merges.{ExploresPart, merge_of}
use Rattle.runs.specs.Pictures.{Draws}
use Rattle.runs.specs.Plans.{WritesPlan, WritesSomePlan}
use Rattle.runs.specs.Shares.{share_written}
use Rattle.runs.specs.Tellings.{Explores}
use Rattle.runs.specs.declared.explored.plan.Plan.{Plan}
use Rattle.judged.specs.Freedoms.{freedoms_asked}
use Rattle.judged.specs.Judgements.{JudgesTranscript}
use Rattle.judged.specs.declared.freedom.Freedom.{Freedom}
use Rattle.hba_program.specs.Openings.{option_rows, IsFaultOf}
use Rattle.hba_program.specs.Steps.{ServesOpened}
use Rattle.hba_program.specs.declared.hba_tool.way.Way.{Way}
use Rattle.hba_program.specs.declared.hba_tool.opening.RangeFault.{RangeFault}
use Rattle.clap.specs.Words.{IsAmong, Kinds, Text, fault_of}
use Rattle.clap.specs.declared.error.kind.ErrorKind.{ErrorKind}
use Rattle.clap.specs.declared.error.kind.ErrorKind.TheVariants.{DisplayHelp, DisplayVersion}
use Rattle.opalport.specs.CommandLine.{Wanted, run, draw, level0, threads, tokens, decode, hba, explore, judge, asked_by, opalport_line}

-- the texts write a configuration within the limits
abbrev pub WritesLimitedConfig : DriveText → Type 0
WritesLimitedConfig texts = (config : Config) × WritesConfig texts config × IsOfDrive config

-- the script prints what it comes to on the drive of the options, with reasons or without; where the
-- options open no drive, the status is 2, and nothing is printed
abbrev pub RunEnds : Bool → DriveText → Option (List ℕ) → ℕ → Option (List ℕ) → Option (List ℕ)
    → Type 0
RunEnds explains texts input status old new =
    ((config : Config) × WritesConfig texts config × IsOfDrive config
    × YieldsBy explains config input status old new)
    ⊎ ((WritesLimitedConfig texts → ⊥) × (status ≡ 2) × (new ≡ old))

-- the picture of the run is printed, with the status of the run; where the options open no drive, the
-- status is 2, and nothing is printed
abbrev pub DrawEnds : DriveText → Option (List ℕ) → ℕ → Option (List ℕ) → Option (List ℕ) → Type 0
DrawEnds texts input status old new =
    ((config : Config) × WritesConfig texts config × IsOfDrive config
    × Draws config input status old new)
    ⊎ ((WritesLimitedConfig texts → ⊥) × (status ≡ 2) × (new ≡ old))

-- what short lists of the script's lines lead to is printed, or the rows of one part of the lists; where
-- the text writes no part, the status is 2, and nothing is printed
abbrev pub ExploresShare : Config → Plan → Option Text → Option (List ℕ) → ℕ → Option (List ℕ)
    → Option (List ℕ) → Type 0
ExploresShare config plan None input status old new = Explores config plan input status old new
ExploresShare config plan (Some part) input status old new =
    MatchOption (share_written part) ((status ≡ 2) × (new ≡ old))
    (λ share. ExploresPart config plan share input status old new)

-- the same by the plan of the options; where they write none, the status is 2, and nothing is printed
abbrev pub ExploresOn : Config → Text → Text → Text → Option Text → Option (List ℕ) → ℕ
    → Option (List ℕ) → Option (List ℕ) → Type 0
ExploresOn config steps limit find part input status old new =
    ((plan : Plan) × WritesPlan steps limit find plan
    × ExploresShare config plan part input status old new)
    ⊎ ((WritesSomePlan steps limit → ⊥) × (status ≡ 2) × (new ≡ old))

-- the same on the drive of the options; where they open no drive, the status is 2, and nothing is
-- printed
abbrev pub SearchEnds : DriveText → Text → Text → Text → Option Text → Option (List ℕ) → ℕ
    → Option (List ℕ) → Option (List ℕ) → Type 0
SearchEnds texts steps limit find part input status old new =
    ((config : Config) × WritesConfig texts config × IsOfDrive config
    × ExploresOn config steps limit find part input status old new)
    ⊎ ((WritesLimitedConfig texts → ⊥) × (status ≡ 2) × (new ≡ old))

-- what the files have is joined, a text for each; where one can't be read, the status is 2, and nothing
-- is printed
abbrev pub MergeEnds : List Text → ℕ → Option (List ℕ) → Option (List ℕ) → Type 0
MergeEnds files status old new =
    ((texts : List (List ℕ)) × (length texts ≡ length files)
    × Yields (merge_of texts) status old new)
    ⊎ ((status ≡ 2) × (new ≡ old))

-- parts are joined where the flag says so and files are named, and lists are run where it does not and
-- none is; else the status is 2, and nothing is printed
abbrev pub ExploreEnds : DriveText → Text → Text → Text → Option Text → Bool → List Text
    → Option (List ℕ) → ℕ → Option (List ℕ) → Option (List ℕ) → Type 0
ExploreEnds texts steps limit find None true (file ∷ files) input status old new =
    MergeEnds (file ∷ files) status old new
ExploreEnds texts steps limit find None true [] input status old new = (status ≡ 2) × (new ≡ old)
ExploreEnds texts steps limit find (Some part) true files input status old new =
    (status ≡ 2) × (new ≡ old)
ExploreEnds texts steps limit find part false [] input status old new =
    SearchEnds texts steps limit find part input status old new
ExploreEnds texts steps limit find part false (file ∷ files) input status old new =
    (status ≡ 2) × (new ≡ old)

-- the answers of a transcript are judged, with the freedoms that the words give; where they name another, the status is
-- 2, and nothing is printed
abbrev pub JudgesOn : Config → Bool → List Text → Bool → Option (List ℕ) → ℕ → Option (List ℕ)
    → Option (List ℕ) → Type 0
JudgesOn config strict names quiet input status old new =
    ((freedoms : List Freedom) × (freedoms_asked strict names ≡ Some freedoms)
    × JudgesTranscript config (record { freedoms = freedoms; quiet = quiet }) input status old new)
    ⊎ ((freedoms_asked strict names ≡ None) × (status ≡ 2) × (new ≡ old))

-- the same by the drive of the options; where they open no drive, the status is 2, and nothing is printed
abbrev pub JudgeEnds : DriveText → List Text → Bool → Bool → Option (List ℕ) → ℕ → Option (List ℕ)
    → Option (List ℕ) → Type 0
JudgeEnds texts names strict quiet input status old new =
    ((config : Config) × WritesConfig texts config × IsOfDrive config
    × JudgesOn config strict names quiet input status old new)
    ⊎ ((WritesLimitedConfig texts → ⊥) × (status ≡ 2) × (new ≡ old))

-- the discovery of a new drive is printed with status 0; where the options open no drive, the status is 2, and nothing
-- is printed
abbrev pub Level0Ends : DriveText → ℕ → Option (List ℕ) → Option (List ℕ) → Type 0
Level0Ends texts status old new =
    ((config : Config) × WritesConfig texts config × IsOfDrive config
    × (status ≡ 0) × Appends old new (level0_text config))
    ⊎ ((WritesLimitedConfig texts → ⊥) × (status ≡ 2) × (new ≡ old))

-- the clients ran, and what they tell is printed; where the texts write no load, the status is 2, and nothing is printed
abbrev pub ThreadsEnd : Text → Text → ℕ → Option (List ℕ) → Option (List ℕ) → Type 0
ThreadsEnd clients_text rounds_text status old new =
    ((clients : ℕ) × (rounds : ℕ) × WritesLoad clients_text rounds_text clients rounds
    × Ran clients rounds status old new)
    ⊎ ((fault : LoadFault) × IsFirstLoadFault clients_text rounds_text fault × (status ≡ 2)
    × (new ≡ old))

-- the item is printed with status 0; where the text is no hex, the status is 2, and nothing is printed
abbrev pub TokensEnd : Text → Naming → ℕ → Option (List ℕ) → Option (List ℕ) → Type 0
TokensEnd hex naming status old new =
    ((bytes : List ℕ) × (decode_of hex ≡ Ok bytes) × (status ≡ 0)
    × Appends old new (token_text naming bytes ++ 10 ∷ []))
    ⊎ ((e : FromHexError) × (decode_of hex ≡ Err e) × (status ≡ 2) × (new ≡ old))

-- the configuration has no drive with the ranges that the texts write
abbrev pub RefusesRanges : Config → List Text → Type 0
RefusesRanges config ranges = (fault : RangeFault) × IsFaultOf config (option_rows ranges) fault

-- the controller of the drive with these ranges serves the host, in this way; where one of the ranges is
-- refused, the status is 2, and nothing is printed
abbrev pub ControllerEnds : {R W : Type 0} → (R → Option (List ℕ)) → (W → Option (List ℕ)) → Way
    → Config → List Text → Option (List ℕ) → ℕ → Option (List ℕ) → Option (List ℕ) → Type 0
ControllerEnds remaining contents way config ranges input status old new =
    ServesOpened remaining contents way config ranges input status old new
    ⊎ (RefusesRanges config ranges × (status ≡ 2) × (new ≡ old))

-- the same with the drive of the options; where they open no drive, the status is 2, and nothing is printed
abbrev pub HbaEnds : {R W : Type 0} → (R → Option (List ℕ)) → (W → Option (List ℕ)) → Way
    → DriveText → List Text → Option (List ℕ) → ℕ → Option (List ℕ) → Option (List ℕ) → Type 0
HbaEnds remaining contents way texts ranges input status old new =
    ((config : Config) × WritesConfig texts config × IsOfDrive config
    × ControllerEnds remaining contents way config ranges input status old new)
    ⊎ ((WritesLimitedConfig texts → ⊥) × (status ≡ 2) × (new ≡ old))

-- help and the version have status 0; any other fault of the words has status 2, and nothing is printed
pub record EndsByWords (kind : ErrorKind) (status : ℕ) (old new : Option (List ℕ)) : Type 0 where
  pub help : kind ≡ DisplayHelp → status ≡ 0
  pub version : kind ≡ DisplayVersion → status ≡ 0
  pub fault : kind ≢ DisplayHelp → kind ≢ DisplayVersion → (status ≡ 2) × (new ≡ old)

-- The words ask for something, and this is how it ends. `remaining` says what a reader has still to give, and `contents`
-- what a writer holds.
abbrev pub Serves : {R W : Type 0} → (R → Option (List ℕ)) → (W → Option (List ℕ)) → Option Wanted
    → Option (List ℕ) → ℕ → Option (List ℕ) → Option (List ℕ) → Type 0
Serves remaining contents None input status old new = status ≡ 2
Serves remaining contents (Some (run explains texts vcd)) input status old new =
    RunEnds explains texts input status old new
Serves remaining contents (Some (draw texts)) input status old new =
    DrawEnds texts input status old new
Serves remaining contents (Some (level0 texts)) input status old new =
    Level0Ends texts status old new
Serves remaining contents (Some (threads clients rounds)) input status old new =
    ThreadsEnd clients rounds status old new
Serves remaining contents (Some (tokens hex naming)) input status old new =
    TokensEnd hex naming status old new
Serves remaining contents (Some (decode kind hex)) input status old new =
    DecodeEnds kind hex input status old new
Serves remaining contents (Some (hba way texts ranges vcd)) input status old new =
    HbaEnds remaining contents way texts ranges input status old new
Serves remaining contents (Some (explore texts steps limit find part merges files)) input status
    old new =
    ExploreEnds texts steps limit find part merges files input status old new
Serves remaining contents (Some (judge texts names strict quiet)) input status old new =
    JudgeEnds texts names strict quiet input status old new

-- the words are no command line, and one of their faults is told
abbrev pub Refuses : Kinds → ℕ → Option (List ℕ) → Option (List ℕ) → Type 0
Refuses kinds status old new = (kind : ErrorKind) × IsAmong kind kinds
    × EndsByWords kind status old new

-- how the program ends on these words and this input, where the writer's bytes were the old ones and are the new ones
abbrev pub Ends : {R W : Type 0} → (R → Option (List ℕ)) → (W → Option (List ℕ)) → List Text
    → Option (List ℕ) → ℕ → Option (List ℕ) → Option (List ℕ) → Type 0
Ends remaining contents words input status old new =
    ((fault_of opalport_line words ≡ [])
    × Serves remaining contents (asked_by words) input status old new)
    ⊎ Refuses (fault_of opalport_line words) status old new
