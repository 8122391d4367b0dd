-- Verdicts and transcripts, in words.
use Rattle.std.specs.Prelude.{◌≡◌, ◌≢◌, ℕ, ◌↔◌, Bool, true, false, List, [], ◌∷◌, ◌++◌, map, Some, if◌then◌else◌}
use Rattle.std.specs.List.{Contains, flat_map, list_all, list_any}
use Rattle.sp_cells.specs.Config.{Config}
use Rattle.tool.specs.Scripts.{is_skipped}
use Rattle.judged.specs.Transcripts.{with_line_end, answer_marks, is_answer_line, holds_remarks, entries_of}
use Rattle.judged.specs.Answers.{said_behind}
use Rattle.judged.specs.Freedoms.{is_by, freedom_name, freedom_named}
use Rattle.judged.specs.Judgements.{answers_verdict, is_agreement, is_wrong, rulings_of}
use Rattle.judged.specs.declared.freedom.Freedom.{Freedom}
use Rattle.judged.specs.declared.ruling.Ruling.{Ruling}
use Rattle.judged.specs.declared.ruling.Verdict.TheVariants.{Agrees, Allowed}

-- two answers to a line differ by this freedom alone: their first lines do, which are the drive's, and
-- the lines behind them are the same
abbrev pub DiffersBy : List ℕ → List (List ℕ) → List (List ℕ) → List ℕ → Freedom → Type 0
DiffersBy asked heard wanted other freedom =
    (x : List ℕ) × (y : List ℕ) × (rest : List (List ℕ)) × (heard ≡ x ∷ rest)
    × (wanted ≡ y ∷ rest) × (is_by asked x y other freedom ≡ true)

-- answers agree exactly if they are what must be said
abbrev pub AgreesLaw : Type 0
AgreesLaw = (freedoms : List Freedom) (asked : List ℕ) (heard wanted : List (List ℕ))
    (other reasons : List ℕ)
    → (answers_verdict freedoms asked heard wanted other reasons ≡ Agrees) ↔ (heard ≡ wanted)

-- where they are allowed, they differ, by the freedom that is named, which is given
abbrev pub AllowsLaw : Type 0
AllowsLaw = (freedoms : List Freedom) (asked : List ℕ) (heard wanted : List (List ℕ))
    (other reasons : List ℕ) (freedom : Freedom)
    → answers_verdict freedoms asked heard wanted other reasons ≡ Allowed freedom
    → (heard ≢ wanted) × Contains freedoms freedom × DiffersBy asked heard wanted other freedom

-- they are wrong exactly if they differ, and by none of the freedoms that are given alone
abbrev pub WrongLaw : Type 0
WrongLaw = (freedoms : List Freedom) (asked : List ℕ) (heard wanted : List (List ℕ))
    (other reasons : List ℕ)
    → (is_wrong (answers_verdict freedoms asked heard wanted other reasons) ≡ true)
    ↔ ((heard ≢ wanted) × ((freedom : Freedom) → Contains freedoms freedom
    → DiffersBy asked heard wanted other freedom → ⊥))

-- a freedom is named by its name
abbrev pub NamesLaw : Type 0
NamesLaw = (freedom : Freedom) → freedom_named (freedom_name freedom) ≡ Some freedom

-- the line that tells an answer
abbrev pub answer_line : List ℕ → List ℕ
answer_line answer = 61 ∷ 32 ∷ answer

abbrev pub marks_for : Bool → List (List ℕ) → List ℕ
marks_for remarks answers =
    flat_map with_line_end (flat_map (λ answer. answer_marks remarks) answers)

-- what the model says to a line behind a script
abbrev pub said_to : Config → List ℕ → List ℕ → List (List ℕ)
said_to config before text = said_behind config before (before ++ with_line_end text)

-- the lines of a script behind others, and behind each the answers of the model
abbrev pub own_lines : Bool → Config → List ℕ → List (List ℕ) → List (List ℕ)
own_lines remarks config before [] = []
own_lines remarks config before (text ∷ texts) =
    if is_skipped remarks text
    then text ∷ own_lines remarks config (before ++ with_line_end text) texts
    else text ∷ (map answer_line (said_to config before text)
    ++ own_lines remarks config
    (before ++ (with_line_end text ++ marks_for remarks (said_to config before text))) texts)

-- the transcript that a script's own answers make
abbrev pub own_transcript : Config → List (List ℕ) → List (List ℕ)
own_transcript config lines = own_lines (holds_remarks lines) config [] lines

-- each of its answers agrees
abbrev pub OwnAnswersLaw : Type 0
OwnAnswersLaw = (config : Config) (freedoms : List Freedom) (lines : List (List ℕ))
    → list_any is_answer_line lines ≡ false
    → list_all (λ (ruling : Ruling). is_agreement ruling.verdict)
    (rulings_of config freedoms (entries_of (own_transcript config lines))) ≡ true
