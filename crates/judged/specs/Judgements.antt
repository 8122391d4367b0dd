-- What is told of the answers of a transcript.
use Rattle.std.specs.Prelude.{ℕ, ◌==◌, nat_lt, Bool, true, false, not, ◌&&◌, ◌||◌, List, [], ◌∷◌, ◌++◌, drop, length, codes, decimal, Option, None, Some, IfSome, if◌then◌else◌}
use Rattle.std.specs.List.{fold, flat_map, count_by}
use Rattle.std.specs.Str.{bytes_eq}
use Rattle.sp_cells.specs.Config.{Config}
use Rattle.tool.specs.Outcomes.{RunOutcome, Yields, ends, run_outcome_of}
use Rattle.tool.specs.Scripts.{script_lines}
use Rattle.script_lines.specs.Words.{nth_word}
use Rattle.judged.specs.Transcripts.{own_line_text, entry_text, entries_of}
use Rattle.judged.specs.Answers.{text_behind, is_receiving, reasons_told, wanted_of}
use Rattle.judged.specs.Blanks.{other_text, other_config, first_answer}
use Rattle.judged.specs.Freedoms.{asks_level0, freedom_between, freedom_name}
use Rattle.judged.specs.SessionNumbers.{number_told}
use Rattle.judged.specs.SessionPairs.{drives_lines, as_model, pairs_with}
use Rattle.judged.specs.Shown.{first_read, shown_lines, shown_other, changed_reasons, newly_shown, kept_behind}
use Rattle.judged.specs.declared.bench.Printed.{Printed}
use Rattle.judged.specs.declared.entry.Entry.{Entry}
use Rattle.judged.specs.declared.freedom.Freedom.{Freedom}
use Rattle.judged.specs.declared.freedom.Freedom.TheVariants.{ErrorBits, BlankSectors, VendorBytes, Identity, SessionNumbers, ComIds, RandomBytes, Properties}
use Rattle.judged.specs.declared.pairs.SessionPair.{SessionPair}
use Rattle.judged.specs.declared.ruling.Ruling.{Ruling}
use Rattle.judged.specs.declared.ruling.Verdict.{Verdict}
use Rattle.judged.specs.declared.ruling.Verdict.TheVariants.{Agrees, Allowed, Wrong}
use Rattle.judged.specs.declared.judging.Judging.{Judging}
use Rattle.judged.specs.declared.known.Known.{Known}
use Rattle.judged.specs.declared.script.Terms.{Terms}
use Rattle.judged.specs.declared.shown.ShownSector.{ShownSector}

-- whether two answers have the same lines
abbrev pub are_same : List (List ℕ) → List (List ℕ) → Bool
are_same [] [] = true
are_same (x ∷ xs) (y ∷ ys) = bytes_eq x y && are_same xs ys
are_same [] (y ∷ ys) = false
are_same (x ∷ xs) [] = false

-- The freedom by which an answer differs: in its first line, which is the drive's. Lines behind it are
-- of the audit.
abbrev pub freedom_of : List Freedom → List ℕ → List (List ℕ) → List (List ℕ) → List ℕ
    → Option Freedom
freedom_of freedoms asked (x ∷ xs) (y ∷ ys) other =
    if are_same xs ys then freedom_between freedoms asked x y other else None
freedom_of freedoms asked (x ∷ xs) [] other = None
freedom_of freedoms asked [] wanted other = None

-- lines in one, with a comma between each two
abbrev pub behind_commas : List (List ℕ) → List ℕ
behind_commas [] = []
behind_commas (line ∷ lines) = codes ", " ++ line ++ behind_commas lines

abbrev pub joined_answer : List (List ℕ) → List ℕ
joined_answer [] = codes "nothing"
joined_answer (line ∷ lines) = line ++ behind_commas lines

-- an answer behind words
abbrev pub answer_behind_words : List ℕ → List (List ℕ) → List ℕ
answer_behind_words words lines = words ++ joined_answer lines

-- what is told of a wrong answer, and behind it why the model says what it does
abbrev pub wrong_text : List (List ℕ) → List (List ℕ) → List ℕ → List ℕ
wrong_text heard wanted reasons =
    answer_behind_words (codes "the drive said ") heard
    ++ answer_behind_words (codes "; it must say ") wanted ++ 10 ∷ reasons

-- an answer that is not the model's
abbrev pub verdict_beside : Option Freedom → List (List ℕ) → List (List ℕ) → List ℕ → Verdict
verdict_beside (Some freedom) heard wanted reasons = Allowed freedom
verdict_beside None heard wanted reasons = Wrong (wrong_text heard wanted reasons)

abbrev pub answers_verdict : List Freedom → List ℕ → List (List ℕ) → List (List ℕ) → List ℕ
    → List ℕ → Verdict
answers_verdict freedoms asked heard wanted other reasons =
    if are_same heard wanted then Agrees
    else verdict_beside (freedom_of freedoms asked heard wanted other) heard wanted reasons

-- the script before a line, and the line
abbrev pub through : List ℕ → Entry → List ℕ
through before entry = before ++ own_line_text entry

-- what the model prints for the line of an entry behind the script before it; the same where reasons are
-- told; and what it prints where every write before wrote another byte, and random bytes are others
abbrev pub printed_at : Config → Judging → Entry → Printed
printed_at config judging entry = record {
  said = text_behind false config judging.script (through judging.script entry);
  explained = text_behind true config judging.script (through judging.script entry);
  other = text_behind false (other_config config) judging.other
      (judging.other ++ other_text entry);
}

-- the reasons of what it prints, which stand behind it where reasons are told
abbrev pub own_reasons : Printed → List ℕ
own_reasons printed = drop (length printed.said) printed.explained

-- what the model says that a drive must say, too, and the same with the drive's number of the session
abbrev pub said_at : Entry → Printed → List (List ℕ)
said_at entry printed = wanted_of entry.answers (script_lines printed.said)

abbrev pub named_at : List SessionPair → Entry → Printed → List (List ℕ)
named_at pairs entry printed = drives_lines pairs (said_at entry printed)

-- what the model answers where every write before wrote another byte, and random bytes are others
abbrev pub model_other : Printed → List ℕ
model_other printed = first_answer (script_lines printed.other)

-- What is known of the drive: the numbers of its sessions, and what blank sectors were shown to hold.
abbrev pub wanted_at : Known → Entry → Printed → List (List ℕ)
wanted_at known entry printed = shown_lines known.shown (first_read entry.line)
    (model_other printed) (named_at known.pairs entry printed)

-- what of it is left open
abbrev pub other_at : Known → Entry → Printed → List ℕ
other_at known entry printed = shown_other known.shown (first_read entry.line)
    (first_answer (named_at known.pairs entry printed)) (model_other printed)

-- why it must be said that a sector is as it was shown
abbrev pub changed_at_entry : Known → Entry → Printed → List ℕ
changed_at_entry known entry printed = changed_reasons known.shown (first_read entry.line)
    (first_answer entry.answers) (first_answer (named_at known.pairs entry printed))
    (model_other printed)

abbrev pub reasons_at : Known → List ℕ → Entry → Printed → List ℕ
reasons_at known asked entry printed = reasons_told entry.line (own_reasons printed) asked
    ++ changed_at_entry known entry printed

-- how answers stand to what must be said
abbrev pub entry_verdict : List Freedom → Known → List ℕ → Entry → Printed → Verdict
entry_verdict freedoms known asked entry printed =
    answers_verdict freedoms entry.line entry.answers
    (wanted_at known entry printed) (other_at known entry printed)
    (reasons_at known asked entry printed)

-- the freedom by which they differ
abbrev pub freedom_at : List Freedom → Known → Entry → Printed → Option Freedom
freedom_at freedoms known entry printed =
    freedom_of freedoms entry.line entry.answers (wanted_at known entry printed)
    (other_at known entry printed)

abbrev pub pairs_behind : List Freedom → Known → Entry → Printed → List SessionPair
pairs_behind freedoms known entry printed =
    pairs_with known.pairs (freedom_at freedoms known entry printed)
    (number_told (first_answer entry.answers)) (number_told (first_answer (said_at entry printed)))

-- by which a drive says of its own what blank sectors hold
abbrev pub is_of_blanks : Freedom → Bool
is_of_blanks ErrorBits = false
is_of_blanks BlankSectors = true
is_of_blanks VendorBytes = false
is_of_blanks Identity = false
is_of_blanks SessionNumbers = false
is_of_blanks ComIds = false
is_of_blanks RandomBytes = false
is_of_blanks Properties = false

abbrev pub is_by_blanks : Option Freedom → Bool
is_by_blanks None = false
is_by_blanks (Some freedom) = is_of_blanks freedom

-- answers show what blank sectors hold where they are what must be said, or differ in that alone
abbrev pub shows_at : List Freedom → Known → Entry → Printed → Bool
shows_at freedoms known entry printed = are_same entry.answers (wanted_at known entry printed)
    || is_by_blanks (freedom_at freedoms known entry printed)

abbrev pub learned_by_read : Option ℕ → List Freedom → Known → Entry → Printed → List ShownSector
learned_by_read None freedoms known entry printed = []
learned_by_read (Some first) freedoms known entry printed =
    if shows_at freedoms known entry printed
    then newly_shown entry.number first (first_answer entry.answers)
    (first_answer (wanted_at known entry printed)) (other_at known entry printed)
    else []

abbrev pub learned_at : List Freedom → Known → Entry → Printed → List ShownSector
learned_at freedoms known entry printed =
    learned_by_read (first_read entry.line) freedoms known entry printed

abbrev pub shown_later : List Freedom → Known → Entry → Printed → List ShownSector
shown_later freedoms known entry printed = kept_behind entry.line known.shown
    ++ learned_at freedoms known entry printed

abbrev pub known_behind : List Freedom → Known → Entry → Printed → Known
known_behind freedoms known entry printed = record {
  pairs = pairs_behind freedoms known entry printed;
  shown = shown_later freedoms known entry printed;
}

-- A line whose answer tells what the drive did: behind a wrong one it may be in another state than the model. A
-- read, also of Level 0, leaves all as it was, and so does a line that prints nothing. What a client of a port
-- takes was done at an earlier line.
abbrev pub can_change : List ℕ → Bool
can_change line = not (bytes_eq (nth_word 0 line) (codes "dread")
    || bytes_eq (nth_word 0 line) (codes "identify") || bytes_eq (nth_word 0 line) (codes "take")
    || bytes_eq (nth_word 0 line) (codes "range") || bytes_eq (nth_word 0 line) (codes "port")
    || bytes_eq (nth_word 0 line) (codes "expect")) && not (asks_level0 line)

abbrev pub is_agreement : Verdict → Bool
is_agreement Agrees = true
is_agreement (Allowed freedom) = false
is_agreement (Wrong text) = false

abbrev pub is_allowance : Verdict → Bool
is_allowance Agrees = false
is_allowance (Allowed freedom) = true
is_allowance (Wrong text) = false

abbrev pub is_wrong : Verdict → Bool
is_wrong Agrees = false
is_wrong (Allowed freedom) = false
is_wrong (Wrong text) = true

-- the answers to a line, judged so; a wrong one to such a line may be a cause of others
abbrev pub ruling_of : Entry → Verdict → Ruling
ruling_of entry verdict = record {
  number = entry.number;
  is_cause = is_wrong verdict && can_change entry.line;
  verdict = verdict;
}

abbrev pub ruling_at : List Freedom → Known → List ℕ → Entry → Printed → Ruling
ruling_at freedoms known asked entry printed =
    ruling_of entry (entry_verdict freedoms known asked entry printed)

-- a line without answers is not judged: what the drive said was not seen, and is taken for the model's
abbrev pub rulings_at : List Freedom → Known → List ℕ → Entry → Printed → List Ruling
rulings_at freedoms known asked entry printed =
    if length entry.answers == 0 then [] else ruling_at freedoms known asked entry printed ∷ []

-- whether the answers to a line, if there are some, are what the model prints
abbrev pub answers_agree : Entry → List ℕ → Bool
answers_agree entry said = length entry.answers == 0
    || are_same entry.answers (wanted_of entry.answers (script_lines said))

-- then it is judged so
abbrev pub agreement_of : Entry → List Ruling
agreement_of entry = if length entry.answers == 0 then [] else ruling_of entry Agrees ∷ []

-- the reasons of the last line that does not receive
abbrev pub asked_behind : List ℕ → Entry → Printed → List ℕ
asked_behind asked entry printed = if is_receiving entry.line then asked else own_reasons printed

abbrev pub entry_added : List Freedom → Judging → Entry → Printed → Judging
entry_added freedoms judging entry printed = record {
  script = judging.script ++ entry_text entry;
  other = judging.other ++ other_text entry;
  asked = asked_behind judging.asked entry printed;
  known = known_behind freedoms judging.known entry printed;
  rulings = judging.rulings ++ rulings_at freedoms judging.known judging.asked entry printed;
}

-- behind each line the model goes on by its own answer
abbrev pub with_models_entry : Config → List Freedom → Judging → Entry → Judging
with_models_entry config freedoms judging entry =
    entry_added freedoms judging entry (printed_at config judging entry)

-- a line is the model's where it names a session by the model's number
abbrev pub with_entry : Config → List Freedom → Judging → Entry → Judging
with_entry config freedoms judging entry =
    with_models_entry config freedoms judging (as_model judging.known.pairs entry)

abbrev pub nothing_known : Known
nothing_known = record { pairs = []; shown = [] }

abbrev pub nothing_judged : Judging
nothing_judged = record { script = []; other = []; asked = []; known = nothing_known; rulings = [] }

abbrev pub judging_of : Config → List Freedom → List Entry → Judging
judging_of config freedoms entries = fold (with_entry config freedoms) nothing_judged entries

abbrev pub rulings_of : Config → List Freedom → List Entry → List Ruling
rulings_of config freedoms entries = (judging_of config freedoms entries).rulings

-- the status of the script, as the model runs it
abbrev pub script_status : Config → List Freedom → List Entry → ℕ
script_status config freedoms entries =
    (run_outcome_of config (judging_of config freedoms entries).script).status

-- how many answers were judged so
abbrev pub how_many : (Verdict → Bool) → List Ruling → ℕ
how_many test rulings = count_by (λ (ruling : Ruling). test ruling.verdict) rulings

-- what is told of an answer: nothing where it is the model's, and quietly nothing where a freedom allows it
abbrev pub verdict_text : Bool → ℕ → Verdict → List ℕ
verdict_text quiet number Agrees = []
verdict_text true number (Allowed freedom) = []
verdict_text false number (Allowed freedom) =
    codes "line " ++ decimal number ++ codes ": allowed: " ++ freedom_name freedom ++ 10 ∷ []
verdict_text quiet number (Wrong text) =
    codes "line " ++ decimal number ++ codes ": wrong: " ++ text

-- the line of the first cause
abbrev pub first_cause : List Ruling → Option ℕ
first_cause [] = None
first_cause (ruling ∷ rulings) =
    if ruling.is_cause then Some ruling.number else first_cause rulings

-- from which line an answer may follow
abbrev pub follow_text : Option ℕ → ℕ → List ℕ
follow_text None number = []
follow_text (Some cause) number =
    if nat_lt cause number then codes "may follow from line " ++ decimal cause ++ 10 ∷ [] else []

-- what is told of an answer, and, where it is wrong, of the first cause before it
abbrev pub ruling_text : Bool → Option ℕ → Ruling → List ℕ
ruling_text quiet cause ruling = verdict_text quiet ruling.number ruling.verdict
    ++ (if is_wrong ruling.verdict then follow_text cause ruling.number else [])

-- a number between two words
abbrev pub count_between : List ℕ → ℕ → List ℕ → List ℕ
count_between front number behind = front ++ decimal number ++ behind

-- how many answers were judged, and how
abbrev pub summary_text : List Ruling → List ℕ
summary_text rulings = count_between (codes "judged ") (length rulings) (codes " answers: ")
    ++ count_between [] (how_many is_agreement rulings) (codes " agree, ")
    ++ count_between [] (how_many is_allowance rulings) (codes " by a freedom, ")
    ++ count_between [] (how_many is_wrong rulings) (codes " wrong" ++ 10 ∷ [])

abbrev pub rulings_text : Bool → List Ruling → List ℕ
rulings_text quiet rulings =
    flat_map (ruling_text quiet (first_cause rulings)) rulings ++ summary_text rulings

-- a wrong answer is told by the status
abbrev pub rulings_told : Bool → List Ruling → RunOutcome
rulings_told quiet rulings = record {
  text = rulings_text quiet rulings;
  status = if how_many is_wrong rulings == 0 then 0 else 1;
}

abbrev pub judged_entries : Config → Terms → List Entry → RunOutcome
judged_entries config terms entries =
    rulings_told terms.quiet (rulings_of config terms.freedoms entries)

-- a transcript whose script does not run to its end is not judged
abbrev pub judged_behind : Config → Terms → List Entry → ℕ → RunOutcome
judged_behind config terms entries status =
    if status == 0 then judged_entries config terms entries else ends 2

-- what a transcript comes to
abbrev pub judgement_of_entries : Config → Terms → List Entry → RunOutcome
judgement_of_entries config terms entries =
    judged_behind config terms entries (script_status config terms.freedoms entries)

abbrev pub judgement_of : Config → Terms → List ℕ → RunOutcome
judgement_of config terms text =
    judgement_of_entries config terms (entries_of (script_lines text))

abbrev pub JudgesTranscript : Config → Terms → Option (List ℕ) → ℕ → Option (List ℕ)
    → Option (List ℕ) → Type 0
JudgesTranscript config terms input status before after =
    IfSome input (λ text. Yields (judgement_of config terms text) status before after)
