-- The transcript that the model's own answers to a script make.
use Rattle.std.proofs.Common.{◌≡◌, ℕ, ◌+◌, ◌==◌, rules, Bool, true, false, not, ◌&&◌, ◌||◌, cond, List, [], ◌∷◌, ◌++◌, map, length, fold, filter, inl, inr, ◌⊎◌, refl, sym, ap, ap₂, ◌∙◌, arith, append_assoc, append-nil}
use Rattle.std.proofs.lemmas.Bool.{false≢true}
use Rattle.std.proofs.lemmas.Grind.{fold-append, flat_map-append}
use Rattle.std.specs.List.{list_any, list_all, flat_map}
use Rattle.sp_cells.specs.Config.{Config}
use Rattle.tool.specs.Scripts.{is_skipped, script_lines, with_numbers}
use Rattle.judged.specs.Transcripts.{with_line_end, answer_marks, is_answer_line, answer_told, fresh_entry, with_answer, with_remark, line_added, nothing_read, all_entries, holds_remarks, own_line_text, remarks_text, entry_text}
use Rattle.judged.specs.Answers.{said_behind, is_audit, wanted_of}
use Rattle.judged.specs.Judgements.{are_same, verdict_beside, through, printed_at, said_at, wanted_at, reasons_at, freedom_at, entry_verdict, ruling_at, rulings_at, with_models_entry, with_entry, nothing_judged, rulings_of, is_agreement}
use Rattle.judged.specs.Laws.{OwnAnswersLaw, answer_line, marks_for, own_lines, own_transcript}
use Rattle.judged.specs.declared.bench.Printed.{Printed}
use Rattle.judged.specs.declared.entry.Entry.{Entry}
use Rattle.judged.specs.declared.freedom.Freedom.{Freedom}
use Rattle.judged.specs.declared.judging.Judging.{Judging}
use Rattle.judged.specs.declared.known.Known.{Known}
use Rattle.judged.specs.declared.reading.Reading.{Reading}
use Rattle.judged.specs.declared.ruling.Ruling.{Ruling}
use Rattle.judged.specs.declared.ruling.Verdict.TheVariants.{Agrees}
use Rattle.judged.proofs.Folded.{IsModels, wanted-models, still-models}
use Rattle.judged.proofs.PlainPairs.{entry-plain}
use Rattle.judged.proofs.SameLines.{are_same-Decides, and-true, both}

abbrev test : Ruling → Bool
test ruling = is_agreement ruling.verdict

-- what must be said of what is said is all of it
keeps_all : (lines : List (List ℕ)) → filter (λ line. true || not (is_audit line)) lines ≡ lines
keeps_all [] = refl
keeps_all (line ∷ lines) = ap (λ ls. line ∷ ls) (keeps_all lines)

keeps_plain : (lines : List (List ℕ)) → list_any is_audit lines ≡ false → filter (λ line. false || not (is_audit line)) lines ≡ lines
keeps_plain [] none = refl
keeps_plain (line ∷ lines) none = at (is_audit line) none (keeps_plain lines)
  where
    at : (t : Bool) → (t || list_any is_audit lines) ≡ false
        → (list_any is_audit lines ≡ false → filter (λ line. false || not (is_audit line)) lines ≡ lines)
        → cond (not t) (line ∷ filter (λ line. false || not (is_audit line)) lines) (filter (λ line. false || not (is_audit line)) lines) ≡ line ∷ lines
    at true none behind = absurd (false≢true (sym none))
    at false none behind = ap (λ ls. line ∷ ls) (behind none)

wanted_own : (said : List (List ℕ)) → wanted_of said said ≡ said
wanted_own said = at (list_any is_audit said) refl
  where
    at : (t : Bool) → list_any is_audit said ≡ t → filter (λ line. t || not (is_audit line)) said ≡ said
    at true is = keeps_all said
    at false is = keeps_plain said is

-- answers that are what the model says are those that must be said, and agree
said_own : (entry : Entry) (printed : Printed) → entry.answers ≡ script_lines printed.said → said_at entry printed ≡ entry.answers
said_own entry printed is = sym (ap (λ said. wanted_of entry.answers said) is) ∙ wanted_own entry.answers

agreed : (freedoms : List Freedom) (known : Known) (asked : List ℕ) (entry : Entry) (printed : Printed) → IsModels known
    → entry.answers ≡ script_lines printed.said → entry_verdict freedoms known asked entry printed ≡ Agrees
agreed freedoms known asked entry printed models is =
    let reasons = reasons_at known asked entry printed in
    let wanted : wanted_at known entry printed ≡ entry.answers =
    wanted-models known entry printed models ∙ said_own entry printed is in
    let same : are_same entry.answers (wanted_at known entry printed) ≡ true =
    (are_same-Decides entry.answers (wanted_at known entry printed)).1 (sym wanted) in
    ap (λ t. cond t Agrees (verdict_beside (freedom_at freedoms known entry printed) entry.answers (wanted_at known entry printed) reasons)) same

-- so far all agree, and the line at hand has no answer, or the model's
record Fits (config : Config) (freedoms : List Freedom) (before : List ℕ) (reading : Reading) (judging : Judging) : Type 0 where
  judged : fold (with_entry config freedoms) nothing_judged reading.done ≡ judging
  models : IsModels judging.known
  agree : list_all test judging.rulings ≡ true
  script : judging.script ++ entry_text reading.current ≡ before
  answers : (reading.current.answers ≡ []) ⊎ (reading.current.answers ≡ said_behind config judging.script (through judging.script reading.current))

all-append : (xs ys : List Ruling) → list_all test xs ≡ true → list_all test ys ≡ true → list_all test (xs ++ ys) ≡ true
all-append [] ys a b = b
all-append (x ∷ xs) ys a b =
    let p = both (test x) (list_all test xs) a in
    and-true (test x) (list_all test (xs ++ ys)) p.0 (all-append xs ys p.1 b)

-- the line at hand agrees, too
at_hand : (config : Config) (freedoms : List Freedom) (judging : Judging) (entry : Entry) → IsModels judging.known
    → (entry.answers ≡ []) ⊎ (entry.answers ≡ said_behind config judging.script (through judging.script entry))
    → list_all test (rulings_at freedoms judging.known judging.asked entry (printed_at config judging entry)) ≡ true
at_hand config freedoms judging entry plain (inl none) =
    ap (λ (answers : List (List ℕ)). list_all test (cond (length answers == 0) [] (ruling_at freedoms judging.known judging.asked entry (printed_at config judging entry) ∷ []))) none
at_hand config freedoms judging entry plain (inr is) = at (length entry.answers == 0)
  where
    at : (t : Bool) → list_all test (cond t [] (ruling_at freedoms judging.known judging.asked entry (printed_at config judging entry) ∷ [])) ≡ true
    at true = refl
    at false = ap (λ v. is_agreement v && true) (agreed freedoms judging.known judging.asked entry (printed_at config judging entry) plain is)

-- it is sent to the model as it stands
stands : (config : Config) (freedoms : List Freedom) (before : List ℕ) (reading : Reading) (judging : Judging)
    → Fits config freedoms before reading judging
    → with_entry config freedoms judging reading.current ≡ with_models_entry config freedoms judging reading.current
stands config freedoms before reading judging fits =
    ap (with_models_entry config freedoms judging) (entry-plain judging.known.pairs reading.current fits.models.0)

next : (config : Config) (freedoms : List Freedom) (before : List ℕ) (reading : Reading) (judging : Judging)
    → Fits config freedoms before reading judging
    → list_all test (with_models_entry config freedoms judging reading.current).rulings ≡ true
next config freedoms before reading judging fits =
    all-append judging.rulings (rulings_at freedoms judging.known judging.asked reading.current (printed_at config judging reading.current)) fits.agree
    (at_hand config freedoms judging reading.current fits.models fits.answers)

-- sessions keep the model's numbers, and blank sectors zeros
models_by : (config : Config) (freedoms : List Freedom) (judging : Judging) (entry : Entry) → IsModels judging.known
    → (entry.answers ≡ []) ⊎ (entry.answers ≡ said_behind config judging.script (through judging.script entry))
    → IsModels (with_models_entry config freedoms judging entry).known
models_by config freedoms judging entry plain (inl none) =
    still-models freedoms judging.known entry (printed_at config judging entry) plain (inl none)
models_by config freedoms judging entry plain (inr is) =
    still-models freedoms judging.known entry (printed_at config judging entry) plain (inr (sym (said_own entry (printed_at config judging entry) is)))

judged_all : (config : Config) (freedoms : List Freedom) (before : List ℕ) (reading : Reading) (judging : Judging)
    → Fits config freedoms before reading judging
    → fold (with_entry config freedoms) nothing_judged (reading.done ++ reading.current ∷ []) ≡ with_models_entry config freedoms judging reading.current
judged_all config freedoms before reading judging fits =
    fold-append (with_entry config freedoms) nothing_judged reading.done (reading.current ∷ [])
    ∙ ap (λ j. with_entry config freedoms j reading.current) fits.judged
    ∙ stands config freedoms before reading judging fits

final : (config : Config) (freedoms : List Freedom) (before : List ℕ) (reading : Reading) (judging : Judging)
    → Fits config freedoms before reading judging
    → list_all test (rulings_of config freedoms (all_entries reading)) ≡ true
final config freedoms before reading judging fits =
    ap (λ (j : Judging). list_all test j.rulings) (judged_all config freedoms before reading judging fits)
    ∙ next config freedoms before reading judging fits

-- the marks of answers
abbrev marks_of : Bool → List (List ℕ) → List (List ℕ)
marks_of remarks answers = flat_map (λ (answer : List ℕ). answer_marks remarks) answers

-- answers are read behind a line
abbrev answered : Bool → Reading → List (List ℕ) → Reading
answered remarks reading answers = record reading {
  current = record reading.current {
    behind = reading.current.behind ++ marks_of remarks answers;
    answers = reading.current.answers ++ answers;
  };
}

neither : (t r : Bool) → (t || r) ≡ false → (t ≡ false) × (r ≡ false)
neither true r e = absurd (false≢true (sym e))
neither false r e = (refl, e)

abbrev reading_with : Reading → List (List ℕ) → List (List ℕ) → Reading
reading_with reading behind answers =
    record reading { current = record reading.current { behind = behind; answers = answers } }

abbrev answer_read : Bool → Reading → List ℕ → Reading
answer_read remarks reading text = record reading { current = with_answer remarks reading.current (answer_told text) }

abbrev remark_read : Reading → List ℕ → Reading
remark_read reading text = record reading { current = with_remark reading.current text }

abbrev line_read : Reading → ℕ → List ℕ → Reading
line_read reading number text = record {
  done = reading.done ++ reading.current ∷ [];
  current = fresh_entry (record { number = number; text = text });
}

abbrev read_on : Bool → Reading → ℕ → List (List ℕ) → Reading
read_on remarks reading n texts = fold (line_added remarks) reading (with_numbers n texts)

-- the lines of answers are read as these answers
reads : (remarks : Bool) (answers : List (List ℕ)) (n : ℕ) (reading : Reading) (rest : List (List ℕ))
    → (reading.current.number == 0) ≡ false
    → read_on remarks reading n (map answer_line answers ++ rest) ≡ read_on remarks (answered remarks reading answers) (n + length answers) rest
unfolding with_numbers
reads remarks [] n reading rest some =
    ap₂ (λ (s : List (List ℕ)) (bs : List (List ℕ)). read_on remarks (reading_with reading s bs) n rest)
    (sym (append-nil reading.current.behind)) (sym (append-nil reading.current.answers))
    ∙ ap (λ m. read_on remarks (answered remarks reading []) m rest) (omega arith)
reads remarks (a ∷ more) n reading rest some =
    let one : Reading = record reading { current = with_answer remarks reading.current a } in
    let step : line_added remarks reading (record { number = n + 1; text = answer_line a }) ≡ one =
    ap (λ t. cond (not t) one (cond (is_skipped remarks (answer_line a)) (remark_read reading (answer_line a)) (line_read reading (n + 1) (answer_line a)))) some in
    let grown : answered remarks one more ≡ answered remarks reading (a ∷ more) =
    ap₂ (λ (s : List (List ℕ)) (bs : List (List ℕ)). reading_with reading s bs)
    (append_assoc reading.current.behind (answer_marks remarks) (marks_of remarks more)) (append_assoc reading.current.answers (a ∷ []) more) in
    ap (λ r. read_on remarks r (n + 1) (map answer_line more ++ rest)) step
    ∙ reads remarks more (n + 1) one rest some
    ∙ ap₂ (λ (r : Reading) (m : ℕ). read_on remarks r m rest) grown (omega arith)

remark_step : (remarks : Bool) (reading : Reading) (n : ℕ) (text : List ℕ) → is_answer_line text ≡ false → is_skipped remarks text ≡ true
    → line_added remarks reading (record { number = n; text = text }) ≡ remark_read reading text
remark_step remarks reading n text no_answer is =
    ap (λ a. cond (a && not (reading.current.number == 0)) (answer_read remarks reading text) (cond (is_skipped remarks text) (remark_read reading text) (line_read reading n text))) no_answer
    ∙ ap (λ s. cond s (remark_read reading text) (line_read reading n text)) is

line_step : (remarks : Bool) (reading : Reading) (n : ℕ) (text : List ℕ) → is_answer_line text ≡ false → is_skipped remarks text ≡ false
    → line_added remarks reading (record { number = n; text = text }) ≡ line_read reading n text
line_step remarks reading n text no_answer is =
    ap (λ a. cond (a && not (reading.current.number == 0)) (answer_read remarks reading text) (cond (is_skipped remarks text) (remark_read reading text) (line_read reading n text))) no_answer
    ∙ ap (λ s. cond s (remark_read reading text) (line_read reading n text)) is

abbrev AgreeAll : Config → List Freedom → Reading → Type 0
AgreeAll config freedoms reading = list_all test (rulings_of config freedoms (all_entries reading)) ≡ true

-- what the lines behind come to, wherever the reading stands
abbrev Behind : Config → List Freedom → Bool → List (List ℕ) → Type 0
Behind config freedoms remarks texts = (n : ℕ) (before : List ℕ) (reading : Reading) (judging : Judging)
    → Fits config freedoms before reading judging → AgreeAll config freedoms (read_on remarks reading n (own_lines remarks config before texts))

-- a remark more in the text of an entry
remark_more : (script : List ℕ) (entry : Entry) (text : List ℕ)
    → script ++ entry_text (with_remark entry text) ≡ (script ++ entry_text entry) ++ with_line_end text
remark_more script entry text =
    ap (λ more. script ++ (own_line_text entry ++ more)) (flat_map-append with_line_end entry.behind (text ∷ []) ∙ ap (λ end. remarks_text entry ++ end) (append-nil (with_line_end text)))
    ∙ ap (λ more. script ++ more) (sym (append_assoc (own_line_text entry) (remarks_text entry) (with_line_end text)))
    ∙ sym (append_assoc script (entry_text entry) (with_line_end text))

own_by : (config : Config) (freedoms : List Freedom) (remarks : Bool) (text : List ℕ) (texts : List (List ℕ)) (n : ℕ) (before : List ℕ)
    (reading : Reading) (judging : Judging) → Behind config freedoms remarks texts → is_answer_line text ≡ false
    → Fits config freedoms before reading judging → (t : Bool) → is_skipped remarks text ≡ t
    → AgreeAll config freedoms (read_on remarks reading n
    (cond t (text ∷ own_lines remarks config (before ++ with_line_end text) texts)
    (text ∷ (map answer_line (said_behind config before (before ++ with_line_end text))
    ++ own_lines remarks config (before ++ (with_line_end text ++ marks_for remarks (said_behind config before (before ++ with_line_end text)))) texts))))
unfolding with_numbers
own_by config freedoms remarks text texts n before reading judging behind no_answer fits true is =
    ap (λ r. list_all test (rulings_of config freedoms (all_entries (read_on remarks r (n + 1) (own_lines remarks config (before ++ with_line_end text) texts)))))
    (remark_step remarks reading (n + 1) text no_answer is)
    ∙ behind (n + 1) (before ++ with_line_end text) (remark_read reading text) judging
    (record {
      judged = fits.judged;
      models = fits.models;
      agree = fits.agree;
      script = remark_more judging.script reading.current text ∙ ap (λ b. b ++ with_line_end text) fits.script;
      answers = fits.answers;
    })
own_by config freedoms remarks text texts n before reading judging behind no_answer fits false is =
    let said = said_behind config before (before ++ with_line_end text) in
    let later = before ++ (with_line_end text ++ marks_for remarks said) in
    let some : (n + 1 == 0) ≡ false = search rules in
    ap (λ r. list_all test (rulings_of config freedoms (all_entries (read_on remarks r (n + 1) (map answer_line said ++ own_lines remarks config later texts)))))
    (line_step remarks reading (n + 1) text no_answer is)
    ∙ ap (λ r. list_all test (rulings_of config freedoms (all_entries r)))
    (reads remarks said (n + 1) (line_read reading (n + 1) text) (own_lines remarks config later texts) some)
    ∙ behind (n + 1 + length said) later (answered remarks (line_read reading (n + 1) text) said)
    (with_models_entry config freedoms judging reading.current)
    (record {
      judged = judged_all config freedoms before reading judging fits;
      models = models_by config freedoms judging reading.current fits.models fits.answers;
      agree = next config freedoms before reading judging fits;
      script = ap (λ (t : Bool). (judging.script ++ entry_text reading.current) ++ (cond t [] (with_line_end text) ++ marks_for remarks said)) some
          ∙ ap (λ b. b ++ (with_line_end text ++ marks_for remarks said)) fits.script;
      answers = inr (
          ap (λ b. said_behind config b (b ++ with_line_end text)) (sym fits.script)
          ∙ ap (λ (t : Bool). said_behind config (judging.script ++ entry_text reading.current) ((judging.script ++ entry_text reading.current) ++ cond t [] (with_line_end text))) (sym some)
          );
    })

own_from : (config : Config) (freedoms : List Freedom) (remarks : Bool) (texts : List (List ℕ)) → list_any is_answer_line texts ≡ false
    → Behind config freedoms remarks texts
unfolding with_numbers
own_from config freedoms remarks [] none n before reading judging fits = final config freedoms before reading judging fits
own_from config freedoms remarks (text ∷ texts) none n before reading judging fits =
    let each = neither (is_answer_line text) (list_any is_answer_line texts) none in
    own_by config freedoms remarks text texts n before reading judging (own_from config freedoms remarks texts each.1) each.0 fits
    (is_skipped remarks text) refl

same_remarks : (config : Config) (lines : List (List ℕ)) → holds_remarks (own_transcript config lines) ≡ holds_remarks lines
same_remarks config [] = refl
same_remarks config (text ∷ texts) = at (is_skipped (holds_remarks (text ∷ texts)) text) _ _
  where
    at : (t : Bool) (a b : List (List ℕ)) → holds_remarks (cond t (text ∷ a) (text ∷ b)) ≡ holds_remarks (text ∷ texts)
    at true a b = refl
    at false a b = refl

pub own : OwnAnswersLaw
own config freedoms lines none =
    ap (λ h. list_all test (rulings_of config freedoms (all_entries (fold (line_added h) nothing_read (with_numbers 0 (own_transcript config lines))))))
    (same_remarks config lines)
    ∙ own_from config freedoms (holds_remarks lines) lines none 0 [] nothing_read nothing_judged
    (record { judged = refl; models = (tt, tt); agree = refl; script = refl; answers = inl refl })
