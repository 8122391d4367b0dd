-- The runs of a transcript's script, line by line.
use Rattle.std.proofs.Common.{◌≡◌, ◌∙◌, ℕ, zero, suc, ◌+◌, ◌<◌, ◌≤◌, ◌==◌, ◌||◌, Bool, true, false, cond, List, [], ◌∷◌, ◌++◌, length, drop, get_or, fold, Option, None, Some, refl, sym, ap, subst, arith, eqb-true, ◌⊎◌, inl, inr}
use Rattle.std.proofs.lemmas.Bool.{false≢true}
use Rattle.sp_cells.specs.Config.{Config}
use Rattle.runs.specs.Stepped.{RanTo}
use Rattle.runs.specs.declared.recorded.stepped.SteppedRun.{SteppedRun}
use Rattle.judged.specs.Answers.{text_behind}
use Rattle.judged.specs.Benches.{ScriptsGoOn}
use Rattle.judged.specs.Blanks.{other_text, other_config, first_answer}
use Rattle.judged.specs.Judgements.{are_same, freedom_of, verdict_beside, through, printed_at, said_at, named_at, model_other, wanted_at, other_at, reasons_at, freedom_at, shows_at, learned_by_read, learned_at, ruling_of, ruling_at, rulings_at, answers_agree, agreement_of, pairs_behind, known_behind, entry_added, with_models_entry, with_entry, nothing_judged, judging_of}
use Rattle.judged.specs.SessionNumbers.{number_told}
use Rattle.judged.specs.SessionPairs.{as_model}
use Rattle.judged.specs.Shown.{first_read, kept_behind, newly_shown}
use Rattle.judged.specs.Transcripts.{entry_text}
use Rattle.judged.specs.declared.bench.Printed.{Printed}
use Rattle.judged.specs.declared.entry.Entry.{Entry}
use Rattle.judged.specs.declared.freedom.Freedom.{Freedom}
use Rattle.judged.specs.declared.judging.Judging.{Judging}
use Rattle.judged.specs.declared.known.Known.{Known}
use Rattle.judged.specs.declared.ruling.Ruling.{Ruling}
use Rattle.judged.specs.declared.ruling.Verdict.TheVariants.{Agrees}
use Rattle.judged.proofs.PlainPairs.{IsPlain, lines-plain, entry-plain, with-plain}
use Rattle.judged.proofs.SameLines.{are_same-Decides}
use Rattle.judged.proofs.ShownZeros.{AreZeros, lines-zeros, kept-zeros, more-zeros, newly-zeros}

-- what the runs print is what the model prints
abbrev pub three : List ℕ → List ℕ → List ℕ → Printed
three said explained other = record { said = said; explained = explained; other = other }

pub printed-so : (config : Config) (judging : Judging) (entry : Entry) (said explained other : List ℕ)
    → said ≡ text_behind false config judging.script (through judging.script entry)
    → explained ≡ text_behind true config judging.script (through judging.script entry)
    → other ≡ text_behind false (other_config config) judging.other (judging.other ++ other_text entry)
    → three said explained other ≡ printed_at config judging entry
printed-so config judging entry said explained other is_said is_explained is_other =
    ap (λ s. three s explained other) is_said
    ∙ ap (λ e. three (text_behind false config judging.script (through judging.script entry)) e other) is_explained
    ∙ ap (λ o. three (text_behind false config judging.script (through judging.script entry)) (text_behind true config judging.script (through judging.script entry)) o) is_other

from-place : (entries : List Entry) (i : ℕ) (d : Entry) → i < length entries → drop i entries ≡ get_or entries i d ∷ drop (suc i) entries
from-place [] i d within = absurd (omega (arith, within))
from-place (entry ∷ entries) zero d within = refl
from-place (entry ∷ entries) (suc i) d within = from-place entries i d (omega (arith, within))

-- one line more is judged
pub one_more : (config : Config) (freedoms : List Freedom) (judging later whole : Judging) (entries : List Entry) (i next : ℕ) (entry d asked : Entry)
    (printed : Printed) → i < length entries → next ≡ i + 1 → entry ≡ get_or entries i d → asked ≡ as_model judging.known.pairs entry
    → later ≡ entry_added freedoms judging asked printed → printed ≡ printed_at config judging asked
    → fold (with_entry config freedoms) judging (drop i entries) ≡ whole
    → fold (with_entry config freedoms) later (drop next entries) ≡ whole
one_more config freedoms judging later whole entries i next entry d asked printed within is is_entry is_asked adds prints kept =
    let suc_is : next ≡ suc i = omega (arith, is) in
    ap (λ j. fold (with_entry config freedoms) j (drop next entries))
    (adds ∙ ap (entry_added freedoms judging asked) prints ∙ ap (with_models_entry config freedoms judging) is_asked)
    ∙ ap (λ n. fold (with_entry config freedoms) (with_entry config freedoms judging entry) (drop n entries)) suc_is
    ∙ ap (λ e. fold (with_entry config freedoms) (with_entry config freedoms judging e) (drop (suc i) entries)) is_entry
    ∙ sym (ap (fold (with_entry config freedoms) judging) (from-place entries i d within))
    ∙ kept

pub goes_on : (freedoms : List Freedom) (judging later : Judging) (entry : Entry) (printed : Printed)
    → later ≡ entry_added freedoms judging entry printed → ScriptsGoOn judging later entry
goes_on freedoms judging later entry printed is = (ap (λ (j : Judging). j.script) is, ap (λ (j : Judging). j.other) is)

pub none_left : (entries : List Entry) (i : ℕ) → length entries ≤ i → drop i entries ≡ []
none_left [] zero most = refl
none_left [] (suc i) most = refl
none_left (entry ∷ entries) zero most = absurd (omega (arith, most))
none_left (entry ∷ entries) (suc i) most = none_left entries i (omega (arith, most))

pub all_judged : (config : Config) (freedoms : List Freedom) (judging : Judging) (entries : List Entry) (i : ℕ) → length entries ≤ i
    → fold (with_entry config freedoms) judging (drop i entries) ≡ judging_of config freedoms entries
    → judging ≡ judging_of config freedoms entries
all_judged config freedoms judging entries i most kept =
    sym (ap (fold (with_entry config freedoms) judging) (none_left entries i most)) ∙ kept

-- no answers, or those that are wanted
no-answers : (answers : List (List ℕ)) → (length answers == 0) ≡ true → answers ≡ []
no-answers [] none = refl
no-answers (answer ∷ answers) none = let no = eqb-true (length (answer ∷ answers)) 0 none in absurd (omega (arith, no))

either : (t r : Bool) → (t || r) ≡ true → (t ≡ true) ⊎ (r ≡ true)
either true r e = inl refl
either false r e = inr e

none-or-said : (entry : Entry) (printed : Printed) → answers_agree entry printed.said ≡ true
    → (entry.answers ≡ []) ⊎ (entry.answers ≡ said_at entry printed)
none-or-said entry printed agree =
    at (either (length entry.answers == 0) (are_same entry.answers (said_at entry printed)) agree)
  where
    at : ((length entry.answers == 0) ≡ true) ⊎ (are_same entry.answers (said_at entry printed) ≡ true)
        → (entry.answers ≡ []) ⊎ (entry.answers ≡ said_at entry printed)
    at (inl none) = inl (no-answers entry.answers none)
    at (inr same) = inr ((are_same-Decides entry.answers (said_at entry printed)).0 same)

-- What is known of a drive that said what the model says: its sessions have the model's numbers, and blank sectors hold zeros.
abbrev pub IsModels : Known → Type 0
IsModels known = IsPlain known.pairs × AreZeros known.shown

-- then what must be said is what the model says
pub wanted-models : (known : Known) (entry : Entry) (printed : Printed) → IsModels known → wanted_at known entry printed ≡ said_at entry printed
wanted-models known entry printed models =
    lines-zeros known.shown (first_read entry.line) (model_other printed) (named_at known.pairs entry printed) models.1
    ∙ lines-plain known.pairs (said_at entry printed) models.0

-- where the answers to a line agree, sessions keep the model's numbers
pairs-still : (freedoms : List Freedom) (known : Known) (entry : Entry) (printed : Printed) → IsPlain known.pairs
    → (entry.answers ≡ []) ⊎ (entry.answers ≡ said_at entry printed) → IsPlain (pairs_behind freedoms known entry printed)
pairs-still freedoms known entry printed plain (inl none) =
    with-plain known.pairs (freedom_at freedoms known entry printed) (number_told (first_answer entry.answers)) (number_told (first_answer (said_at entry printed))) plain
    (inr (ap (λ answers. freedom_of freedoms entry.line answers (wanted_at known entry printed) (other_at known entry printed)) none))
pairs-still freedoms known entry printed plain (inr said) =
    with-plain known.pairs (freedom_at freedoms known entry printed) (number_told (first_answer entry.answers)) (number_told (first_answer (said_at entry printed))) plain
    (inl (ap (λ (answers : List (List ℕ)). number_told (first_answer answers)) said))

-- and blank sectors zeros
first-said : (entry : Entry) (printed : Printed) (wanted : List (List ℕ)) → wanted ≡ said_at entry printed
    → (entry.answers ≡ []) ⊎ (entry.answers ≡ said_at entry printed)
    → (first_answer entry.answers ≡ []) ⊎ (first_answer entry.answers ≡ first_answer wanted)
first-said entry printed wanted is (inl none) = inl (ap first_answer none)
first-said entry printed wanted is (inr said) = inr (ap first_answer (said ∙ sym is))

learned-still : (freedoms : List Freedom) (known : Known) (entry : Entry) (printed : Printed) (first : Option ℕ) → IsModels known
    → (entry.answers ≡ []) ⊎ (entry.answers ≡ said_at entry printed) → AreZeros (learned_by_read first freedoms known entry printed)
learned-still freedoms known entry printed None models so = tt
learned-still freedoms known entry printed (Some first) models so = at (shows_at freedoms known entry printed)
  where
    at : (t : Bool) → AreZeros (cond t (newly_shown entry.number first (first_answer entry.answers) (first_answer (wanted_at known entry printed)) (other_at known entry printed)) [])
    at true = newly-zeros entry.number first (first_answer entry.answers) (first_answer (wanted_at known entry printed)) (other_at known entry printed)
        (first-said entry printed (wanted_at known entry printed) (wanted-models known entry printed models) so)
    at false = tt

pub still-models : (freedoms : List Freedom) (known : Known) (entry : Entry) (printed : Printed) → IsModels known
    → (entry.answers ≡ []) ⊎ (entry.answers ≡ said_at entry printed) → IsModels (known_behind freedoms known entry printed)
still-models freedoms known entry printed models so = (
  pairs-still freedoms known entry printed models.0 so,
  more-zeros (kept_behind entry.line known.shown) (learned_at freedoms known entry printed)
      (kept-zeros entry.line known.shown models.1) (learned-still freedoms known entry printed (first_read entry.line) models so),
)

-- where the answers to a line agree, it is judged so
pub agreed_at : (freedoms : List Freedom) (known : Known) (asked : List ℕ) (entry : Entry) (printed : Printed) → IsModels known
    → answers_agree entry printed.said ≡ true → rulings_at freedoms known asked entry printed ≡ agreement_of entry
agreed_at freedoms known asked entry printed models agree = at (length entry.answers == 0) agree
  where
    same : (t : Bool) → t ≡ true
        → cond t Agrees (verdict_beside (freedom_at freedoms known entry printed) entry.answers (wanted_at known entry printed) (reasons_at known asked entry printed))
        ≡ Agrees
    same true is = refl
    same false is = absurd (false≢true is)

    at : (t : Bool) → (t || are_same entry.answers (said_at entry printed)) ≡ true
        → cond t [] (ruling_at freedoms known asked entry printed ∷ [])
        ≡ cond t [] (ruling_of entry Agrees ∷ [])
    at true is = refl
    at false is =
        ap (λ v. ruling_of entry v ∷ [])
        (same (are_same entry.answers (wanted_at known entry printed))
        (ap (are_same entry.answers) (wanted-models known entry printed models) ∙ is))

-- all answers so far agree
abbrev pub AgreeSo : SteppedRun → Config → List Ruling → List Entry → List Entry → Type 0
AgreeSo run config rulings left entries = (freedoms : List Freedom) → (judging : Judging)
    × (fold (with_entry config freedoms) judging left ≡ judging_of config freedoms entries)
    × (judging.rulings ≡ rulings) × RanTo run false config judging.script × IsModels judging.known

pub none_agree : (run : SteppedRun) (config : Config) (rulings : List Ruling) (entries : List Entry) → rulings ≡ [] → RanTo run false config []
    → AgreeSo run config rulings entries entries
none_agree run config rulings entries none ran = λ freedoms. (nothing_judged, refl, sym none, ran, (tt, tt))

pub more_agree : (run new : SteppedRun) (config : Config) (rulings more : List Ruling) (entries : List Entry) (i next : ℕ) (entry d : Entry)
    → i < length entries → next ≡ i + 1 → entry ≡ get_or entries i d
    → ((explains : Bool) (before : List ℕ) → RanTo run explains config before → RanTo new explains config (before ++ entry_text entry))
    → ((explains : Bool) (before : List ℕ) → RanTo run explains config before
    → answers_agree entry (text_behind explains config before (through before entry)) ≡ true)
    → more ≡ rulings ++ agreement_of entry
    → AgreeSo run config rulings (drop i entries) entries → AgreeSo new config more (drop next entries) entries
more_agree run new config rulings more entries i next entry d within is is_entry goes agree adds kept = λ freedoms.
    let (judging, folds, same, ran, models) = kept freedoms in
    let later = with_models_entry config freedoms judging entry in
    let printed = printed_at config judging entry in
    let agrees : answers_agree entry printed.said ≡ true = agree false judging.script ran in (
      later,
      one_more config freedoms judging later _ entries i next entry d entry printed within is is_entry (sym (entry-plain judging.known.pairs entry models.0)) refl refl folds,
      ap (λ r. judging.rulings ++ r) (agreed_at freedoms judging.known judging.asked entry printed models agrees)
          ∙ ap (λ r. r ++ agreement_of entry) same ∙ sym adds,
      goes false judging.script ran,
      still-models freedoms judging.known entry printed models (none-or-said entry printed agrees),
    )

pub all_agree : (run : SteppedRun) (config : Config) (rulings : List Ruling) (entries : List Entry) (i : ℕ) → length entries ≤ i
    → AgreeSo run config rulings (drop i entries) entries → (freedoms : List Freedom)
    → (rulings ≡ (judging_of config freedoms entries).rulings)
    × RanTo run false config (judging_of config freedoms entries).script
all_agree run config rulings entries i most kept freedoms =
    let (judging, folds, same, ran, plain) = kept freedoms in
    let whole = all_judged config freedoms judging entries i most folds in (
      sym same ∙ ap (λ (j : Judging). j.rulings) whole,
      subst (λ (j : Judging). RanTo run false config j.script) whole ran,
    )
