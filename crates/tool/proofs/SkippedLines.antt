-- Lines that are skipped, and lines that are not.
use Rattle.std.proofs.Common.{◌≡◌, ℕ, ◌+◌, Bool, true, false, List, [], ◌∷◌, ◌++◌, refl, sym, ap, ◌∙◌}
use Rattle.std.specs.Prelude.{if◌then◌else◌}
use Rattle.script_lines.specs.Remarks.{is_remark}
use Rattle.tool.specs.Scripts.{ScriptLine, with_numbers, is_skipped, without_remarks}
use Rattle.tool.specs.Laws.{texts_of, RemarkLaw, OtherScriptLaw}

pub skips : (remarks : Bool) (line : ScriptLine) (lines : List ScriptLine)
    → is_skipped remarks line.text ≡ true
    → without_remarks remarks (line ∷ lines) ≡ without_remarks remarks lines
unfolding without_remarks
skips remarks line lines is =
    ap
    (λ (b : Bool). if b then without_remarks remarks lines else line ∷ without_remarks remarks lines) is

pub keeps : (remarks : Bool) (line : ScriptLine) (lines : List ScriptLine)
    → is_skipped remarks line.text ≡ false
    → without_remarks remarks (line ∷ lines) ≡ line ∷ without_remarks remarks lines
unfolding without_remarks
keeps remarks line lines is =
    ap
    (λ (b : Bool). if b then without_remarks remarks lines else line ∷ without_remarks remarks lines) is

-- the first of numbered lines, where it is skipped and where it is not
pub skips-first : (remarks : Bool) (before : ℕ) (text : List ℕ) (texts : List (List ℕ))
    → is_skipped remarks text ≡ true
    → without_remarks remarks (with_numbers before (text ∷ texts)) ≡ without_remarks remarks (with_numbers (before + 1) texts)
unfolding with_numbers
skips-first remarks before text texts is =
    skips remarks (record { number = before + 1; text = text }) (with_numbers (before + 1) texts) is

pub keeps-first : (remarks : Bool) (before : ℕ) (text : List ℕ) (texts : List (List ℕ))
    → is_skipped remarks text ≡ false
    → without_remarks remarks (with_numbers before (text ∷ texts))
    ≡ record { number = before + 1; text = text } ∷ without_remarks remarks (with_numbers (before + 1) texts)
unfolding with_numbers
keeps-first remarks before text texts is =
    keeps remarks (record { number = before + 1; text = text }) (with_numbers (before + 1) texts) is

-- where no remark may stand, all lines stay
all-stay : (lines : List ScriptLine) → without_remarks false lines ≡ lines
unfolding without_remarks
all-stay [] = refl
all-stay (line ∷ lines) = ap (λ rest. line ∷ rest) (all-stay lines)

-- the texts that stay do not depend on the numbers
either : (b : Bool) (one other : ScriptLine) (ones others : List ScriptLine) → one.text ≡ other.text
    → texts_of ones ≡ texts_of others
    → texts_of (if b then ones else one ∷ ones) ≡ texts_of (if b then others else other ∷ others)
either true one other ones others same rest = rest
either false one other ones others same rest =
    ap (λ text. text ∷ texts_of ones) same ∙ ap (λ texts. other.text ∷ texts) rest

same-texts : (remarks : Bool) (before behind : ℕ) (texts : List (List ℕ))
    → texts_of (without_remarks remarks (with_numbers before texts)) ≡ texts_of (without_remarks remarks (with_numbers behind texts))
unfolding without_remarks with_numbers
same-texts remarks before behind [] = refl
same-texts remarks before behind (text ∷ texts) =
    either (is_skipped remarks text) (record { number = before + 1; text = text }) (record { number = behind + 1; text = text })
    (without_remarks remarks (with_numbers (before + 1) texts)) (without_remarks remarks (with_numbers (behind + 1) texts)) refl
    (same-texts remarks (before + 1) (behind + 1) texts)

-- a remark makes no difference, wherever it stands
left-out : (at : ℕ) (line : List ℕ) (before behind : List (List ℕ)) → is_remark line ≡ true
    → texts_of (without_remarks true (with_numbers at (before ++ line ∷ behind)))
    ≡ texts_of (without_remarks true (with_numbers at (before ++ behind)))
unfolding without_remarks with_numbers
left-out at line [] behind is =
    ap texts_of (skips-first true at line behind is) ∙ same-texts true (at + 1) at behind
left-out at line (first ∷ before) behind is =
    let one : ScriptLine = record { number = at + 1; text = first } in
    either (is_remark first) one one
    (without_remarks true (with_numbers (at + 1) (before ++ line ∷ behind)))
    (without_remarks true (with_numbers (at + 1) (before ++ behind))) refl
    (left-out (at + 1) line before behind is)

pub remark_law : RemarkLaw
remark_law first line before behind holds is =
    ap (λ (b : Bool). texts_of (without_remarks b (with_numbers 0 (first ∷ before ++ line ∷ behind)))) holds
    ∙ left-out 0 line (first ∷ before) behind is
    ∙ ap (λ (b : Bool). texts_of (without_remarks b (with_numbers 0 (first ∷ before ++ behind)))) (sym holds)

pub other_script_law : OtherScriptLaw
other_script_law first texts holds =
    ap (λ (b : Bool). without_remarks b (with_numbers 0 (first ∷ texts))) holds ∙ all-stay (with_numbers 0 (first ∷ texts))

pub ruleset of_remarks = (remark_law, other_script_law)
