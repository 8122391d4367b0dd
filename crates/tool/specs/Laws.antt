-- Scripts and their remarks, in words.
use Rattle.std.specs.Prelude.{◌≡◌, ℕ, true, false, List, ◌∷◌, ◌++◌, map}
use Rattle.sp_cells.specs.Config.{Config}
use Rattle.script_lines.specs.Remarks.{is_remark}
use Rattle.tool.specs.Outcomes.{outcome_of_lines}
use Rattle.tool.specs.Scripts.{ScriptLine, may_hold_remarks, with_numbers, effective_lines}
use Rattle.tool.specs.declared.head.ScriptKind.{ScriptKind}

-- what lines say, without their numbers
abbrev pub texts_of : List ScriptLine → List (List ℕ)
texts_of lines = map (λ (line : ScriptLine). line.text) lines

-- in a script whose first line begins with `#`, a remark does nothing, wherever it stands; it counts
-- as a line
abbrev pub RemarkLaw : Type 0
RemarkLaw = (first line : List ℕ) (before behind : List (List ℕ))
    → may_hold_remarks first ≡ true → is_remark line ≡ true
    → texts_of (effective_lines (first ∷ before ++ line ∷ behind))
    ≡ texts_of (effective_lines (first ∷ before ++ behind))

-- in any other script every line does what it says
abbrev pub OtherScriptLaw : Type 0
OtherScriptLaw = (first : List ℕ) (texts : List (List ℕ)) → may_hold_remarks first ≡ false
    → effective_lines (first ∷ texts) ≡ with_numbers 0 (first ∷ texts)

-- without reasons the numbers of lines make no difference to what they come to
abbrev pub LineNumberLaw : Type 0
LineNumberLaw = (kind : ScriptKind) (config : Config) (ones others : List ScriptLine)
    → texts_of ones ≡ texts_of others
    → outcome_of_lines false kind config ones ≡ outcome_of_lines false kind config others
