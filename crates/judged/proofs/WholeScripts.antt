-- The texts of entries are whole lines.
use Rattle.std.proofs.Common.{◌≡◌, ℕ, ◌==◌, Bool, true, false, cond, List, [], ◌∷◌, ◌++◌, ap, ◌∙◌, subst, append_assoc}
use Rattle.std.specs.List.{flat_map}
use Rattle.sp_cells.specs.Config.{Config}
use Rattle.runs.specs.Stepped.{WholeLines, RanTo}
use Rattle.runs.specs.declared.recorded.stepped.SteppedRun.{SteppedRun}
use Rattle.runs.proofs.WholeTexts.{none-whole, both-whole, ended-whole}
use Rattle.judged.specs.Blanks.{expects, other_line, other_text}
use Rattle.judged.specs.Transcripts.{with_line_end, own_line_text, remarks_text, entry_text}
use Rattle.judged.specs.declared.entry.Entry.{Entry}

pub line_end-whole : (line : List ℕ) → WholeLines (with_line_end line)
line_end-whole line = subst WholeLines (append_assoc line (13 ∷ []) (10 ∷ [])) (ended-whole (line ++ 13 ∷ []))

lines-whole : (lines : List (List ℕ)) → WholeLines (flat_map with_line_end lines)
lines-whole [] = none-whole
lines-whole (line ∷ lines) =
    both-whole (with_line_end line) (flat_map with_line_end lines) (line_end-whole line) (lines-whole lines)

pub line-whole : (entry : Entry) → WholeLines (own_line_text entry)
line-whole entry = at (entry.number == 0)
  where
    at : (t : Bool) → WholeLines (cond t [] (with_line_end entry.line))
    at true = none-whole
    at false = line_end-whole entry.line

pub remarks-whole : (entry : Entry) → WholeLines (remarks_text entry)
remarks-whole entry = lines-whole entry.behind

pub entry-whole : (entry : Entry) → WholeLines (entry_text entry)
entry-whole entry = both-whole (own_line_text entry) (remarks_text entry) (line-whole entry) (remarks-whole entry)

pub other-whole : (entry : Entry) → WholeLines (other_text entry)
other-whole entry = at (entry.number == 0) (expects entry.line)
  where
    at : (t e : Bool) → WholeLines (cond t (remarks_text entry) (cond e [] (with_line_end (other_line entry.line))))
    at true e = remarks-whole entry
    at false true = none-whole
    at false false = line_end-whole (other_line entry.line)

-- a run goes on by a line and its remarks
pub both-ran : (old now new : SteppedRun) (config : Config) (line remarks : List ℕ) (entry : Entry)
    → line ≡ own_line_text entry → remarks ≡ remarks_text entry
    → ((explains : Bool) (before : List ℕ) → RanTo old explains config before → RanTo now explains config (before ++ line))
    → ((explains : Bool) (before : List ℕ) → RanTo now explains config before → RanTo new explains config (before ++ remarks))
    → (explains : Bool) (before : List ℕ) → RanTo old explains config before → RanTo new explains config (before ++ entry_text entry)
both-ran old now new config line remarks entry is_line is_remarks first second = λ explains before ran.
    subst (RanTo new explains config)
    (append_assoc before line remarks
    ∙ ap (λ l. before ++ (l ++ remarks)) is_line ∙ ap (λ r. before ++ (own_line_text entry ++ r)) is_remarks)
    (second explains (before ++ line) (first explains before ran))
