-- What is printed, with lines or reasons behind it.
use Rattle.std.proofs.Common.{◌≡◌, ◌∙◌, ℕ, List, [], ◌∷◌, ◌++◌, sym, ap, append_assoc}
use Rattle.std.proofs.lemmas.List.{append-nil}
use Rattle.script_lines.specs.Texts.{Prints, printed, last_of}
use Rattle.script_lines.specs.declared.report.Report.{Report}
use Rattle.drive_scripts.specs.Turns.{PrintsWithReasons}

-- a line, and lines behind it
pub prints-then : (before mid after : Report) (text : List ℕ) (later : List (List ℕ))
    → Prints before mid (text ∷ []) → Prints mid after later → Prints before after (text ∷ later)
prints-then before mid after text later first second = record {
  pending = second.pending ∙ ap (λ (p : List ℕ). p ++ printed later) first.pending
      ∙ simp (append_assoc, append-nil);
  last = second.last ∙ ap (λ (l : List ℕ). last_of l later) first.last;
}

-- what is printed, and no reasons behind it
pub plainly : (before after : Report) (lines : List (List ℕ)) → Prints before after lines
    → PrintsWithReasons before after lines []
plainly before after lines prints = record {
  pending = prints.pending
      ∙ ap (λ text. before.pending.items ++ text) (sym (append-nil (printed lines)));
  last = prints.last;
}

-- what is printed, and reasons behind it
pub with-reasons : (before mid after : Report) (lines : List (List ℕ)) (reasons : List ℕ)
    → Prints before mid lines → after.pending.items ≡ mid.pending.items ++ reasons
    → after.last ≡ mid.last → PrintsWithReasons before after lines reasons
with-reasons before mid after lines reasons prints more same = record {
  pending = more ∙ ap (λ text. text ++ reasons) prints.pending
      ∙ append_assoc before.pending.items (printed lines) reasons;
  last = ap (λ last. last.items) same ∙ prints.last;
}
