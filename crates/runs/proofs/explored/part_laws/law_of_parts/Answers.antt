use Rattle.std.proofs.Common.{◌≡◌, ◌<◌, ◌≤◌, ◌==◌, ℕ, suc, zero, Bool, true, false, List, cond, length, map, refl, sym, ap, ap₂, ◌∙◌, arith, Option, Some}
use Rattle.sp_cells.specs.Config.{Config}
use Rattle.tool.specs.Outcomes.{ends, run_outcome_of}
use Rattle.tool.specs.Scripts.{script_lines}
use Rattle.runs.specs.Alphabets.{opening_lines_text}
use Rattle.runs.specs.Lists.{lists_of, findings_of}
use Rattle.runs.specs.Merges.{IsExplored, LeavesNoneOut, part_of_lines, part_of_search, part_told, part_text, part_outcome_of, part_behind, part_in, part_texts, merge_of, merge_of_read, shares_up_to, merge_of_parts}
use Rattle.runs.specs.Plans.{most_letters}
use Rattle.runs.specs.Shares.{most_parts, front_of}
use Rattle.runs.specs.Tellings.{search_by, told_of, explored_lines, explored_behind, exploration_of, is_unfit}
use Rattle.runs.specs.declared.explored.plan.Plan.{Plan}
use Rattle.runs.specs.declared.explored.share.Share.{Share}
use Rattle.runs.proofs.explored.PartLists.{share_at}
use Rattle.runs.proofs.explored.PartFronts.{stands, all_told}
use Rattle.runs.proofs.explored.PartTexts.{part_back, part_at, parts_up_to, parts_back, all_joined, all_small, found_whole}
use Rattle.runs.proofs.explored.SegmentRows.{all_rows, rows_all}
use Rattle.runs.proofs.explored.part_laws.law_of_parts.Goals as goal

law : (config : Config) (plan : Plan) (text : List ℕ) (count : ℕ) → 1 ≤ count → count ≤ most_parts → plan.steps ≤ most_letters
    → LeavesNoneOut config (search_by plan (script_lines text)) plan.steps → IsExplored config text
    → merge_of (part_texts config plan count text) ≡ exploration_of config plan text
law config plan text count some most letters none_out explored =
    let lines = script_lines text in
    let search = search_by plan lines in
    let steps = plan.steps in
    let status_is = explored.0 in
    let whole : exploration_of config plan text ≡ told_of plan.find (findings_of config search steps) =
    ap (explored_behind config plan lines) status_is
    ∙ ap (λ t. cond t (ends 2) (told_of plan.find (findings_of config search steps))) explored.1 in
    let stand = λ (s : ℕ) (less : s < steps). stands config search count s some (λ r within. none_out r (omega (arith, less, within))) in
    let rows_are = λ (k : ℕ) (a : 1 ≤ k) (b : k ≤ count).
    rows_all config search (share_at count k) steps (λ s less. (stand s less).1 k a b) in
    let each = λ (k : ℕ) (a : 1 ≤ k) (b : k ≤ count).
    ap (λ status. part_in (part_behind config plan (share_at count k) lines status).text) status_is
    ∙ ap (λ t. part_in (cond t (ends 2) (part_of_search config search steps (share_at count k))).text) explored.1
    ∙ ap (λ o. part_in (part_told config search steps (share_at count k) o).text) (rows_are k a b)
    ∙ part_back config search steps (share_at count k) (all_rows config search (share_at count k) steps) letters
    (omega (arith, b, most)) (omega (arith, most)) (all_small config search (share_at count k) steps letters) in
    let read = parts_back config search count steps count (λ share. (part_outcome_of config plan share text).text) each in
    let found = found_whole config search count steps steps (omega arith)
    (λ s less. all_told config search count s some (stand s less)) in
    ap merge_of_read read
    ∙ all_joined config search count steps some
    ∙ ap (told_of plan.find) found
    ∙ sym whole

pub returns : goal.returns
returns c = law
