use Rattle.std.proofs.Common.{◌∙◌, ap, map}
use Rattle.sp_tables.specs.Items.{item_of}
use Rattle.tcg_tokens.specs.Tree.{trees}
use Rattle.tcg_tokens.proofs.Trees.{tree_number}
use Rattle.saved.specs.Saved.{config_tree, item_tree, list_tree}
use Rattle.saved.proofs.Results.{nine}
use Rattle.saved.proofs.saving.results_of.Goals as goal

pub returns-clause-written : goal.returns-clause-written
returns-clause-written c =
    ap trees c.in_ok-results.ensures ∙ nine _ _ _ _ _ _ _ _ _ _ _ _ _ _ _ _ _ _ c.in_ok-name.ensures (tree_number 1) (c.in_ok-made.ensures ∙ ap config_tree c.config.ensures)
    (c.in_ok-admin.ensures ∙ ap (λ is. list_tree (map item_tree (map item_of is))) c.deref.ensures.value ∙ ap (λ is. list_tree (map item_tree is)) c.in_ok-admin_cells.ensures)
    (c.in_ok-locking.ensures ∙ ap (λ is. list_tree (map item_tree (map item_of is))) c.deref-2.ensures.value ∙ ap (λ is. list_tree (map item_tree is)) c.in_ok-locking_cells.ensures)
    c.in_ok-bytes.ensures.written c.in_ok-media.ensures.written (tree_number _) (tree_number _)

pub returns-clause-bytes : goal.returns-clause-bytes
returns-clause-bytes c = c.in_ok-bytes.ensures.sound

pub returns-clause-media : goal.returns-clause-media
returns-clause-media c = c.in_ok-media.ensures.sound
