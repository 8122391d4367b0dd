use Rattle.std.proofs.Common.{◌+◌, ◌++◌, ◌∷◌, [], ◌∙◌, ap, sym, append_assoc, add-one}
use Rattle.sp_tables.specs.RowNames.{numbered_uids, family_name}
use Rattle.sp_tables.proofs.RowNameLemmas.{numbered-more}
use Rattle.sp_tables.proofs.row_names.push_numbered.Goals as goal

pub loop-i-preserved : goal.loop-i-preserved
loop-i-preserved c =
    let name = family_name c.args.family.now in
    let old = c.args.names.now.items in
    rw add-one (c.in_ok-push.ensures.items ∙ ap (λ xs. xs ++ (c.name.result ∷ [])) c.loop-i.invariant
    ∙ ap (λ o. (old ++ numbered_uids name c.args.first c.loop-i.i) ++ (o ∷ [])) c.name.ensures
    ∙ append_assoc old (numbered_uids name c.args.first c.loop-i.i) (name (c.args.first + c.loop-i.i) ∷ [])
    ∙ ap (λ xs. old ++ xs) (sym (numbered-more name c.args.first c.loop-i.i)))
