use Rattle.std.proofs.Common.{◌≡◌, ◌∷◌, [], ap, map, rules}
use Rattle.tcg_tokens.specs.Tree.{tree}
use Rattle.methods.specs.Judgement.{gives}
use Rattle.methods.specs.Tables.{uids_tree}
use Rattle.methods.proofs.CallLemmas.{tells-as}
use Rattle.methods.proofs.tables.names_outcome.Goals as goal

pub returns : goal.returns
returns c =
    let given : map tree c.push.new.self.items ≡ uids_tree c.args.names.now ∷ [] = search rules in
    tells-as _ _ c.fitting.result (ap (gives c.args.room) given) c.fitting.ensures
