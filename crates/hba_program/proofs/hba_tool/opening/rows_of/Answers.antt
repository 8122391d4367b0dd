use Rattle.std.proofs.Common.{rules, ◌≡◌, ◌++◌, ◌∷◌, []}
use Rattle.hba_program.proofs.hba_tool.Rows.{further, stops_there}
use Rattle.hba_program.proofs.hba_tool.opening.rows_of.Goals as goal

pub returns-in-Err-clause-fault : goal.returns-in-Err-clause-fault
returns-in-Err-clause-fault c =
    stops_there c.args.texts.now c.loop-i.i _ c.loop-i.rows.items c.in-Err.fault _ (search rules) c.in-Err.ensures.fault c.loop-i.invariant

pub loop-i-preserved : goal.loop-i-preserved
loop-i-preserved c =
    let pushed : c.push.new.rows.items ≡ c.loop-i.rows.items ++ (c.in-Ok.row ∷ []) = search rules in
    let next = further c.args.texts.now c.loop-i.i _ c.loop-i.rows.items c.in-Ok.row _ (search rules) c.in-Ok.ensures.read c.loop-i.invariant in
    rw pushed next
