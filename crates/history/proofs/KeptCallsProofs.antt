-- What comes of a call, by what is kept, is what comes of it by the past.
use Rattle.std.proofs.Common.{◌≡◌, Option, sym, ◌∙◌, ap}
use Rattle.sp_cells.specs.Config.{Config}
use Rattle.sp_cells.specs.Flat.{LookUp}
use Rattle.tcg_calls.specs.declared.call_shapes.ask.Ask.{Ask}
use Rattle.methods.specs.Judgement.{Standing, asked, judged}
use Rattle.methods.specs.Calls.{standing_in, outcome_of, outcome_in}
use Rattle.history.specs.Readers.{authorities}
use Rattle.history.specs.Facts.{Facts, facts}
use Rattle.history.specs.Tcg.{judgement_on}
use Rattle.history.specs.History.{log}
use Rattle.history.specs.KeptSessions.{id_of}
use Rattle.history.specs.KeptCalls.{CallLaw}
use Rattle.history.proofs.Authorities.{judged-alike}
use Rattle.history.proofs.KeptStoreReads.{in_force-read}
use Rattle.history.proofs.KeptCallsStanding.{held-same, standing-same}

pub kept_call_law : CallLaw
kept_call_law o acts s l session object method args store keeps block lives =
    let f : Facts = facts o (log o acts) in
    let here : Standing = standing_in s l (id_of session) in
    let ask : Option Ask = asked f.config.profile session.sp object method args in
    let shaped : asked s.config.profile session.sp object method args ≡ ask = ap (λ (config : Config). asked config.profile session.sp object method args) store.config in
    let same : judged here object method ask ≡ judgement_on f session object method args =
    sym (judged-alike here (authorities (log o acts) session) (held-same (log o acts) l session keeps lives) object method ask)
    ∙ ap (λ st. judged st object method ask) (standing-same o acts s l session here.held store keeps lives block) in
    ap (λ (x : Option Ask). outcome_in s (id_of session) (judged here object method x)) shaped
    ∙ ap (outcome_in s (id_of session)) same
    ∙ ap (λ (rows : LookUp). outcome_of rows session.sp (judgement_on f session object method args)) (in_force-read s o (log o acts) store)
