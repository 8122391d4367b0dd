use Rattle.std.proofs.Common.{◌∙◌, ap}
use Rattle.std.specs.Prelude.{slice_index}
use Rattle.sp_cells.specs.Config.{Config, sizes_in}
use Rattle.transactions.specs.Sights.{Sight, sight_of}
use Rattle.sessions.specs.Answers.{rows_in_force}
use Rattle.sessions.specs.Live.{session_room}
use Rattle.methods.specs.Judgement.{table_given}
use Rattle.methods.proofs.EffectLemmas.{config_seen}
use Rattle.methods.proofs.CallLemmas.{fulfils-as}
use Rattle.methods.proofs.handlers.read_bytes.Goals as goal

pub returns-clause-fulfils : goal.returns-clause-fulfils
returns-clause-fulfils c =
    let s = c.args.store.now in
    let l = c.args.sessions.now in
    let room = session_room s.config.profile l c.args.session in
    fulfils-as _ _ c.args.session c.in_ok-outcome.outcome s s l l
    (ap (λ n. table_given n (slice_index c.view.result.bytes) (sizes_in c.view.result.config) c.args.table c.args.first c.args.last) c.room_of-room.ensures
    ∙ ap (λ (v : Sight). table_given room (slice_index v.bytes) (sizes_in v.config) c.args.table c.args.first c.args.last) c.view.ensures
    ∙ ap (λ (config : Config). table_given room (slice_index (sight_of s c.args.session).bytes) (sizes_in config) c.args.table c.args.first c.args.last) (config_seen c.args.session.sp c.args.session.tsn s))
    (c.in_ok-outcome.ensures (rows_in_force s) c.args.session.sp s l)
