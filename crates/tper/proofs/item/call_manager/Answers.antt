use Rattle.std.proofs.Common.{◌≡◌, ◌∙◌, ap, map, rules}
use Rattle.sp_cells.specs.Names.{session_manager, properties, start_session}
use Rattle.tcg_tokens.specs.Tree.{tree}
use Rattle.tcg_calls.specs.Asks.{uid_of}
use Rattle.tper.proofs.Carried.{start_carried, properties_carried}
use Rattle.transactions.specs.Stored.{Stored}
use Rattle.tper.proofs.Configs.{start_config}
use Rattle.tper.proofs.Items.{carried-as, start-met, properties-met}
use Rattle.basics.specs.declared.profile.Profile.{Profile}
use Rattle.sessions.specs.Beside.{channel_of}
use Rattle.sessions.specs.Made.{beside_after}
use Rattle.sessions.specs.Properties.{properties_message, properties_deed}
use Rattle.tper.proofs.item.call_manager.Goals as goal

pub returns-then-eq-2-clause-carried : goal.returns-then-eq-2-clause-carried
returns-then-eq-2-clause-carried c = carried-as _ _ (c.answer.ensures.reply ∙ c.in_ok-reply.ensures.answer) (properties_carried _ _ (map tree c.args.call.now.args.items) c.in_ok-reply.ensures.small)

pub returns-then-eq-2-clause-met : goal.returns-then-eq-2-clause-met
returns-then-eq-2-clause-met c =
    let object : uid_of c.args.call.now.object ≡ session_manager = search rules in
    let method : uid_of c.args.call.now.method ≡ properties = search rules in
    let args = map tree c.args.call.now.args.items in
    let live = c.args.sessions.now in
    let limits = (channel_of live.beside c.args.com_id).limits in
    let profile : c.profile-profile.result ≡ c.args.store.now.config.profile = search rules in
    properties-met c.args.store.now live c.properties.new.self c.args.com_id _ _ c.args.call.now _ _ _ _ object method
    (c.answer.ensures.reply ∙ c.in_ok-reply.ensures.answer ∙ ap (λ (p : Profile). properties_message p limits args) profile)
    (c.in_ok-reply.ensures.kept ∙ ap (λ (p : Profile). record live { beside = beside_after (properties_deed p c.args.com_id limits args) live.beside }) profile)
    c.answer.ensures.denied c.answer.ensures.rule c.answer.ensures.erases

pub returns-then-eq-4-clause-met : goal.returns-then-eq-4-clause-met
returns-then-eq-4-clause-met c =
    let object : uid_of c.args.call.now.object ≡ session_manager = search rules in
    let method : uid_of c.args.call.now.method ≡ start_session = search rules in
    start-met c.args.store.now c.start.new.store c.args.sessions.now c.start.new.self c.args.com_id _ _ c.args.call.now _ _ _ _ object method
    c.in_ok-started.ensures.reply c.in_ok-started.ensures.denied c.in_ok-started.ensures.rule c.in_ok-started.ensures.store c.in_ok-started.ensures.points c.in_ok-started.ensures.next c.in_ok-started.ensures.numbered c.in_ok-started.ensures.beside c.none.ensures

pub returns-then-eq-4-clause-carried : goal.returns-then-eq-4-clause-carried
returns-then-eq-4-clause-carried c = carried-as _ _ c.in_ok-started.ensures.reply (start_carried c.args.store.now c.args.sessions.now (map tree c.args.call.now.args.items))

pub returns-then-eq-4-clause-config : goal.returns-then-eq-4-clause-config
returns-then-eq-4-clause-config c =
    ap (λ (s : Stored). s.config) c.in_ok-started.ensures.store
    ∙ start_config c.args.store.now c.args.sessions.now (map tree c.args.call.now.args.items)
