use Rattle.std.proofs.Common.{ℕ, List, ◌≡◌, ◌∙◌, ◌⊎◌, inl, inr, ap, sym, subst, IfOk}
use Rattle.basics.specs.declared.profile.Profile.{Profile}
use Rattle.basics.specs.declared.profile.Profile.TheVariants.{Field, Opal}
use Rattle.sp_cells.specs.Flat.{LookUp}
use Rattle.trusted_cmds.specs.declared.block.SidBlock.{SidBlock}
use Rattle.device_data.specs.Discovery.{discovery, field_discovery, discovery_of}
use Rattle.device_data.specs.ErrorLog.{sized}
use Rattle.transactions.specs.Sights.{Sight, look_up, committed_sight}
use Rattle.tper.specs.Tper.{Tper}
use Rattle.drive.specs.State.{DriveState}
use Rattle.drive.proofs.drive.Drive.discover.Goals as goal

-- of both it is the same
each : (p : Profile) (look : LookUp) (block : SidBlock) → (p ≡ Field) ⊎ (p ≡ Opal) → field_discovery look block ≡ discovery_of p look block
each p look block (inl is) = ap (λ (q : Profile). discovery_of q look block) (sym is)
each p look block (inr is) = ap (λ (q : Profile). discovery_of q look block) (sym is)

pub returns-in-Base : goal.returns-in-Base
returns-in-Base c =
    let i = c.self.inside in
    subst (λ (bytes : List ℕ). IfOk c.sized.result (λ v. v.items ≡ sized c.args.room bytes))
    (c.discovery-bytes.ensures ∙ ap (λ (s : Sight). discovery (look_up s)) c.in_force.ensures ∙ ap (λ (t : Tper). discovery (look_up (committed_sight t.store))) c.deref.ensures
    ∙ ap (λ (p : Profile). discovery_of p (look_up (committed_sight i.tper.value.store)) i.tper.value.live.beside.block) (sym c.in-Base.is ∙ sym c.self.invariant.5)
    ∙ ap (λ (d : DriveState). discovery_of d.tper.store.config.profile (look_up (committed_sight d.tper.store)) d.tper.live.beside.block) c.self.view_is) c.sized.ensures

pub returns-in-Field : goal.returns-in-Field
returns-in-Field c =
    let i = c.self.inside in
    subst (λ (bytes : List ℕ). IfOk c.sized-in-Field.result (λ v. v.items ≡ sized c.args.room bytes))
    (c.field_discovery-bytes.ensures ∙ ap (λ (s : Sight). field_discovery (look_up s) c.block.result) c.in_force-in-Field.ensures
    ∙ ap (λ (t : Tper). field_discovery (look_up (committed_sight t.store)) c.block.result) c.deref-in-Field.ensures
    ∙ ap (λ (b : SidBlock). field_discovery (look_up (committed_sight i.tper.value.store)) b) (c.block.ensures ∙ ap (λ (t : Tper). t.live.beside.block) c.deref-in-Field-2.ensures)
    ∙ each _ (look_up (committed_sight i.tper.value.store)) i.tper.value.live.beside.block c.in-Field.is
    ∙ ap (λ (p : Profile). discovery_of p (look_up (committed_sight i.tper.value.store)) i.tper.value.live.beside.block) (sym c.self.invariant.5)
    ∙ ap (λ (d : DriveState). discovery_of d.tper.store.config.profile (look_up (committed_sight d.tper.store)) d.tper.live.beside.block) c.self.view_is) c.sized-in-Field.ensures
