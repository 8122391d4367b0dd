use Rattle.std.proofs.Common.{◌∙◌, ap, sym}
use Rattle.shadow_mbr.specs.Stored.{StoredSectors}
use Rattle.sp_cells.specs.Config.{Config, table_sectors}
use Rattle.tper.specs.Tper.{Tper}
use Rattle.drive.specs.State.{DriveState}
use Rattle.drive.proofs.Rests.{own_rest}
use Rattle.drive.proofs.drive.Drive.rest.Goals as goal

pub returns-clause-rests : goal.returns-clause-rests
returns-clause-rests c =
    let tper = ap (λ (d : DriveState). d.tper) c.self.view_is in
    own_rest c.args.self.now c.deref.result.now c.deref-3.result.now c.deref-4.result.now c.deref-2.result.now c.kept.result.0.now c.kept.result.1.now c.next_session.result c.drawn.result
    (c.deref.ensures ∙ tper) c.kept.ensures.alone (c.deref-3.ensures ∙ tper) c.next_session.ensures (c.deref-4.ensures ∙ tper) c.drawn.ensures
    (c.deref-2.ensures ∙ ap (λ (d : DriveState). d.media) c.self.view_is)

pub returns-clause-bytes : goal.returns-clause-bytes
returns-clause-bytes c = c.kept.ensures.sectors ∙ ap table_sectors (sym c.kept.ensures.config)

pub returns-clause-media : goal.returns-clause-media
returns-clause-media c =
    ap (λ (m : StoredSectors). m.sectors) c.deref-2.ensures ∙ c.self.invariant.3 ∙ sym c.self.invariant.1
    ∙ sym (ap (λ (t : Tper). t.store.config.sectors) c.deref.ensures) ∙ sym (ap (λ (config : Config). config.sectors) c.kept.ensures.config)
