use Rattle.std.proofs.Common.{◌≤◌, ℕ, ◌∙◌, ap, sym, subst, rules}
use Rattle.shadow_mbr.specs.Stored.{StoredSectors}
use Rattle.sp_cells.specs.Config.{Config}
use Rattle.locking.specs.Ranges.{ranges_in}
use Rattle.sessions.specs.declared.beside.Beside.{Beside}
use Rattle.transactions.specs.Sights.{Sight, look_up, committed_sight}
use Rattle.transactions.specs.Stored.{Stored}
use Rattle.tper.specs.Tper.{Tper}
use Rattle.drive.specs.State.{DriveState}
use Rattle.drive.proofs.Rests.{resumed-off}
use Rattle.drive.proofs.drive.Drive.resumed.Goals as goal

pub invariant_of-result : goal.invariant_of-result
invariant_of-result c =
    let config = ap (λ (s : Stored). s.config) c.in_ok-tper.ensures.store ∙ sym c.config-config.ensures in (
      subst (λ (n : ℕ). n ≤ 281474976710656) (sym c.sectors-sectors.ensures.value) c.sectors-sectors.ensures.limits.sectors_named,
      ap (λ (config : Config). config.sectors) config ∙ sym c.sectors-sectors.ensures.value,
      c.in_ok-ranges.ensures ∙ ap (λ (s : Sight). ranges_in s.config.mbr_sectors (look_up s)) (c.in_force.ensures ∙ ap (λ (t : Tper). committed_sight t.store) c.deref.ensures),
      ap (λ (m : StoredSectors). m.sectors) c.in_ok-media.ensures ∙ c.requires.media ∙ ap (λ (config : Config). config.sectors) (sym c.config-config.ensures) ∙ sym c.sectors-sectors.ensures.value,
      c.in_ok-queue.ensures.fits c.sectors-sectors.result c.in_ok-tper.tper.value.store.config.mbr_sectors,
      ap (λ (config : Config). config.profile) config ∙ sym c.profile-profile.ensures,
    )

pub returns-clause-off : goal.returns-clause-off
returns-clause-off c =
    let made : DriveState = record { tper = c.in_ok-tper.tper.value; queue = c.in_ok-queue.queue.value; media = c.in_ok-media.media.value; settings = c.first.result } in
    resumed-off made c.args.tables c.args.bytes c.args.drawn c.in_ok-tper.ensures.store c.in_ok-tper.ensures.sessions c.in_ok-tper.ensures.waiting c.in_ok-tper.ensures.beside c.in_ok-queue.ensures.empty c.first.ensures

pub returns-clause-rests : goal.returns-clause-rests
returns-clause-rests c = record {
  store = c.in_ok-tper.ensures.store;
  media = c.in_ok-media.ensures;
  next = c.in_ok-tper.ensures.next;
  drawn = ap (λ (b : Beside). b.drawn) c.in_ok-tper.ensures.beside;
}
