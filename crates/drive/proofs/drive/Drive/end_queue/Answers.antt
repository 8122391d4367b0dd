use Rattle.drive.proofs.drive.Drive.end_queue.Goals as goal

pub invariant_of-self : goal.invariant_of-self
invariant_of-self c =
    let i = c.self.invariant in
    (i.0, i.1, i.2, i.3, c.new.ensures.fits c.self.inside.sectors c.self.inside.tper.value.store.config.mbr_sectors, i.5)
