use Rattle.shadow_mbr.proofs.sectors.Sectors.prepare.Goals as goal

pub keep-requires-clause-within : goal.keep-requires-clause-within
keep-requires-clause-within c = c.sectors_of-first.ensures.within _ c.requires
