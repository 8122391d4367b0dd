use Rattle.std.proofs.Common.{◌∙◌, ap}
use Rattle.shadow_mbr.specs.Stored.{StoredSectors}
use Rattle.sp_cells.specs.ByteTables.{sectors_of}
use Rattle.sp_cells.specs.Config.{table_sectors}
use Rattle.tper.proofs.Keeping.{opening-kept}
use Rattle.tper.proofs.trusted.Tper.new.Goals as goal

pub returns-clause-kept : goal.returns-clause-kept
returns-clause-kept c = opening-kept _ c.args.tables c.new-mbr.result c.new.ensures
    (ap (λ (mbr : StoredSectors). mbr.sectors) c.new-mbr.ensures.exact ∙ c.sectors.ensures ∙ ap sectors_of c.table_sizes.ensures.value ∙ ap table_sectors c.config.ensures)
    c.new-mbr.ensures.zero c.new-2.ensures.none c.new-2.ensures.next c.new-2.ensures.beside c.new-3.ensures
