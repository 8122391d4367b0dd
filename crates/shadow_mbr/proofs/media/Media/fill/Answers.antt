use Rattle.std.proofs.Common.{◌∙◌, ◌/◌, sym}
use Rattle.shadow_mbr.proofs.Fills.{filled_sector, filled_byte}
use Rattle.shadow_mbr.proofs.media.Media.fill.Goals as goal

pub returns-clause-sectors : goal.returns-clause-sectors
returns-clause-sectors c =
    rw (sym c.self.view_is) (λ s. c.in_ok-fill.ensures.sectors s ∙ filled_sector c.args.lba c.args.count c.args.byte s _)

pub returns-clause-bytes : goal.returns-clause-bytes
returns-clause-bytes c =
    rw (sym c.self.view_is) (λ place. filled_byte c.self.inside.held c.fill.new.self c.args.lba c.args.count c.args.byte place (c.in_ok-fill.ensures.sectors (place / 512)))
