-- A drive is opened, and serves.
use Rattle.std.proofs.Common.{map, inl, subst}
use Rattle.sp_cells.specs.Config.{Config}
use Rattle.hba_program.specs.Openings.{option_rows, OpensAs}
use Rattle.opalport.proofs.controller.on_drive.Goals as goal

pub returns-in-Ok-clause-ends : goal.returns-in-Ok-clause-ends
returns-in-Ok-clause-ends g c =
    let opened = c.in-Ok.ensures.opened in
    inl (
      opened.0,
      c.in-Ok.drive,
      subst (λ (config : Config). OpensAs config (option_rows (map (λ s. s.now) c.args.ranges.now)) opened.0) c.config.ensures opened.2,
      opened.1,
      c.in_ok-serve-in-Ok.ensures.served.serves,
    )
