use Rattle.std.proofs.Common.{◌≡◌, take, map}
use Rattle.hba.specs.Blocks.{of_last_block}
use Rattle.hba.proofs.blocks.all_of_last_block.Given as goal

abbrev pub invariant-loop-fis : goal.invariant-loop-fis
invariant-loop-fis l =
    l.told.items ≡ map (of_last_block l.blocks) (take l.fis-index l.fises.items)
