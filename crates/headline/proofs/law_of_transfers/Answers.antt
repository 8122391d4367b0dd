use Rattle.headline.proofs.TransferLaws.{transfer_law, taken_law}
use Rattle.headline.proofs.law_of_transfers.Goals as goal

pub returns : goal.returns
returns c = record { served = transfer_law; taken = taken_law }
