-- The count is written in any case.
use Rattle.std.proofs.Common.{refl}
use Rattle.std.specs.Result.{result_err}
use Rattle.host_memory.proofs.hba_memory.delivery.end.Goals as goal

pub returns-in-Some : goal.returns-in-Some
returns-in-Some g c =
    let k = c.count.ensures in
    rw c.in-Some.is (k.0, k.1, (result_err c.count.result, k.2, refl))

pub returns-in-None : goal.returns-in-None
returns-in-None g c = rw c.in-None.is c.count_and_post.ensures
