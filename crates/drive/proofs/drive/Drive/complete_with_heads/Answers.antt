use Rattle.std.proofs.Common.{replicate}
use Rattle.shadow_mbr.specs.Stored.{heads}
use Rattle.history.specs.Answers.{expected}
use Rattle.drive.specs.Queue.{held_at}
use Rattle.drive.proofs.Completions.{completes, completes-in-order, complete-heads}
use Rattle.drive.proofs.drive.Drive.complete_with_heads.Goals as goal

pub returns-clause-agrees : goal.returns-clause-agrees
returns-clause-agrees c = completes heads c.finish_with_heads.result c.args.self.now c.finish_with_heads.new.self c.args.tag (replicate (expected (held_at c.args.self.now.queue c.args.tag)) c.args.byte) c.finish_with_heads.ensures.slot c.finish_with_heads.ensures.done

pub returns-clause-in_order : goal.returns-clause-in_order
returns-clause-in_order c = completes-in-order heads c.finish_with_heads.result c.args.self.now c.finish_with_heads.new.self c.args.tag (replicate (expected (held_at c.args.self.now.queue c.args.tag)) c.args.byte) c.finish_with_heads.ensures.slot c.finish_with_heads.ensures.done

pub returns-clause-answer : goal.returns-clause-answer
returns-clause-answer c = complete-heads c.finish_with_heads.result c.args.self.now c.finish_with_heads.new.self c.args.tag (replicate (expected (held_at c.args.self.now.queue c.args.tag)) c.args.byte) c.finish_with_heads.ensures.done
