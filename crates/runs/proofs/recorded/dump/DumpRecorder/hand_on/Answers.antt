use Rattle.std.proofs.lemmas.Result.{IfOk-weaker}
use Rattle.runs.proofs.recorded.Dumping.{written-dumped}
use Rattle.runs.proofs.recorded.dump.DumpRecorder.hand_on.Goals as goal

pub returns : goal.returns
returns g c =
    IfOk-weaker c.write.result _ _
    (λ done written. λ before frames holds.
    written-dumped before (g.D.Write.contents c.args.self.now.out) (g.D.Write.contents c.write.new.self.out)
    c.args.self.now.shown c.write.new.self.shown c.args.self.now.pending.items c.write.new.self.pending.items
    frames c.write.ensures.shown c.write.ensures.cleared written holds)
    c.write.ensures.written
