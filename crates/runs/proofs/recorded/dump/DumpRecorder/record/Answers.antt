use Rattle.std.proofs.Common.{◌++◌, ◌∷◌, [], subst, sym}
use Rattle.std.proofs.lemmas.Result.{IfOk-weaker}
use Rattle.runs.specs.Dumped.{IsDumped}
use Rattle.runs.proofs.recorded.Dumping.{frame-dumped, written-dumped}
use Rattle.runs.proofs.recorded.dump.DumpRecorder.record.Goals as goal

pub returns-then-len-le-MOST_PENDING : goal.returns-then-len-le-MOST_PENDING
returns-then-len-le-MOST_PENDING g c = λ before frames holds.
    subst
    (λ out. IsDumped before (g.D.Write.contents out) c.append.new.self.shown c.append.new.self.pending.items
    (frames ++ c.args.frame ∷ []))
    (sym c.append.ensures.out)
    (frame-dumped before (g.D.Write.contents c.args.self.now.out) c.args.self.now.shown c.append.new.self.shown
    c.args.self.now.pending.items c.append.new.self.pending.items frames c.args.frame
    c.in_ok-append.ensures.pending c.in_ok-append.ensures.shown holds)

pub returns : goal.returns
returns g c =
    IfOk-weaker c.write.result _ _
    (λ done written. λ before frames holds.
    written-dumped before (g.D.Write.contents c.append.new.self.out) (g.D.Write.contents c.write.new.self.out)
    c.append.new.self.shown c.write.new.self.shown c.append.new.self.pending.items
    c.write.new.self.pending.items (frames ++ c.args.frame ∷ []) c.write.ensures.shown c.write.ensures.cleared
    written
    (subst
    (λ out. IsDumped before (g.D.Write.contents out) c.append.new.self.shown c.append.new.self.pending.items
    (frames ++ c.args.frame ∷ []))
    (sym c.append.ensures.out)
    (frame-dumped before (g.D.Write.contents c.args.self.now.out) c.args.self.now.shown c.append.new.self.shown
    c.args.self.now.pending.items c.append.new.self.pending.items frames c.args.frame
    c.in_ok-append.ensures.pending c.in_ok-append.ensures.shown holds)))
    c.write.ensures.written
