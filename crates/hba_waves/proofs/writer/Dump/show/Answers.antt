-- A look is written.
use Rattle.std.proofs.Common.{◌∙◌, subst}
use Rattle.std.proofs.lemmas.Result.{IfOk-weaker}
use Rattle.std.specs.Io.KnownBytes.{Appends}
use Rattle.hba_waves.specs.Looks.{look_after}
use Rattle.hba_waves.proofs.Going.{one_more}
use Rattle.hba_waves.proofs.writer.Dump.show.Goals as goal

pub returns : goal.returns
returns g c =
    IfOk-weaker c.write.result _ _
    (λ done written. λ o list agrees.
    one_more g.D.Write.contents c.args.time c.in_ok-look.look (look_after o list) c.args.self.now c.write.new.self
    c.append.new.self.text.items (c.in_ok-look.ensures o list agrees) c.in_ok-append.ensures.text
    (c.write.ensures.shown ∙ c.in_ok-append.ensures.shown)
    (subst (λ out. Appends (g.D.Write.contents out) (g.D.Write.contents c.write.new.self.out) c.append.new.self.text.items)
    c.append.ensures.out written))
    c.write.ensures.written
