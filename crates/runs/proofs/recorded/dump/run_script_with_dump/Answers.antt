use Rattle.std.proofs.Common.{IfSome, [], subst, sym}
use Rattle.std.specs.Io.KnownBytes.{Appends}
use Rattle.pictures.specs.Dumps.{dump_text}
use Rattle.runs.specs.Recordings.{recording_by}
use Rattle.runs.specs.Dumped.{IsDumped}
use Rattle.runs.proofs.recorded.Dumping.{none-dumped, run-dumped}
use Rattle.runs.proofs.recorded.dump.run_script_with_dump.Goals as goal

pub returns-clause-dump : goal.returns-clause-dump
returns-clause-dump g c =
    subst
    (λ out. IfSome (g.R.Read.remaining c.args.input)
    (λ text. Appends (g.D.Write.contents c.args.out) (g.D.Write.contents out)
    (dump_text (recording_by c.args.explains c.args.options.now text).frames)))
    (sym c.into_inner.ensures)
    (run-dumped (g.R.Read.remaining c.args.input) c.args.explains c.args.options.now c.in_ok-status.status _ _
    (g.D.Write.contents c.args.out) _ _ _ _ _ _ _ _
    (subst (λ out. IsDumped (g.D.Write.contents c.args.out) (g.D.Write.contents out) c.new-dump.result.shown c.new-dump.result.pending.items [])
    (sym c.new-dump.ensures.out)
    (none-dumped (g.D.Write.contents c.args.out) c.new-dump.result.shown c.new-dump.result.pending.items c.new-dump.ensures.shown c.new-dump.ensures.pending))
    (λ frames holds. holds) c.write.ensures.shown c.write.ensures.cleared c.in_ok-write.ensures.written
    c.in_ok-status.ensures.records)
