use Rattle.std.proofs.Common.{rules, ◌≡◌, List, ℕ, Bool, true, false, subst, sym, ap, ◌∙◌}
use Rattle.std.specs.Io.BufRead.{strip_last}
use Rattle.hba_program.specs.MemoryLines.{write_question, answer_to_write}
use Rattle.hba_program.specs.Pipes.{piece_written, write_wanted}
use Rattle.hba_program.specs.Wires.{Comes}
use Rattle.hba_program.proofs.hba_wire.Heard.{comes_by_line, given_by, is_given, write_agrees}
use Rattle.hba_program.proofs.hba_wire.wire.Wire.give.Goals as goal

pub returns-clause-comes : goal.returns-clause-comes
returns-clause-comes g c =
    let line : List ℕ = strip_last 10 c.ask.new.self.line.items in
    let answer_is : c.write_answer-answer.result ≡ answer_to_write line = search rules in
    let given = given_by g.R.Read.remaining g.W.Write.contents c.write_answer-answer.result _ _ _ _ c.in_ok-given.ensures.weighed in
    let agrees = write_agrees (answer_to_write line) c.in_ok-given.given (given ∙ ap is_given answer_is) in
    let comes =
    comes_by_line g.R.Read.remaining g.W.Write.contents false (write_question c.args.at c.args.bytes.now) write_wanted answer_to_write (λ line. true)
    c.args.self.now c.ask.new.self c.judge.new.self c.in_ok-given.given (search rules) (search rules) (search rules) (search rules)
    (search rules) (search rules) in
    let by : Bool → Type 0 =
    λ v. Comes g.R.Read.remaining g.W.Write.contents (piece_written c.args.at c.args.bytes.now) c.args.self.now v c.judge.new.self in
    subst by (sym agrees) comes
