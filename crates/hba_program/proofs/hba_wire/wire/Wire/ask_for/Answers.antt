use Rattle.std.proofs.Common.{rules, ◌≡◌, ℕ, List, None, length, subst, sym, ap, ◌∙◌, Option, Ok}
use Rattle.std.specs.Io.BufRead.{strip_last}
use Rattle.hex.specs.Hex.{decode_sized}
use Rattle.hba_program.specs.MemoryLines.{read_question, answer_to_read}
use Rattle.hba_program.specs.declared.hba_lines.memory_line.Answer.TheVariants.{Given}
use Rattle.hba_program.specs.Pipes.{piece_read, decoded_bytes, read_wanted}
use Rattle.hba_program.specs.Wires.{Comes}
use Rattle.hba_program.proofs.hba_wire.Heard.{comes_by_line, given_by, is_given, read_agrees}
use Rattle.hba_program.proofs.hba_wire.wire.Wire.ask_for.Goals as goal

pub returns-clause-comes : goal.returns-clause-comes
returns-clause-comes g c =
    let n : ℕ = length c.args.room.now in
    let line : List ℕ = strip_last 10 c.ask.new.self.line.items in
    let room : List ℕ = c.read_answer-answer.new.room in
    let line_is : c.line.result.now ≡ line = search rules in
    let answer_is : c.read_answer-answer.result ≡ answer_to_read line n = search rules in
    let decoded : answer_to_read line n ≡ Given → decode_sized line n ≡ Ok room =
    λ is. let at_line : List ℕ → Type 0 = λ l. decode_sized l n ≡ Ok room in subst at_line line_is (c.read_answer-answer.ensures.given (answer_is ∙ is)) in
    let given = given_by g.R.Read.remaining g.W.Write.contents c.read_answer-answer.result _ _ _ _ c.in_ok-given.ensures.weighed in
    let agrees = read_agrees (answer_to_read line n) c.in_ok-given.given room (decode_sized line n) decoded (given ∙ ap is_given answer_is) in
    let comes =
    comes_by_line g.R.Read.remaining g.W.Write.contents None (read_question c.args.at n) read_wanted (λ line. answer_to_read line n)
    (λ line. decoded_bytes (decode_sized line n)) c.args.self.now c.ask.new.self c.judge.new.self c.in_ok-given.given (search rules) (search rules)
    (search rules) (search rules) (search rules) (search rules) in
    let by : Option (List ℕ) → Type 0 =
    λ v. Comes g.R.Read.remaining g.W.Write.contents (piece_read c.args.at n) c.args.self.now v c.judge.new.self in
    subst by (sym agrees) comes
