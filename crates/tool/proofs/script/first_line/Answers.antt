use Rattle.std.proofs.Common.{◌≡◌, ◌+◌, true, IfSome, refl, subst, sym, ap, ◌∙◌}
use Rattle.std.specs.Io.Buffered.{reader_remaining}
use Rattle.script_lines.specs.PortLines.{is_port_line}
use Rattle.tool.specs.Progress.{BeginsScript}
use Rattle.tool.specs.Scripts.{bare, TakesLine}
use Rattle.tool.specs.declared.head.ScriptKind.TheVariants as kinds
use Rattle.tool.proofs.Outcomes.{nothing-first, drive-first, port-first, port-alone}
use Rattle.tool.proofs.script.first_line.Goals as goal

pub returns-in_default : goal.returns-in_default
returns-in_default g c =
    let old = reader_remaining g.R.Read.remaining c.args.reader.now in
    let now = reader_remaining g.R.Read.remaining c.begin.new.reader in
    let line = c.begin.new.line.items in
    nothing-first c.args.explains line old now
    (subst (λ first. IfSome old (λ text. BeginsScript c.args.explains first text line now)) c.in_default.is c.in_ok-head.ensures.begins)

pub returns-then-not-is_port_line : goal.returns-then-not-is_port_line
returns-then-not-is_port_line g c =
    let old = reader_remaining g.R.Read.remaining c.args.reader.now in
    let now = reader_remaining g.R.Read.remaining c.begin.new.reader in
    let line = c.begin.new.line.items in
    let begins = subst (λ first. IfSome old (λ text. BeginsScript c.args.explains first text line now)) c.in-Some.is c.in_ok-head.ensures.begins in
    let shown = c.without_end.result.now in
    let is : shown ≡ bare line = c.without_end.ensures ∙ ap bare c.deref.ensures.value in
    drive-first c.args.explains c.in-Some.head line shown old now begins is (sym c.is_port_line.ensures ∙ c.if-not-is_port_line.true)

pub returns-then-not-branch : goal.returns-then-not-branch
returns-then-not-branch g c =
    let old = reader_remaining g.R.Read.remaining c.args.reader.now in
    let now = reader_remaining g.R.Read.remaining c.begin.new.reader in
    let line = c.begin.new.line.items in
    let begins = subst (λ first. IfSome old (λ text. BeginsScript c.args.explains first text line now)) c.in-Some.is c.in_ok-head.ensures.begins in
    let shown = c.without_end.result.now in
    let is : shown ≡ bare line = c.without_end.ensures ∙ ap bare c.deref.ensures.value in
    let new = reader_remaining g.R.Read.remaining c.read_line.new.reader in
    let next = c.read_line.new.line.items in
    let port : is_port_line shown ≡ true = sym c.is_port_line.ensures ∙ c.if-not-is_port_line.false in
    port-alone c.args.explains c.in-Some.head line next shown old now new begins is port
    (subst (λ b. IfSome now (λ text. TakesLine b next text new)) c.if-not-branch.true c.in_ok-read_line.ensures.line)

pub returns : goal.returns
returns g c =
    let old = reader_remaining g.R.Read.remaining c.args.reader.now in
    let now = reader_remaining g.R.Read.remaining c.begin.new.reader in
    let line = c.begin.new.line.items in
    let begins = subst (λ first. IfSome old (λ text. BeginsScript c.args.explains first text line now)) c.in-Some.is c.in_ok-head.ensures.begins in
    let shown = c.without_end.result.now in
    let is : shown ≡ bare line = c.without_end.ensures ∙ ap bare c.deref.ensures.value in
    let new = reader_remaining g.R.Read.remaining c.read_line.new.reader in
    let next = c.read_line.new.line.items in
    let port : is_port_line shown ≡ true = sym c.is_port_line.ensures ∙ c.if-not-is_port_line.false in
    port-first c.args.explains c.in-Some.head
    (record {
      remarks = c.in-Some.head.remarks;
      explains = c.in-Some.head.explains;
      kind = kinds.Port;
      lines = c.in-Some.head.lines + 1;
    }) line next shown old now new refl begins is port
    (subst (λ b. IfSome now (λ text. TakesLine b next text new)) c.if-not-branch.false c.in_ok-read_line.ensures.line)
