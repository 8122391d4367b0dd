-- What a port shows to a caller from outside: words of its registers by their offsets (AHCI 1.3.1, 3.3), and its audit log.
use Rattle.std.specs.Prelude.{ℕ, List, [], Option, Some, None, unwrap_or}
use Rattle.audit.specs.AuditText.{line_text}
use Rattle.audit.specs.declared.reason.AuditLine.{AuditLine}
use Rattle.library_calls.specs.declared.byte_calls.error.CallError.{CallError}
use Rattle.library_calls.specs.Refusals.{done_code, code_of_call}
use Rattle.hba_regs.specs.Registers.{word_at}
use Rattle.port.specs.Live.{LiveState}
use Rattle.library_calls.specs.declared.port_calls.shown.Shown.{Shown}

abbrev pub shown_word : LiveState → ℕ → ℕ
shown_word port offset = unwrap_or (word_at port.bare.regs offset) 0

abbrev pub shown_numbers : LiveState → Shown
shown_numbers port = record {
  code = done_code;
  interrupts = shown_word port 0x10;
  task = shown_word port 0x20;
  active = shown_word port 0x34;
  issued = shown_word port 0x38;
  denials = port.denials;
}

abbrev pub refused_shown : CallError → Shown
refused_shown error = record {
  code = code_of_call error;
  interrupts = 0;
  task = 0;
  active = 0;
  issued = 0;
  denials = 0;
}

-- a line of the audit log, where there is one
abbrev pub logged_text : Option AuditLine → List ℕ
logged_text None = []
logged_text (Some line) = line_text line
