-- The statuses of answers (Core 2.01, section 5.1.5): no other file of the definitions has their numbers.
use Rattle.std.specs.Prelude.{ℕ}

abbrev pub success : ℕ
success = 0

abbrev pub not_authorized : ℕ
not_authorized = 0x01

abbrev pub sp_busy : ℕ
sp_busy = 0x03

abbrev pub no_sessions_available : ℕ
no_sessions_available = 0x07

abbrev pub invalid_parameter : ℕ
invalid_parameter = 0x0c

abbrev pub transaction_failure : ℕ
transaction_failure = 0x10

abbrev pub response_overflow : ℕ
response_overflow = 0x11

abbrev pub authority_locked_out : ℕ
authority_locked_out = 0x12

abbrev pub fail : ℕ
fail = 0x3f
