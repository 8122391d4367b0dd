-- The numbers that name the optional parameters of methods (Core 2.01, sections 5.2.2, 5.2.3.1, 5.3.3 and 5.3.4).
use Rattle.std.specs.Prelude.{ℕ}

-- Get, in a cellblock: the rows of a byte table
abbrev pub start_row_parameter : ℕ
start_row_parameter = 1

abbrev pub end_row_parameter : ℕ
end_row_parameter = 2

-- Get, in a cellblock: the columns of an object
abbrev pub start_column_parameter : ℕ
start_column_parameter = 3

abbrev pub end_column_parameter : ℕ
end_column_parameter = 4

-- Set: the row from which bytes are set, and what is set
abbrev pub where_parameter : ℕ
where_parameter = 0

abbrev pub values_parameter : ℕ
values_parameter = 1

-- Next: the row behind which it goes on, and how many rows it gives at most (Core 2.01, section 5.3.3.8)
abbrev pub next_where_parameter : ℕ
next_where_parameter = 0

abbrev pub next_count_parameter : ℕ
next_count_parameter = 1

-- Authenticate: what proves the authority
abbrev pub proof_parameter : ℕ
proof_parameter = 0

-- StartSession: what proves the authority that signs, and which this is
abbrev pub host_challenge_parameter : ℕ
host_challenge_parameter = 0

abbrev pub host_signing_authority_parameter : ℕ
host_signing_authority_parameter = 3

-- RevertSP: whether the data of the global range are kept
abbrev pub keep_global_range_key_parameter : ℕ
keep_global_range_key_parameter = 0x060000

-- Properties: those of the host
abbrev pub host_properties_parameter : ℕ
host_properties_parameter = 0
