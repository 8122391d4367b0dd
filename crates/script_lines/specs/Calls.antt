-- The calls that phrases write (TCG Core 2.01, sections 5.2.3.1, 5.3.3.6, 5.3.3.7 and 5.3.4.1.14; Opal SSC 2.01, section 5.1).
use Rattle.std.specs.Prelude.{ℕ, List, [], ◌∷◌, ◌++◌, Option, None, Some, option_map, unwrap_or}
use Rattle.std.specs.Int.{w64, to_be_bytes}
use Rattle.tcg_tokens.specs.Tree.{Tree, number, bytes, list, named, trees_of}
use Rattle.tcg_tokens.specs.Message.{Message, call}
use Rattle.sp_cells.specs.declared.names.Uid.{Uid}
use Rattle.sp_cells.specs.declared.names.Column.{Column}
use Rattle.sp_cells.specs.Names.{this_sp, locking_sp, session_manager, start_session, get, set, authenticate, activate, revert}
use Rattle.tcg_calls.specs.CellValues.{uid_tree}
use Rattle.tcg_calls.specs.Parameters.{start_column_parameter, end_column_parameter, values_parameter, proof_parameter, host_challenge_parameter, host_signing_authority_parameter}

-- the call of a method of an object, with a status of zeros
abbrev pub call_with : Uid → Uid → List Tree → Message
call_with object method args =
    call (to_be_bytes w64 object.0) (to_be_bytes w64 method.0) (trees_of args)
    (0 ∷ 0 ∷ 0 ∷ [])

-- an argument with a name, where there is one
abbrev pub optional : ℕ → Option Tree → List Tree
optional name None = []
optional name (Some value) = named (number name) value ∷ []

-- the host session number that a phrase gives
abbrev pub host_session : ℕ
host_session = 1

-- StartSession: the host session number, the SP, a session that writes, and who signs in with what
abbrev pub start_call : Uid → Option Uid → Option (List ℕ) → Message
start_call sp authority pin =
    call_with session_manager start_session
    (number host_session ∷ uid_tree sp ∷ number 1
    ∷ optional host_challenge_parameter (option_map bytes pin)
    ++ optional host_signing_authority_parameter (option_map uid_tree authority))

-- Get: from the first column to the last, which is the first where there is no other; all where there is none
abbrev pub cellblock_of : Option Column → Option Column → List Tree
cellblock_of None last = []
cellblock_of (Some first) last =
    named (number start_column_parameter) (number first.0)
    ∷ named (number end_column_parameter) (number (unwrap_or last first).0) ∷ []

abbrev pub get_call : Uid → Option Column → Option Column → Message
get_call object first last =
    call_with object get (list (trees_of (cellblock_of first last)) ∷ [])

-- Set: what is set, each by its column
abbrev pub set_call : Uid → List Tree → Message
set_call object cells =
    call_with object set
    (named (number values_parameter) (list (trees_of cells)) ∷ [])

-- Authenticate: an authority, and its proof
abbrev pub authenticate_call : Uid → Option (List ℕ) → Message
authenticate_call authority proof =
    call_with this_sp authenticate
    (uid_tree authority ∷ optional proof_parameter (option_map bytes proof))

abbrev pub activate_call : Message
activate_call = call_with locking_sp activate []

abbrev pub revert_call : Uid → Message
revert_call sp = call_with sp revert []
