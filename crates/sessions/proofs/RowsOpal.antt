-- The answer to Properties under the profile `Opal`, byte by byte (Core 2.01, sections 3.2.2 and 5.2.2; Opal SSC 2.01, section
-- 4.1.1.1), and which StartSessions have the shape of one (Core 2.01, section 5.2.3.1).
use Rattle.std.proofs.Common.{◌≡◌, ℕ, Bool, true, false, List, [], ◌∷◌, ◌++◌, refl}
use Rattle.std.specs.Prelude.{is_some}
use Rattle.std.specs.Int.{w64, to_be_bytes}
use Rattle.basics.specs.declared.profile.Profile.{Profile}
use Rattle.basics.specs.declared.profile.Profile.TheVariants.{Base, Field, Opal}
use Rattle.tcg_tokens.specs.Tree.{Tree, number, bytes, named}
use Rattle.tcg_tokens.specs.Spelling.{item_spelling_of, number_spelling, bytes_spelling}
use Rattle.sp_cells.specs.Names.{admin_sp}
use Rattle.tcg_calls.specs.Parameters.{host_challenge_parameter, host_signing_authority_parameter}
use Rattle.tcg_calls.specs.Named.{options}
use Rattle.tcg_calls.specs.Asks.{uid_in}
use Rattle.tcg_calls.specs.CellValues.{number_in}
use Rattle.sessions.specs.Beside.{least_limits}
use Rattle.sessions.specs.Properties.{properties_message}
use Rattle.sessions.specs.Starts.{opening_from, opening_of}

-- the call of Properties of the session manager, and the begins of two lists
front : List ℕ
front =
    0xf8 ∷ 0xa8 ∷ 0x00 ∷ 0x00 ∷ 0x00 ∷ 0x00 ∷ 0x00 ∷ 0x00 ∷ 0x00 ∷ 0xff ∷ 0xa8 ∷ 0x00 ∷ 0x00 ∷ 0x00 ∷ 0x00 ∷ 0x00 ∷
    0x00 ∷ 0xff ∷ 0x01 ∷ 0xf0 ∷ 0xf0 ∷ []

max_methods : List ℕ
max_methods =
    0xf2 ∷ 0xaa ∷ 0x4d ∷ 0x61 ∷ 0x78 ∷ 0x4d ∷ 0x65 ∷ 0x74 ∷ 0x68 ∷ 0x6f ∷ 0x64 ∷ 0x73 ∷ 0x01 ∷ 0xf3 ∷ []

max_subpackets : List ℕ
max_subpackets =
    0xf2 ∷ 0xad ∷ 0x4d ∷ 0x61 ∷ 0x78 ∷ 0x53 ∷ 0x75 ∷ 0x62 ∷ 0x70 ∷ 0x61 ∷ 0x63 ∷ 0x6b ∷ 0x65 ∷ 0x74 ∷ 0x73 ∷ 0x01 ∷
    0xf3 ∷ []

max_packet_size : List ℕ
max_packet_size =
    0xf2 ∷ 0xad ∷ 0x4d ∷ 0x61 ∷ 0x78 ∷ 0x50 ∷ 0x61 ∷ 0x63 ∷ 0x6b ∷ 0x65 ∷ 0x74 ∷ 0x53 ∷ 0x69 ∷ 0x7a ∷ 0x65 ∷ 0x82 ∷
    0xff ∷ 0xec ∷ 0xf3 ∷ []

max_packets : List ℕ
max_packets =
    0xf2 ∷ 0xaa ∷ 0x4d ∷ 0x61 ∷ 0x78 ∷ 0x50 ∷ 0x61 ∷ 0x63 ∷ 0x6b ∷ 0x65 ∷ 0x74 ∷ 0x73 ∷ 0x01 ∷ 0xf3 ∷ []

max_com_packet_size : List ℕ
max_com_packet_size =
    0xf2 ∷ 0xd0 ∷ 0x10 ∷ 0x4d ∷ 0x61 ∷ 0x78 ∷ 0x43 ∷ 0x6f ∷ 0x6d ∷ 0x50 ∷ 0x61 ∷ 0x63 ∷ 0x6b ∷ 0x65 ∷ 0x74 ∷ 0x53 ∷
    0x69 ∷ 0x7a ∷ 0x65 ∷ 0x83 ∷ 0x01 ∷ 0x00 ∷ 0x00 ∷ 0xf3 ∷ []

max_ind_token_size : List ℕ
max_ind_token_size =
    0xf2 ∷ 0xaf ∷ 0x4d ∷ 0x61 ∷ 0x78 ∷ 0x49 ∷ 0x6e ∷ 0x64 ∷ 0x54 ∷ 0x6f ∷ 0x6b ∷ 0x65 ∷ 0x6e ∷ 0x53 ∷ 0x69 ∷ 0x7a ∷
    0x65 ∷ 0x82 ∷ 0xff ∷ 0xc8 ∷ 0xf3 ∷ []

max_response_com_packet_size : List ℕ
max_response_com_packet_size =
    0xf2 ∷ 0xd0 ∷ 0x18 ∷ 0x4d ∷ 0x61 ∷ 0x78 ∷ 0x52 ∷ 0x65 ∷ 0x73 ∷ 0x70 ∷ 0x6f ∷ 0x6e ∷ 0x73 ∷ 0x65 ∷ 0x43 ∷ 0x6f ∷
    0x6d ∷ 0x50 ∷ 0x61 ∷ 0x63 ∷ 0x6b ∷ 0x65 ∷ 0x74 ∷ 0x53 ∷ 0x69 ∷ 0x7a ∷ 0x65 ∷ 0x83 ∷ 0x01 ∷ 0x00 ∷ 0x00 ∷ 0xf3 ∷ []

max_sessions : List ℕ
max_sessions =
    0xf2 ∷ 0xab ∷ 0x4d ∷ 0x61 ∷ 0x78 ∷ 0x53 ∷ 0x65 ∷ 0x73 ∷ 0x73 ∷ 0x69 ∷ 0x6f ∷ 0x6e ∷ 0x73 ∷ 0x02 ∷ 0xf3 ∷ []

max_authentications : List ℕ
max_authentications =
    0xf2 ∷ 0xd0 ∷ 0x12 ∷ 0x4d ∷ 0x61 ∷ 0x78 ∷ 0x41 ∷ 0x75 ∷ 0x74 ∷ 0x68 ∷ 0x65 ∷ 0x6e ∷ 0x74 ∷ 0x69 ∷ 0x63 ∷ 0x61 ∷
    0x74 ∷ 0x69 ∷ 0x6f ∷ 0x6e ∷ 0x73 ∷ 0x14 ∷ 0xf3 ∷ []

max_transaction_limit : List ℕ
max_transaction_limit =
    0xf2 ∷ 0xd0 ∷ 0x13 ∷ 0x4d ∷ 0x61 ∷ 0x78 ∷ 0x54 ∷ 0x72 ∷ 0x61 ∷ 0x6e ∷ 0x73 ∷ 0x61 ∷ 0x63 ∷ 0x74 ∷ 0x69 ∷ 0x6f ∷
    0x6e ∷ 0x4c ∷ 0x69 ∷ 0x6d ∷ 0x69 ∷ 0x74 ∷ 0x01 ∷ 0xf3 ∷ []

def_session_timeout : List ℕ
def_session_timeout =
    0xf2 ∷ 0xd0 ∷ 0x11 ∷ 0x44 ∷ 0x65 ∷ 0x66 ∷ 0x53 ∷ 0x65 ∷ 0x73 ∷ 0x73 ∷ 0x69 ∷ 0x6f ∷ 0x6e ∷ 0x54 ∷ 0x69 ∷ 0x6d ∷
    0x65 ∷ 0x6f ∷ 0x75 ∷ 0x74 ∷ 0x00 ∷ 0xf3 ∷ []

-- the ends of the lists, and the status
behind : List ℕ
behind =
    0xf1 ∷ 0xf1 ∷ 0xf9 ∷ 0xf0 ∷ 0x00 ∷ 0x00 ∷ 0x00 ∷ 0xf1 ∷ []

front_alone : List ℕ
front_alone =
    0xf8 ∷ 0xa8 ∷ 0x00 ∷ 0x00 ∷ 0x00 ∷ 0x00 ∷ 0x00 ∷ 0x00 ∷ 0x00 ∷ 0xff ∷ 0xa8 ∷ 0x00 ∷ 0x00 ∷ 0x00 ∷ 0x00 ∷ 0x00 ∷
    0x00 ∷ 0xff ∷ 0x01 ∷ 0xf0 ∷ []

told : List ℕ
told = max_methods ++ max_subpackets ++ max_packet_size ++ max_packets ++ max_com_packet_size ++ max_ind_token_size

told_by_opal : List ℕ
told_by_opal = max_response_com_packet_size ++ max_sessions ++ max_authentications ++ max_transaction_limit ++ def_session_timeout

row_opal : item_spelling_of (properties_message Opal least_limits []) ≡ front ++ told ++ told_by_opal ++ behind
unfolding number_spelling bytes_spelling front max_methods max_subpackets max_packet_size max_packets max_com_packet_size max_ind_token_size max_response_com_packet_size max_sessions max_authentications max_transaction_limit def_session_timeout behind told told_by_opal
row_opal = refl

row_field : item_spelling_of (properties_message Field least_limits []) ≡ front ++ told ++ behind
unfolding number_spelling bytes_spelling front max_methods max_subpackets max_packet_size max_packets max_com_packet_size max_ind_token_size behind told
row_field = refl

row_base : properties_message Base least_limits [] ≡ properties_message Field least_limits []
row_base = refl

-- an argument of another name is refused
row_named_1 : item_spelling_of (properties_message Opal least_limits (named (number 1) (number 0) ∷ [])) ≡ front_alone ++ 0xf1 ∷ 0xf9 ∷ 0xf0 ∷ 0x0c ∷ 0 ∷ 0 ∷ 0xf1 ∷ []
unfolding number_spelling bytes_spelling front_alone
row_named_1 = refl

-- StartSession of Anybody on the Admin SP, with these optional parameters
asked : List Tree → List Tree
asked rest = number 1 ∷ bytes (to_be_bytes w64 admin_sp.0) ∷ number 1 ∷ rest

has_shape : Profile → List Tree → Bool
has_shape profile rest = is_some (opening_of profile (asked rest))

timeout : ℕ → Tree
timeout n = named (number 5) (number n)

row_minute : has_shape Opal (timeout 60000 ∷ []) ≡ true
unfolding asked has_shape timeout
row_minute = refl

row_last : has_shape Opal (timeout 0xffffffff ∷ []) ≡ true
unfolding asked has_shape timeout
row_last = refl

row_past_the_last : has_shape Opal (timeout 0x100000000 ∷ []) ≡ false
unfolding asked has_shape timeout
row_past_the_last = refl

row_twice : has_shape Opal (timeout 1 ∷ timeout 1 ∷ []) ≡ false
unfolding asked has_shape timeout
row_twice = refl

row_of_bytes : has_shape Opal (named (number 5) (bytes (0xea ∷ 0x60 ∷ [])) ∷ []) ≡ false
unfolding asked has_shape
row_of_bytes = refl

-- in any order with the others
row_first : has_shape Opal (timeout 1 ∷ named (number 0) (bytes (1 ∷ [])) ∷ named (number 3) (bytes (0 ∷ 0 ∷ 0 ∷ 9 ∷ 0 ∷ 0 ∷ 0 ∷ 6 ∷ [])) ∷ []) ≡ true
unfolding asked has_shape timeout
row_first = refl

row_between : has_shape Opal (named (number 3) (bytes (0 ∷ 0 ∷ 0 ∷ 9 ∷ 0 ∷ 0 ∷ 0 ∷ 6 ∷ [])) ∷ timeout 1 ∷ named (number 0) (bytes (1 ∷ [])) ∷ []) ≡ true
unfolding asked has_shape timeout
row_between = refl

-- it changes nothing
row_same : opening_of Opal (asked (timeout 1 ∷ [])) ≡ opening_of Opal (asked [])
unfolding asked timeout
row_same = refl

-- its neighbours have no shape, nor has it one under the other profiles
row_4 : has_shape Opal (named (number 4) (number 1) ∷ []) ≡ false
unfolding asked has_shape
row_4 = refl

row_6 : has_shape Opal (named (number 6) (number 1) ∷ []) ≡ false
unfolding asked has_shape
row_6 = refl

row_timeout_base : has_shape Base (timeout 1 ∷ []) ≡ false
unfolding asked has_shape timeout
row_timeout_base = refl

row_timeout_field : has_shape Field (timeout 1 ∷ []) ≡ false
unfolding asked has_shape timeout
row_timeout_field = refl

-- under these two a StartSession has two optional parameters
row_shape_base : (h p w : Tree) (rest : List Tree) → opening_of Base (h ∷ p ∷ w ∷ rest) ≡ opening_from (number_in h) (uid_in p) (number_in w) (options (host_challenge_parameter ∷ host_signing_authority_parameter ∷ []) rest)
row_shape_base h p w rest = refl

row_shape_field : (args : List Tree) → opening_of Field args ≡ opening_of Base args
row_shape_field [] = refl
row_shape_field (h ∷ []) = refl
row_shape_field (h ∷ p ∷ []) = refl
row_shape_field (h ∷ p ∷ w ∷ rest) = refl
