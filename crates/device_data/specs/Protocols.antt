-- What security protocol 00h tells (SPC-4, SECURITY PROTOCOL IN, "Security protocol information"): the list of security
-- protocols, and the certificates.
use Rattle.std.specs.Prelude.{List, ℕ, [], ◌∷◌, ◌++◌, replicate}
use Rattle.std.specs.Int.{w16, to_be_bytes}

-- the protocols of the drive, rising: the list itself, and those of TCG Storage
abbrev pub protocols : List ℕ
protocols = 0 ∷ 1 ∷ 2 ∷ []

-- Six reserved bytes, how many protocols there are, and the protocols.
abbrev pub protocol_list : List ℕ
protocol_list = replicate 6 0 ++ to_be_bytes w16 3 ++ protocols

-- No certificate: two reserved bytes, and the length of those that follow.
abbrev pub certificate_data : List ℕ
certificate_data = replicate 2 0 ++ to_be_bytes w16 0
