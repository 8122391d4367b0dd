-- What is kept beside rows and sessions, so that no transaction has part in it: whether SID is blocked, how many random bytes
-- were given, and of each ComID what its host takes, and whether a reset of its stack is to be told.
use Rattle.std.specs.Prelude.{ℕ, ◌+◌, ◌-◌, ◌*◌, ◌/◌, ◌%◌, ◌^◌, ◌<◌, min, Bool, true, false, List, replicate, slice_index_or, slice_set}
use Rattle.basics.specs.declared.profile.Profile.{Profile}
use Rattle.basics.specs.declared.profile.Profile.TheVariants.{Base, Field, Opal}
use Rattle.device_data.specs.Discovery.{first_com_id, com_ids}
use Rattle.trusted_cmds.specs.declared.block.SidBlock.TheVariants.{Free}
use Rattle.tcg_calls.specs.Limits.{most_response}
use Rattle.sessions.specs.declared.beside.HostLimits.{HostLimits}
use Rattle.sessions.specs.declared.beside.Channel.{Channel}
use Rattle.sessions.specs.declared.beside.Beside.{Beside}
use Rattle.sessions.specs.Block.{block_at_reset}

-- what each host takes: MaxComPacketSize, MaxPacketSize, MaxIndTokenSize (Opal SSC 2.01, section 4.1.1.1)
abbrev pub least_limits : HostLimits
least_limits = record { com_packet = 2048; packet = 2028; token = 1992 }

-- as a number of 64 bits each
pub record IsSmall (limits : HostLimits) : Type 0 where
  pub com_packet_small : limits.com_packet < 2 ^ 64
  pub packet_small : limits.packet < 2 ^ 64
  pub token_small : limits.token < 2 ^ 64

-- a ComID of which nothing was told, and whose stack nothing has reset
abbrev pub new_channel : Channel
new_channel = record { limits = least_limits; was_reset = false }

abbrev pub new_channels : List Channel
new_channels = replicate com_ids new_channel

abbrev pub new_beside : Beside
new_beside = record { block = Free; drawn = 0; channels = new_channels }

-- what is kept of a ComID
abbrev pub channel_of : Beside → ℕ → Channel
channel_of b com_id = slice_index_or b.channels (com_id - first_com_id) new_channel

abbrev pub with_channel : ℕ → Channel → Beside → Beside
with_channel com_id channel b =
    record b { channels = slice_set b.channels (com_id - first_com_id) channel }

-- a host told what it takes (Core 2.01, section 5.2.2)
abbrev pub with_limits : ℕ → HostLimits → Beside → Beside
with_limits com_id limits b =
    with_channel com_id (record { limits = limits; was_reset = (channel_of b com_id).was_reset }) b

-- the stack was reset, and that is to be told; or it was told (Core 2.01, section 3.3.4.7.5)
abbrev pub with_reset_stack : ℕ → Beside → Beside
with_reset_stack com_id b =
    with_channel com_id (record { limits = least_limits; was_reset = true }) b

abbrev pub with_told_stack : ℕ → Beside → Beside
with_told_stack com_id b =
    with_channel com_id (record { limits = (channel_of b com_id).limits; was_reset = false }) b

-- so many random bytes more were given: they are counted as numbers of 64 bits are
abbrev pub with_drawn : ℕ → Beside → Beside
with_drawn count b = record b { drawn = (b.drawn + count) % 2 ^ 64 }

-- a Revert of the Admin SP frees SID
abbrev pub freed : Beside → Beside
freed b = record b { block = Free }

-- a reset forgets what hosts told, and what is to be told of their stacks
abbrev pub beside_at_reset : ℕ → Beside → Beside
beside_at_reset kind b =
    record b { block = block_at_reset kind b.block; channels = new_channels }

-- The bytes of tokens that a response has room for: those that the host takes in a ComPacket behind three headers, in a packet
-- behind two, each padded to a multiple of four, and in one token beside the eight bytes of a call's answer.
abbrev pub room_in : HostLimits → ℕ
room_in limits =
    min ((limits.com_packet - 56) / 4 * 4)
    (min ((limits.packet - 36) / 4 * 4) (limits.token + 8))

-- Only under the opal profile the host says how many.
abbrev pub room_of : Profile → HostLimits → ℕ
room_of Base limits = most_response
room_of Field limits = most_response
room_of Opal limits = room_in limits
