-- Items by what they are, without where they lie in memory.
use Rattle.std.specs.Prelude.{ℕ, List}
use Rattle.tcg_tokens.specs.declared.value.Item.{Item}
use Rattle.tcg_tokens.specs.declared.value.Item.TheVariants.{Call, Reply, EndSession, Begin, End}
use Rattle.tcg_tokens.specs.Tree.{Trees, trees}

-- how many bytes a UID has
abbrev pub uid_size : ℕ
uid_size = 8

pub data Message : Type 0 where
  call : (object method : List ℕ) → Trees → (status : List ℕ) → Message
  reply : Trees → (status : List ℕ) → Message
  end_session : Message
  begin : ℕ → Message
  end : ℕ → Message

abbrev pub message : Item → Message
message (Call c) = call c.object c.method (trees c.args.items) c.status
message (Reply results status) = reply (trees results.items) status
message EndSession = end_session
message (Begin n) = begin n
message (End n) = end n
