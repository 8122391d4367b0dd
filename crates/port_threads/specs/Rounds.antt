-- The rounds of a client, by the receipts of its steps.
use Rattle.std.specs.Prelude.{◌≡◌, ◌↔◌, ◌⊎◌, ℕ, zero, suc, ◌+◌, ◌<◌, ◌%◌, Bool, true, false, List, [], ◌∷◌, ◌++◌, length, replicate}
use Rattle.trusted_cmds.specs.Commands.{sector_size}
use Rattle.port_history.specs.Requests.{no_bytes}
use Rattle.port_history.specs.declared.request.Answer.{Answer}
use Rattle.port_history.specs.declared.request.Answer.TheVariants.{Done}
use Rattle.port_history.specs.declared.request.Request.{Request}
use Rattle.port_history.specs.declared.request.Request.TheVariants.{Read, Write}
use Rattle.port_history.specs.declared.step.Step.TheVariants as steps
use Rattle.locked_port.specs.Hands.{Hand}
use Rattle.locked_port.specs.declared.ticket.Receipt.{Receipt}

-- A round is a write and a read, each of them a Put and a Take.
abbrev pub steps_of_round : ℕ
steps_of_round = 4

-- A sector that is filled with one byte.
abbrev pub filled : ℕ → List ℕ
filled byte = replicate sector_size byte

-- A transfer: the Put of a request, which answers nothing, and later the Take of its answer under the same tag.
pub record IsTransfer (client : ℕ) (request : Request) (answer : Answer)
    (put take : Receipt) : Type 0 where
  pub tag : ℕ
  pub asked : put.step ≡ steps.Put client tag request
  pub nothing : put.reply ≡ no_bytes
  pub taken : take.step ≡ steps.Take client tag
  pub answered : take.reply ≡ answer
  pub later : put.number < take.number

-- A round: the client fills the sector of its own number, and then reads it.
pub record IsRound (client byte : ℕ) (wrote read : Answer) (receipts : List Receipt) : Type 0 where
  pub put_write : Receipt
  pub take_write : Receipt
  pub put_read : Receipt
  pub take_read : Receipt
  pub are : receipts ≡ put_write ∷ take_write ∷ put_read ∷ take_read ∷ []
  pub writes : IsTransfer client (Write client (filled byte)) wrote put_write take_write
  pub reads : IsTransfer client (Read client 1) read put_read take_read

-- The write was done, and the read gave what was written.
abbrev pub AreRight : ℕ → Answer → Answer → Type 0
AreRight byte wrote read = (wrote ≡ Done []) × (read ≡ Done (filled byte))

-- A round with its answers, and whether they are right.
pub record TellsRound (client byte : ℕ) (is_right : Bool) (receipts : List Receipt) : Type 0 where
  pub wrote : Answer
  pub read : Answer
  pub round : IsRound client byte wrote read receipts
  pub right : (is_right ≡ true) ↔ AreRight byte wrote read

-- So many right rounds one after another, from number 0 on: each fills the sector with the low byte of its number.
abbrev pub AreRounds : ℕ → ℕ → List Receipt → Type 0
AreRounds client zero receipts = receipts ≡ []
AreRounds client (suc n) receipts =
    (before : List Receipt) × (last : List Receipt) × (receipts ≡ before ++ last)
    × AreRounds client n before × TellsRound client (n % 256) true last

-- What stands behind the right rounds: nothing where all were made; else a round that a refusal cut off, or one whose
-- answers are not right.
abbrev pub IsRest : ℕ → ℕ → ℕ → List Receipt → Type 0
IsRest client asked made rest =
    ((made ≡ asked) × (rest ≡ []))
    ⊎ ((made < asked) × ((length rest < steps_of_round)
    ⊎ TellsRound client (made % 256) false rest))

-- A client that is asked for so many rounds made this many, and has these receipts.
pub record Made (client asked made : ℕ) (receipts : List Receipt) : Type 0 where
  pub whole : List Receipt
  pub rest : List Receipt
  pub are : receipts ≡ whole ++ rest
  pub rounds : AreRounds client made whole
  pub ends : IsRest client asked made rest

-- What a client made: how many right rounds, and its receipts.
abbrev pub ClientLog : Type 0
ClientLog = ℕ × List Receipt

abbrev pub rounds_of : List ClientLog → ℕ
rounds_of [] = 0
rounds_of (l ∷ ls) = l.0 + rounds_of ls

abbrev pub receipts_of : List ClientLog → List Receipt
receipts_of [] = []
receipts_of (l ∷ ls) = l.1 ++ receipts_of ls

-- One of each pass but the last, which is the engine's: of its client, which was asked for so many rounds.
abbrev pub AreMade : List Hand → ℕ → List ClientLog → Type 0
AreMade (engine ∷ []) asked [] = Unit {0}
AreMade (h ∷ next ∷ hs) asked (l ∷ ls) = Made h.client asked l.0 l.1 × AreMade (next ∷ hs) asked ls
AreMade _ asked _ = ⊥

-- The rounds and receipts are those of the clients of these passes, which were asked for so many rounds each.
pub record AreOf (asked : ℕ) (passes : List Hand) (rounds : ℕ)
    (receipts : List Receipt) : Type 0 where
  pub logs : List ClientLog
  pub made : AreMade passes asked logs
  pub rounds_are : rounds ≡ rounds_of logs
  pub receipts_are : receipts ≡ receipts_of logs
