-- What a run of clients and an engine tells.
use Rattle.std.specs.Prelude.{◌≡◌, ◌↔◌, ℕ, ◌+◌, ◌*◌, ◌==◌, ◌&&◌, Bool, true, List, ◌++◌, All, Option, codes, decimal, if◌then◌else◌}
use Rattle.std.specs.Io.KnownBytes.{Appends}
use Rattle.port.specs.State.{PortState}
use Rattle.port_history.specs.declared.step.Entry.{Entry}
use Rattle.locked_port.specs.Counts.{Stands}
use Rattle.locked_port.specs.Hands.{hands}
use Rattle.locked_port.specs.Receipts.{HaveOwnNumbers, IsShown, AreNamed}
use Rattle.locked_port.specs.declared.ticket.Receipt.{Receipt}
use Rattle.port_threads.specs.Rounds.{steps_of_round, ClientLog, AreMade, rounds_of, receipts_of}
use Rattle.port_threads.specs.declared.facts.Facts.{Facts}

-- The receipts are for all client steps of the history, each once and as the history has it.
abbrev pub AreWhole : List Entry → List Receipt → Type 0
AreWhole history receipts = HaveOwnNumbers receipts × All (IsShown history) receipts
    × AreNamed history receipts

-- The lines of what a run tells.
abbrev pub rounds_line : ℕ → List ℕ
rounds_line n = codes "rounds " ++ decimal n ++ codes "\n"

abbrev pub steps_line : ℕ → List ℕ
steps_line n = codes "client steps " ++ decimal n ++ codes "\n"

abbrev pub receipts_line : Bool → List ℕ
receipts_line is_whole = if is_whole then codes "receipts ok\n" else codes "receipts wrong\n"

abbrev pub facts_text : Facts → List ℕ
facts_text facts = (rounds_line facts.rounds ++ steps_line facts.client_steps)
    ++ receipts_line facts.receipts

-- All rounds were made, no client step is beside them, and the receipts are whole.
abbrev pub are_facts_right : ℕ → ℕ → Facts → Bool
are_facts_right clients rounds facts =
    (facts.rounds == clients * rounds)
    && (facts.client_steps == steps_of_round * (clients * rounds)) && facts.receipts

-- The facts are those of a port that stands, and of so many clients that were asked for so many rounds each: of what each
-- made with a pass of its own, and of the receipts of all.
pub record AreFactsOf (clients rounds : ℕ) (facts : Facts) : Type 0 where
  pub port : PortState
  pub logs : List ClientLog
  pub stands : Stands port facts.client_steps
  pub made : AreMade (hands (clients + 1)) rounds logs
  pub rounds_are : facts.rounds ≡ rounds_of logs
  pub whole : (facts.receipts ≡ true) ↔ AreWhole port.history (receipts_of logs)

-- The facts are printed, and the status is 0 exactly where they are right.
pub record Ran (clients rounds status : ℕ) (old new : Option (List ℕ)) : Type 0 where
  pub facts : Facts
  pub told : AreFactsOf clients rounds facts
  pub printed : Appends old new (facts_text facts)
  pub ends : status ≡ (if are_facts_right clients rounds facts then 0 else 1)
