-- What reaches the host's memory where nothing is missed (AHCI 1.3.1, 4.2 and 5.5).
use Rattle.std.specs.Prelude.{◌≡◌, ℕ, ◌+◌, false, List, ◌++◌, length, None}
use Rattle.fis.specs.declared.any.Fis.{Fis}
use Rattle.host_memory.specs.Access.{Access}
use Rattle.host_memory.specs.declared.hba_memory.reading.Moved.{Moved}
use Rattle.host_memory.specs.declared.hba_memory.delivery.Arrival.{Arrival}
use Rattle.host_memory.specs.declared.hba_memory.delivery.Place.{Place}
use Rattle.host_memory.specs.Memory.{descriptors_of, data_taken, Scatters, Counts, PostsTo, Delivers}

-- All of an act: its data lie over the blocks that the descriptors name, PRDBC counts so many bytes, and its
-- FISes stand in their places. Nothing else is accessed.
pub record GivesAll (place : Place) (count : ℕ) (fises : List Fis) (bytes : List ℕ)
    (talk : List Access) : Type 0 where
  pub data_part : List Access
  pub count_part : List Access
  pub fis_part : List Access
  pub parts : talk ≡ data_part ++ (count_part ++ fis_part)
  pub laid : Scatters (descriptors_of place.header) place.header.entries bytes data_part None
  pub counted : Counts place.at count count_part None
  pub posted : PostsTo place.to fises fis_part None

-- What is delivered, where memory misses nothing and the PRDT has room, is all.
abbrev pub DeliveredLaw : Type 0
DeliveredLaw =
    (place : Place) (brought : Moved) (fises : List Fis) (bytes : List ℕ) (talk : List Access)
    (arrival : Arrival) → Delivers place brought fises bytes talk arrival
    → arrival.missed ≡ None → arrival.is_short ≡ false
    → GivesAll place (data_taken fises brought.len + length bytes) fises bytes talk
