-- Worked rows, computed from the definitions alone: a descriptor at 880h names two bytes at 2000h.
use Rattle.std.proofs.Common.{◌≡◌, ℕ, true, false, List, [], ◌∷◌, Some, None, refl}
use Rattle.fis.specs.declared.any.Fis.{Fis}
use Rattle.fis.specs.declared.any.Fis.TheVariants as fises
use Rattle.host_memory.specs.Access.{Access, Asked, Laid}
use Rattle.host_memory.specs.declared.hba_memory.miss.Miss.TheVariants as misses
use Rattle.host_memory.specs.declared.hba_memory.delivery.Arrival.{Arrival}
use Rattle.host_memory.specs.declared.hba_memory.reading.Moved.{Moved}
use Rattle.host_memory.specs.declared.hba_memory.delivery.Place.{Place}
use Rattle.host_memory.specs.Memory.{has_processed, Scatters, Delivers}

abbrev entry : List ℕ
entry = 0x00 ∷ 0x20 ∷ 0 ∷ 0 ∷ 0 ∷ 0 ∷ 0 ∷ 0 ∷ 0 ∷ 0 ∷ 0 ∷ 0 ∷ 1 ∷ 0 ∷ 0 ∷ 0 ∷ []

-- The header stands at 400h, and FISes have no place.
abbrev place : Place
place = record { at = 0x400; header = record { table = 0x800; entries = 1 }; to = None }

abbrev laid : List Access
laid = Asked 0x880 16 (Some entry) ∷ Laid 0x2000 (1 ∷ 2 ∷ []) true ∷ []

abbrev cut : Arrival
cut = record { is_short = true; is_processed = false; missed = None }

-- Nothing was brought.
abbrev none : Moved
none = record { len = 0; is_processed = false }

row_laid : Scatters 0x880 1 (1 ∷ 2 ∷ 3 ∷ 4 ∷ []) laid (Some misses.Overflow)
row_laid = (Some entry, Laid 0x2000 (1 ∷ 2 ∷ []) true ∷ [], refl, (true, [], refl, (refl, refl)))

-- Of four bytes two have room: PRDBC, at 404h, counts these (AHCI 1.3.1, 3.3.5 and 4.2.2).
row_short : Delivers place none [] (1 ∷ 2 ∷ 3 ∷ 4 ∷ [])
    (Asked 0x880 16 (Some entry) ∷ Laid 0x2000 (1 ∷ 2 ∷ []) true
    ∷ Laid 0x404 (2 ∷ 0 ∷ 0 ∷ 0 ∷ []) true ∷ []) cut
row_short = (
  laid,
  Laid 0x404 (2 ∷ 0 ∷ 0 ∷ 0 ∷ []) true ∷ [],
  Some misses.Overflow,
  refl,
  row_laid,
  refl,
  refl,
  (Laid 0x404 (2 ∷ 0 ∷ 0 ∷ 0 ∷ []) true ∷ [], [], None, refl, (true, refl, refl), (refl, refl)),
)

-- DPS (3.3.5, 4.2.3.3): the descriptor has I, and all data of its block moved, to the host or from it.
abbrev telling : List ℕ
telling = 0x00 ∷ 0x20 ∷ 0 ∷ 0 ∷ 0 ∷ 0 ∷ 0 ∷ 0 ∷ 0 ∷ 0 ∷ 0 ∷ 0 ∷ 1 ∷ 0 ∷ 0 ∷ 0x80 ∷ []

row_read_done : has_processed (Asked 0x880 16 (Some telling) ∷ Laid 0x2000 (1 ∷ 2 ∷ []) true ∷ []) ≡ true
row_read_done = refl

row_write_done : has_processed (Asked 0x880 16 (Some telling) ∷ Asked 0x2000 2 (Some (1 ∷ 2 ∷ [])) ∷ []) ≡ true
row_write_done = refl

-- Not where I is 0, where the block is no memory, or where a part of it alone is wanted.
row_not_asked : has_processed laid ≡ false
row_not_asked = refl

row_no_block : has_processed (Asked 0x880 16 (Some telling) ∷ Laid 0x2000 (1 ∷ 2 ∷ []) false ∷ []) ≡ false
row_no_block = refl

row_in_part : has_processed (Asked 0x880 16 (Some telling) ∷ Laid 0x2000 (1 ∷ []) true ∷ []) ≡ false
row_in_part = refl

-- The first of two blocks is done, and the second fails.
row_before_a_fault : has_processed
    (Asked 0x880 16 (Some telling) ∷ Laid 0x2000 (1 ∷ 2 ∷ []) true
    ∷ Asked 0x890 16 (Some telling) ∷ Laid 0x2000 (3 ∷ []) false ∷ []) ≡ true
row_before_a_fault = refl

-- What the device did not take has not moved: it failed the command (ACS-3, status 51h).
abbrev brought : Moved
brought = record { len = 2; is_processed = true }

abbrev failed : Fis
failed = fises.D2h (record {
  interrupt = true;
  port = 0;
  status = 0x51;
  error = 4;
  lba = 0;
  device = 0;
  count = 0;
})

abbrev untold : Arrival
untold = record { is_short = false; is_processed = false; missed = None }

row_failed : Delivers place brought (failed ∷ []) [] [] untold
row_failed = ([], [], None, refl, (refl, refl), refl, refl, ([], [], None, refl, (refl, refl), (refl, refl)))
