-- Where the engine writes to the host's memory, whatever memory answers (AHCI 1.3.1, 4.2 and 5.5).
use Rattle.std.specs.Prelude.{◌≡◌, ◌⊎◌, ℕ, ◌+◌, ◌≤◌, List, [], ◌∷◌, length, Option, Some, None}
use Rattle.fis.specs.Fis.{IsSpelling}
use Rattle.fis.specs.declared.any.Fis.{Fis}
use Rattle.host_memory.specs.Access.{Access, Asked, Laid}
use Rattle.host_memory.specs.Memory.{data_at, data_len, offset_of}
use Rattle.hba.specs.declared.work.Work.{Work}
use Rattle.hba.specs.declared.work.Work.TheVariants as works
use Rattle.hba.specs.History.{Opened, Operation, Account, account, regs_of}
use Rattle.hba.specs.Engine.{header_at, fises_at, IsWork}

-- PRDBC, the second word of a header at an address (4.2.2).
abbrev pub IsByteCount : Option ℕ → ℕ → List ℕ → Type 0
IsByteCount None at bytes = ⊥
IsByteCount (Some header) at bytes = (at ≡ header + 4) × (length bytes ≡ 4)

-- The bytes of a FIS in its place among those received (4.2.1).
abbrev pub IsReceivedFis : Option ℕ → ℕ → List ℕ → Type 0
IsReceivedFis None at bytes = ⊥
IsReceivedFis (Some base) at bytes =
    (fis : Fis) × (at ≡ base + offset_of fis) × IsSpelling bytes fis

-- A part of the block that a descriptor names, from its first byte on (4.2.3.3).
abbrev pub IsOfBlock : Option (List ℕ) → ℕ → List ℕ → Type 0
IsOfBlock None at bytes = ⊥
IsOfBlock (Some entry) at bytes = (at ≡ data_at entry) × (length bytes ≤ data_len entry)

-- Each write is one of these: in the block of the descriptor that was read just before, the count in
-- the header, or a received FIS.
abbrev pub WritesOwn : Option ℕ → Option ℕ → Option (List ℕ) → List Access → Type 0
WritesOwn header fises entry [] = Unit {0}
WritesOwn header fises entry (Asked at n answer ∷ later) = WritesOwn header fises answer later
WritesOwn header fises entry (Laid at bytes is_done ∷ later) =
    (IsOfBlock entry at bytes ⊎ (IsByteCount header at bytes ⊎ IsReceivedFis fises at bytes))
    × WritesOwn header fises None later

-- The header of the slot that a piece of work is of.
abbrev pub header_of_work : Account → Work → Option ℕ
header_of_work a works.Signature = None
header_of_work a (works.Fetch tag) = Some (header_at a.registers tag)
header_of_work a (works.Complete tag) = Some (header_at a.registers tag)

-- Whatever the drive, the list of operations and the answers of memory were, no piece of work writes
-- anything else.
abbrev pub WritesLaw : Type 0
WritesLaw =
    (work : Work) (o : Opened) (list : List Operation) (talk : List Access) (done : Operation)
    → IsWork work o (account o list) talk done
    → WritesOwn (header_of_work (account o list) work) (fises_at (regs_of o list)) None talk
