-- Worked rows of the access types, computed from the definitions alone (AHCI 1.3.1, 3.3).
use Rattle.std.proofs.Common.{◌≡◌, ℕ, true, false, List, [], ◌∷◌, refl}
use Rattle.std.specs.Prelude.{◌+◌, ◌==◌, Bool, bit_or}
use Rattle.hba_regs.specs.declared.register.Register.{Register}
use Rattle.hba_regs.specs.declared.register.Register.TheVariants.{ListBase, ListBaseUpper, FisBase, FisBaseUpper, InterruptStatus, InterruptEnable, Command, TaskFile, Signature, SataStatus, SataControl, SataError, Active, Issue}
use Rattle.hba_regs.specs.Registers.{Regs, start_registers, word, rewritten}
use Rattle.hba_regs.specs.AccessTypes.{AccessRow, access_rows, register_offset}

-- The rows of a register have each of its 32 bits, and each once.
abbrev bits_if : Bool → ℕ → ℕ → ℕ
bits_if true bits more = bits + more
bits_if false bits more = more

abbrev sum_of : ℕ → List AccessRow → ℕ
sum_of offset [] = 0
sum_of offset (r ∷ later) = bits_if (register_offset r.register == offset) r.bits (sum_of offset later)

abbrev either_if : Bool → ℕ → ℕ → ℕ
either_if true bits more = bit_or bits more
either_if false bits more = more

abbrev union_of : ℕ → List AccessRow → ℕ
union_of offset [] = 0
union_of offset (r ∷ later) = either_if (register_offset r.register == offset) r.bits (union_of offset later)

each_once : (register : Register) → sum_of (register_offset register) access_rows ≡ 0xffffffff
each_once ListBase = refl
each_once ListBaseUpper = refl
each_once FisBase = refl
each_once FisBaseUpper = refl
each_once InterruptStatus = refl
each_once InterruptEnable = refl
each_once Command = refl
each_once TaskFile = refl
each_once Signature = refl
each_once SataStatus = refl
each_once SataControl = refl
each_once SataError = refl
each_once Active = refl
each_once Issue = refl

each_there : (register : Register) → union_of (register_offset register) access_rows ≡ 0xffffffff
each_there ListBase = refl
each_there ListBaseUpper = refl
each_there FisBase = refl
each_there FisBaseUpper = refl
each_there InterruptStatus = refl
each_there InterruptEnable = refl
each_there Command = refl
each_there TaskFile = refl
each_there Signature = refl
each_there SataStatus = refl
each_there SataControl = refl
each_there SataError = refl
each_there Active = refl
each_there Issue = refl

-- What a register reads behind a written word, and that behind another.
abbrev reads : Regs → Register → ℕ → ℕ
reads regs register value = word (rewritten regs register value) register

abbrev twice : Register → ℕ → ℕ → ℕ
twice register first second = reads (rewritten start_registers register first) register second

-- PxCLB is aligned to 1,024 bytes, PxFB to 256; there are no upper halves.
row_list_base : twice ListBase 0xffffffff 0x12345678 ≡ 0x12345400
row_list_base = refl

row_list_base_upper : reads start_registers ListBaseUpper 0xffffffff ≡ 0
row_list_base_upper = refl

row_fis_base : twice FisBase 0xffffffff 0x12345678 ≡ 0x12345600
row_fis_base = refl

row_fis_base_upper : reads start_registers FisBaseUpper 0xffffffff ≡ 0
row_fis_base_upper = refl

-- A written 1 clears bits of PxIS and PxSERR.
row_interrupts : reads (record start_registers { interrupts = 0x4000000f }) InterruptStatus 0x40000006 ≡ 0x9
row_interrupts = refl

row_link_errors : reads (record start_registers { link_errors = 0x04010002 }) SataError 0x04000000 ≡ 0x00010002
row_link_errors = refl

-- PxIE and PxSCTL keep what is written last.
row_enabled : twice InterruptEnable 0x7dc0007f 0x40000001 ≡ 0x40000001
row_enabled = refl

row_control : twice SataControl 0x301 0x300 ≡ 0x300
row_control = refl

-- PxCMD: ST and FRE are written, CR and FR follow.
row_command : reads start_registers Command 0xffffffff ≡ 0xc011
row_command = refl

row_stopped : reads start_registers Command 0xfffffffe ≡ 0x4010
row_stopped = refl

row_not_receiving : reads start_registers Command 0xffffffef ≡ 0x8001
row_not_receiving = refl

-- PxTFD, PxSIG and PxSSTS are read only.
row_task : reads start_registers TaskFile 0xffffffff ≡ 0x50
row_task = refl

row_signature : reads start_registers Signature 0xffffffff ≡ 0x101
row_signature = refl

row_status : reads start_registers SataStatus 0 ≡ 0x133
row_status = refl

-- A written 1 sets bits of PxSACT and PxCI while ST is 1; a written 0 changes nothing.
row_active : twice Active 0x5 0x80000002 ≡ 0x80000007
row_active = refl

row_issued : twice Issue 0x5 0x80000002 ≡ 0x80000007
row_issued = refl

row_not_active : reads (record start_registers { running = false }) Active 0xff ≡ 0
row_not_active = refl

row_not_issued : reads (record start_registers { running = false }) Issue 0xff ≡ 0
row_not_issued = refl

-- ST 0 clears both.
row_ends_active : word (rewritten (record start_registers { active = 8 }) Command 0x10) Active ≡ 0
row_ends_active = refl

row_ends_issued : word (rewritten (record start_registers { issued = 9 }) Command 0x10) Issue ≡ 0
row_ends_issued = refl
