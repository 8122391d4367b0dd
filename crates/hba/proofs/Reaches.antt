-- What a write of the host does not reach.
use Rattle.std.proofs.Common.{◌≡◌, ℕ, ◌+◌, ◌-◌, ◌*◌, Bool, true, false, not, nat_le, bit_and, Option, Some, None, refl, ap, arith}
use Rattle.std.specs.Prelude.{◌==◌, ◌&&◌, ◌||◌, bit_or, if◌then◌else◌}
use Rattle.fis.specs.Bytes.{bit}
use Rattle.hba_regs.specs.declared.register.Register.{Register}
use Rattle.hba_regs.specs.declared.register.Register.TheVariants as at
use Rattle.hba_regs.specs.Registers.{register_at, has_bits, run_if, start_bit, receive_bit}
use Rattle.hba_regs.specs.AccessTypes.{StaysUnless, register_offset}
use Rattle.hba.specs.declared.registers.Registers.{Registers}
use Rattle.host_memory.specs.declared.width.AddressWidth.{AddressWidth}
use Rattle.hba.specs.Registers.{port_at, port_word, port_word_of, port_written, port_written_of, kept, optioned, overridden, stopped_if, lost_if, found_if, goes_down, comes_up, generic_word, generic_written, after_hba_reset, noted, asks, reset_bit, enable_bit, ahci_bit, override_bit, packet_bit, light_bit, control_bits, capabilities, version}
use Rattle.hba.specs.AccessTypes.{reaches_register, reaches_of, resets_hba, UnreachedRegistersLaw}
use Rattle.hba.proofs.Addresses.{port_width}

-- A word of the port looks at no bit of GHC and IS.
port_as : (regs : Registers) (enables raises : Bool) (register : Option Register)
    → port_word_of (record regs { interrupts_enabled = enables; is_raised = raises }) register
    ≡ port_word_of regs register
port_as regs enables raises None = refl
port_as regs enables raises (Some register) = grind arith

-- A register of the port that keeps what is written reaches itself alone.
abbrev Reaches : Register → Registers → Registers → Register → Type 0
Reaches written before after read =
    StaysUnless (reaches_register (register_offset written) (register_offset read) || false) (port_word before read) (port_word after read)

-- PxSACT and PxCI, by ST.
active_if : (st : Bool) (regs : Registers) (value : ℕ) (read : Register)
    → Reaches at.Active regs (noted (record regs {
      port = (if st then record regs.port { active = bit_or regs.port.active value } else regs.port);
    })) read
active_if true regs value read = grind arith
active_if false regs value read = grind arith

issued_if : (st : Bool) (regs : Registers) (value : ℕ) (read : Register)
    → Reaches at.Issue regs (noted (record regs {
      port = (if st then record regs.port { issued = bit_or regs.port.issued value } else regs.port);
    })) read
issued_if true regs value read = grind arith
issued_if false regs value read = grind arith

-- PxCMD, by ST and CLO.
command_if : (st override gets packet light : Bool) (regs : Registers) (read : Register)
    → Reaches at.Command regs (noted (stopped_if (not st) (overridden override (record regs {
      port = run_if st (record regs.port { receiving = gets });
      is_packet = packet;
      has_light = light;
    })))) read
command_if true true gets packet light regs read = grind arith
command_if true false gets packet light regs read = grind arith
command_if false true gets packet light regs read = grind arith
command_if false false gets packet light regs read = grind arith

-- PxSCTL, by the link.
control_if : (comes goes : Bool) (regs : Registers) (value : ℕ) (read : Register)
    → Reaches at.SataControl regs
    (noted (found_if comes (lost_if goes (record regs { port = record regs.port { control = value } })))) read
control_if true true regs value read = grind arith
control_if true false regs value read = grind arith
control_if false true regs value read = grind arith
control_if false false regs value read = grind arith

-- A written register of the port, and another.
by_registers : (regs : Registers) (value : ℕ) (written read : Register)
    → Reaches written regs (noted (port_written regs written value)) read
by_registers regs value at.ListBase read = grind arith
by_registers regs value at.ListBaseUpper read = grind arith
by_registers regs value at.FisBase read = grind arith
by_registers regs value at.FisBaseUpper read = grind arith
by_registers regs value at.InterruptStatus read = grind arith
by_registers regs value at.InterruptEnable read = grind arith
by_registers regs value at.TaskFile read = grind arith
by_registers regs value at.Signature read = grind arith
by_registers regs value at.SataStatus read = grind arith
by_registers regs value at.SataError read = grind arith
by_registers regs value at.Command read =
    command_if (has_bits value start_bit) (has_bits value override_bit) (has_bits value receive_bit)
    (has_bits value packet_bit) (has_bits value light_bit) regs read
by_registers regs value at.SataControl read =
    control_if (comes_up regs value) (goes_down regs value) regs (bit_and value control_bits) read
by_registers regs value at.Active read = active_if regs.port.running regs value read
by_registers regs value at.Issue read = issued_if regs.port.running regs value read

-- GHC and IS.
generic_port : (regs : Registers) (is_control is_status resets enables raises : Bool) (register : Option Register)
    → (is_control && resets) ≡ false
    → port_word_of (noted (if is_control
    then (if resets then after_hba_reset regs else record regs { interrupts_enabled = enables })
    else (if is_status then record regs { is_raised = raises } else regs))) register
    ≡ port_word_of regs register
generic_port regs true is_status true enables raises register e = grind arith
generic_port regs true is_status false enables raises register e = port_as regs enables (regs.is_raised || asks regs) register
generic_port regs false true resets enables raises register e =
    port_as regs regs.interrupts_enabled (raises || asks regs) register
generic_port regs false false resets enables raises register e =
    port_as regs regs.interrupts_enabled (regs.is_raised || asks regs) register

-- A generic register looks at GHC.IE and IS.IPS alone.
generic_as : (width wide : AddressWidth) (is0 is4 is8 isc is10 was now raised other : Bool) → wide ≡ width → (is4 ≡ true → now ≡ was) → is8 ≡ false
    → (if is0 then capabilities wide
    else (if is4 then ahci_bit + enable_bit * bit now
    else (if is8 then bit other
    else (if isc then 1
    else (if is10 then version else 0)))))
    ≡ (if is0 then capabilities width
    else (if is4 then ahci_bit + enable_bit * bit was
    else (if is8 then bit raised
    else (if isc then 1
    else (if is10 then version else 0)))))
generic_as width wide true is4 is8 isc is10 was now raised other w h e = ap capabilities w
generic_as width wide false true is8 isc is10 was now raised other w h e = ap (λ (b : Bool). ahci_bit + enable_bit * bit b) (h refl)
generic_as width wide false false true isc is10 was now raised other w h e = grind arith
generic_as width wide false false false isc is10 was now raised other w h e = refl

command_enables : (stops override : Bool) (regs : Registers)
    → (stopped_if stops (overridden override regs)).interrupts_enabled ≡ regs.interrupts_enabled
command_enables true true regs = refl
command_enables true false regs = refl
command_enables false true regs = refl
command_enables false false regs = refl

link_enables : (comes goes : Bool) (regs : Registers)
    → (found_if comes (lost_if goes regs)).interrupts_enabled ≡ regs.interrupts_enabled
link_enables true true regs = refl
link_enables true false regs = refl
link_enables false true regs = refl
link_enables false false regs = refl

port_enables : (regs : Registers) (value : ℕ) (register : Option Register)
    → (port_written_of regs register value).interrupts_enabled ≡ regs.interrupts_enabled
port_enables regs value None = refl
port_enables regs value (Some at.ListBase) = refl
port_enables regs value (Some at.ListBaseUpper) = refl
port_enables regs value (Some at.FisBase) = refl
port_enables regs value (Some at.FisBaseUpper) = refl
port_enables regs value (Some at.InterruptStatus) = refl
port_enables regs value (Some at.InterruptEnable) = refl
port_enables regs value (Some at.Command) =
    command_enables (not (has_bits value start_bit)) (has_bits value override_bit)
    (optioned value (kept regs at.Command value))
port_enables regs value (Some at.TaskFile) = refl
port_enables regs value (Some at.Signature) = refl
port_enables regs value (Some at.SataStatus) = refl
port_enables regs value (Some at.SataControl) =
    link_enables (comes_up regs value) (goes_down regs value)
    (kept regs at.SataControl (bit_and value control_bits))
port_enables regs value (Some at.SataError) = refl
port_enables regs value (Some at.Active) = refl
port_enables regs value (Some at.Issue) = refl

generic_enables : (regs : Registers) (offset value at : ℕ) (is_control resets is_status enables raises : Bool)
    → (offset == 0x04) ≡ is_control → (is_control && resets) ≡ false → (offset == at) ≡ false → (at == 0x04) ≡ true
    → (if is_control
    then (if resets then after_hba_reset regs else record regs { interrupts_enabled = enables })
    else (if is_status then record regs { is_raised = raises } else regs)).interrupts_enabled
    ≡ regs.interrupts_enabled
generic_enables regs offset value at true resets is_status enables raises c e o a = grind arith
generic_enables regs offset value at false resets true enables raises c e o a = refl
generic_enables regs offset value at false resets false enables raises c e o a = refl

generic_width : (regs : Registers) (is_control resets is_status enables raises : Bool)
    → (if is_control
    then (if resets then after_hba_reset regs else record regs { interrupts_enabled = enables })
    else (if is_status then record regs { is_raised = raises } else regs)).width
    ≡ regs.width
generic_width regs true true is_status enables raises = refl
generic_width regs true false is_status enables raises = refl
generic_width regs false resets true enables raises = refl
generic_width regs false resets false enables raises = refl

stays_if : (reached : Bool) (before after : ℕ) → (reached ≡ false → after ≡ before) → StaysUnless reached before after
stays_if true before after h = tt
stays_if false before after h = h refl

or_left : (a b : Bool) → (a || b) ≡ false → a ≡ false
or_left true b e = e
or_left false b e = refl

or_right : (a b : Bool) → (a || b) ≡ false → b ≡ false
or_right true b e = grind arith
or_right false b e = e

abbrev after : Bool → Registers → ℕ → ℕ → Registers
after is_port regs offset value =
    noted (if is_port then port_written_of regs (register_at (offset - port_at)) value
    else generic_written regs offset value)

abbrev Stays : Bool → Bool → Option Register → Option Register → Registers → Registers → ℕ → ℕ → Type 0
Stays from_port at_port written read before after offset at =
    StaysUnless
    (reaches_of (if from_port then written else None) (if at_port then read else None)
    || not at_port && (at == 0x08 || offset == at))
    (if at_port then port_word_of before read else generic_word before at)
    (if at_port then port_word_of after read else generic_word after at)

from_port_to_port : (regs : Registers) (value offset at : ℕ) (written read : Option Register)
    → Stays true true written read regs (noted (port_written_of regs written value)) offset at
from_port_to_port regs value offset at None read =
    port_as regs regs.interrupts_enabled (regs.is_raised || asks regs) read
from_port_to_port regs value offset at (Some written) None = refl
from_port_to_port regs value offset at (Some written) (Some read) = by_registers regs value written read

from_port : (regs : Registers) (value offset at : ℕ) (written read : Option Register)
    → Stays true false written read regs (noted (port_written_of regs written value)) offset at
from_port regs value offset at None read =
    stays_if (at == 0x08 || offset == at) _ _
    (λ e. generic_as regs.width regs.width (at == 0x00) (at == 0x04) (at == 0x08) (at == 0x0c) (at == 0x10) regs.interrupts_enabled
    regs.interrupts_enabled regs.is_raised (regs.is_raised || asks regs) refl (λ is. refl)
    (or_left (at == 0x08) (offset == at) e))
from_port regs value offset at (Some written) read =
    let now = noted (port_written_of regs (Some written) value) in
    stays_if (at == 0x08 || offset == at) _ _
    (λ e. generic_as regs.width now.width (at == 0x00) (at == 0x04) (at == 0x08) (at == 0x0c) (at == 0x10) regs.interrupts_enabled
    now.interrupts_enabled regs.is_raised now.is_raised (port_width value regs written) (λ is. port_enables regs value (Some written))
    (or_left (at == 0x08) (offset == at) e))

from_generic : (regs : Registers) (value offset at : ℕ) (written read : Option Register) → resets_hba offset value ≡ false
    → Stays false false written read regs (noted (generic_written regs offset value)) offset at
from_generic regs value offset at written read s =
    let now = noted (generic_written regs offset value) in
    stays_if (at == 0x08 || offset == at) _ _
    (λ e. generic_as regs.width now.width (at == 0x00) (at == 0x04) (at == 0x08) (at == 0x0c) (at == 0x10) regs.interrupts_enabled
    now.interrupts_enabled regs.is_raised now.is_raised
    (generic_width regs (offset == 0x04) (has_bits value reset_bit) (offset == 0x08) (has_bits value enable_bit)
    (regs.is_raised && not (has_bits value 1)))
    (λ is. generic_enables regs offset value at (offset == 0x04) (has_bits value reset_bit) (offset == 0x08)
    (has_bits value enable_bit) (regs.is_raised && not (has_bits value 1)) refl s
    (or_right (at == 0x08) (offset == at) e) is)
    (or_left (at == 0x08) (offset == at) e))

by_places : (regs : Registers) (value offset at : ℕ) (is_port at_port : Bool) → resets_hba offset value ≡ false
    → Stays is_port at_port (register_at (offset - port_at)) (register_at (at - port_at)) regs
    (after is_port regs offset value) offset at
by_places regs value offset at true true s =
    from_port_to_port regs value offset at (register_at (offset - port_at)) (register_at (at - port_at))
by_places regs value offset at true false s =
    from_port regs value offset at (register_at (offset - port_at)) (register_at (at - port_at))
by_places regs value offset at false true s =
    generic_port regs (offset == 0x04) (offset == 0x08) (has_bits value reset_bit) (has_bits value enable_bit)
    (regs.is_raised && not (has_bits value 1)) (register_at (at - port_at)) s
by_places regs value offset at false false s =
    from_generic regs value offset at (register_at (offset - port_at)) (register_at (at - port_at)) s

pub others_law : UnreachedRegistersLaw
others_law regs offset value at s = by_places regs value offset at (nat_le port_at offset) (nat_le port_at at) s
