-- How wide addresses are, and their upper halves, operation by operation.
use Rattle.std.proofs.Common.{◌≡◌, ℕ, Bool, true, false, List, [], ◌∷◌, Option, Some, None, refl, ap, ◌∙◌}
use Rattle.std.specs.Prelude.{◌-◌, ◌==◌, ◌&&◌, not, nat_le, bit_and, if◌then◌else◌}
use Rattle.fis.specs.declared.any.Fis.{Fis}
use Rattle.hba_regs.specs.declared.register.Register.{Register}
use Rattle.hba_regs.specs.declared.register.Register.TheVariants as at
use Rattle.hba_regs.specs.Registers.{register_at, has_bits, start_bit}
use Rattle.history.specs.History.{Accept, Complete}
use Rattle.host_memory.specs.declared.width.AddressWidth.{AddressWidth}
use Rattle.host_memory.specs.declared.width.AddressWidth.TheVariants as widths
use Rattle.host_memory.specs.declared.hba_memory.miss.Miss.{Miss}
use Rattle.host_memory.specs.declared.hba_memory.miss.Miss.TheVariants as misses
use Rattle.hba.specs.declared.registers.Registers.{Registers}
use Rattle.hba.specs.Registers.{port_at, reset_bit, override_bit, control_bits, capabilities, upper_written, kept, optioned, overridden, stopped_if, lost_if, found_if, goes_down, comes_up, port_written}
use Rattle.hba.specs.Showing.{served, moved, fetching}
use Rattle.hba.specs.History.{Opened, Operation, Wrote, Powered, Signed, Missed, Controlled, Asserted, Restarted, Unheard, Fetched, Completed, account, regs_of, effect_after}
use Rattle.hba.specs.TaskLaws.{left_at, left_by}
use Rattle.hba.specs.AddressLaws.{WidthLaw, Uppers, no_uppers, uppers_after, uppers_written, uppers_by, UppersLaw, PlacesLaw}
use Rattle.hba.proofs.TaskBits.{left_so}

-- What a write leaves, wherever it goes, is the same.
same_at : {A : Type 0} (x : A) (is_port resets : Bool) (register : Option Register)
    → (if is_port then left_at (λ r. x) x register else (if resets then x else x)) ≡ x
same_at x true resets None = refl
same_at x true resets (Some register) = refl
same_at x false true register = refl
same_at x false false register = refl

left_same : {A : Type 0} (x : A) (offset value : ℕ) → left_by (λ r. x) x x offset value ≡ x
left_same x offset value =
    same_at x (nat_le port_at offset) (offset == 0x04 && has_bits value reset_bit) (register_at (offset - port_at))

-- What of the registers addresses are made of: how wide they are, and the upper halves.
abbrev shown_width : Registers → AddressWidth
shown_width regs = regs.width

abbrev shown_uppers : Registers → Uppers
shown_uppers regs = record { list = regs.list_upper; fises = regs.fis_upper }

command_width : (stops override : Bool) (regs : Registers)
    → shown_width (stopped_if stops (overridden override regs)) ≡ shown_width regs
command_width true true regs = refl
command_width true false regs = refl
command_width false true regs = refl
command_width false false regs = refl

command_uppers : (stops override : Bool) (regs : Registers)
    → shown_uppers (stopped_if stops (overridden override regs)) ≡ shown_uppers regs
command_uppers true true regs = refl
command_uppers true false regs = refl
command_uppers false true regs = refl
command_uppers false false regs = refl

link_width : (comes goes : Bool) (regs : Registers)
    → shown_width (found_if comes (lost_if goes regs)) ≡ shown_width regs
link_width true true regs = refl
link_width true false regs = refl
link_width false true regs = refl
link_width false false regs = refl

link_uppers : (comes goes : Bool) (regs : Registers)
    → shown_uppers (found_if comes (lost_if goes regs)) ≡ shown_uppers regs
link_uppers true true regs = refl
link_uppers true false regs = refl
link_uppers false true regs = refl
link_uppers false false regs = refl

served_width : (missed : Option Miss) (tag : ℕ) (list : List Fis) (regs : Registers)
    → shown_width (served tag list missed regs) ≡ shown_width regs
served_width None tag list regs = refl
served_width (Some misses.List) tag list regs = refl
served_width (Some misses.Table) tag list regs = refl
served_width (Some misses.Block) tag list regs = refl
served_width (Some misses.Overflow) tag list regs = refl
served_width (Some misses.Fis) tag list regs = refl

served_uppers : (missed : Option Miss) (tag : ℕ) (list : List Fis) (regs : Registers)
    → shown_uppers (served tag list missed regs) ≡ shown_uppers regs
served_uppers None tag list regs = refl
served_uppers (Some misses.List) tag list regs = refl
served_uppers (Some misses.Table) tag list regs = refl
served_uppers (Some misses.Block) tag list regs = refl
served_uppers (Some misses.Overflow) tag list regs = refl
served_uppers (Some misses.Fis) tag list regs = refl

-- How wide they are.
pub port_width : (value : ℕ) (regs : Registers) (register : Register)
    → shown_width (port_written regs register value) ≡ shown_width regs
port_width value regs at.ListBase = refl
port_width value regs at.ListBaseUpper = refl
port_width value regs at.FisBase = refl
port_width value regs at.FisBaseUpper = refl
port_width value regs at.InterruptStatus = refl
port_width value regs at.InterruptEnable = refl
port_width value regs at.Command =
    command_width (not (has_bits value start_bit)) (has_bits value override_bit) (optioned value (kept regs at.Command value))
port_width value regs at.TaskFile = refl
port_width value regs at.Signature = refl
port_width value regs at.SataStatus = refl
port_width value regs at.SataControl =
    link_width (comes_up regs value) (goes_down regs value) (kept regs at.SataControl (bit_and value control_bits))
port_width value regs at.SataError = refl
port_width value regs at.Active = refl
port_width value regs at.Issue = refl

pub width_stays : (o : Opened) (list : List Operation) → (regs_of o list).width ≡ o.width
width_stays o [] = refl
width_stays o (Wrote offset value ∷ before) =
    let regs = regs_of o before in
    left_so shown_width (λ r. regs.width) regs.width regs offset value
    (λ other. refl) (port_width value regs) refl (λ b. refl) (λ b. refl)
    ∙ left_same regs.width offset value ∙ width_stays o before
width_stays o (Powered ∷ before) = width_stays o before
width_stays o (Signed ∷ before) = width_stays o before
width_stays o (Missed fetched miss ∷ before) = width_stays o before
width_stays o (Controlled tag ∷ before) = width_stays o before
width_stays o (Asserted tag ∷ before) = width_stays o before
width_stays o (Restarted tag ∷ before) = width_stays o before
width_stays o (Unheard tag ∷ before) = width_stays o before
width_stays o (Fetched tag fis payload arrival ∷ before) =
    served_width arrival.missed tag (effect_after o (account o before) (Accept fis payload)).fises
    (moved arrival (fetching tag (regs_of o before)))
    ∙ width_stays o before
width_stays o (Completed tag payload arrival ∷ before) =
    served_width arrival.missed tag (effect_after o (account o before) (Complete tag payload)).fises
    (moved arrival (regs_of o before))
    ∙ width_stays o before

pub width_law : WidthLaw
width_law o list = record {
  width = width_stays o list;
  low = λ e. ap capabilities (width_stays o list ∙ e);
  wide = λ e. ap capabilities (width_stays o list ∙ e);
}

-- The upper halves, where a write leaves them.
low_uppers : (value : ℕ) (regs : Registers) (register : Register) → regs.width ≡ widths.Bits32
    → shown_uppers (port_written regs register value) ≡ shown_uppers regs
low_uppers value regs at.ListBase e = refl
low_uppers value regs at.ListBaseUpper e =
    ap (λ (w : AddressWidth). let x : Uppers = record { list = upper_written w regs.list_upper value; fises = regs.fis_upper } in x) e
low_uppers value regs at.FisBase e = refl
low_uppers value regs at.FisBaseUpper e =
    ap (λ (w : AddressWidth). let x : Uppers = record { list = regs.list_upper; fises = upper_written w regs.fis_upper value } in x) e
low_uppers value regs at.InterruptStatus e = refl
low_uppers value regs at.InterruptEnable e = refl
low_uppers value regs at.Command e =
    command_uppers (not (has_bits value start_bit)) (has_bits value override_bit) (optioned value (kept regs at.Command value))
low_uppers value regs at.TaskFile e = refl
low_uppers value regs at.Signature e = refl
low_uppers value regs at.SataStatus e = refl
low_uppers value regs at.SataControl e =
    link_uppers (comes_up regs value) (goes_down regs value) (kept regs at.SataControl (bit_and value control_bits))
low_uppers value regs at.SataError e = refl
low_uppers value regs at.Active e = refl
low_uppers value regs at.Issue e = refl

-- And where it is kept.
wide_uppers : (value : ℕ) (regs : Registers) (register : Register) → regs.width ≡ widths.Bits64
    → shown_uppers (port_written regs register value) ≡ uppers_after value (shown_uppers regs) register
wide_uppers value regs at.ListBase e = refl
wide_uppers value regs at.ListBaseUpper e =
    ap (λ (w : AddressWidth). let x : Uppers = record { list = upper_written w regs.list_upper value; fises = regs.fis_upper } in x) e
wide_uppers value regs at.FisBase e = refl
wide_uppers value regs at.FisBaseUpper e =
    ap (λ (w : AddressWidth). let x : Uppers = record { list = regs.list_upper; fises = upper_written w regs.fis_upper value } in x) e
wide_uppers value regs at.InterruptStatus e = refl
wide_uppers value regs at.InterruptEnable e = refl
wide_uppers value regs at.Command e =
    command_uppers (not (has_bits value start_bit)) (has_bits value override_bit) (optioned value (kept regs at.Command value))
wide_uppers value regs at.TaskFile e = refl
wide_uppers value regs at.Signature e = refl
wide_uppers value regs at.SataStatus e = refl
wide_uppers value regs at.SataControl e =
    link_uppers (comes_up regs value) (goes_down regs value) (kept regs at.SataControl (bit_and value control_bits))
wide_uppers value regs at.SataError e = refl
wide_uppers value regs at.Active e = refl
wide_uppers value regs at.Issue e = refl

-- What the engine does leaves them, and a list of operations by how wide they are.
low_so : (o : Opened) (list : List Operation) → o.width ≡ widths.Bits32
    → shown_uppers (regs_of o list) ≡ no_uppers
low_so o [] e = refl
low_so o (Wrote offset value ∷ before) e =
    let regs = regs_of o before in
    left_so shown_uppers (λ r. shown_uppers regs) (shown_uppers regs) regs offset value
    (λ other. refl) (λ register. low_uppers value regs register (width_stays o before ∙ e)) refl (λ b. refl) (λ b. refl)
    ∙ left_same (shown_uppers regs) offset value ∙ low_so o before e
low_so o (Powered ∷ before) e = refl
low_so o (Signed ∷ before) e = low_so o before e
low_so o (Missed fetched miss ∷ before) e = low_so o before e
low_so o (Controlled tag ∷ before) e = low_so o before e
low_so o (Asserted tag ∷ before) e = low_so o before e
low_so o (Restarted tag ∷ before) e = low_so o before e
low_so o (Unheard tag ∷ before) e = low_so o before e
low_so o (Fetched tag fis payload arrival ∷ before) e =
    served_uppers arrival.missed tag (effect_after o (account o before) (Accept fis payload)).fises
    (moved arrival (fetching tag (regs_of o before)))
    ∙ low_so o before e
low_so o (Completed tag payload arrival ∷ before) e =
    served_uppers arrival.missed tag (effect_after o (account o before) (Complete tag payload)).fises
    (moved arrival (regs_of o before))
    ∙ low_so o before e

wide_so : (o : Opened) (list : List Operation) → o.width ≡ widths.Bits64
    → shown_uppers (regs_of o list) ≡ uppers_written list
wide_so o [] e = refl
wide_so o (Wrote offset value ∷ before) e =
    let regs = regs_of o before in
    left_so shown_uppers (uppers_after value (shown_uppers regs)) (shown_uppers regs) regs offset value
    (λ other. refl) (λ register. wide_uppers value regs register (width_stays o before ∙ e)) refl (λ b. refl) (λ b. refl)
    ∙ ap (λ (x : Uppers). left_by (uppers_after value x) x x offset value) (wide_so o before e)
wide_so o (Powered ∷ before) e = refl
wide_so o (Signed ∷ before) e = wide_so o before e
wide_so o (Missed fetched miss ∷ before) e = wide_so o before e
wide_so o (Controlled tag ∷ before) e = wide_so o before e
wide_so o (Asserted tag ∷ before) e = wide_so o before e
wide_so o (Restarted tag ∷ before) e = wide_so o before e
wide_so o (Unheard tag ∷ before) e = wide_so o before e
wide_so o (Fetched tag fis payload arrival ∷ before) e =
    served_uppers arrival.missed tag (effect_after o (account o before) (Accept fis payload)).fises
    (moved arrival (fetching tag (regs_of o before)))
    ∙ wide_so o before e
wide_so o (Completed tag payload arrival ∷ before) e =
    served_uppers arrival.missed tag (effect_after o (account o before) (Complete tag payload)).fises
    (moved arrival (regs_of o before))
    ∙ wide_so o before e

by_width : (width : AddressWidth) (o : Opened) (list : List Operation) → o.width ≡ width
    → shown_uppers (regs_of o list) ≡ uppers_by width list
by_width widths.Bits32 o list e = low_so o list e
by_width widths.Bits64 o list e = wide_so o list e

pub uppers_law : UppersLaw
uppers_law o list = by_width o.width o list refl

pub places_law : PlacesLaw
places_law regs = record { header = λ tag. refl; fises = refl }
