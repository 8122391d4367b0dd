-- What a written word leaves of a controller's registers, bits by bits.
use Rattle.std.proofs.Common.{◌≡◌, ℕ, ◌+◌, ◌-◌, ◌*◌, ◌^◌, ◌<◌, zero, suc, Bool, true, false, not, bit_and, refl, ap, arith, sym, subst, ◌∙◌}
use Rattle.std.specs.Prelude.{◌==◌, ◌&&◌, ◌||◌, bit_or, if◌then◌else◌}
use Rattle.std.specs.Int.{bit_at, bit_not, w32}
use Rattle.std.proofs.lemmas.Nat.{and_assoc, and_comm, and_or_apart, and_or_self}
use Rattle.std.proofs.lemmas.Nat.Bits.{and_pow, bit_at-lt, bit_at_not}
use Rattle.std.specs.Int.Bits.{and_zero_r}
use Rattle.fis.specs.Bytes.{bit}
use Rattle.hba_regs.specs.declared.register.Register.TheVariants as at
use Rattle.hba_regs.specs.Registers.{has_bits, run_if, command_word, without, start_bit, receive_bit}
use Rattle.hba_regs.proofs.AccessBits.{kept_bits, dropped_bits, one_bit, active_of, issued_of}
use Rattle.hba.specs.declared.registers.Registers.{Registers}
use Rattle.host_memory.specs.declared.width.AddressWidth.{AddressWidth}
use Rattle.host_memory.specs.declared.width.AddressWidth.TheVariants as widths
use Rattle.hba_regs.specs.AccessTypes.{ReadsSo}
use Rattle.hba.specs.Registers.{upper_written, word_at, written_at, port_word, kept, overridden, stopped_if, lost_if, found_if, goes_down, comes_up, generic_word, after_hba_reset, asks, change_bit, phy_change_bit, exchange_bit, phy_error_bit, reset_bit, enable_bit, override_bit, packet_bit, light_bit, power_bits, control_bits}
use Rattle.hba.specs.AccessTypes.{UpperRowsLaw, upper_access, RowsLaw, generic_rows, place_rows, command_rows, state_rows, HasOwnBits, FollowedLaw, WrittenStartLaw}

-- Bits of bits, the other way round.
swap : (word one other : ℕ) → bit_and (bit_and word one) other ≡ bit_and (bit_and word other) one
swap word one other =
    and_assoc other word one ∙ ap (bit_and word) (and_comm one other) ∙ sym (and_assoc one word other)

none_l : (bits : ℕ) → bit_and 0 bits ≡ 0
none_l bits = and_comm 0 bits ∙ and_zero_r bits

-- GHC.
control_of : (resets enables is : Bool) (regs : Registers) (value : ℕ)
    → (is ≡ enables) → resets ≡ false
    → bit_and (generic_word (if resets then after_hba_reset regs
    else record regs { interrupts_enabled = is }) 0x04) 0x2
    ≡ (if enables then 0x2 else 0)
control_of true enables is regs value s e = grind arith
control_of false true true regs value s e = refl
control_of false false false regs value s e = refl
control_of false true false regs value s e = grind arith
control_of false false true regs value s e = grind arith

control_high : (resets is : Bool) (regs : Registers)
    → bit_and (generic_word (if resets then after_hba_reset regs
    else record regs { interrupts_enabled = is }) 0x04) 0x80000000
    ≡ 0x80000000
control_high true is regs = refl
control_high false true regs = refl
control_high false false regs = refl

control_low : (resets is : Bool) (regs : Registers)
    → bit_and (generic_word (if resets then after_hba_reset regs
    else record regs { interrupts_enabled = is }) 0x04) 0x1
    ≡ 0
control_low true is regs = refl
control_low false true regs = refl
control_low false false regs = refl

control_rest : (resets is : Bool) (regs : Registers)
    → bit_and (generic_word (if resets then after_hba_reset regs
    else record regs { interrupts_enabled = is }) 0x04) 0x7ffffffc
    ≡ 0
control_rest true is regs = refl
control_rest false true regs = refl
control_rest false false regs = refl

enabled_high : (is : Bool) → bit_and (0x80000000 + 2 * bit is) 0x80000000 ≡ 0x80000000
enabled_high true = refl
enabled_high false = refl

-- IS.
status_of : (was one asks : Bool) → asks ≡ false
    → bit_and (bit (was && not one || asks)) 1 ≡ (if was then (if one then 0 else 1) else 0)
status_of true true false e = refl
status_of true false false e = refl
status_of false true false e = refl
status_of false false false e = refl
status_of true true true e = grind arith
status_of true false true e = grind arith
status_of false true true e = grind arith
status_of false false true e = grind arith

status_rest : (b : Bool) → bit_and (bit b) 0xfffffffe ≡ 0
status_rest true = refl
status_rest false = refl

-- A written 1 clears a bit that is set.
by_bit : (is bit : ℕ) → is < 2 → 0 < bit → (1 - is) * bit ≡ (if is * bit == bit then 0 else bit)
by_bit zero bit l p = grind arith
by_bit (suc zero) bit l p = grind arith
by_bit (suc (suc n)) bit l p = absurd (omega arith)

cleared_bit : (value k : ℕ) → value < 2 ^ 32 → k < 32 → 0 < 2 ^ k
    → bit_and (2 ^ k) (bit_not w32 value) ≡ (if has_bits value (2 ^ k) then 0 else 2 ^ k)
cleared_bit value k v l p =
    and_comm (2 ^ k) (bit_not w32 value) ∙ and_pow (bit_not w32 value) k
    ∙ ap (λ (n : ℕ). n * 2 ^ k) (bit_at_not w32 value k v l)
    ∙ by_bit (bit_at value k) (2 ^ k) (bit_at-lt value k) p
    ∙ ap (λ (n : ℕ). if n == 2 ^ k then 0 else 2 ^ k) (sym (and_pow value k))

-- And so in a word that has it or not.
one_cleared : (was : Bool) (value k : ℕ) → value < 2 ^ 32 → k < 32 → 0 < 2 ^ k
    → bit_and (if was then 2 ^ k else 0) (bit_not w32 value)
    ≡ (if was then (if has_bits value (2 ^ k) then 0 else 2 ^ k) else 0)
one_cleared true value k v l p = cleared_bit value k v l p
one_cleared false value k v l p = none_l (bit_not w32 value)

-- PxIS: what PxSERR brings has bits of its own.
told_apart : (ex ph : Bool) (word bits : ℕ) → bit_and change_bit bits ≡ 0 → bit_and phy_change_bit bits ≡ 0
    → bit_and (bit_or (bit_or word (if ex then change_bit else 0)) (if ph then phy_change_bit else 0)) bits
    ≡ bit_and word bits
told_apart true true word bits c p = and_or_apart bits (bit_or word change_bit) phy_change_bit p ∙ and_or_apart bits word change_bit c
told_apart true false word bits c p = and_or_apart bits (bit_or word change_bit) 0 (none_l bits) ∙ and_or_apart bits word change_bit c
told_apart false true word bits c p = and_or_apart bits (bit_or word 0) phy_change_bit p ∙ and_or_apart bits word 0 (none_l bits)
told_apart false false word bits c p = and_or_apart bits (bit_or word 0) 0 (none_l bits) ∙ and_or_apart bits word 0 (none_l bits)

abbrev with_link : Bool → Bool → ℕ → ℕ
with_link ex ph word = bit_or (bit_or word (if ex then change_bit else 0)) (if ph then phy_change_bit else 0)

raised_row : (ex ph : Bool) (word value : ℕ)
    → bit_and (with_link ex ph (without word value)) 0x7d80002f ≡ bit_and (without (with_link ex ph word) value) 0x7d80002f
raised_row ex ph word value =
    told_apart ex ph (without word value) 0x7d80002f refl refl
    ∙ swap word (bit_not w32 value) 0x7d80002f
    ∙ ap (λ (n : ℕ). bit_and n (bit_not w32 value)) (sym (told_apart ex ph word 0x7d80002f refl refl))
    ∙ swap (with_link ex ph word) 0x7d80002f (bit_not w32 value)

part_of : (word all bits : ℕ) → bit_and word all ≡ 0 → bit_and all bits ≡ bits → bit_and word bits ≡ 0
part_of word all bits e is =
    ap (bit_and word) (sym is) ∙ sym (and_assoc bits word all) ∙ ap (λ (n : ℕ). bit_and n bits) e ∙ none_l bits

unraised_row : (ex ph : Bool) (word value : ℕ) → bit_and word 0x827fffd0 ≡ 0
    → bit_and (with_link ex ph (without word value)) 0x823fff90 ≡ 0
unraised_row ex ph word value e =
    told_apart ex ph (without word value) 0x823fff90 refl refl
    ∙ swap word (bit_not w32 value) 0x823fff90
    ∙ ap (λ (n : ℕ). bit_and n (bit_not w32 value)) (part_of word 0x827fffd0 0x823fff90 e refl)
    ∙ none_l (bit_not w32 value)

told_change : (ex ph : Bool) (word : ℕ) → bit_and word 0x40 ≡ 0
    → bit_and (with_link ex ph word) 0x40 ≡ (if ex then 0x40 else 0)
told_change true true word e = and_or_apart 0x40 (bit_or word 0x40) 0x400000 refl ∙ and_or_self 0x40 word
told_change true false word e = and_or_apart 0x40 (bit_or word 0x40) 0 refl ∙ and_or_self 0x40 word
told_change false true word e = and_or_apart 0x40 (bit_or word 0) 0x400000 refl ∙ and_or_apart 0x40 word 0 refl ∙ e
told_change false false word e = and_or_apart 0x40 (bit_or word 0) 0 refl ∙ and_or_apart 0x40 word 0 refl ∙ e

told_phy : (ex ph : Bool) (word : ℕ) → bit_and word 0x400000 ≡ 0
    → bit_and (with_link ex ph word) 0x400000 ≡ (if ph then 0x400000 else 0)
told_phy true true word e = and_or_self 0x400000 (bit_or word 0x40)
told_phy false true word e = and_or_self 0x400000 (bit_or word 0)
told_phy true false word e = and_or_apart 0x400000 (bit_or word 0x40) 0 refl ∙ and_or_apart 0x400000 word 0x40 refl ∙ e
told_phy false false word e = and_or_apart 0x400000 (bit_or word 0) 0 refl ∙ and_or_apart 0x400000 word 0 refl ∙ e

-- PxCMD, of each slot and each bit.
and_left : (a b : Bool) → (a && b) ≡ true → a ≡ true
and_left true b e = refl
and_left false b e = e

and_right : (a b : Bool) → (a && b) ≡ true → b ≡ true
and_right true b e = e
and_right false true e = refl
and_right false false e = e

abbrev all_slots : ℕ → (ℕ → Bool) → Bool
all_slots zero p = true
all_slots (suc n) p = p n && all_slots n p

of_last : (n c : ℕ) (p : ℕ → Bool) (is : Bool) → (c == n) ≡ is → c < suc n → p n ≡ true → (c < n → p c ≡ true) → p c ≡ true
of_last n c p true e l here there =
    let same : c ≡ n = grind arith in subst (λ (m : ℕ). p m ≡ true) (sym same) here
of_last n c p false e l here there = there (grind arith)

of_slots : (n : ℕ) (p : ℕ → Bool) → all_slots n p ≡ true → (c : ℕ) → c < n → p c ≡ true
of_slots zero p e c l = absurd (omega arith)
of_slots (suc n) p e c l =
    of_last n c p (c == n) refl l (and_left (p n) (all_slots n p) e) (of_slots n p (and_right (p n) (all_slots n p) e) c)

abbrev each : (Bool → Bool) → Bool
each p = p true && p false

of_each : (p : Bool → Bool) → each p ≡ true → (b : Bool) → p b ≡ true
of_each p e true = and_left (p true) (p false) e
of_each p e false = and_right (p true) (p false) e

abbrev told : Bool → Bool → ℕ → Bool → Bool → ℕ
told st gets current packet light =
    command_word st gets + power_bits + 256 * current + packet_bit * bit packet + light_bit * bit light

abbrev is_so : ℕ → (Bool → Bool → ℕ → Bool → Bool → ℕ) → Bool → Bool → Bool → Bool → ℕ → Bool
is_so bits due st gets packet light current =
    bit_and (told st gets current packet light) bits == due st gets current packet light

abbrev all_so : ℕ → (Bool → Bool → ℕ → Bool → Bool → ℕ) → Bool
all_so bits due =
    each (λ st. each (λ gets. each (λ packet. each (λ light. all_slots 32 (is_so bits due st gets packet light)))))

same_number : (n m : ℕ) → (n == m) ≡ true → n ≡ m
same_number n m e = grind arith

reads_so : (bits : ℕ) (due : Bool → Bool → ℕ → Bool → Bool → ℕ) → all_so bits due ≡ true
    → (st gets : Bool) (current : ℕ) (packet light : Bool) → current < 32
    → bit_and (told st gets current packet light) bits ≡ due st gets current packet light
reads_so bits due e st gets current packet light l =
    same_number _ _
    (of_slots 32 (is_so bits due st gets packet light)
    (of_each (λ light. all_slots 32 (is_so bits due st gets packet light))
    (of_each (λ packet. each (λ light. all_slots 32 (is_so bits due st gets packet light)))
    (of_each (λ gets. each (λ packet. each (λ light. all_slots 32 (is_so bits due st gets packet light))))
    (of_each (λ st. each (λ gets. each (λ packet. each (λ light. all_slots 32 (is_so bits due st gets packet light))))) e
    st) gets) packet) light) current l)

-- A written PxCMD.
commanded : (st override gets packet light : Bool) (regs : Registers)
    → port_word (stopped_if (not st) (overridden override (record regs {
      port = run_if st (record regs.port { receiving = gets });
      is_packet = packet;
      has_light = light;
    }))) at.Command
    ≡ told st gets (if st then regs.current else 0) packet light
commanded true true gets packet light regs = refl
commanded true false gets packet light regs = refl
commanded false true gets packet light regs = refl
commanded false false gets packet light regs = refl

slot_fits : (st : Bool) (current : ℕ) → current < 32 → (if st then current else 0) < 32
slot_fits true current l = l
slot_fits false current l = omega arith

command_reads : (regs : Registers) (value bits : ℕ) (due : Bool → Bool → ℕ → Bool → Bool → ℕ) → HasOwnBits regs
    → all_so bits due ≡ true
    → bit_and (word_at (written_at regs 0x118 value) 0x118) bits
    ≡ due (has_bits value start_bit) (has_bits value receive_bit) (if has_bits value start_bit then regs.current else 0)
    (has_bits value packet_bit) (has_bits value light_bit)
command_reads regs value bits due k e =
    let st = has_bits value start_bit in
    let gets = has_bits value receive_bit in
    let packet = has_bits value packet_bit in
    let light = has_bits value light_bit in
    ap (λ (n : ℕ). bit_and n bits) (commanded st (has_bits value override_bit) gets packet light regs)
    ∙ reads_so bits due e st gets (if st then regs.current else 0) packet light (slot_fits st regs.current k.slot)

command_was : (regs : Registers) (bits : ℕ) (due : Bool → Bool → ℕ → Bool → Bool → ℕ) → HasOwnBits regs
    → all_so bits due ≡ true
    → bit_and (word_at regs 0x118) bits
    ≡ due regs.port.running regs.port.receiving regs.current regs.is_packet regs.has_light
command_was regs bits due k e =
    reads_so bits due e regs.port.running regs.port.receiving regs.current regs.is_packet regs.has_light k.slot

-- PxSCTL and PxSERR.
link_control : (comes goes : Bool) (regs : Registers)
    → (found_if comes (lost_if goes regs)).port.control ≡ regs.port.control
link_control true true regs = refl
link_control true false regs = refl
link_control false true regs = refl
link_control false false regs = refl

control_reads : (regs : Registers) (value bits : ℕ)
    → bit_and (word_at (written_at regs 0x12c value) 0x12c) bits ≡ bit_and (bit_and value control_bits) bits
control_reads regs value bits =
    ap (λ (n : ℕ). bit_and n bits)
    (link_control (comes_up regs value) (goes_down regs value) (kept regs at.SataControl (bit_and value control_bits)))

abbrev errors : Bool → Bool → ℕ
errors ex ph = (if ex then exchange_bit else 0) + (if ph then phy_error_bit else 0)

errors_exchange : (ex ph : Bool) → bit_and (errors ex ph) 0x04000000 ≡ (if ex then 0x04000000 else 0)
errors_exchange true true = refl
errors_exchange true false = refl
errors_exchange false true = refl
errors_exchange false false = refl

errors_phy : (ex ph : Bool) → bit_and (errors ex ph) 0x00010000 ≡ (if ph then 0x00010000 else 0)
errors_phy true true = refl
errors_phy true false = refl
errors_phy false true = refl
errors_phy false false = refl

errors_rest : (ex ph : Bool) → bit_and (errors ex ph) 0xfbfeffff ≡ 0
errors_rest true true = refl
errors_rest true false = refl
errors_rest false true = refl
errors_rest false false = refl

keeps : (was has : Bool) (bit : ℕ) → (if was && not has then bit else 0) ≡ (if was then (if has then 0 else bit) else 0)
keeps true true bit = refl
keeps true false bit = refl
keeps false has bit = refl

exchange_row : (ex ph other : Bool) (value : ℕ) → value < 2 ^ 32
    → bit_and (errors (ex && not (has_bits value exchange_bit)) other) 0x04000000
    ≡ bit_and (without (errors ex ph) value) 0x04000000
exchange_row ex ph other value v =
    errors_exchange (ex && not (has_bits value exchange_bit)) other
    ∙ keeps ex (has_bits value exchange_bit) 0x04000000
    ∙ sym (one_cleared ex value 26 v (omega arith) (omega arith))
    ∙ ap (λ (n : ℕ). bit_and n (bit_not w32 value)) (sym (errors_exchange ex ph))
    ∙ swap (errors ex ph) 0x04000000 (bit_not w32 value)

phy_row : (ex ph other : Bool) (value : ℕ) → value < 2 ^ 32
    → bit_and (errors other (ph && not (has_bits value phy_error_bit))) 0x00010000
    ≡ bit_and (without (errors ex ph) value) 0x00010000
phy_row ex ph other value v =
    errors_phy other (ph && not (has_bits value phy_error_bit))
    ∙ keeps ph (has_bits value phy_error_bit) 0x00010000
    ∙ sym (one_cleared ph value 16 v (omega arith) (omega arith))
    ∙ ap (λ (n : ℕ). bit_and n (bit_not w32 value)) (sym (errors_phy ex ph))
    ∙ swap (errors ex ph) 0x00010000 (bit_not w32 value)

-- IS, by a written 1.
was_status : (was : Bool) (value : ℕ) → value < 2 ^ 32
    → (if was then (if has_bits value 1 then 0 else 1) else 0) ≡ bit_and (without (bit was) value) 1
was_status true value v =
    sym (and_assoc 1 1 (bit_not w32 value)
    ∙ ap (bit_and 1) (and_comm (bit_not w32 value) 1)
    ∙ sym (and_assoc (bit_not w32 value) 1 1)
    ∙ cleared_bit value 0 v (omega arith) (omega arith))
was_status false value v = sym (ap (λ (n : ℕ). bit_and n 1) (none_l (bit_not w32 value)))

-- The rows.
pub generic_law : RowsLaw generic_rows
generic_law regs value k v =
    let resets = has_bits value reset_bit in
    let enables = has_bits value enable_bit in (
      (λ e. refl),
      (
        (λ e. control_high resets enables regs ∙ sym (enabled_high regs.interrupts_enabled)),
        (
          (λ e. control_of resets enables enables regs value refl (grind arith) ∙ one_bit value 1 (omega arith)),
          (
            (λ e. control_low resets enables regs),
            (
              (λ e. control_rest resets enables regs),
              (
                (λ e. status_of regs.is_raised (has_bits value 1) (asks regs) e ∙ was_status regs.is_raised value v),
                (
                  (λ e. status_rest (regs.is_raised && not (has_bits value 1) || asks regs)),
                  (
                    (λ e. refl),
                    (
                      (λ e. refl),
                      tt,
                    ),
                  ),
                ),
              ),
            ),
          ),
        ),
      ),
    )

pub place_law : RowsLaw place_rows
place_law regs value k v =
    let ex = regs.is_exchanged in
    let ph = regs.has_phy_changed in
    let raised = regs.port.interrupts in (
      (λ e. kept_bits value 0xfffffc00 refl),
      (
        (λ e. dropped_bits value 0xfffffc00 0x3ff refl),
        (
          (λ e. kept_bits value 0xffffff00 refl),
          (
            (λ e. dropped_bits value 0xffffff00 0xff refl),
            (
              (λ e. raised_row ex ph raised value),
              (
                (λ e. tt),
                (
                  (λ e. unraised_row ex ph raised value k.raised),
                  (
                    (λ e. kept_bits value 0x7dc0007f refl),
                    (
                      (λ e. dropped_bits value 0x7dc0007f 0x823fff80 refl),
                      tt,
                    ),
                  ),
                ),
              ),
            ),
          ),
        ),
      ),
    )

-- PxCLBU and PxFBU.
upper_row : (width : AddressWidth) (running : Bool) (before value : ℕ)
    → ReadsSo (upper_access width) running 0xffffffff value before (upper_written width before value)
upper_row widths.Bits32 running before value = refl
upper_row widths.Bits64 running before value = refl

pub upper_law : UpperRowsLaw
upper_law regs value v = (
  (λ e. upper_row regs.width regs.port.running regs.list_upper value),
  ((λ e. upper_row regs.width regs.port.running regs.fis_upper value), tt),
)

pub command_law : RowsLaw command_rows
command_law regs value k v = (
  (λ e. command_reads regs value 0x02000000 (λ st gets current packet light. if light then 0x02000000 else 0) k refl
      ∙ one_bit value 25 (omega arith)),
  (
    (λ e. command_reads regs value 0x01000000 (λ st gets current packet light. if packet then 0x01000000 else 0) k refl
        ∙ one_bit value 24 (omega arith)),
    (
      (λ e. tt),
      (
        (λ e. tt),
        (
          (λ e. tt),
          (
            (λ e. command_reads regs value 0x10 (λ st gets current packet light. if gets then 0x10 else 0) k refl
                ∙ one_bit value 4 (omega arith)),
            (
              (λ e. command_reads regs value 0x8 (λ st gets current packet light. 0) k refl),
              (
                (λ e. command_reads regs value 0x6 (λ st gets current packet light. 6) k refl
                    ∙ sym (command_was regs 0x6 (λ st gets current packet light. 6) k refl)),
                (
                  (λ e. command_reads regs value 0x1 (λ st gets current packet light. if st then 0x1 else 0) k refl
                      ∙ one_bit value 0 (omega arith)),
                  (
                    (λ e. command_reads regs value 0xfcff20e0 (λ st gets current packet light. 0) k refl),
                    tt,
                  ),
                ),
              ),
            ),
          ),
        ),
      ),
    ),
  ),
)

pub state_law : RowsLaw state_rows
state_law regs value k v =
    let ex = regs.is_exchanged in
    let ph = regs.has_phy_changed in
    let exchanged = ex && not (has_bits value exchange_bit) in
    let changed = ph && not (has_bits value phy_error_bit) in (
      (λ e. refl),
      (
        (λ e. refl),
        (
          (λ e. refl),
          (
            (λ e. control_reads regs value 0xfff ∙ kept_bits value 0xfff refl),
            (
              (λ e. control_reads regs value 0xfffff000 ∙ dropped_bits value 0xfff 0xfffff000 refl),
              (
                (λ e. exchange_row ex ph changed value v),
                (
                  (λ e. phy_row ex ph exchanged value v),
                  (
                    (λ e. errors_rest exchanged changed),
                    (
                      (λ e. active_of regs.port.running regs.port value),
                      (
                        (λ e. issued_of regs.port.running regs.port value),
                        tt,
                      ),
                    ),
                  ),
                ),
              ),
            ),
          ),
        ),
      ),
    )

-- What follows.
runs_alike : (st : Bool) → ((if st then 0x8000 else 0) == 0x8000) ≡ ((if st then 0x1 else 0) == 0x1)
runs_alike true = refl
runs_alike false = refl

gets_alike : (gets : Bool) → ((if gets then 0x4000 else 0) == 0x4000) ≡ ((if gets then 0x10 else 0) == 0x10)
gets_alike true = refl
gets_alike false = refl

changes_alike : (ex : Bool) → ((if ex then 0x40 else 0) == 0x40) ≡ ((if ex then 0x04000000 else 0) == 0x04000000)
changes_alike true = refl
changes_alike false = refl

phy_alike : (ph : Bool) → ((if ph then 0x400000 else 0) == 0x400000) ≡ ((if ph then 0x00010000 else 0) == 0x00010000)
phy_alike true = refl
phy_alike false = refl

pub follows_law : FollowedLaw
follows_law regs k =
    let ex = regs.is_exchanged in
    let ph = regs.has_phy_changed in
    let raised = regs.port.interrupts in
    record {
      runs =
          ap (λ (n : ℕ). n == 0x8000) (command_was regs 0x8000 (λ st gets current packet light. if st then 0x8000 else 0) k refl)
          ∙ runs_alike regs.port.running
          ∙ ap (λ (n : ℕ). n == 0x1)
          (sym (command_was regs 0x1 (λ st gets current packet light. if st then 0x1 else 0) k refl));
      receives =
          ap (λ (n : ℕ). n == 0x4000)
          (command_was regs 0x4000 (λ st gets current packet light. if gets then 0x4000 else 0) k refl)
          ∙ gets_alike regs.port.receiving
          ∙ ap (λ (n : ℕ). n == 0x10)
          (sym (command_was regs 0x10 (λ st gets current packet light. if gets then 0x10 else 0) k refl));
      exchanged =
          ap (λ (n : ℕ). n == 0x40) (told_change ex ph raised (part_of raised 0x827fffd0 0x40 k.raised refl))
          ∙ changes_alike ex ∙ ap (λ (n : ℕ). n == 0x04000000) (sym (errors_exchange ex ph));
      changed =
          ap (λ (n : ℕ). n == 0x400000) (told_phy ex ph raised (part_of raised 0x827fffd0 0x400000 k.raised refl))
          ∙ phy_alike ph ∙ ap (λ (n : ℕ). n == 0x00010000) (sym (errors_phy ex ph));
    }

-- A written ST.
tags_of : (st override gets packet light : Bool) (regs : Registers)
    → let after = stopped_if (not st) (overridden override (record regs {
      port = run_if st (record regs.port { receiving = gets });
      is_packet = packet;
      has_light = light;
    })) in
    (after.port.active ≡ (if st then regs.port.active else 0))
    × (after.port.issued ≡ (if st then regs.port.issued else 0))
tags_of true true gets packet light regs = (refl, refl)
tags_of true false gets packet light regs = (refl, refl)
tags_of false true gets packet light regs = (refl, refl)
tags_of false false gets packet light regs = (refl, refl)

slot_of : (st : Bool) (current : ℕ) → 256 * (if st then current else 0) ≡ (if st then 256 * current else 0)
slot_of true current = refl
slot_of false current = refl

pub start_law : WrittenStartLaw
start_law regs value k =
    let st = has_bits value start_bit in
    let tags = tags_of st (has_bits value override_bit) (has_bits value receive_bit) (has_bits value packet_bit)
    (has_bits value light_bit) regs in
    record {
      active = tags.0;
      issued = tags.1;
      slot =
          command_reads regs value 0x1f00 (λ st gets current packet light. 256 * current) k refl
          ∙ slot_of st regs.current
          ∙ ap (λ (n : ℕ). if st then n else 0)
          (sym (command_was regs 0x1f00 (λ st gets current packet light. 256 * current) k refl));
    }
