-- What the host's memory keeps while parts of it change.
use Rattle.std.proofs.Common.{◌≡◌, ℕ, ◌+◌, ◌<◌, ◌≤◌, ◌==◌, Bool, true, false, if◌then◌else◌, Option, Some, None, List, ◌∷◌, length, take, drop, refl, sym, ap, subst, ◌∙◌, arith, inl, inr}
use Rattle.std.proofs.lemmas.List.{length-drop, take_all, take-take}
use Rattle.std.proofs.lemmas.Bool.{cases_lt}
use Rattle.slots.specs.Layout.{memory_part, memory_with, header_place, header_size, table_place, command_table_size, buffer_place, buffer_size, received_at, received_size, received_place, fis_length}
use Rattle.fis.specs.Fis.{IsSpelling}
use Rattle.fis.specs.declared.any.Fis.{Fis}
use Rattle.fis.specs.declared.any.Fis.TheVariants as fises
use Rattle.slots.specs.Fetch.{HoldsCommand, IsApartFromParts}
use Rattle.slots.proofs.Splices.{part_is, apart, whole}
use Rattle.port.specs.Answers.{buffer_front, answer_in}
use Rattle.port.specs.Host.{AreSameButReceived, AreSameButBuffer, AreSameButDone, AreSameButSlot, IsLaid, IsReceived, first_at}
use Rattle.port_history.specs.Requests.{to_device, bytes_moved}
use Rattle.trusted_cmds.specs.declared.command.Command.{Command}
use Rattle.port.specs.declared.outcome.Outcome.{Outcome}
use Rattle.port.specs.declared.outcome.Outcome.TheVariants.{Done, Failed, Reset}
use Rattle.port_history.specs.declared.request.Answer.TheVariants as answers
use Rattle.port_history.specs.declared.stages.Stage.{Stage}
use Rattle.port_history.specs.declared.stages.Stage.TheVariants.{Free, Prepared, Issued, Accepted, Answered}
use Rattle.port_history.specs.Requests.{command_fis}
use Rattle.port.specs.Agreement.{IsLaidAt}

-- a memory with a whole buffer reaches to its end
reaches : (memory : List ℕ) (at n : ℕ) → 0 < n → length (memory_part memory at n) ≡ n → at + n ≤ length memory
reaches memory at n some e =
    let size : length (take n (drop at memory)) ≡ n = ap length (sym (part_is memory at n)) ∙ e in
    elim (cases_lt (length (drop at memory)) n) [
      | inl short ↦ absurd (omega (arith, short, size, ap length (take_all n (drop at memory) (omega (arith, short)))))
      | inr le ↦ omega (arith, le, length-drop at memory, some)
    ]

front_laid : (memory bytes : List ℕ) (tag : ℕ) → buffer_place tag + buffer_size ≤ length memory → length bytes ≤ buffer_size → buffer_front (memory_with memory (buffer_place tag) bytes) tag (length bytes) ≡ bytes
front_laid memory bytes tag long fits =
    ap (take (length bytes)) (part_is (memory_with memory (buffer_place tag) bytes) (buffer_place tag) buffer_size)
    ∙ take-take (length bytes) buffer_size (drop (buffer_place tag) (memory_with memory (buffer_place tag) bytes)) fits
    ∙ sym (part_is (memory_with memory (buffer_place tag) bytes) (buffer_place tag) (length bytes))
    ∙ whole memory bytes (buffer_place tag) (length bytes) (omega (arith, long)) refl

-- a buffer that was filled
pub filled : (memory bytes : List ℕ) (tag : ℕ) → length (memory_part memory (buffer_place tag) buffer_size) ≡ buffer_size → length bytes ≤ buffer_size → buffer_front (memory_with memory (buffer_place tag) bytes) tag (length bytes) ≡ bytes
filled memory bytes tag long fits = front_laid memory bytes tag (reaches memory (buffer_place tag) buffer_size (omega arith) long) fits

narrower : (place n other m : ℕ) → m ≤ buffer_size → IsApartFromParts place n other buffer_size → IsApartFromParts place n other m
narrower place n other m small (inl before) = inl before
narrower place n other m small (inr behind) = inr (omega (arith, behind, small))

pub filled_elsewhere : (memory bytes : List ℕ) (tag : ℕ) → length (memory_part memory (buffer_place tag) buffer_size) ≡ buffer_size → length bytes ≤ buffer_size → AreSameButBuffer memory (memory_with memory (buffer_place tag) bytes) tag
filled_elsewhere memory bytes tag long fits place n away =
    apart memory bytes (buffer_place tag) (length bytes) place n refl
    (omega (arith, fits, reaches memory (buffer_place tag) buffer_size (omega arith) long))
    (narrower place n (buffer_place tag) (length bytes) fits away)

-- All that a slot has in the memory is as it was.
pub record IsSameSlot (old new : List ℕ) (tag : ℕ) : Type 0 where
  pub header : memory_part new (header_place tag) header_size ≡ memory_part old (header_place tag) header_size
  pub table : memory_part new (table_place tag) command_table_size ≡ memory_part old (table_place tag) command_table_size
  pub buffer : memory_part new (buffer_place tag) buffer_size ≡ memory_part old (buffer_place tag) buffer_size

pub same_refl : (memory : List ℕ) (tag : ℕ) → IsSameSlot memory memory tag
same_refl memory tag = record { header = refl; table = refl; buffer = refl }

pub same_trans : (first second third : List ℕ) (tag : ℕ) → IsSameSlot first second tag → IsSameSlot second third tag → IsSameSlot first third tag
same_trans first second third tag p q = record { header = q.header ∙ p.header; table = q.table ∙ p.table; buffer = q.buffer ∙ p.buffer }

pub same_received : (old new : List ℕ) (tag : ℕ) → tag < 32 → AreSameButReceived old new → IsSameSlot old new tag
same_received old new tag lt same = record {
  header = same (header_place tag) header_size (inl (omega arith));
  table = same (table_place tag) command_table_size (inr (omega arith));
  buffer = same (buffer_place tag) buffer_size (inr (omega arith));
}

headers_apart : (t tag : ℕ) → (t ≡ tag → ⊥) → IsApartFromParts (header_place t) header_size (header_place tag) header_size
headers_apart t tag other =
    elim (cases_lt t tag) [
      | inl below ↦ inl (omega (arith, below))
      | inr le ↦ inr (omega (arith, le, other))
    ]

tables_apart : (t tag : ℕ) → (t ≡ tag → ⊥) → IsApartFromParts (table_place t) command_table_size (table_place tag) command_table_size
tables_apart t tag other =
    elim (cases_lt t tag) [
      | inl below ↦ inl (omega (arith, below))
      | inr le ↦ inr (omega (arith, le, other))
    ]

pub buffers_apart : (t tag : ℕ) → (t ≡ tag → ⊥) → IsApartFromParts (buffer_place t) buffer_size (buffer_place tag) buffer_size
buffers_apart t tag other =
    elim (cases_lt t tag) [
      | inl below ↦ inl (omega (arith, below))
      | inr le ↦ inr (omega (arith, le, other))
    ]

pub same_but_buffer : (old new : List ℕ) (tag t : ℕ) → tag < 32 → t < 32 → (t ≡ tag → ⊥) → AreSameButBuffer old new tag → IsSameSlot old new t
same_but_buffer old new tag t lt below other same = record {
  header = same (header_place t) header_size (inl (omega arith));
  table = same (table_place t) command_table_size (inl (omega arith));
  buffer = same (buffer_place t) buffer_size (buffers_apart t tag other);
}

pub same_but_slot : (old new : List ℕ) (tag t : ℕ) → tag < 32 → t < 32 → (t ≡ tag → ⊥) → AreSameButSlot old new tag → IsSameSlot old new t
same_but_slot old new tag t lt below other same = record {
  header = same (header_place t) header_size (headers_apart t tag other) (inl (omega arith)) (inl (omega arith));
  table = same (table_place t) command_table_size (inr (omega arith)) (tables_apart t tag other) (inl (omega arith));
  buffer = same (buffer_place t) buffer_size (inr (omega arith)) (inr (omega arith)) (buffers_apart t tag other);
}

pub holds_same : (old new : List ℕ) (tag : ℕ) (command : List ℕ) (write : Bool) (len : ℕ) → IsSameSlot old new tag → HoldsCommand old tag command write len → HoldsCommand new tag command write len
holds_same old new tag command write len same h = record { header = same.header ∙ h.header; table = same.table ∙ h.table }

pub laid_same : (old new : List ℕ) (tag : ℕ) (stage : Stage) (bytes : List ℕ) → IsSameSlot old new tag → IsLaidAt old tag stage bytes → IsLaidAt new tag stage bytes
laid_same old new tag Free bytes same h = tt
laid_same old new tag (Prepared put) bytes same h = record { slot = holds_same old new tag (command_fis put.command tag) (to_device put.command) (bytes_moved put.command) same h.slot; buffer = ap (take (length bytes)) same.buffer ∙ h.buffer }
laid_same old new tag (Issued put) bytes same h = record { slot = holds_same old new tag (command_fis put.command tag) (to_device put.command) (bytes_moved put.command) same h.slot; buffer = ap (take (length bytes)) same.buffer ∙ h.buffer }
laid_same old new tag (Accepted put) bytes same h = record { slot = holds_same old new tag (command_fis put.command tag) (to_device put.command) (bytes_moved put.command) same h.slot; buffer = ap (take (length bytes)) same.buffer ∙ h.buffer }
laid_same old new tag (Answered put) bytes same h = tt

pub answer_same : (old new : List ℕ) (tag : ℕ) (outcome : Option Outcome) → IsSameSlot old new tag → answer_in new tag outcome ≡ answer_in old tag outcome
answer_same old new tag None same = refl
answer_same old new tag (Some (Done n)) same = ap (λ (xs : List ℕ). Some (answers.Done (take n xs))) same.buffer
answer_same old new tag (Some (Failed status error)) same = refl
answer_same old new tag (Some Reset) same = refl

-- a command that was placed, with its data in the buffer
pub laid_here : (placed new : List ℕ) (tag : ℕ) (command : Command) (bytes : List ℕ) → tag < 32 → HoldsCommand placed tag (command_fis command tag) (to_device command) (bytes_moved command) → AreSameButBuffer placed new tag → buffer_front new tag (length bytes) ≡ bytes → IsLaid new tag command bytes
laid_here placed new tag command bytes lt h same filled = record {
  slot = record {
    header = same (header_place tag) header_size (inl (omega arith)) ∙ h.header;
    table = same (table_place tag) command_table_size (inl (omega arith)) ∙ h.table;
  };
  buffer = filled;
}

pub same_but_done : (old new : List ℕ) (tag t : ℕ) → tag < 32 → t < 32 → (t ≡ tag → ⊥)
    → AreSameButDone old new tag → IsSameSlot old new t
same_but_done old new tag t lt below other same = record {
  header = same (header_place t) header_size (inl (omega arith)) (inl (omega arith));
  table = same (table_place t) command_table_size (inr (omega arith)) (inl (omega arith));
  buffer = same (buffer_place t) buffer_size (inr (omega arith)) (buffers_apart t tag other);
}

-- received FISes, where nothing of them changes
abbrev pub AreReceivedSame : List ℕ → List ℕ → Type 0
AreReceivedSame old new =
    (place n : ℕ) → received_at ≤ place → place + n ≤ received_at + received_size
    → memory_part new place n ≡ memory_part old place n

stands_low : (f : Fis) → received_at ≤ received_place f
stands_low (fises.H2d f) = omega arith
stands_low (fises.D2h f) = omega arith
stands_low (fises.SetDeviceBits f) = omega arith
stands_low (fises.DmaSetup f) = omega arith
stands_low (fises.PioSetup f) = omega arith

stands_high : (f : Fis) → received_place f + fis_length f ≤ received_at + received_size
stands_high (fises.H2d f) = omega arith
stands_high (fises.D2h f) = omega arith
stands_high (fises.SetDeviceBits f) = omega arith
stands_high (fises.DmaSetup f) = omega arith
stands_high (fises.PioSetup f) = omega arith

pub received_same : (old new : List ℕ) (sent : List Fis) → AreReceivedSame old new
    → IsReceived old sent → IsReceived new sent
received_same old new sent same h fis first =
    subst (λ (xs : List ℕ). IsSpelling xs fis)
    (sym (same (received_place fis) (fis_length fis) (stands_low fis) (stands_high fis))) (h fis first)

pub received_but_slot : (old new : List ℕ) (tag : ℕ) → tag < 32 → AreSameButSlot old new tag
    → AreReceivedSame old new
received_but_slot old new tag lt same place n low high =
    same place n (inr (omega (arith, low))) (inl (omega (arith, high))) (inl (omega (arith, high)))

pub received_but_buffer : (old new : List ℕ) (tag : ℕ) → AreSameButBuffer old new tag
    → AreReceivedSame old new
received_but_buffer old new tag same place n low high =
    same place n (inl (omega (arith, high)))

-- two FISes of different places do not meet
places_apart : (f g : Fis) → (received_place f == received_place g) ≡ false
    → IsApartFromParts (received_place g) (fis_length g) (received_place f) (fis_length f)
places_apart (fises.H2d f) (fises.H2d g) e = absurd cc
places_apart (fises.H2d f) (fises.D2h g) e = inl (omega arith)
places_apart (fises.H2d f) (fises.SetDeviceBits g) e = inl (omega arith)
places_apart (fises.H2d f) (fises.DmaSetup g) e = inl (omega arith)
places_apart (fises.H2d f) (fises.PioSetup g) e = inl (omega arith)
places_apart (fises.D2h f) (fises.H2d g) e = inr (omega arith)
places_apart (fises.D2h f) (fises.D2h g) e = absurd cc
places_apart (fises.D2h f) (fises.SetDeviceBits g) e = inr (omega arith)
places_apart (fises.D2h f) (fises.DmaSetup g) e = inl (omega arith)
places_apart (fises.D2h f) (fises.PioSetup g) e = inl (omega arith)
places_apart (fises.SetDeviceBits f) (fises.H2d g) e = inr (omega arith)
places_apart (fises.SetDeviceBits f) (fises.D2h g) e = inl (omega arith)
places_apart (fises.SetDeviceBits f) (fises.SetDeviceBits g) e = absurd cc
places_apart (fises.SetDeviceBits f) (fises.DmaSetup g) e = inl (omega arith)
places_apart (fises.SetDeviceBits f) (fises.PioSetup g) e = inl (omega arith)
places_apart (fises.DmaSetup f) (fises.H2d g) e = inr (omega arith)
places_apart (fises.DmaSetup f) (fises.D2h g) e = inr (omega arith)
places_apart (fises.DmaSetup f) (fises.SetDeviceBits g) e = inr (omega arith)
places_apart (fises.DmaSetup f) (fises.DmaSetup g) e = absurd cc
places_apart (fises.DmaSetup f) (fises.PioSetup g) e = inr (omega arith)
places_apart (fises.PioSetup f) (fises.H2d g) e = inr (omega arith)
places_apart (fises.PioSetup f) (fises.D2h g) e = inr (omega arith)
places_apart (fises.PioSetup f) (fises.SetDeviceBits g) e = inr (omega arith)
places_apart (fises.PioSetup f) (fises.DmaSetup g) e = inl (omega arith)
places_apart (fises.PioSetup f) (fises.PioSetup g) e = absurd cc

some_same : (f g : Fis) → Some f ≡ Some g → f ≡ g
some_same f g e = cc

-- one FIS more
pub one_received : (old new : List ℕ) (fis : Fis) (sent : List Fis)
    → IsSpelling (memory_part new (received_place fis) (fis_length fis)) fis
    → ((place n : ℕ) → IsApartFromParts place n (received_place fis) (fis_length fis) → memory_part new place n ≡ memory_part old place n)
    → IsReceived old sent → IsReceived new (fis ∷ sent)
one_received old new fis sent stands beside h g first = by_place (received_place fis == received_place g) refl
  where
    by_place : (b : Bool) → (received_place fis == received_place g) ≡ b
        → IsSpelling (memory_part new (received_place g) (fis_length g)) g
    by_place true e =
        let same : fis ≡ g = some_same fis g (sym (ap (λ (b : Bool). if b then Some fis else first_at (received_place g) sent) e) ∙ first) in
        subst (λ (f : Fis). IsSpelling (memory_part new (received_place f) (fis_length f)) f) same stands
    by_place false e =
        subst (λ (xs : List ℕ). IsSpelling xs g)
        (sym (beside (received_place g) (fis_length g) (places_apart fis g e)))
        (h g (sym (ap (λ (b : Bool). if b then Some fis else first_at (received_place g) sent) e) ∙ first))
