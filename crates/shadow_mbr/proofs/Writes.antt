-- Bytes after a write, piece by piece.
use Rattle.std.proofs.Common.{◌≡◌, ℕ, ◌+◌, ◌-◌, ◌/◌, ◌%◌, ◌<◌, ◌≤◌, ◌≢◌, ◌==◌, List, length, take, drop, get_or, refl, ap, sym, ◌∙◌, arith, rules, ◌++◌, ⊎_elim, ◌⊎◌, inl, inr}
use Rattle.std.proofs.lemmas.Bool.{cases_lt, cases_eq}
use Rattle.std.proofs.lemmas.Bool.Decides.{nat_tests}
use Rattle.std.proofs.lemmas.List.{places, get_or-take, get_or-drop, length-take-le}
use Rattle.std.specs.Prelude.{if◌then◌else◌}
use Rattle.shadow_mbr.specs.Stored.{StoredSectors, sector_at, byte_at, byte_after}

-- A byte inside what was written, before it and behind it.
pub byte_inside : (at : ℕ) (bytes : List ℕ) (before place : ℕ) → at ≤ place → place < at + length bytes → byte_after at bytes before place ≡ get_or bytes (place - at) 0
byte_inside at bytes before place from below = grind (arith, nat_tests)

pub byte_outside : (at : ℕ) (bytes : List ℕ) (before place : ℕ) → (place < at) ⊎ (at + length bytes ≤ place) → byte_after at bytes before place ≡ before
byte_outside at bytes before place out = grind (arith, nat_tests)

-- The bytes of a sector of which a part was written.
part_before : (old bytes : List ℕ) (from i : ℕ) → i < from → from + length bytes ≤ length old → get_or (take from old ++ bytes ++ drop (from + length bytes) old) i 0 ≡ get_or old i 0
part_before old bytes from i below within = search (rules, places)

part_inside : (old bytes : List ℕ) (from i : ℕ) → i < length bytes → from + length bytes ≤ length old → get_or (take from old ++ bytes ++ drop (from + length bytes) old) (from + i) 0 ≡ get_or bytes i 0
part_inside old bytes from i below within = search (rules, places)

part_behind : (old bytes : List ℕ) (from i : ℕ) → from + length bytes ≤ i → from + length bytes ≤ length old → get_or (take from old ++ bytes ++ drop (from + length bytes) old) i 0 ≡ get_or old i 0
part_behind old bytes from i behind within = search (rules, places)

-- The length of the bytes so far.
so_far : (n : ℕ) (bytes : List ℕ) → n ≤ length bytes → length (take n bytes) ≡ n
so_far n bytes within = length-take-le n bytes within

-- A byte of the bytes so far.
byte_so_far : (at n : ℕ) (bytes : List ℕ) (before place : ℕ) → n ≤ length bytes → at ≤ place → place < at + n → byte_after at (take n bytes) before place ≡ get_or bytes (place - at) 0
byte_so_far at n bytes before place within from below =
    let size : length (take n bytes) ≡ n = so_far n bytes within in
    byte_inside at (take n bytes) before place from (omega (arith, size)) ∙ get_or-take n bytes (place - at) 0 (omega arith)

-- A byte of the next piece.
byte_of_piece : (done n place at : ℕ) (bytes : List ℕ) → at + done ≤ place → place < at + done + n → get_or (take n (drop done bytes)) (place - (at + done)) 0 ≡ get_or bytes (place - at) 0
byte_of_piece done n place at bytes from below =
    let i : ℕ = place - (at + done) in
    let same : place - at ≡ done + i = omega arith in
    get_or-take n (drop done bytes) i 0 (omega arith) ∙ get_or-drop done bytes i 0 ∙ rw same refl

-- One more piece of a write.
pub write_more : (at done n : ℕ) (bytes piece : List ℕ) (before place : ℕ) → done + n ≤ length bytes → piece ≡ take n (drop done bytes) → length piece ≡ n → byte_after (at + done) piece (byte_after at (take done bytes) before place) place ≡ byte_after at (take (done + n) bytes) before place
write_more at done n bytes piece before place within is size =
    let had : length (take done bytes) ≡ done = so_far done bytes (omega arith) in
    let has : length (take (done + n) bytes) ≡ done + n = so_far (done + n) bytes within in
    let middle : ℕ = byte_after at (take done bytes) before place in
    ⊎_elim
    (λ (below : place < at + done).
    byte_outside (at + done) piece middle place (inl below)
    ∙ ⊎_elim
    (λ (under : place < at).
    byte_outside at (take done bytes) before place (inl under)
    ∙ sym (byte_outside at (take (done + n) bytes) before place (inl under)))
    (λ (from : at ≤ place).
    byte_so_far at done bytes before place (omega arith) from below
    ∙ sym (byte_so_far at (done + n) bytes before place within from (omega arith)))
    (cases_lt place at))
    (λ (from : at + done ≤ place).
    ⊎_elim
    (λ (below : place < at + done + n).
    byte_inside (at + done) piece middle place from (omega (arith, size))
    ∙ rw is (byte_of_piece done n place at bytes from below)
    ∙ sym (byte_so_far at (done + n) bytes before place within (omega arith) (omega arith)))
    (λ (behind : at + done + n ≤ place).
    byte_outside (at + done) piece middle place (inr (omega (arith, size)))
    ∙ byte_outside at (take done bytes) before place (inr (omega (arith, had)))
    ∙ sym (byte_outside at (take (done + n) bytes) before place (inr (omega (arith, has)))))
    (cases_lt place (at + done + n)))
    (cases_lt place (at + done))

-- A choice by an equation of numbers.
chosen : (s t : ℕ) (a b : List ℕ) → s ≡ t → (if s == t then a else b) ≡ a
chosen s t a b same = grind (arith, nat_tests)

other : (s t : ℕ) (a b : List ℕ) → s ≢ t → (if s == t then a else b) ≡ b
other s t a b apart = grind (arith, nat_tests)

-- A place of another sector.
outside : (p place n : ℕ) → place / 512 ≢ p / 512 → p % 512 + n ≤ 512 → (place < p) ⊎ (p + n ≤ place)
outside p place n apart fits =
    ⊎_elim
    (λ (under : place < p). inl under)
    (λ (from : p ≤ place). ⊎_elim (λ (below : place < p + n). absurd (omega arith)) (λ (behind : p + n ≤ place). inr behind) (cases_lt place (p + n)))
    (cases_lt place p)

-- The bytes of the sector of which a part was written.
part_written : (p place before : ℕ) (bytes old : List ℕ) → place / 512 ≡ p / 512 → p % 512 + length bytes ≤ 512 → length old ≡ 512 → before ≡ get_or old (place % 512) 0 → get_or (take (p % 512) old ++ bytes ++ drop (p % 512 + length bytes) old) (place % 512) 0 ≡ byte_after p bytes before place
part_written p place before bytes old same fits whole is =
    let within : p % 512 + length bytes ≤ length old = omega arith in
    ⊎_elim
    (λ (under : place < p).
    part_before old bytes (p % 512) (place % 512) (omega arith) within
    ∙ sym is
    ∙ sym (byte_outside p bytes before place (inl under)))
    (λ (from : p ≤ place).
    ⊎_elim
    (λ (below : place < p + length bytes).
    let i : ℕ = place - p in
    let at_i : place % 512 ≡ p % 512 + i = omega arith in
    rw at_i (part_inside old bytes (p % 512) i (omega arith) within)
    ∙ sym (byte_inside p bytes before place from below))
    (λ (behind : p + length bytes ≤ place).
    part_behind old bytes (p % 512) (place % 512) (omega arith) within
    ∙ sym is
    ∙ sym (byte_outside p bytes before place (inr behind)))
    (cases_lt place (p + length bytes)))
    (cases_lt place p)

-- A write within one sector, by its bytes.
pub sector_written : (old new : StoredSectors) (p : ℕ) (bytes : List ℕ) → p % 512 + length bytes ≤ 512 → ((s : ℕ) → length (sector_at old s) ≡ 512) → ((s : ℕ) → sector_at new s ≡ (if s == p / 512 then take (p % 512) (sector_at old s) ++ bytes ++ drop (p % 512 + length bytes) (sector_at old s) else sector_at old s)) → (place : ℕ) → byte_at new place ≡ byte_after p bytes (byte_at old place) place
sector_written old new p bytes fits whole is place =
    let s : ℕ = place / 512 in
    let before : List ℕ = sector_at old s in
    let after : List ℕ = take (p % 512) before ++ bytes ++ drop (p % 512 + length bytes) before in
    ⊎_elim
    (λ (same : s ≡ p / 512).
    ap (λ xs. get_or xs (place % 512) 0) (is s ∙ chosen s (p / 512) after before same)
    ∙ part_written p place (byte_at old place) bytes before same fits (whole s) refl)
    (λ (apart : s ≢ p / 512).
    ap (λ xs. get_or xs (place % 512) 0) (is s ∙ other s (p / 512) after before apart)
    ∙ sym (byte_outside p bytes (byte_at old place) place (outside p place (length bytes) apart fits)))
    (cases_eq s (p / 512))
