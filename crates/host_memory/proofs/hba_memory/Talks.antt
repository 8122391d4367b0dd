-- What comes of accesses so far, and of those that are to come.
use Rattle.std.proofs.Common.{◌≡◌, ◌<◌, ℕ, ◌+◌, ◌-◌, ◌%◌, ◌^◌, ◌||◌, min, zero, suc, Bool, true, false, List, [], ◌∷◌, ◌++◌, length, take, drop, Option, Some, None, Ok, Err, refl, sym, ap, arith, append_assoc, subst, get_or, ◌≤◌, add-one, drop-cons, length-drop, length-append, length-take-le, slice_range, ◌∙◌, true≢false, rules}
use Rattle.std.proofs.lemmas.Grind.{common_steps}
use Rattle.std.proofs.lemmas.List.{append-nil, take_all, take_at}
use Rattle.std.specs.Prelude.{◌==◌, Result, OnErr}
use Rattle.byteorder.specs.Endian.{little_bytes}
use Rattle.fis.specs.declared.any.Fis.{Fis}
use Rattle.fis.specs.Fis.{IsSpelling}
use Rattle.slots.specs.Layout.{descriptor_size}
use Rattle.host_memory.specs.Access.{Access, Asked, Laid, Accessed, OnlyReads}
use Rattle.host_memory.proofs.Accesses.{only_reads_more}
use Rattle.host_memory.specs.declared.hba_memory.miss.Miss.{Miss}
use Rattle.host_memory.specs.declared.hba_memory.miss.Miss.TheVariants as misses
use Rattle.host_memory.specs.declared.hba_memory.reading.Moved.{Moved}
use Rattle.host_memory.specs.Memory.{data_at, data_len, processes, has_processed, moved_by, then_bytes, Gathers, BringsNext, Scatters, TakesNext, written_by, Counts, CountsIf, missed_unless, offset_of, Posts, Then}

-- Of the FISes all, those from some place on are left.
abbrev pub PostsOn : {M : Type 0} → (M → Access → M → Type 0) → M → M → ℕ → List Fis → List Fis → Type 0
PostsOn {M} does start now at all left =
    (rest : List Access) (end : M) (missed : Option Miss) → Accessed does now rest end
    → Posts at left rest missed
    → (talk : List Access) × Accessed does start talk end × Posts at all talk missed

pub posts_begin : {M : Type 0} (does : M → Access → M → Type 0) (now : M) (at : ℕ) (all : List Fis)
    → PostsOn does now now at all all
posts_begin does now at all = λ rest end missed a p. (rest, a, p)

at_item : {A : Type 0} (xs : List A) (i : ℕ) (x : A) → i < length xs → x ≡ get_or xs i x
    → drop i xs ≡ x ∷ drop (i + 1) xs
at_item xs i x h e = rw (add-one, drop-cons xs i x, ← e) refl

pub posts_more : {M : Type 0} (does : M → Access → M → Type 0) (start now next : M) (at : ℕ)
    (all : List Fis) (i : ℕ) (fis : Fis) (bytes : List ℕ) (place : ℕ) (is_done : Bool)
    → PostsOn does start now at all (drop i all) → i < length all → fis ≡ get_or all i fis
    → IsSpelling bytes fis → place ≡ at + offset_of fis → is_done ≡ true
    → does now (Laid place bytes is_done) next
    → PostsOn does start next at all (drop (i + 1) all)
posts_more does start now next at all i fis bytes place is_done h below e s p d a = λ rest end missed b q.
    let a' : does now (Laid (at + offset_of fis) bytes true) next = rw (← p, ← d) a in
    h (Laid (at + offset_of fis) bytes true ∷ rest) end missed (next, a', b)
    (rw (at_item all i fis below e) (bytes, true, rest, s, refl, q))

pub posts_stop : {M : Type 0} (does : M → Access → M → Type 0) (start now next : M) (at : ℕ)
    (all : List Fis) (i : ℕ) (fis : Fis) (bytes : List ℕ) (place : ℕ) (is_done : Bool)
    → PostsOn does start now at all (drop i all) → i < length all → fis ≡ get_or all i fis
    → IsSpelling bytes fis → place ≡ at + offset_of fis → is_done ≡ false
    → does now (Laid place bytes is_done) next
    → (talk : List Access) × Accessed does start talk next × Posts at all talk (Some misses.Fis)
posts_stop does start now next at all i fis bytes place is_done h below e s p d a =
    let a' : does now (Laid (at + offset_of fis) bytes false) next = rw (← p, ← d) a in
    h (Laid (at + offset_of fis) bytes false ∷ []) next (Some misses.Fis) (next, a', refl)
    (rw (at_item all i fis below e) (bytes, false, [], s, refl, (refl, refl)))

pub posts_end : {M : Type 0} (does : M → Access → M → Type 0) (start now : M) (at : ℕ) (all : List Fis)
    (i : ℕ) → PostsOn does start now at all (drop i all) → length all ≤ i
    → (talk : List Access) × Accessed does start talk now × Posts at all talk None
posts_end does start now at all i h past =
    let none : drop i all ≡ [] = grind (arith, common_steps) in
    h [] now None refl (rw none (refl, refl))

equal : (n m : ℕ) → n ≡ m → (n == m) ≡ true
equal n m h = grind arith

not_equal : (n m : ℕ) → (n ≡ m → ⊥) → (n == m) ≡ false
not_equal n m h = grind arith

-- PRDBC is written, or refused.
pub counts_by : {M : Type 0} (does : M → Access → M → Type 0) (now next : M) (header n : ℕ)
    (bytes : List ℕ) (is_done told : Bool) → (n ≡ 0 → ⊥) → told ≡ is_done → bytes ≡ little_bytes 4 (n % 2 ^ 32)
    → does now (Laid (header + 4) bytes told) next
    → (talk : List Access) × Accessed does now talk next
    × Counts header n talk (missed_unless is_done misses.List)
counts_by does now next header n bytes is_done told some d e a =
    let not_none : (n == 0) ≡ false = not_equal n 0 some in
    let a' : does now (Laid (header + 4) bytes is_done) next = rw (← d) a in
    let p : CountsIf false header n (Laid (header + 4) bytes is_done ∷ [])
    (missed_unless is_done misses.List) = (is_done, ap (λ xs. Laid (header + 4) xs is_done ∷ []) e, refl) in (
      Laid (header + 4) bytes is_done ∷ [],
      (next, a', refl),
      rw not_none p,
    )

or_false : (a : Bool) → (a || false) ≡ a
or_false true = refl
or_false false = refl

or_assoc : (a b c : Bool) → (a || (b || c)) ≡ ((a || b) || c)
or_assoc true b c = refl
or_assoc false b c = refl

-- How data moved, by accesses.
pub moved_so : (talk : List Access) (n m : ℕ) (told : Bool) (moved : Moved)
    → moved ≡ (record { len = m; is_processed = told }) → m ≡ n → has_processed talk ≡ told
    → moved ≡ moved_by talk n
moved_so talk n m told moved e f g =
    let same : Moved = record { len = m; is_processed = told } in
    e ∙ ap (λ (k : ℕ). let x : Moved = record { len = k; is_processed = told } in x) f
    ∙ ap (λ (b : Bool). let x : Moved = record { len = n; is_processed = b } in x) (sym g)

-- So many bytes are brought; so many are left, of so many descriptors from an address on.
abbrev pub GathersOn : {M : Type 0} → (M → Access → M → Type 0) → M → M → ℕ → ℕ → ℕ → List ℕ → ℕ → ℕ → ℕ
    → Bool → Type 0
GathersOn {M} does start now first all len bytes at n left told =
    (rest : List Access) (end : M) (more : Result (List ℕ) Miss) → Accessed does now rest end
    → Gathers at n left rest more
    → (talk : List Access) × Accessed does start talk end
    × Gathers first all len talk (then_bytes bytes more)
    × (has_processed talk ≡ (told || has_processed rest))

behind_none : (more : Result (List ℕ) Miss) → then_bytes [] more ≡ more
behind_none (Ok xs) = refl
behind_none (Err m) = refl

behind_append : (xs ys : List ℕ) (more : Result (List ℕ) Miss)
    → then_bytes xs (then_bytes ys more) ≡ then_bytes (xs ++ ys) more
behind_append xs ys (Ok zs) = ap (λ l. Ok l) (sym (append_assoc xs ys zs))
behind_append xs ys (Err m) = refl

pub gathers_begin : {M : Type 0} (does : M → Access → M → Type 0) (now : M) (first all len : ℕ)
    → GathersOn does now now first all len [] first all len false
gathers_begin does now first all len = λ rest end more a p.
    (rest, a, subst (λ r. Gathers first all len rest r) (sym (behind_none more)) p, refl)

pub gathers_more : {M : Type 0} (does : M → Access → M → Type 0) (start now middle next : M)
    (first all len : ℕ) (bytes : List ℕ) (at n m left after at' : ℕ) (entry block : List ℕ)
    (told told' : Bool)
    → GathersOn does start now first all len bytes at n left told → n ≡ suc m → (left ≡ 0 → ⊥)
    → at' ≡ at + descriptor_size → after ≡ left - data_len entry
    → told' ≡ (told || processes entry (min left (data_len entry)))
    → does now (Asked at descriptor_size (Some entry)) middle
    → does middle (Asked (data_at entry) (min left (data_len entry)) (Some block)) next
    → GathersOn does start next first all len (bytes ++ block) at' m after told'
gathers_more does start now middle next first all len bytes at zero m left after at' entry block told told' h one left_some t e u a b =
    absurd (omega arith)
gathers_more does start now middle next first all len bytes at (suc k) m left after at' entry block told told' h one left_some t e u a b =
    let some : (left == 0) ≡ false = not_equal left 0 left_some in
    let same : m ≡ k = omega arith in
    λ rest end more c p.
    let block_read = Asked (data_at entry) (min left (data_len entry)) (Some block) in
    let q : Gathers (at + descriptor_size) k (left - data_len entry) rest more =
    subst (λ v. Gathers (at + descriptor_size) k v rest more) e
    (subst (λ v. Gathers (at + descriptor_size) v after rest more) same
    (subst (λ v. Gathers v m after rest more) t p)) in
    let next_one : BringsNext false at left (Gathers (at + descriptor_size) k)
    (Asked at descriptor_size (Some entry) ∷ block_read ∷ rest) (then_bytes block more) =
    (Some entry, block_read ∷ rest, refl, (Some block, rest, refl, (more, q, refl))) in
    let got = h (Asked at descriptor_size (Some entry) ∷ block_read ∷ rest) end (then_bytes block more)
    (middle, a, (next, b, c)) (rw some next_one) in
    let sum : has_processed got.0 ≡ ((told || processes entry (min left (data_len entry))) || has_processed rest) =
    got.3 ∙ or_assoc told (processes entry (min left (data_len entry))) (has_processed rest) in (
      got.0,
      got.1,
      subst (λ r. Gathers first all len got.0 r) (behind_append bytes block more) got.2,
      subst (λ (b : Bool). has_processed got.0 ≡ (b || has_processed rest)) (sym u) sum,
    )

pub gathers_done : {M : Type 0} (does : M → Access → M → Type 0) (start now : M)
    (first all len : ℕ) (bytes : List ℕ) (at n left : ℕ) (told : Bool)
    → GathersOn does start now first all len bytes at n left told → left ≡ 0
    → (talk : List Access) × Accessed does start talk now × Gathers first all len talk (Ok bytes)
    × (has_processed talk ≡ told)
gathers_done does start now first all len bytes at zero left told h is_none =
    let none : (left == 0) ≡ true = equal left 0 is_none in
    let t = h [] now (Ok []) refl (refl, rw none refl) in
    (t.0, t.1, subst (λ l. Gathers first all len t.0 (Ok l)) (append-nil bytes) t.2, t.3 ∙ or_false told)
gathers_done does start now first all len bytes at (suc k) left told h is_none =
    let none : (left == 0) ≡ true = equal left 0 is_none in
    let p : BringsNext true at left (Gathers (at + descriptor_size) k) [] (Ok []) = (refl, refl) in
    let t = h [] now (Ok []) refl (rw none p) in
    (t.0, t.1, subst (λ l. Gathers first all len t.0 (Ok l)) (append-nil bytes) t.2, t.3 ∙ or_false told)

-- All is filled.
pub gathers_all : {M : Type 0} (does : M → Access → M → Type 0) (start now : M)
    (first all len : ℕ) (into : List ℕ) (at n left : ℕ) (moved : Moved)
    → GathersOn does start now first all len (take moved.len into) at n left moved.is_processed
    → left ≡ 0 → length into ≤ moved.len → moved.len ≡ len
    → (talk : List Access) × Accessed does start talk now × Gathers first all len talk (Ok into)
    × (moved ≡ moved_by talk len)
gathers_all does start now first all len into at n left moved h is_none whole all_moved =
    let t = gathers_done does start now first all len (take moved.len into) at n left moved.is_processed h is_none in (
      t.0,
      t.1,
      subst (λ (xs : List ℕ). Gathers first all len t.0 (Ok xs)) (take_all moved.len into whole) t.2,
      moved_so t.0 len moved.len moved.is_processed moved refl all_moved t.3,
    )

-- No bytes are wanted, so nothing is read.
no_bytes : (at n : ℕ) → Gathers at n 0 [] (Ok [])
no_bytes at zero = (refl, refl)
no_bytes at (suc n) = (refl, refl)

is_nothing : (bytes : List ℕ) → (length bytes == 0) ≡ true → bytes ≡ []
is_nothing [] is = refl
is_nothing (byte ∷ bytes) is =
    let some : (suc (length bytes) == 0) ≡ false = search rules in
    absurd (true≢false (sym is ∙ some))

pub gathers_nothing : {M : Type 0} (does : M → Access → M → Type 0) (start : M) (at n : ℕ) (into : List ℕ)
    (moved : Moved) → (length into == 0) ≡ true → moved ≡ moved_by [] 0
    → (talk : List Access) × Accessed does start talk start × Gathers at n (length into) talk (Ok into)
    × (moved ≡ moved_by talk (length into))
gathers_nothing does start at n into moved none is =
    subst (λ (xs : List ℕ). (talk : List Access) × Accessed does start talk start × Gathers at n (length xs) talk (Ok xs)
    × (moved ≡ moved_by talk (length xs))) (sym (is_nothing into none)) ([], refl, no_bytes at n, is)

-- A block is filled behind what was filled before.
pub block_behind : (into block rest : List ℕ) (done size end : ℕ) → done ≤ length into
    → length block ≡ size → end ≡ done + size
    → take end (take done into ++ (block ++ rest)) ≡ take done into ++ block
block_behind into block rest done size end fits long e =
    let front : length (take done into) ≡ done = length-take-le done into fits in
    let size_of : length (take done into ++ block) ≡ end = omega (arith, length-append (take done into) block, front) in
    ap (take end) (sym (append_assoc (take done into) block rest))
    ∙ take_at (take done into ++ block) rest end size_of

pub gathers_short : {M : Type 0} (does : M → Access → M → Type 0) (start now : M)
    (first all len : ℕ) (bytes : List ℕ) (at n left : ℕ) (told : Bool)
    → GathersOn does start now first all len bytes at n left told → n ≡ 0 → (left ≡ 0 → ⊥)
    → (talk : List Access) × Accessed does start talk now
    × Gathers first all len talk (Err misses.Overflow) × Unit {0}
gathers_short does start now first all len bytes at zero left told h last left_some =
    let some : (left == 0) ≡ false = not_equal left 0 left_some in
    let t = h [] now (Err misses.Overflow) refl (refl, rw some refl) in
    (t.0, t.1, t.2, tt)
gathers_short does start now first all len bytes at (suc k) left told h last left_some = absurd (omega arith)

pub gathers_no_entry : {M : Type 0} (does : M → Access → M → Type 0) (start now next : M)
    (first all len : ℕ) (bytes : List ℕ) (at n left : ℕ) (told : Bool)
    → GathersOn does start now first all len bytes at n left told → 0 < n → (left ≡ 0 → ⊥)
    → does now (Asked at descriptor_size None) next
    → (talk : List Access) × Accessed does start talk next
    × Gathers first all len talk (Err misses.Table) × Unit {0}
gathers_no_entry does start now next first all len bytes at zero left told h more some a = absurd (omega arith)
gathers_no_entry does start now next first all len bytes at (suc k) left told h more left_some a =
    let some : (left == 0) ≡ false = not_equal left 0 left_some in
    let p : BringsNext false at left (Gathers (at + descriptor_size) k)
    (Asked at descriptor_size None ∷ []) (Err misses.Table) = (None, [], refl, (refl, refl)) in
    let t = h (Asked at descriptor_size None ∷ []) next (Err misses.Table) (next, a, refl) (rw some p) in
    (t.0, t.1, t.2, tt)

pub gathers_no_block : {M : Type 0} (does : M → Access → M → Type 0) (start now middle next : M)
    (first all len : ℕ) (bytes : List ℕ) (at n left : ℕ) (entry : List ℕ) (told : Bool)
    → GathersOn does start now first all len bytes at n left told → 0 < n → (left ≡ 0 → ⊥)
    → does now (Asked at descriptor_size (Some entry)) middle
    → does middle (Asked (data_at entry) (min left (data_len entry)) None) next
    → (talk : List Access) × Accessed does start talk next
    × Gathers first all len talk (Err misses.Block) × Unit {0}
gathers_no_block does start now middle next first all len bytes at zero left entry told h more some a b =
    absurd (omega arith)
gathers_no_block does start now middle next first all len bytes at (suc k) left entry told h more left_some a b =
    let some : (left == 0) ≡ false = not_equal left 0 left_some in
    let block_read = Asked (data_at entry) (min left (data_len entry)) None in
    let p : BringsNext false at left (Gathers (at + descriptor_size) k)
    (Asked at descriptor_size (Some entry) ∷ block_read ∷ []) (Err misses.Block) =
    (Some entry, block_read ∷ [], refl, (None, [], refl, (refl, refl))) in
    let t = h (Asked at descriptor_size (Some entry) ∷ block_read ∷ []) next (Err misses.Block)
    (middle, a, (next, b, refl)) (rw some p) in
    (t.0, t.1, t.2, tt)

-- One read more.
pub read_more : {M : Type 0} (does : M → Access → M → Type 0) (start now next : M) (at n : ℕ)
    (answer : Option (List ℕ)) → OnlyReads does start now → does now (Asked at n answer) next
    → OnlyReads does start next
read_more does start now next at n answer h a =
    only_reads_more does start now next h (Asked at n answer ∷ [], tt, (next, a, refl))

-- Bytes are left, to be laid over so many descriptors from an address on.
abbrev pub ScattersOn : {M : Type 0} → (M → Access → M → Type 0) → M → M → ℕ → ℕ → List ℕ → ℕ → ℕ → List ℕ
    → Moved → Type 0
ScattersOn {M} does start now first all bytes at n left moved =
    (rest : List Access) (end : M) (missed : Option Miss) → Accessed does now rest end
    → Scatters at n left rest missed
    → (talk : List Access) × Accessed does start talk end × Scatters first all bytes talk missed
    × (written_by talk ≡ moved.len + written_by rest)
    × (has_processed talk ≡ (moved.is_processed || has_processed rest))

-- Nothing has moved.
abbrev pub none_moved : Moved
none_moved = record { len = 0; is_processed = false }

pub scatters_begin : {M : Type 0} (does : M → Access → M → Type 0) (now : M) (first all : ℕ)
    (bytes : List ℕ) → ScattersOn does now now first all bytes first all bytes none_moved
scatters_begin does now first all bytes = λ rest end missed a p. (rest, a, p, omega arith, refl)

-- What was scattered, and how it moved.
abbrev pub Scattered : {M : Type 0} → (M → Access → M → Type 0) → M → M → ℕ → ℕ → List ℕ → Option Miss → Moved
    → Type 0
Scattered does start now first all bytes missed moved =
    (talk : List Access) × Accessed does start talk now × Scatters first all bytes talk missed
    × (moved ≡ moved_by talk (written_by talk))

-- Nothing more is written.
scattered : {M : Type 0} (does : M → Access → M → Type 0) (start now : M) (first all : ℕ)
    (bytes : List ℕ) (missed : Option Miss) (moved : Moved)
    → ((talk : List Access) × Accessed does start talk now × Scatters first all bytes talk missed
    × (written_by talk ≡ moved.len + 0) × (has_processed talk ≡ (moved.is_processed || false)))
    → Scattered does start now first all bytes missed moved
scattered does start now first all bytes missed moved t =
    let w : written_by t.0 ≡ moved.len + 0 = t.3 in (
      t.0,
      t.1,
      t.2,
      moved_so t.0 (written_by t.0) moved.len moved.is_processed moved refl (omega (arith, w))
          (t.4 ∙ or_false moved.is_processed),
    )

pub scatters_more : {M : Type 0} (does : M → Access → M → Type 0) (start now middle next : M)
    (first all : ℕ) (bytes : List ℕ) (at n m at' : ℕ) (left after entry part : List ℕ) (moved moved' : Moved)
    → ScattersOn does start now first all bytes at n left moved → n ≡ suc m → (length left == 0) ≡ false
    → moved'.len ≡ moved.len + length part
    → moved'.is_processed ≡ (moved.is_processed || processes entry (length part))
    → at' ≡ at + descriptor_size → after ≡ drop (data_len entry) left → part ≡ take (data_len entry) left
    → does now (Asked at descriptor_size (Some entry)) middle
    → does middle (Laid (data_at entry) part true) next
    → ScattersOn does start next first all bytes at' m after moved'
scatters_more does start now middle next first all bytes at zero m at' left after entry part moved moved' h one some d u t e f a b =
    absurd (omega arith)
scatters_more does start now middle next first all bytes at (suc k) m at' left after entry part moved moved' h one some d u t e f a b =
    let same : m ≡ k = omega arith in
    λ rest end missed c p.
    let q : Scatters (at + descriptor_size) k (drop (data_len entry) left) rest missed =
    subst (λ v. Scatters (at + descriptor_size) k v rest missed) e
    (subst (λ v. Scatters (at + descriptor_size) v after rest missed) same
    (subst (λ v. Scatters v m after rest missed) t p)) in
    let next_one : TakesNext false at left (Scatters (at + descriptor_size) k)
    (Asked at descriptor_size (Some entry) ∷ Laid (data_at entry) part true ∷ rest) missed =
    (Some entry, Laid (data_at entry) part true ∷ rest, refl, (true, rest, ap (λ xs. Laid (data_at entry) xs true ∷ rest) f, q)) in
    let got = h (Asked at descriptor_size (Some entry) ∷ Laid (data_at entry) part true ∷ rest) end missed
    (middle, a, (next, b, c)) (rw some next_one) in
    let w : written_by got.0 ≡ moved.len + (length part + written_by rest) = got.3 in
    let sum : has_processed got.0 ≡ ((moved.is_processed || processes entry (length part)) || has_processed rest) =
    got.4 ∙ or_assoc moved.is_processed (processes entry (length part)) (has_processed rest) in (
      got.0,
      got.1,
      got.2,
      omega (arith, w, d),
      subst (λ (b : Bool). has_processed got.0 ≡ (b || has_processed rest)) (sym u) sum,
    )

pub scatters_done : {M : Type 0} (does : M → Access → M → Type 0) (start now : M)
    (first all : ℕ) (bytes : List ℕ) (at n : ℕ) (left : List ℕ) (moved : Moved)
    → ScattersOn does start now first all bytes at n left moved → (length left == 0) ≡ true
    → Scattered does start now first all bytes None moved
scatters_done does start now first all bytes at zero left moved h none =
    scattered does start now first all bytes None moved (h [] now None refl (refl, rw none refl))
scatters_done does start now first all bytes at (suc k) left moved h none =
    let p : TakesNext true at left (Scatters (at + descriptor_size) k) [] None = (refl, refl) in
    scattered does start now first all bytes None moved (h [] now None refl (rw none p))

pub scatters_short : {M : Type 0} (does : M → Access → M → Type 0) (start now : M)
    (first all : ℕ) (bytes : List ℕ) (at n : ℕ) (left : List ℕ) (moved : Moved)
    → ScattersOn does start now first all bytes at n left moved → n ≡ 0 → (length left == 0) ≡ false
    → Scattered does start now first all bytes (Some misses.Overflow) moved
scatters_short does start now first all bytes at zero left moved h last some =
    scattered does start now first all bytes (Some misses.Overflow) moved (h [] now (Some misses.Overflow) refl (refl, rw some refl))
scatters_short does start now first all bytes at (suc k) left moved h last some = absurd (omega arith)

pub scatters_no_entry : {M : Type 0} (does : M → Access → M → Type 0) (start now next : M)
    (first all : ℕ) (bytes : List ℕ) (at n : ℕ) (left : List ℕ) (moved : Moved)
    → ScattersOn does start now first all bytes at n left moved → 0 < n → (length left == 0) ≡ false
    → does now (Asked at descriptor_size None) next
    → Scattered does start next first all bytes (Some misses.Table) moved
scatters_no_entry does start now next first all bytes at zero left moved h more some a = absurd (omega arith)
scatters_no_entry does start now next first all bytes at (suc k) left moved h more some a =
    let p : TakesNext false at left (Scatters (at + descriptor_size) k)
    (Asked at descriptor_size None ∷ []) (Some misses.Table) = (None, [], refl, (refl, refl)) in
    scattered does start next first all bytes (Some misses.Table) moved
    (h (Asked at descriptor_size None ∷ []) next (Some misses.Table) (next, a, refl) (rw some p))

pub scatters_no_block : {M : Type 0} (does : M → Access → M → Type 0) (start now middle next : M)
    (first all : ℕ) (bytes : List ℕ) (at n : ℕ) (left entry part : List ℕ) (moved : Moved)
    → ScattersOn does start now first all bytes at n left moved → 0 < n → (length left == 0) ≡ false
    → part ≡ take (data_len entry) left
    → does now (Asked at descriptor_size (Some entry)) middle
    → does middle (Laid (data_at entry) part false) next
    → Scattered does start next first all bytes (Some misses.Block) moved
scatters_no_block does start now middle next first all bytes at zero left entry part moved h more some f a b =
    absurd (omega arith)
scatters_no_block does start now middle next first all bytes at (suc k) left entry part moved h more some f a b =
    let p : TakesNext false at left (Scatters (at + descriptor_size) k)
    (Asked at descriptor_size (Some entry) ∷ Laid (data_at entry) part false ∷ []) (Some misses.Block) =
    (Some entry, Laid (data_at entry) part false ∷ [], refl, (false, [], ap (λ xs. Laid (data_at entry) xs false ∷ []) f, (refl, refl))) in
    scattered does start next first all bytes (Some misses.Block) moved
    (h (Asked at descriptor_size (Some entry) ∷ Laid (data_at entry) part false ∷ []) next (Some misses.Block)
    (middle, a, (next, b, refl)) (rw some p))

-- The bytes from a place on: none are left there, or some.
pub none_left : (bytes : List ℕ) (i : ℕ) → i ≡ length bytes → (length (drop i bytes) == 0) ≡ true
none_left bytes i h = equal (length (drop i bytes)) 0 (grind (arith, common_steps))

pub some_left : (bytes : List ℕ) (i : ℕ) → i ≤ length bytes → (i ≡ length bytes → ⊥)
    → (length (drop i bytes) == 0) ≡ false
some_left bytes i h g =
    let l : length (drop i bytes) ≡ length bytes - i = length-drop i bytes in
    not_equal (length (drop i bytes)) 0 (λ e. g (omega arith))

pub part_of : (bytes : List ℕ) (i n k : ℕ) → i ≤ length bytes → k ≡ min n (length bytes - i)
    → slice_range bytes i (i + k) ≡ take n (drop i bytes)
part_of bytes i n k h e = grind (arith, common_steps)

pub part_size : (bytes : List ℕ) (i k : ℕ) → i + k ≤ length bytes
    → i + k ≡ i + length (slice_range bytes i (i + k))
part_size bytes i k h = grind (arith, common_steps)

pub rest_of : (bytes : List ℕ) (i n k : ℕ) → i ≤ length bytes → k ≡ min n (length bytes - i)
    → drop (i + k) bytes ≡ drop n (drop i bytes)
rest_of bytes i n k h e = grind (arith, common_steps)

-- What holds in any case holds after an error.
pub on_err : {T E : Type 0} (r : Result T E) (P : Type 0) → P → OnErr r P
on_err (Ok x) P p = tt
on_err (Err e) P p = p

pub then_missed : (First Next : List Access → Option Miss → Type 0) (talk : List Access) (miss : Miss)
    → First talk (Some miss) → Then First Next talk (Some miss)
then_missed First Next talk miss h = (talk, [], Some miss, sym (append-nil talk), h, (refl, refl))

pub then_next : (First Next : List Access → Option Miss → Type 0) (before later : List Access)
    (missed : Option Miss) → First before None → Next later missed
    → Then First Next (before ++ later) missed
then_next First Next before later missed h g = (before, later, None, refl, h, g)
