-- No spelling of an item in bytes is shorter than the writer's.
use Rattle.std.proofs.Common.{◌≡◌, ℕ, zero, suc, ◌+◌, ◌*◌, ◌^◌, ◌<◌, ◌≤◌, Bool, true, false, ltb, eqb, List, [], ◌∷◌, ◌++◌, length, refl, sym, ap, subst, ◌∙◌, arith, inl, inr, eqb-true}
use Rattle.std.proofs.lemmas.Bool.{ltb-false, ltb-true, lt-ltb}
use Rattle.std.proofs.lemmas.List.{length-append, append-nil}
use Rattle.std.specs.Int.{w64, to_be_bytes}
use Rattle.tcg_tokens.specs.declared.token.Mark.{Mark}
use Rattle.tcg_tokens.specs.declared.token.Mark.TheVariants.{StartList, EndList, StartName, EndName, Call, EndOfData, EndOfSession, StartTransaction, EndTransaction}
use Rattle.tcg_tokens.specs.Lexeme.{AreBytes, Lexeme, code_of, number_from}
use Rattle.tcg_tokens.specs.Lexeme as lexeme
use Rattle.tcg_tokens.specs.Tree.{Tree, Trees}
use Rattle.tcg_tokens.specs.Message.{Message, call, reply}
use Rattle.tcg_tokens.specs.Grammar.{IsHeader, short, medium, long, IsTokenSpelling, tiny, number_atom, bytes_atom, mark_byte, IsToken, plain, filled, IsName, number_name, bytes_name, IsValue, a_number, some_bytes, a_list, a_name, AreValues, no_more, one_more, IsStatus, three_numbers, room_inside, IsItem, a_call, a_reply, an_end_session, a_begin, an_end, Spells}
use Rattle.tcg_tokens.specs.Spelling.{header, significant, number_spelling, bytes_spelling, spelling_of, spellings_of, status_spelling, item_spelling_of}
use Rattle.tcg_tokens.proofs.Tokens.{bool_cases}
use Rattle.tcg_tokens.proofs.Writings.{number_of_bytes, length_significant}

-- ---- the bytes of a number

-- of two numbers of as many bytes, that with the less in front is less
less : (a b : ℕ) (xs ys : List ℕ) → AreBytes xs → length xs ≡ length ys → a < b → number_from a xs < number_from b ys
less a b [] [] ok e lt = lt
less a b [] (y ∷ ys) ok e lt = absurd (omega arith)
less a b (x ∷ xs) [] ok e lt = absurd (omega arith)
less a b (x ∷ xs) (y ∷ ys) ok e lt = less (256 * a + x) (256 * b + y) xs ys ok.1 (omega arith) (omega (arith, ok.0))

-- and so is one of no more bytes than are behind a number that is not 0
fewer : (b : ℕ) (xs ys : List ℕ) → AreBytes xs → 0 < b → length xs ≤ length ys → number_from 0 xs < number_from b ys
fewer b [] [] ok pos le = pos
fewer b (x ∷ xs) [] ok pos le = absurd (omega arith)
fewer b xs (y ∷ ys) ok pos le =
    elim (bool_cases (ltb (length ys) (length xs))) [
      | inl w ↦ as_many xs ok le (ltb-true _ _ w)
      | inr w ↦ fewer (256 * b + y) xs ys ok (omega arith) (ltb-false _ _ w)
    ]
  where
    as_many : (zs : List ℕ) → AreBytes zs → length zs ≤ length (y ∷ ys) → length ys < length zs → number_from 0 zs < number_from b (y ∷ ys)
    as_many [] ok le lt = absurd (omega arith)
    as_many (z ∷ zs) ok le lt = less (256 * 0 + z) (256 * b + y) zs ys ok.1 (omega arith) (omega (arith, ok.0))

number_least : (bs content : List ℕ) → AreBytes content → number_from 0 content ≡ number_from 0 bs → length (significant bs) ≤ length content
number_least [] content ok e = omega arith
number_least (b ∷ bs) content ok e =
    elim (bool_cases (eqb b 0)) [
      | inl w ↦
          let zero_byte : b ≡ 0 = eqb-true _ _ w in
          rw w (number_least bs content ok (e ∙ rw zero_byte refl))
      | inr w ↦
          elim (bool_cases (ltb (length bs) (length content))) [
            | inl v ↦ let more_bytes : length bs < length content = ltb-true _ _ v in rw w (omega arith)
            | inr v ↦
                let few : length content ≤ length bs = ltb-false _ _ v in
                let first : 0 < 256 * 0 + b = not_zero b w in
                absurd (omega (arith, fewer (256 * 0 + b) content bs ok first few, e))
          ]
    ]
  where
    not_zero : (b : ℕ) → eqb b 0 ≡ false → 0 < 256 * 0 + b
    not_zero zero e = absurd cc
    not_zero (suc b) e = omega arith

-- ---- tokens

header_at_most : (is_bytes : Bool) (len : ℕ) → length (header is_bytes len) ≤ 4
header_at_most is_bytes len =
    elim (bool_cases (ltb len 16)) [
      | inl w ↦ rw w (omega arith)
      | inr w1 ↦ elim (bool_cases (ltb len 2048)) [ inl w ↦ rw (w1, w) (omega arith) | inr w ↦ rw (w1, w) (omega arith) ]
    ]

header_least : (is_bytes : Bool) (head : List ℕ) (len : ℕ) → IsHeader is_bytes head len → length (header is_bytes len) ≤ length head
header_least is_bytes head len (short kind n lt) = let small : ltb n 16 ≡ true = lt-ltb _ _ lt in rw small (omega arith)
header_least is_bytes head len (medium kind high low lt lt_low) =
    let up : ltb (256 * high + low) 2048 ≡ true = lt-ltb _ _ (omega arith) in
    elim (bool_cases (ltb (256 * high + low) 16)) [ inl w ↦ rw w (omega arith) | inr w ↦ rw (w, up) (omega arith) ]
header_least is_bytes head len (long kind high middle low lt_high lt_middle lt_low) = header_at_most kind (256 * (256 * high + middle) + low)

some_header : (is_bytes : Bool) (head : List ℕ) (len : ℕ) → IsHeader is_bytes head len → 0 < length head
some_header is_bytes head n (short kind len lt) = omega arith
some_header is_bytes head n (medium kind high low lt lt_low) = omega arith
some_header is_bytes head n (long kind high middle low lt_high lt_middle lt_low) = omega arith

pub before : (front back : List ℕ) → AreBytes (front ++ back) → AreBytes front
before [] back ok = tt
before (b ∷ bs) back ok = (ok.0, before bs back ok.1)

pub behind : (front back : List ℕ) → AreBytes (front ++ back) → AreBytes back
behind [] back ok = ok
behind (b ∷ bs) back ok = behind bs back ok.1

-- the writer's spelling of a token
abbrev lexeme_spelling : Lexeme → List ℕ
lexeme_spelling (lexeme.number n) = number_spelling n
lexeme_spelling (lexeme.bytes b) = bytes_spelling b
lexeme_spelling (lexeme.mark m) = code_of m ∷ []

one_byte : (n : ℕ) → n < 64 → length (number_spelling n) ≡ 1
unfolding number_spelling
one_byte n lt = let small : ltb n 64 ≡ true = lt-ltb _ _ lt in rw small refl

atom_least : (n : ℕ) (content : List ℕ) → AreBytes content → n < 2 ^ 64 → number_from 0 content ≡ n → length (number_spelling n) ≤ 1 + length content
unfolding number_spelling
atom_least n content ok lt e =
    elim (bool_cases (ltb n 64)) [
      | inl w ↦ rw w (omega arith)
      | inr w ↦
          let sig : List ℕ = significant (to_be_bytes w64 n) in
          let least : length sig ≤ length content = number_least (to_be_bytes w64 n) content ok (e ∙ sym (number_of_bytes n lt)) in
          let at_most : length sig ≤ 8 = length_significant (to_be_bytes w64 n) in
          let small : ltb (length sig) 16 ≡ true = lt-ltb _ _ (omega arith) in
          rw (w, small) (omega arith)
    ]

spelling_least : (text : List ℕ) (t : Lexeme) → AreBytes text → IsTokenSpelling text t → length (lexeme_spelling t) ≤ length text
unfolding bytes_spelling
spelling_least text t ok (tiny n lt) = omega (arith, one_byte n lt)
spelling_least text t ok (number_atom head content h fits) =
    omega (arith, atom_least (number_from 0 content) content (behind head content ok) fits refl, some_header false head (length content) h, length-append head content)
spelling_least text t ok (bytes_atom head content h) =
    omega (arith, header_least true head (length content) h, length-append head content, length-append (header true (length content)) content)
spelling_least text t ok (mark_byte m) = omega arith

token_least : (text : List ℕ) (t : Lexeme) → AreBytes text → IsToken text t → length (lexeme_spelling t) ≤ length text
token_least text t ok (plain h) = spelling_least _ _ ok h
token_least text t ok (filled {text = inner} h) = omega (arith, token_least inner t ok.1 h)

mark_least : (text : List ℕ) (m : Mark) → AreBytes text → IsToken text (lexeme.mark m) → 1 ≤ length text
mark_least text m ok h = token_least text (lexeme.mark m) ok h

-- ---- values

name_least : (text : List ℕ) (n : Tree) → AreBytes text → IsName text n → length (spelling_of n) ≤ length text
name_least text n ok (number_name {n = k} h) = token_least text (lexeme.number k) ok h
name_least text n ok (bytes_name {b} h) = token_least text (lexeme.bytes b) ok h

mutual
  value_least : (room : ℕ) (text : List ℕ) (v : Tree) → AreBytes text → IsValue room text v → length (spelling_of v) ≤ length text
  value_least room text v ok (a_number {n} h) = token_least text (lexeme.number n) ok h
  value_least room text v ok (some_bytes {b} h) = token_least text (lexeme.bytes b) ok h
  value_least room text v ok (a_list {room = less} {start} {inner} {vs} h all) =
      omega (arith, mark_least start StartList (before start inner ok) h, values_least less inner vs (behind start inner ok) all, length-append start inner, length-append (spellings_of vs) (code_of EndList ∷ []))
  value_least room text v ok (a_name {room = less} {start} {name} {inner} {stop} {n} {v = w} h is_named is_value e) =
      let ok1 = behind start (name ++ (inner ++ stop)) ok in
      let ok2 = behind name (inner ++ stop) ok1 in
      omega (
        arith,
        mark_least start StartName (before start (name ++ (inner ++ stop)) ok) h,
        name_least name n (before name (inner ++ stop) ok1) is_named,
        value_least less inner w (before inner stop ok2) is_value,
        mark_least stop EndName (behind inner stop ok2) e,
        length-append start (name ++ (inner ++ stop)),
        length-append name (inner ++ stop),
        length-append inner stop,
        length-append (spelling_of n) (spelling_of w ++ code_of EndName ∷ []),
        length-append (spelling_of w) (code_of EndName ∷ []),
      )

  values_least : (room : ℕ) (text : List ℕ) (vs : Trees) → AreBytes text → AreValues room text vs → length (spellings_of vs) + 1 ≤ length text
  values_least room text vs ok (no_more h) = mark_least text EndList ok h
  values_least room text vs ok (one_more {front} {back} {v} {vs = ws} h all) =
      omega (arith, value_least room front v (before front back ok) h, values_least room back ws (behind front back ok) all, length-append front back, length-append (spelling_of v) (spellings_of ws))

-- ---- items

status_length : (x y z : ℕ) → length (status_spelling (x ∷ y ∷ z ∷ [])) ≡ 2 + length (number_spelling x) + length (number_spelling y) + length (number_spelling z)
status_length x y z = simp (length-append, append-nil) (omega arith)

status_least : (text s : List ℕ) → AreBytes text → IsStatus text s → length (status_spelling s) ≤ length text
status_least text s ok (three_numbers {start} {a} {b} {c} {stop} {x} {y} {z} h hx hy hz e) =
    let ok1 = behind start (a ++ (b ++ (c ++ stop))) ok in
    let ok2 = behind a (b ++ (c ++ stop)) ok1 in
    let ok3 = behind b (c ++ stop) ok2 in
    omega (
      arith,
      status_length x y z,
      mark_least start StartList (before start (a ++ (b ++ (c ++ stop))) ok) h,
      token_least a (lexeme.number x) (before a (b ++ (c ++ stop)) ok1) hx,
      token_least b (lexeme.number y) (before b (c ++ stop) ok2) hy,
      token_least c (lexeme.number z) (before c stop ok3) hz,
      mark_least stop EndList (behind c stop ok3) e,
      length-append start (a ++ (b ++ (c ++ stop))),
      length-append a (b ++ (c ++ stop)),
      length-append b (c ++ stop),
      length-append c stop,
    )

call_length : (o m : List ℕ) (vs : Trees) (s : List ℕ) → length (item_spelling_of (call o m vs s)) ≡ 4 + length (bytes_spelling o) + length (bytes_spelling m) + length (spellings_of vs) + length (status_spelling s)
call_length o m vs s = simp length-append (omega arith)

reply_length : (vs : Trees) (s : List ℕ) → length (item_spelling_of (reply vs s)) ≡ 3 + length (spellings_of vs) + length (status_spelling s)
reply_length vs s = simp length-append (omega arith)

item_least : (text : List ℕ) (m : Message) → AreBytes text → IsItem text m → length (item_spelling_of m) ≤ length text
item_least text m ok (a_call {first} {object} {method} {start} {args} {data_end} {status} {o} {m = mm} {s} {vs} h ho is_o hm is_m hs all hd is_status) =
    let ok1 = behind first (object ++ (method ++ (start ++ (args ++ (data_end ++ status))))) ok in
    let ok2 = behind object (method ++ (start ++ (args ++ (data_end ++ status)))) ok1 in
    let ok3 = behind method (start ++ (args ++ (data_end ++ status))) ok2 in
    let ok4 = behind start (args ++ (data_end ++ status)) ok3 in
    let ok5 = behind args (data_end ++ status) ok4 in
    omega (
      arith,
      call_length o mm vs s,
      mark_least first Call (before first (object ++ (method ++ (start ++ (args ++ (data_end ++ status))))) ok) h,
      token_least object (lexeme.bytes o) (before object (method ++ (start ++ (args ++ (data_end ++ status)))) ok1) ho,
      token_least method (lexeme.bytes mm) (before method (start ++ (args ++ (data_end ++ status))) ok2) hm,
      mark_least start StartList (before start (args ++ (data_end ++ status)) ok3) hs,
      values_least room_inside args vs (before args (data_end ++ status) ok4) all,
      mark_least data_end EndOfData (before data_end status ok5) hd,
      status_least status s (behind data_end status ok5) is_status,
      length-append first (object ++ (method ++ (start ++ (args ++ (data_end ++ status))))),
      length-append object (method ++ (start ++ (args ++ (data_end ++ status)))),
      length-append method (start ++ (args ++ (data_end ++ status))),
      length-append start (args ++ (data_end ++ status)),
      length-append args (data_end ++ status),
      length-append data_end status,
    )
item_least text m ok (a_reply {start} {results} {data_end} {status} {s} {vs} hs all hd is_status) =
    let ok1 = behind start (results ++ (data_end ++ status)) ok in
    let ok2 = behind results (data_end ++ status) ok1 in
    omega (
      arith,
      reply_length vs s,
      mark_least start StartList (before start (results ++ (data_end ++ status)) ok) hs,
      values_least room_inside results vs (before results (data_end ++ status) ok1) all,
      mark_least data_end EndOfData (before data_end status ok2) hd,
      status_least status s (behind data_end status ok2) is_status,
      length-append start (results ++ (data_end ++ status)),
      length-append results (data_end ++ status),
      length-append data_end status,
    )
item_least text m ok (an_end_session h) = mark_least text EndOfSession ok h
item_least text m ok (a_begin {first} {text = after} {n} h k) =
    omega (arith, mark_least first StartTransaction (before first after ok) h, token_least after (lexeme.number n) (behind first after ok) k, length-append first after)
item_least text m ok (an_end {first} {text = after} {n} h k) =
    omega (arith, mark_least first EndTransaction (before first after ok) h, token_least after (lexeme.number n) (behind first after ok) k, length-append first after)

pub all_least : (text : List ℕ) (m : Message) → AreBytes text → Spells text m → length (item_spelling_of m) ≤ length text
all_least text m ok s =
    let ok' : AreBytes (s.0 ++ s.1) = subst AreBytes s.2 ok in
    omega (arith, item_least s.0 m (before s.0 s.1 ok') s.3, length-append s.0 s.1, ap length s.2)
