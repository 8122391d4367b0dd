-- What is read as a token is spelled so, and what is spelled so is read as that token.
use Rattle.std.proofs.Common.{◌≡◌, ℕ, zero, suc, ◌+◌, ◌*◌, ◌/◌, ◌%◌, ◌^◌, ◌<◌, ◌≤◌, Bool, true, false, cond, ltb, eqb, List, [], ◌∷◌, ◌++◌, length, get_or, take, drop, Option, Some, None, Result, Ok, Err, refl, sym, ap, subst, ◌∙◌, append_assoc, arith, ◌⊎◌, inl, inr, eqb-true, zero-add}
use Rattle.std.proofs.lemmas.Bool.{ltb-false, ltb-true, lt-ltb, le-ltb}
use Rattle.std.proofs.lemmas.Bool.Decides.{nat_tests}
use Rattle.std.proofs.lemmas.List.{take_at, drop_at, take-append-drop, length-append, length-take}
use Rattle.tcg_tokens.specs.Lexeme.{AreBytes, Lexeme, bytes, code_of, mark, marks, number, number_from}
use Rattle.tcg_tokens.specs.declared.error.TokenError.{TokenError}
use Rattle.tcg_tokens.specs.declared.error.TokenError.TheVariants.{Truncated, Signed, TooBig}
use Rattle.tcg_tokens.specs.declared.token.Mark.{Mark}
use Rattle.tcg_tokens.specs.declared.token.Mark.TheVariants.{StartList, EndList, StartName, EndName, Call, EndOfData, EndOfSession, StartTransaction, EndTransaction}
use Rattle.tcg_tokens.specs.Lex.{content_lexeme, content_at, atom_at, form_at, mark_of, marked, mark_at, lexeme_at, first_lexeme, token_at}
use Rattle.std.specs.List.{find}
use Rattle.tcg_tokens.specs.declared.form.Form.TheVariants.{Short, Medium, Long}
use Rattle.tcg_tokens.specs.Atoms.{bit_number}
use Rattle.tcg_tokens.specs.Grammar.{IsHeader, short, medium, long, IsTokenSpelling, tiny, number_atom, bytes_atom, mark_byte, IsToken, plain, filled}

bytes_behind : (front rest : List ℕ) → AreBytes (front ++ rest) → AreBytes rest
bytes_behind [] rest ok = ok
bytes_behind (b ∷ bs) rest ok = bytes_behind bs rest ok.1

pub behind : (text front rest : List ℕ) → AreBytes text → text ≡ front ++ rest → AreBytes rest
behind text front rest ok e = bytes_behind front rest (subst AreBytes e ok)

pub bytes_by_index : (text : List ℕ) → ((i : ℕ) → i < length text → get_or text i 0 < 256) → AreBytes text
bytes_by_index [] h = tt
bytes_by_index (b ∷ bs) h = (h zero (omega arith), bytes_by_index bs (λ i lt. h (suc i) (omega arith)))

pub chosen : {A : Type 0} (b : Bool) (x y z : A) → cond b x y ≡ z → ((b ≡ true) × (x ≡ z)) ⊎ ((b ≡ false) × (y ≡ z))
chosen true x y z e = inl (refl, e)
chosen false x y z e = inr (refl, e)

pub bool_cases : (b : Bool) → (b ≡ true) ⊎ (b ≡ false)
bool_cases true = inl refl
bool_cases false = inr refl

-- ---- what is spelled is read

-- the content, whose length is known
content_again : (is_bytes : Bool) (content rest : List ℕ) → content_at is_bytes (length content) (content ++ rest) ≡ content_lexeme is_bytes content rest
content_again is_bytes content rest =
    let long_enough : ltb (length (content ++ rest)) (length content) ≡ false = le-ltb _ _ (omega (arith, length-append content rest)) in
    rw (long_enough, take_at content rest (length content) refl, drop_at content rest (length content) refl) refl

yes_lt : (a b : ℕ) → a < b → ltb a b ≡ true
yes_lt a b h = lt-ltb a b h

no_eq : (a b : ℕ) → (a ≡ b → ⊥) → eqb a b ≡ false
no_eq a b h = grind (arith, nat_tests)

-- the test of a bit
bit_test : (is_bytes : Bool) (n : ℕ) → n ≡ bit_number is_bytes → eqb n 1 ≡ is_bytes
bit_test true n e = rw e refl
bit_test false n e = rw e refl

short_again : (is_bytes : Bool) (len b : ℕ) (rest : List ℕ) → len < 16 → b ≡ 0x80 + 32 * bit_number is_bytes + len → bit_number is_bytes < 2 → token_at (b ∷ rest) ≡ content_at is_bytes len rest
unfolding first_lexeme
short_again is_bytes len b rest lt e two =
    let no_fill : eqb b 255 ≡ false = no_eq b 255 (λ h. omega arith) in
    let t1 : ltb b 64 ≡ false = le-ltb b 64 (omega arith) in
    let t2 : ltb b 128 ≡ false = le-ltb b 128 (omega arith) in
    let t3 : ltb b 192 ≡ true = yes_lt b 192 (omega arith) in
    let kind : eqb (b / 32 % 2) 1 ≡ is_bytes = bit_test is_bytes _ (omega arith) in
    let sign : eqb (b / 16 % 2) 1 ≡ false = no_eq _ 1 (λ h. omega arith) in
    let low : b % 16 ≡ len = omega arith in
    let no_length : ltb (length rest) 0 ≡ false = le-ltb _ 0 (omega arith) in
    rw (no_fill, t1, t2, t3, kind, sign, low, no_length) refl

medium_again : (is_bytes : Bool) (high low b : ℕ) (rest : List ℕ) → high < 8 → b ≡ 0xc0 + 16 * bit_number is_bytes + high → bit_number is_bytes < 2 → token_at (b ∷ low ∷ rest) ≡ content_at is_bytes (256 * high + low) rest
unfolding first_lexeme
medium_again is_bytes high low b rest lt e two =
    let no_fill : eqb b 255 ≡ false = no_eq b 255 (λ h. omega arith) in
    let t1 : ltb b 64 ≡ false = le-ltb b 64 (omega arith) in
    let t2 : ltb b 128 ≡ false = le-ltb b 128 (omega arith) in
    let t3 : ltb b 192 ≡ false = le-ltb b 192 (omega arith) in
    let t4 : ltb b 224 ≡ true = yes_lt b 224 (omega arith) in
    let kind : eqb (b / 16 % 2) 1 ≡ is_bytes = bit_test is_bytes _ (omega arith) in
    let sign : eqb (b / 8 % 2) 1 ≡ false = no_eq _ 1 (λ h. omega arith) in
    let top : b % 8 ≡ high = omega arith in
    let one_length : ltb (length (low ∷ rest)) 1 ≡ false = le-ltb _ 1 (omega arith) in
    rw (no_fill, t1, t2, t3, t4, kind, sign, top, one_length) refl

long_again : (is_bytes : Bool) (high middle low : ℕ) (rest : List ℕ) → token_at ((0xe0 + 2 * bit_number is_bytes) ∷ high ∷ middle ∷ low ∷ rest) ≡ content_at is_bytes (256 * (256 * high + middle) + low) rest
unfolding first_lexeme
long_again true high middle low rest =
    let three : ltb (length (high ∷ middle ∷ low ∷ rest)) 3 ≡ false = le-ltb _ 3 (omega arith) in
    rw (three, zero-add high) refl
long_again false high middle low rest =
    let three : ltb (length (high ∷ middle ∷ low ∷ rest)) 3 ≡ false = le-ltb _ 3 (omega arith) in
    rw (three, zero-add high) refl

bit-below : (b : Bool) → bit_number b < 2
bit-below true = omega arith
bit-below false = omega arith

header_again : (is_bytes : Bool) (head : List ℕ) (n : ℕ) → IsHeader is_bytes head n → (content rest : List ℕ) → length content ≡ n
    → token_at (head ++ (content ++ rest)) ≡ content_lexeme is_bytes content rest
header_again is_bytes head n (short kind len lt) content rest e =
    short_again kind len _ (content ++ rest) lt refl (bit-below kind) ∙ rw (← e) (content_again kind content rest)
header_again is_bytes head n (medium kind high low lt lt_low) content rest e =
    medium_again kind high low _ (content ++ rest) lt refl (bit-below kind) ∙ rw (← e) (content_again kind content rest)
header_again is_bytes head n (long kind high middle low lt_high lt_middle lt_low) content rest e =
    long_again kind high middle low (content ++ rest) ∙ rw (← e) (content_again kind content rest)

spelling_again : (text : List ℕ) (t : Lexeme) → IsTokenSpelling text t → (rest : List ℕ) → token_at (text ++ rest) ≡ Ok (t, rest)
unfolding first_lexeme
spelling_again text t (tiny n lt) rest =
    let small : ltb n 64 ≡ true = yes_lt n 64 lt in
    let no_fill : eqb n 255 ≡ false = no_eq n 255 (λ h. omega arith) in
    rw (no_fill, small) refl
spelling_again text t (number_atom head content h fits) rest =
    let small : ltb (number_from 0 content) (2 ^ 64) ≡ true = yes_lt _ _ fits in
    rw append_assoc (header_again false head (length content) h content rest refl ∙ rw small refl)
spelling_again text t (bytes_atom head content h) rest = rw append_assoc (header_again true head (length content) h content rest refl)
spelling_again text t (mark_byte StartList) rest = refl
spelling_again text t (mark_byte EndList) rest = refl
spelling_again text t (mark_byte StartName) rest = refl
spelling_again text t (mark_byte EndName) rest = refl
spelling_again text t (mark_byte Call) rest = refl
spelling_again text t (mark_byte EndOfData) rest = refl
spelling_again text t (mark_byte EndOfSession) rest = refl
spelling_again text t (mark_byte StartTransaction) rest = refl
spelling_again text t (mark_byte EndTransaction) rest = refl

pub token_again : (text : List ℕ) (t : Lexeme) → IsToken text t → (rest : List ℕ) → token_at (text ++ rest) ≡ Ok (t, rest)
token_again text t (plain h) rest = spelling_again _ _ h rest
token_again text t (filled h) rest = token_again _ _ h rest

-- ---- what is read is spelled

-- a token at the front
abbrev pub IsAt : List ℕ → Lexeme → List ℕ → Type 0
IsAt text t rest = (front : List ℕ) × (text ≡ front ++ rest) × IsToken front t

abbrev SpelledAt : List ℕ → Lexeme → List ℕ → Type 0
SpelledAt text t rest = (front : List ℕ) × (text ≡ front ++ rest) × IsTokenSpelling front t

abbrev done : {A : Type 0} → A → Result A TokenError
done x = Ok x

pub ok_inj : {A : Type 0} (x y : A) → done x ≡ done y → x ≡ y
ok_inj x y e = cc

abbrev read : Lexeme → List ℕ → Result (Lexeme × List ℕ) TokenError
read t rest = Ok (t, rest)

ok_is : (t u : Lexeme) (a b : List ℕ) → read t a ≡ read u b → (t ≡ u) × (a ≡ b)
ok_is t u a b e =
    let x : Lexeme × List ℕ = (t, a) in
    let y : Lexeme × List ℕ = (u, b) in
    let p : x ≡ y = ok_inj x y e in
    (ap (λ (q : Lexeme × List ℕ). q.0) p, ap (λ (q : Lexeme × List ℕ). q.1) p)

lexeme_spelled : (is_bytes : Bool) (head content after rest : List ℕ) (t : Lexeme) → IsHeader is_bytes head (length content) → content_lexeme is_bytes content after ≡ Ok (t, rest) → IsTokenSpelling (head ++ content) t × (after ≡ rest)
lexeme_spelled true head content after rest t h e =
    let p = ok_is (bytes content) t after rest e in
    (subst (IsTokenSpelling (head ++ content)) p.0 (bytes_atom head content h), p.1)
lexeme_spelled false head content after rest t h e =
    elim (chosen (ltb (number_from 0 content) (2 ^ 64)) (Ok (number (number_from 0 content), after)) (Err TooBig) (Ok (t, rest)) e) [
      | inl w ↦
          let p = ok_is (number (number_from 0 content)) t after rest w.1 in
          let fits : number_from 0 content < 2 ^ 64 = ltb-true _ _ w.0 in
          (subst (IsTokenSpelling (head ++ content)) p.0 (number_atom head content h fits), p.1)
      | inr w ↦ absurd cc
    ]

-- the atom behind its header
atom_spelled : (is_bytes is_signed : Bool) (upper width : ℕ) (first : ℕ) (body rest : List ℕ) (t : Lexeme)
    → (is_signed ≡ false → width ≤ length body → IsHeader is_bytes (first ∷ take width body) (number_from upper (take width body)))
    → atom_at is_bytes is_signed upper width body ≡ Ok (t, rest) → SpelledAt (first ∷ body) t rest
atom_spelled true true upper width first body rest t h e = absurd cc
atom_spelled false true upper width first body rest t h e = absurd cc
atom_spelled is_bytes false upper width first body rest t h e =
    elim (chosen (ltb (length body) width) (Err Truncated) (content_at is_bytes (number_from upper (take width body)) (drop width body)) (Ok (t, rest)) e) [
      | inl w ↦ absurd cc
      | inr w ↦
          let long_enough : width ≤ length body = ltb-false _ _ w.0 in
          let len : ℕ = number_from upper (take width body) in
          let after = drop width body in
          elim (chosen (ltb (length after) len) (Err Truncated) (content_lexeme is_bytes (take len after) (drop len after)) (Ok (t, rest)) w.1) [
            | inl v ↦ absurd cc
            | inr v ↦
                let whole : len ≤ length after = ltb-false _ _ v.0 in
                let is_len : length (take len after) ≡ len = omega (arith, length-take len after) in
                let header : IsHeader is_bytes (first ∷ take width body) (length (take len after)) = subst (IsHeader is_bytes (first ∷ take width body)) (sym is_len) (h refl long_enough) in
                let s = lexeme_spelled is_bytes (first ∷ take width body) (take len after) (drop len after) rest t header v.1 in
                let parts : body ≡ (take width body ++ take len after) ++ rest = sym (take-append-drop width body) ∙ ap (λ (x : List ℕ). take width body ++ x) (sym (take-append-drop len after) ∙ ap (λ (y : List ℕ). take len after ++ y) s.1) ∙ sym (append_assoc (take width body) (take len after) rest) in
                (first ∷ (take width body ++ take len after), ap (λ (x : List ℕ). first ∷ x) parts, s.0)
          ]
    ]

bit_is : (n : ℕ) → n < 2 → bit_number (eqb n 1) ≡ n
bit_is zero h = refl
bit_is (suc zero) h = refl
bit_is (suc (suc n)) h = absurd (omega arith)

no_bit : (n : ℕ) → n < 2 → eqb n 1 ≡ false → n ≡ 0
no_bit zero h e = refl
no_bit (suc zero) h e = absurd cc
no_bit (suc (suc n)) h e = absurd (omega arith)

short_spelled : (b : ℕ) (body rest : List ℕ) (t : Lexeme) → 128 ≤ b → b < 192 → form_at Short b body ≡ Ok (t, rest) → SpelledAt (b ∷ body) t rest
short_spelled b body rest t low high e =
    atom_spelled (eqb (b / 32 % 2) 1) (eqb (b / 16 % 2) 1) (b % 16) 0 b body rest t (λ plain_atom _.
    let no_sign : b / 16 % 2 ≡ 0 = no_bit _ (omega arith) plain_atom in
    let kind : bit_number (eqb (b / 32 % 2) 1) ≡ b / 32 % 2 = bit_is _ (omega arith) in
    let first : 0x80 + 32 * bit_number (eqb (b / 32 % 2) 1) + b % 16 ≡ b = omega arith in
    subst (λ (x : ℕ). IsHeader (eqb (b / 32 % 2) 1) (x ∷ []) (b % 16)) first (short (eqb (b / 32 % 2) 1) (b % 16) (omega arith))) e

medium_spelled : (b : ℕ) (body rest : List ℕ) (t : Lexeme) → AreBytes body → 192 ≤ b → b < 224 → form_at Medium b body ≡ Ok (t, rest) → SpelledAt (b ∷ body) t rest
medium_spelled b [] rest t ok low high e =
    atom_spelled (eqb (b / 16 % 2) 1) (eqb (b / 8 % 2) 1) (b % 8) 1 b [] rest t (λ plain_atom some. absurd (omega arith)) e
medium_spelled b (x ∷ body) rest t ok low high e =
    atom_spelled (eqb (b / 16 % 2) 1) (eqb (b / 8 % 2) 1) (b % 8) 1 b (x ∷ body) rest t (λ plain_atom _.
    let no_sign : b / 8 % 2 ≡ 0 = no_bit _ (omega arith) plain_atom in
    let kind : bit_number (eqb (b / 16 % 2) 1) ≡ b / 16 % 2 = bit_is _ (omega arith) in
    let first : 0xc0 + 16 * bit_number (eqb (b / 16 % 2) 1) + b % 8 ≡ b = omega arith in
    subst (λ (y : ℕ). IsHeader (eqb (b / 16 % 2) 1) (y ∷ x ∷ []) (256 * (b % 8) + x)) first (medium (eqb (b / 16 % 2) 1) (b % 8) x (omega arith) ok.0)) e

long_spelled : (b : ℕ) (body rest : List ℕ) (t : Lexeme) → AreBytes body → 224 ≤ b → b < 228 → form_at Long b body ≡ Ok (t, rest) → SpelledAt (b ∷ body) t rest
long_spelled b (x ∷ y ∷ z ∷ body) rest t ok low high e =
    atom_spelled (eqb (b / 2 % 2) 1) (eqb (b / 1 % 2) 1) (b % 1) 3 b (x ∷ y ∷ z ∷ body) rest t (λ plain_atom _.
    let no_sign : b / 1 % 2 ≡ 0 = no_bit _ (omega arith) plain_atom in
    let no_upper : 256 * (b % 1) + x ≡ x = omega arith in
    let kind : bit_number (eqb (b / 2 % 2) 1) ≡ b / 2 % 2 = bit_is _ (omega arith) in
    let first : 0xe0 + 2 * bit_number (eqb (b / 2 % 2) 1) ≡ b = omega arith in
    let header : IsHeader (eqb (b / 2 % 2) 1) ((0xe0 + 2 * bit_number (eqb (b / 2 % 2) 1)) ∷ x ∷ y ∷ z ∷ []) (256 * (256 * (256 * (b % 1) + x) + y) + z) = rw no_upper (long (eqb (b / 2 % 2) 1) x y z ok.0 ok.1.0 ok.1.1.0) in
    subst (λ (w : ℕ). IsHeader (eqb (b / 2 % 2) 1) (w ∷ x ∷ y ∷ z ∷ []) (256 * (256 * (256 * (b % 1) + x) + y) + z)) first header) e
long_spelled b [] rest t ok low high e = atom_spelled _ _ (b % 1) 3 b [] rest t (λ plain_atom some. absurd (omega arith)) e
long_spelled b (x ∷ []) rest t ok low high e = atom_spelled _ _ (b % 1) 3 b (x ∷ []) rest t (λ plain_atom some. absurd (omega arith)) e
long_spelled b (x ∷ y ∷ []) rest t ok low high e = atom_spelled _ _ (b % 1) 3 b (x ∷ y ∷ []) rest t (λ plain_atom some. absurd (omega arith)) e

mark_is : (m : Mark) (b : ℕ) (body rest : List ℕ) (t : Lexeme) → b ≡ code_of m → read (mark m) body ≡ read t rest → SpelledAt (b ∷ body) t rest
mark_is m b body rest t code e =
    let p = ok_is (mark m) t body rest e in
    (b ∷ [], ap (λ (x : List ℕ). b ∷ x) p.1, subst (IsTokenSpelling (b ∷ [])) p.0 (subst (λ (x : ℕ). IsTokenSpelling (x ∷ []) (mark m)) (sym code) (mark_byte m)))

pub mark_found : (b : ℕ) (ms : List Mark) (m : Mark) → find (λ n. eqb b (code_of n)) ms ≡ Some m → b ≡ code_of m
mark_found b [] m e = absurd cc
mark_found b (n ∷ ms) m e =
    elim (chosen (eqb b (code_of n)) (Some n) (find (λ k. eqb b (code_of k)) ms) (Some m) e) [
      | inl w ↦ let here : n ≡ m = cc in eqb-true _ _ w.0 ∙ ap code_of here
      | inr w ↦ mark_found b ms m w.1
    ]

mark_spelled : (b : ℕ) (body rest : List ℕ) (t : Lexeme) → mark_at b body ≡ Ok (t, rest) → SpelledAt (b ∷ body) t rest
mark_spelled b body rest t e = go (mark_of b) refl e
  where
    go : (o : Option Mark) → mark_of b ≡ o → marked o body ≡ Ok (t, rest) → SpelledAt (b ∷ body) t rest
    go None found e = absurd cc
    go (Some m) found e = mark_is m b body rest t (mark_found b marks m found) e

spelled : (b : ℕ) (body rest : List ℕ) (t : Lexeme) → AreBytes body → lexeme_at b body ≡ Ok (t, rest) → SpelledAt (b ∷ body) t rest
spelled b body rest t ok e =
    elim (chosen (ltb b 0x40) (Ok (number b, body)) _ _ e) [
      | inl w ↦
          let p = ok_is (number b) t body rest w.1 in
          (b ∷ [], ap (λ (x : List ℕ). b ∷ x) p.1, subst (IsTokenSpelling (b ∷ [])) p.0 (tiny b (ltb-true _ _ w.0)))
      | inr w1 ↦
          elim (chosen (ltb b 0x80) (Err Signed) _ _ w1.1) [
            | inl w ↦ absurd (let h : Err Signed ≡ read t rest = w.1 in cc)
            | inr w2 ↦
                elim (chosen (ltb b 0xc0) (form_at Short b body) _ _ w2.1) [
                  | inl w ↦ short_spelled b body rest t (ltb-false _ _ w2.0) (ltb-true _ _ w.0) w.1
                  | inr w3 ↦
                      elim (chosen (ltb b 0xe0) (form_at Medium b body) _ _ w3.1) [
                        | inl w ↦ medium_spelled b body rest t ok (ltb-false _ _ w3.0) (ltb-true _ _ w.0) w.1
                        | inr w4 ↦
                            elim (chosen (ltb b 0xe4) (form_at Long b body) _ _ w4.1) [
                              | inl w ↦ long_spelled b body rest t ok (ltb-false _ _ w4.0) (ltb-true _ _ w.0) w.1
                              | inr w5 ↦
                                  mark_spelled b body rest t w5.1
                            ]
                      ]
                ]
          ]
    ]

pub token_taken : (text rest : List ℕ) (t : Lexeme) → AreBytes text → token_at text ≡ Ok (t, rest) → IsAt text t rest
unfolding first_lexeme
token_taken [] rest t ok e = absurd cc
token_taken (b ∷ body) rest t ok e =
    elim (bool_cases (eqb b 0xff)) [
      | inl fill ↦
          let inner = token_taken body rest t ok.1 (rw fill at e) in
          let code : b ≡ 0xff = eqb-true _ _ fill in
          (b ∷ inner.0, ap (λ (x : List ℕ). b ∷ x) inner.1, subst (λ (x : ℕ). IsToken (x ∷ inner.0) t) (sym code) (filled inner.2))
      | inr none ↦
          let s = spelled b body rest t ok.1 (rw none at e) in
          (s.0, s.1, plain s.2)
    ]
