-- What is read as a value is spelled so, and what is spelled so is read as that value.
use Rattle.std.proofs.Common.{◌≡◌, ℕ, zero, suc, ◌<◌, ◌≤◌, Bool, true, false, cond, List, [], ◌++◌, length, Result, Ok, Err, refl, sym, ap, subst, ◌∙◌, append_assoc, arith, inl, inr}
use Rattle.std.proofs.lemmas.List.{length-append, append-nil}
use Rattle.tcg_tokens.specs.Lexeme.{AreBytes, Lexeme, is_mark, same}
use Rattle.tcg_tokens.specs.declared.error.TokenError.{TokenError}
use Rattle.tcg_tokens.specs.declared.error.TokenError.TheVariants.{Unbalanced, Deep}
use Rattle.tcg_tokens.specs.declared.token.Mark.{Mark}
use Rattle.tcg_tokens.specs.declared.token.Mark.TheVariants.{StartList, EndList, StartName, EndName, Call, EndOfData, EndOfSession, StartTransaction, EndTransaction}
use Rattle.tcg_tokens.specs.Lex.{◌>>=◌, token_at}
use Rattle.tcg_tokens.specs.Lexeme as lexeme
use Rattle.tcg_tokens.specs.Tree.{Tree, Trees, number, bytes, list, named, empty, more}
use Rattle.tcg_tokens.specs.Grammar.{IsToken, plain, filled, IsTokenSpelling, IsHeader, short, medium, long, tiny, number_atom, bytes_atom, mark_byte, IsName, number_name, bytes_name, IsValue, AreValues, a_number, some_bytes, a_list, a_name, no_more, one_more}
use Rattle.tcg_tokens.specs.Reading.{expect, values_up_to, list_with, list_value_with, name_of, named_with, value_after_token}
use Rattle.tcg_tokens.proofs.Loop.{is_a_number, are_bytes}
use Rattle.tcg_tokens.proofs.Tokens.{chosen, ok_inj, IsAt, token_taken, token_again, behind as bytes_behind}

-- what is read first, under a name of its own, and how the reading goes on
pub bind_then : {A B G : Type 0} (r : Result A TokenError) (f : A → Result B TokenError) (y : B) → (r >>= f) ≡ Ok y → ((x : A) → r ≡ Ok x → f x ≡ Ok y → G) → G
bind_then (Ok x) f y e k = k x refl e
bind_then (Err d) f y e k = absurd cc

-- ---- what is spelled is read

header_long : (is_bytes : Bool) (head : List ℕ) (n : ℕ) → IsHeader is_bytes head n → 0 < length head
header_long is_bytes head n (short kind len lt) = omega arith
header_long is_bytes head n (medium kind high low lt lt_low) = omega arith
header_long is_bytes head n (long kind high middle low lt_high lt_middle lt_low) = omega arith

spelling_long : (text : List ℕ) (t : Lexeme) → IsTokenSpelling text t → 0 < length text
spelling_long text t (tiny n lt) = omega arith
spelling_long text t (number_atom head content h fits) = omega (arith, length-append head content, header_long _ _ _ h)
spelling_long text t (bytes_atom head content h) = omega (arith, length-append head content, header_long _ _ _ h)
spelling_long text t (mark_byte m) = omega arith

pub token_long : (text : List ℕ) (t : Lexeme) → IsToken text t → 0 < length text
token_long text t (plain h) = spelling_long _ _ h
token_long text t (filled h) = omega arith

value_long : (room : ℕ) (text : List ℕ) (v : Tree) → IsValue room text v → 0 < length text
value_long room text v (a_number h) = token_long _ _ h
value_long room text v (some_bytes h) = token_long _ _ h
value_long room text v (a_list {start} {inner} h vs) = omega (arith, length-append start inner, token_long _ _ h)
value_long room text v (a_name {start} {name} {inner} {stop} h n w end) = omega (arith, length-append start (name ++ (inner ++ stop)), token_long _ _ h)

pub expect_again : (m : Mark) (text rest : List ℕ) → IsToken text (lexeme.mark m) → same m m ≡ true → expect m (text ++ rest) ≡ Ok rest
unfolding expect
expect_again m text rest h e = rw (token_again text (lexeme.mark m) h rest, e) refl

-- how a value starts and goes on
pub record Starts (room : ℕ) (text rest : List ℕ) (v : Tree) : Type 0 where
  pub first : Lexeme
  pub behind : List ℕ
  pub is_first : token_at (text ++ rest) ≡ Ok (first, behind)
  pub is_no_end : is_mark EndList first ≡ false
  pub goes_on : value_after_token room first behind ≡ Ok (v, rest)

name_again : (text : List ℕ) (n : Tree) → IsName text n → (rest : List ℕ) → (t : Lexeme) × (token_at (text ++ rest) ≡ Ok (t, rest)) × (name_of t ≡ Ok n)
name_again text n (number_name {n = k} h) rest = (lexeme.number k, token_again _ _ h rest, refl)
name_again text n (bytes_name {b} h) rest = (lexeme.bytes b, token_again _ _ h rest, refl)

mutual
  unfolding value_after_token values_up_to list_value_with list_with named_with

  pub value_again : (room : ℕ) (text : List ℕ) (v : Tree) → IsValue room text v → (rest : List ℕ) → Starts room text rest v
  value_again room text v (a_number {n} h) rest = record { first = lexeme.number n; behind = rest; is_first = token_again _ _ h rest; is_no_end = refl; goes_on = is_a_number room n rest }
  value_again room text v (some_bytes {b} h) rest = record { first = lexeme.bytes b; behind = rest; is_first = token_again _ _ h rest; is_no_end = refl; goes_on = are_bytes room b rest }
  value_again room text v (a_list {room = less} {start} {inner} {vs} h all) rest =
      let ih = values_again less inner vs all rest (length (inner ++ rest)) (omega (arith, length-append inner rest)) in
      record { first = lexeme.mark StartList; behind = inner ++ rest; is_first = rw append_assoc (token_again start _ h (inner ++ rest)); is_no_end = refl; goes_on = rw ih refl }
  value_again room text v (a_name {room = less} {start} {name} {inner} {stop} {n} {v = w} h is_name is_value end) rest =
      let regrouped : (start ++ (name ++ (inner ++ stop))) ++ rest ≡ start ++ (name ++ (inner ++ (stop ++ rest))) = simp append_assoc in
      let nm = name_again name n is_name (inner ++ (stop ++ rest)) in
      let ih = value_again less inner w is_value (stop ++ rest) in
      let last = expect_again EndName stop rest end refl in
      record { first = lexeme.mark StartName; behind = name ++ (inner ++ (stop ++ rest)); is_first = ap token_at regrouped ∙ token_again start _ h (name ++ (inner ++ (stop ++ rest))); is_no_end = refl; goes_on = rw (nm.1, nm.2, ih.is_first, ih.goes_on, last) refl }

  pub values_again : (room : ℕ) (text : List ℕ) (vs : Trees) → AreValues room text vs → (rest : List ℕ) (count : ℕ) → length text ≤ count → values_up_to (value_after_token room) count (text ++ rest) ≡ Ok (vs, rest)
  values_again room text vs (no_more h) rest zero le = absurd (omega (arith, token_long _ _ h))
  values_again room text vs (no_more h) rest (suc count) le = rw (token_again _ _ h rest) refl
  values_again room text vs (one_more {front} {back} h all) rest zero le = absurd (omega (arith, value_long _ _ _ h, length-append front back))
  values_again room text vs (one_more {front} {back} {v} {vs = ws} h all) rest (suc count) le =
      let s = value_again room front v h (back ++ rest) in
      let ih = values_again room back ws all rest count (omega (arith, value_long _ _ _ h, length-append front back)) in
      rw (append_assoc, s.is_first, s.is_no_end, s.goes_on, ih) refl

-- ---- what is read is spelled

same_is : (m n : Mark) → same m n ≡ true → m ≡ n
same_is StartList StartList e = refl
same_is EndList EndList e = refl
same_is StartName StartName e = refl
same_is EndName EndName e = refl
same_is Call Call e = refl
same_is EndOfData EndOfData e = refl
same_is EndOfSession EndOfSession e = refl
same_is StartTransaction StartTransaction e = refl
same_is EndTransaction EndTransaction e = refl
same_is m n e = cc

is_that_mark : (m : Mark) (t : Lexeme) → is_mark m t ≡ true → t ≡ lexeme.mark m
is_that_mark m (lexeme.number n) e = absurd cc
is_that_mark m (lexeme.bytes b) e = absurd cc
is_that_mark m (lexeme.mark n) e = ap (λ (x : Mark). lexeme.mark x) (same_is n m e)

mark_taken : (m : Mark) (text rest : List ℕ) (t : Lexeme × List ℕ) → IsAt text t.0 t.1 → cond (is_mark m t.0) (Ok t.1) (Err Unbalanced) ≡ Ok rest → IsAt text (lexeme.mark m) rest
mark_taken m text rest t at e =
    elim (chosen (is_mark m t.0) (Ok t.1) (Err Unbalanced) (Ok rest) e) [
      | inl w ↦ subst (λ (x : List ℕ). IsAt text (lexeme.mark m) x) (ok_inj t.1 rest w.1) (subst (λ (x : Lexeme). IsAt text x t.1) (is_that_mark m t.0 w.0) at)
      | inr w ↦ absurd cc
    ]

pub expected : (m : Mark) (text rest : List ℕ) → AreBytes text → expect m text ≡ Ok rest → IsAt text (lexeme.mark m) rest
unfolding expect
expected m text rest ok e =
    bind_then (token_at text) (λ t. cond (is_mark m t.0) (Ok t.1) (Err Unbalanced)) rest e (λ t first then. mark_taken m text rest t (token_taken text t.1 t.0 ok first) then)

-- a value behind its first token
abbrev pub Goes : ℕ → Lexeme → List ℕ → Tree → List ℕ → Type 0
Goes room t behind v rest = (inner : List ℕ) × (behind ≡ inner ++ rest) × ((front : List ℕ) → IsToken front t → IsValue room (front ++ inner) v)

abbrev pub IsSound : ℕ → Type 0
IsSound room = (t : Lexeme) (behind rest : List ℕ) (v : Tree) → AreBytes behind → value_after_token room t behind ≡ Ok (v, rest) → Goes room t behind v rest

abbrev pub AreAt : ℕ → List ℕ → Trees → List ℕ → Type 0
AreAt room text vs rest = (inner : List ℕ) × (text ≡ inner ++ rest) × AreValues room inner vs

abbrev pub read : {A : Type 0} → A → List ℕ → Result (A × List ℕ) TokenError
read x rest = Ok (x, rest)

pub read_is : {A : Type 0} (x y : A) (a b : List ℕ) → read x a ≡ read y b → (x ≡ y) × (a ≡ b)
read_is {A} x y a b e =
    let p : A × List ℕ = (x, a) in
    let q : A × List ℕ = (y, b) in
    let same_pair : p ≡ q = ok_inj p q e in
    (ap (λ (w : A × List ℕ). w.0) same_pair, ap (λ (w : A × List ℕ). w.1) same_pair)

-- a text, part by part
pub step : (text front after whole : List ℕ) → text ≡ front ++ after → after ≡ whole → text ≡ front ++ whole
step text front after whole e f = e ∙ ap (λ (x : List ℕ). front ++ x) f

pieces : (text front after inner middle back last rest : List ℕ) → text ≡ front ++ after → after ≡ inner ++ middle → middle ≡ back ++ last → last ≡ rest → text ≡ ((front ++ inner) ++ back) ++ rest
pieces text front after inner middle back last rest e f g h = step text front after (inner ++ (back ++ rest)) e (step after inner middle (back ++ rest) f (step middle back last rest g h)) ∙ simp append_assoc

last_taken : (room : ℕ) (text rest : List ℕ) (vs : Trees) (t : Lexeme × List ℕ) → IsAt text t.0 t.1 → is_mark EndList t.0 ≡ true → read empty t.1 ≡ read vs rest → AreAt room text vs rest
last_taken room text rest vs t at is_end e =
    let q = read_is empty vs t.1 rest e in
    (at.0, step text at.0 t.1 rest at.1 q.1, subst (λ (x : Trees). AreValues room at.0 x) q.0 (no_more (subst (IsToken at.0) (is_that_mark EndList t.0 is_end) at.2)))

more_taken : (room : ℕ) (text rest : List ℕ) (vs : Trees) (t : Lexeme × List ℕ) (v : Tree × List ℕ) (ws : Trees × List ℕ) → IsAt text t.0 t.1 → Goes room t.0 t.1 v.0 v.1 → AreAt room v.1 ws.0 ws.1 → read (more v.0 ws.0) ws.1 ≡ read vs rest → AreAt room text vs rest
more_taken room text rest vs t v ws (front, whole, is_token) (inner, goes, is_value) (back, others, are_values) e =
    let q = read_is (more v.0 ws.0) vs ws.1 rest e in
    ((front ++ inner) ++ back, pieces text front t.1 inner v.1 back ws.1 rest whole goes others q.1, subst (λ (x : Trees). AreValues room ((front ++ inner) ++ back) x) q.0 (one_more (is_value front is_token) are_values))

pub values_taken : (room : ℕ) → IsSound room → (count : ℕ) (text rest : List ℕ) (vs : Trees) → AreBytes text → values_up_to (value_after_token room) count text ≡ Ok (vs, rest) → AreAt room text vs rest
unfolding values_up_to
values_taken room sound zero text rest vs ok e = absurd cc
values_taken room sound (suc count) text rest vs ok e =
    bind_then (token_at text) _ (vs, rest) e (λ t first then.
    let at : IsAt text t.0 t.1 = token_taken text t.1 t.0 ok first in
    let ok_behind : AreBytes t.1 = bytes_behind text at.0 t.1 ok at.1 in
    elim (chosen (is_mark EndList t.0) _ _ (Ok (vs, rest)) then) [
      | inl w ↦ last_taken room text rest vs t at w.0 w.1
      | inr w ↦
          bind_then (value_after_token room t.0 t.1) _ (vs, rest) w.1 (λ v is_value others.
          let s : Goes room t.0 t.1 v.0 v.1 = sound t.0 t.1 v.1 v.0 ok_behind is_value in
          bind_then (values_up_to (value_after_token room) count v.1) _ (vs, rest) others (λ ws are_values end.
          more_taken room text rest vs t v ws at s (values_taken room sound count v.1 ws.1 ws.0 (bytes_behind t.1 s.0 v.1 ok_behind s.1) are_values) end))
    ])

name_taken : (t : Lexeme) (n : Tree) → name_of t ≡ Ok n → (text : List ℕ) → IsToken text t → IsName text n
name_taken (lexeme.number k) n e text h = subst (IsName text) (ok_inj (number k) n e) (number_name h)
name_taken (lexeme.bytes b) n e text h = subst (IsName text) (ok_inj (bytes b) n e) (bytes_name h)
name_taken (lexeme.mark m) n e text h = absurd cc

regroup : (a b c d e : List ℕ) → a ++ (b ++ (c ++ (d ++ e))) ≡ (a ++ ((b ++ c) ++ d)) ++ e
regroup a b c d e = simp append_assoc

list_read : (room : ℕ) (m : Mark) (behind rest : List ℕ) (v : Tree) (vs : Trees × List ℕ) → same m StartList ≡ true → AreAt room behind vs.0 vs.1 → read (list vs.0) vs.1 ≡ read v rest → Goes (suc room) (lexeme.mark m) behind v rest
list_read room m behind rest v vs is_start at e =
    let q = read_is (list vs.0) v vs.1 rest e in
    (at.0, step behind at.0 vs.1 rest at.1 q.1, λ front h. subst (IsValue (suc room) (front ++ at.0)) q.0 (a_list (subst (λ (x : Mark). IsToken front (lexeme.mark x)) (same_is m StartList is_start) h) at.2))

list_goes : (room : ℕ) → IsSound room → (m : Mark) (behind rest : List ℕ) (v : Tree) → AreBytes behind → same m StartList ≡ true → list_value_with (value_after_token room) behind ≡ Ok (v, rest) → Goes (suc room) (lexeme.mark m) behind v rest
unfolding list_value_with list_with
list_goes room sound m behind rest v ok is_start e =
    bind_then (values_up_to (value_after_token room) (length behind) behind) _ (v, rest) e (λ vs are_values end.
    list_read room m behind rest v vs is_start (values_taken room sound (length behind) behind vs.1 vs.0 ok are_values) end)

-- a named value, part by part
named_parts : (behind name after first middle inner last stop end rest : List ℕ) → behind ≡ name ++ after → after ≡ first ++ middle → middle ≡ inner ++ last → last ≡ stop ++ end → end ≡ rest → behind ≡ (name ++ ((first ++ inner) ++ stop)) ++ rest
named_parts behind name after first middle inner last stop end rest e f g h i =
    step behind name after (first ++ (inner ++ (stop ++ rest))) e (step after first middle (inner ++ (stop ++ rest)) f (step middle inner last (stop ++ rest) g (step last stop end rest h i))) ∙ regroup name first inner stop rest

named_read : (room : ℕ) (m : Mark) (behind rest : List ℕ) (v : Tree) (n : Lexeme × List ℕ) (name : Tree) (t : Lexeme × List ℕ) (w : Tree × List ℕ) (end : List ℕ) → same m StartName ≡ true
    → IsAt behind n.0 n.1 → name_of n.0 ≡ Ok name → IsAt n.1 t.0 t.1 → Goes room t.0 t.1 w.0 w.1 → IsAt w.1 (lexeme.mark EndName) end → read (named name w.0) end ≡ read v rest
    → Goes (suc room) (lexeme.mark m) behind v rest
named_read room m behind rest v n name t w end is_start (front, whole, is_first) is_name (first, then, is_token) (inner, goes, is_value) (stop, others, is_end) e =
    let q = read_is (named name w.0) v end rest e in (
      front ++ ((first ++ inner) ++ stop),
      named_parts behind front n.1 first t.1 inner w.1 stop end rest whole then goes others q.1,
      λ start h. subst (IsValue (suc room) (start ++ (front ++ ((first ++ inner) ++ stop)))) q.0
          (a_name (subst (λ (x : Mark). IsToken start (lexeme.mark x)) (same_is m StartName is_start) h) (name_taken n.0 name is_name front is_first) (is_value first is_token) is_end),
    )

named_goes : (room : ℕ) → IsSound room → (m : Mark) (behind rest : List ℕ) (v : Tree) → AreBytes behind → same m StartName ≡ true → named_with (value_after_token room) behind ≡ Ok (v, rest) → Goes (suc room) (lexeme.mark m) behind v rest
unfolding named_with
named_goes room sound m behind rest v ok is_start e =
    bind_then (token_at behind) _ (v, rest) e (λ n n_is e1.
    bind_then (name_of n.0) _ (v, rest) e1 (λ name name_is e2.
    bind_then (token_at n.1) _ (v, rest) e2 (λ t t_is e3.
    bind_then (value_after_token room t.0 t.1) _ (v, rest) e3 (λ w w_is e4.
    bind_then (expect EndName w.1) _ (v, rest) e4 (λ end end_is e5.
    let at : IsAt behind n.0 n.1 = token_taken behind n.1 n.0 ok n_is in
    let ok_name : AreBytes n.1 = bytes_behind behind at.0 n.1 ok at.1 in
    let first : IsAt n.1 t.0 t.1 = token_taken n.1 t.1 t.0 ok_name t_is in
    let ok_first : AreBytes t.1 = bytes_behind n.1 first.0 t.1 ok_name first.1 in
    let goes : Goes room t.0 t.1 w.0 w.1 = sound t.0 t.1 w.1 w.0 ok_first w_is in
    named_read room m behind rest v n name t w end is_start at name_is first goes (expected EndName w.1 end (bytes_behind t.1 goes.0 w.1 ok_first goes.1) end_is) e5)))))

too_deep : (m : Mark) (behind rest : List ℕ) (v : Tree) → value_after_token 0 (lexeme.mark m) behind ≡ Ok (v, rest) → Goes 0 (lexeme.mark m) behind v rest
unfolding value_after_token
too_deep m behind rest v e =
    elim (chosen (same m StartList) _ _ (Ok (v, rest)) e) [
      | inl w ↦ absurd (let h : Err Deep ≡ read v rest = w.1 in cc)
      | inr w1 ↦
          elim (chosen (same m StartName) _ _ (Ok (v, rest)) w1.1) [ inl w ↦ absurd (let h : Err Deep ≡ read v rest = w.1 in cc) | inr w ↦ absurd (let h : Err Unbalanced ≡ read v rest = w.1 in cc) ]
    ]

mark_goes : (room : ℕ) → IsSound room → (m : Mark) (behind rest : List ℕ) (v : Tree) → AreBytes behind → value_after_token (suc room) (lexeme.mark m) behind ≡ Ok (v, rest) → Goes (suc room) (lexeme.mark m) behind v rest
unfolding value_after_token
mark_goes room sound m behind rest v ok e =
    elim (chosen (same m StartList) _ _ (Ok (v, rest)) e) [
      | inl w ↦ list_goes room sound m behind rest v ok w.0 w.1
      | inr w1 ↦
          elim (chosen (same m StartName) _ _ (Ok (v, rest)) w1.1) [ inl w ↦ named_goes room sound m behind rest v ok w.0 w.1 | inr w ↦ absurd (let h : Err Unbalanced ≡ read v rest = w.1 in cc) ]
    ]

number_goes : (room n : ℕ) (behind rest : List ℕ) (v : Tree) → value_after_token room (lexeme.number n) behind ≡ Ok (v, rest) → Goes room (lexeme.number n) behind v rest
number_goes room n behind rest v e =
    let q = read_is (number n) v behind rest (sym (is_a_number room n behind) ∙ e) in
    ([], q.1, λ front h. rw append-nil (subst (IsValue room front) q.0 (a_number h)))

bytes_go : (room : ℕ) (b behind rest : List ℕ) (v : Tree) → value_after_token room (lexeme.bytes b) behind ≡ Ok (v, rest) → Goes room (lexeme.bytes b) behind v rest
bytes_go room b behind rest v e =
    let q = read_is (bytes b) v behind rest (sym (are_bytes room b behind) ∙ e) in
    ([], q.1, λ front h. rw append-nil (subst (IsValue room front) q.0 (some_bytes h)))

pub sound : (room : ℕ) → IsSound room
sound room (lexeme.number n) behind rest v ok e = number_goes room n behind rest v e
sound room (lexeme.bytes b) behind rest v ok e = bytes_go room b behind rest v e
sound zero (lexeme.mark m) behind rest v ok e = too_deep m behind rest v e
sound (suc room) (lexeme.mark m) behind rest v ok e = mark_goes room (sound room) m behind rest v ok e
