-- Faults of bytes: want of memory is none, and each is that of the shortest front of the bytes that has one.
use Rattle.std.proofs.Common.{◌≡◌, ℕ, zero, suc, ◌%◌, ◌^◌, Bool, true, false, cond, ltb, eqb, List, [], ◌∷◌, length, take, drop, Option, Some, None, Result, Ok, Err, refl, sym, ap, ◌∙◌}
use Rattle.tcg_tokens.specs.declared.error.TokenError.{TokenError}
use Rattle.tcg_tokens.specs.declared.error.TokenError.TheVariants.{OutOfMemory}
use Rattle.tcg_tokens.specs.declared.token.Mark.{Mark}
use Rattle.tcg_tokens.specs.declared.token.Mark.TheVariants.{StartList, EndList, StartName, EndName, Call, EndOfData, EndOfSession, StartTransaction, EndTransaction}
use Rattle.tcg_tokens.specs.declared.form.Form.{Form}
use Rattle.tcg_tokens.specs.declared.form.Form.TheVariants.{Short, Medium, Long}
use Rattle.tcg_tokens.specs.Atoms.{tiny_limit, least, upper_range, length_bytes, sign_bit, kind_bit, end_of, has_bit}
use Rattle.tcg_tokens.specs.Grammar.{room_inside}
use Rattle.tcg_tokens.specs.Lexeme.{Lexeme, number_from, same, is_mark}
use Rattle.tcg_tokens.specs.Lexeme as lexeme
use Rattle.tcg_tokens.specs.Lex.{◌>>=◌, content_lexeme, content_at, atom_at, form_at, mark_of, marked, mark_at, lexeme_at, skip, first_lexeme, token_at}
use Rattle.tcg_tokens.specs.Message.{Message}
use Rattle.tcg_tokens.specs.Reading.{Behind, expect, number_token, number_at, uid_token, uid_at, values_up_to, list_with, list_value_with, name_of, named_with, value_after_token, list_at, status_at, call_at, reply_at, marked_of, message_of, message_at, is_blank, reading}

-- ---- want of memory is no fault of bytes

abbrev is_want : TokenError → Bool
is_want OutOfMemory = true
is_want _ = false

abbrev wants : {A : Type 0} → Result A TokenError → Bool
wants (Ok x) = false
wants (Err e) = is_want e

abbrev Fine : {A : Type 0} → Result A TokenError → Type 0
Fine r = wants r ≡ false

bind : {A B : Type 0} (r : Result A TokenError) (f : A → Result B TokenError) → Fine r → ((x : A) → Fine (f x)) → Fine (r >>= f)
bind (Ok x) f h k = k x
bind (Err e) f h k = h

choice : {A : Type 0} (b : Bool) (r s : Result A TokenError) → Fine r → Fine s → Fine (cond b r s)
choice true r s h k = h
choice false r s h k = k

content_fine : (is_bytes : Bool) (len : ℕ) (rest : List ℕ) → Fine (content_at is_bytes len rest)
content_fine is_bytes len rest = choice (ltb (length rest) len) _ _ refl (kept is_bytes (take len rest) (drop len rest))
  where
    kept : (is_bytes : Bool) (content after : List ℕ) → Fine (content_lexeme is_bytes content after)
    kept true content after = refl
    kept false content after = choice (ltb (number_from 0 content) (2 ^ 64)) _ _ refl refl

atom_fine : (is_bytes is_signed : Bool) (upper width : ℕ) (rest : List ℕ) → Fine (atom_at is_bytes is_signed upper width rest)
atom_fine true true upper width rest = refl
atom_fine false true upper width rest = refl
atom_fine is_bytes false upper width rest = choice (ltb (length rest) width) _ _ refl (content_fine is_bytes (number_from upper (take width rest)) (drop width rest))

mark_fine : (b : ℕ) (rest : List ℕ) → Fine (mark_at b rest)
mark_fine b rest = kept (mark_of b)
  where
    kept : (o : Option Mark) → Fine (marked o rest)
    kept None = refl
    kept (Some m) = refl

form_fine : (form : Form) (b : ℕ) (rest : List ℕ) → Fine (form_at form b rest)
form_fine form b rest = atom_fine (has_bit (kind_bit form) b) (has_bit (sign_bit form) b) (b % upper_range form) (length_bytes form) rest

lexeme_fine : (b : ℕ) (rest : List ℕ) → Fine (lexeme_at b rest)
lexeme_fine b rest =
    choice (ltb b tiny_limit) _ _ refl (choice (ltb b (least Short)) _ _ refl
    (choice (ltb b (least Medium)) _ _ (form_fine Short b rest)
    (choice (ltb b (least Long)) _ _ (form_fine Medium b rest)
    (choice (ltb b (end_of Long)) _ _ (form_fine Long b rest) (mark_fine b rest)))))

first_fine : (text : List ℕ) → Fine (first_lexeme text)
unfolding first_lexeme
first_fine [] = refl
first_fine (b ∷ bs) = lexeme_fine b bs

token_fine : (text : List ℕ) → Fine (token_at text)
token_fine text = first_fine (skip text)

expect_fine : (m : Mark) (text : List ℕ) → Fine (expect m text)
unfolding expect
expect_fine m text = bind (token_at text) _ (token_fine text) (λ t. choice (is_mark m t.0) _ _ refl refl)

abbrev AllFine : Behind → Type 0
AllFine behind = (t : Lexeme) (rest : List ℕ) → Fine (behind t rest)

values_fine : (behind : Behind) → AllFine behind → (count : ℕ) (text : List ℕ) → Fine (values_up_to behind count text)
unfolding values_up_to
values_fine behind h zero text = refl
values_fine behind h (suc count) text =
    bind (token_at text) _ (token_fine text) (λ t. choice (is_mark EndList t.0) _ _ refl
    (bind (behind t.0 t.1) _ (h t.0 t.1) (λ v. bind (values_up_to behind count v.1) _ (values_fine behind h count v.1) (λ vs. refl))))

list_fine : (behind : Behind) → AllFine behind → (text : List ℕ) → Fine (list_with behind text)
unfolding list_with
list_fine behind h text = values_fine behind h (length text) text

list_value_fine : (behind : Behind) → AllFine behind → (text : List ℕ) → Fine (list_value_with behind text)
unfolding list_value_with
list_value_fine behind h text = bind (list_with behind text) _ (list_fine behind h text) (λ vs. refl)

name_fine : (t : Lexeme) → Fine (name_of t)
name_fine (lexeme.number n) = refl
name_fine (lexeme.bytes b) = refl
name_fine (lexeme.mark m) = refl

named_fine : (behind : Behind) → AllFine behind → (text : List ℕ) → Fine (named_with behind text)
unfolding named_with
named_fine behind h text =
    bind (token_at text) _ (token_fine text) (λ n. bind (name_of n.0) _ (name_fine n.0) (λ name. bind (token_at n.1) _ (token_fine n.1) (λ t.
    bind (behind t.0 t.1) _ (h t.0 t.1) (λ v. bind (expect EndName v.1) _ (expect_fine EndName v.1) (λ rest. refl)))))

value_fine : (room : ℕ) → AllFine (value_after_token room)
unfolding value_after_token
value_fine zero (lexeme.number n) rest = refl
value_fine (suc room) (lexeme.number n) rest = refl
value_fine zero (lexeme.bytes b) rest = refl
value_fine (suc room) (lexeme.bytes b) rest = refl
value_fine zero (lexeme.mark m) rest = choice (same m StartList) _ _ refl (choice (same m StartName) _ _ refl refl)
value_fine (suc room) (lexeme.mark m) rest =
    choice (same m StartList) _ _ (list_value_fine (value_after_token room) (value_fine room) rest)
    (choice (same m StartName) _ _ (named_fine (value_after_token room) (value_fine room) rest) refl)

number_fine : (text : List ℕ) → Fine (number_at text)
unfolding number_at
number_fine text = bind (token_at text) _ (token_fine text) (λ t. kept t.0 t.1)
  where
    kept : (t : Lexeme) (rest : List ℕ) → Fine (number_token t rest)
    kept (lexeme.number n) rest = refl
    kept (lexeme.bytes b) rest = refl
    kept (lexeme.mark m) rest = refl

uid_fine : (text : List ℕ) → Fine (uid_at text)
unfolding uid_at
uid_fine text = bind (token_at text) _ (token_fine text) (λ t. kept t.0 t.1)
  where
    kept : (t : Lexeme) (rest : List ℕ) → Fine (uid_token t rest)
    kept (lexeme.number n) rest = refl
    kept (lexeme.bytes b) rest = choice (eqb (length b) 8) _ _ refl refl
    kept (lexeme.mark m) rest = refl

values_of_list_fine : (text : List ℕ) → Fine (list_at text)
unfolding list_at
values_of_list_fine text = list_fine (value_after_token room_inside) (value_fine room_inside) text

status_fine : (text : List ℕ) → Fine (status_at text)
unfolding status_at
status_fine text =
    bind (expect StartList text) _ (expect_fine StartList text) (λ start. bind (number_at start) _ (number_fine start) (λ a. bind (number_at a.1) _ (number_fine a.1) (λ b.
    bind (number_at b.1) _ (number_fine b.1) (λ c. bind (expect EndList c.1) _ (expect_fine EndList c.1) (λ rest. refl)))))

call_fine : (text : List ℕ) → Fine (call_at text)
unfolding call_at
call_fine text =
    bind (uid_at text) _ (uid_fine text) (λ object. bind (uid_at object.1) _ (uid_fine object.1) (λ method. bind (expect StartList method.1) _ (expect_fine StartList method.1) (λ start.
    bind (list_at start) _ (values_of_list_fine start) (λ args. bind (expect EndOfData args.1) _ (expect_fine EndOfData args.1) (λ data_end. bind (status_at data_end) _ (status_fine data_end) (λ status. refl))))))

reply_fine : (text : List ℕ) → Fine (reply_at text)
unfolding reply_at
reply_fine text = bind (list_at text) _ (values_of_list_fine text) (λ results. bind (expect EndOfData results.1) _ (expect_fine EndOfData results.1) (λ data_end. bind (status_at data_end) _ (status_fine data_end) (λ status. refl)))

marked_fine : (m : Mark) (text : List ℕ) → Fine (marked_of m text)
marked_fine Call text = call_fine text
marked_fine StartList text = reply_fine text
marked_fine EndOfSession text = refl
marked_fine StartTransaction text = bind (number_at text) _ (number_fine text) (λ n. refl)
marked_fine EndTransaction text = bind (number_at text) _ (number_fine text) (λ n. refl)
marked_fine EndList text = refl
marked_fine StartName text = refl
marked_fine EndName text = refl
marked_fine EndOfData text = refl

item_fine : (text : List ℕ) → Fine (message_at text)
unfolding message_at
item_fine text = bind (token_at text) _ (token_fine text) (λ t. kept t.0 t.1)
  where
    kept : (t : Lexeme) (rest : List ℕ) → Fine (message_of t rest)
    kept (lexeme.number n) rest = refl
    kept (lexeme.bytes b) rest = refl
    kept (lexeme.mark m) rest = marked_fine m rest

reading_fine : (text : List ℕ) → Fine (reading text)
unfolding reading
reading_fine text = bind (message_at text) _ (item_fine text) (λ i. choice (is_blank i.1) _ _ refl refl)

wanted : (r : Result Message TokenError) → Fine r → r ≡ Err OutOfMemory → ⊥
wanted r h e = let k : wants r ≡ true = ap wants e in let clash : false ≡ true = sym h ∙ k in cc

pub no_want : (text : List ℕ) → reading text ≡ Err OutOfMemory → ⊥
no_want text e = wanted (reading text) (reading_fine text) e
