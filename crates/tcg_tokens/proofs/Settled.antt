-- A fault other than Truncated stays, whatever bytes follow.
use Rattle.std.proofs.Common.{◌≡◌, ℕ, zero, suc, ◌%◌, ◌^◌, ◌≤◌, Bool, true, false, cond, ltb, eqb, List, [], ◌∷◌, ◌++◌, length, take, drop, Option, Some, None, Result, Ok, Err, refl, sym, subst, arith, inl, inr}
use Rattle.std.specs.Prelude.{◌≢◌, if◌then◌else◌}
use Rattle.std.proofs.lemmas.Bool.{ltb-false, le-ltb}
use Rattle.std.proofs.lemmas.Bool.Decides.{nat_tests}
use Rattle.std.proofs.lemmas.List.{length-append, take-append-le, drop-append-le}
use Rattle.tcg_tokens.specs.declared.error.TokenError.{TokenError}
use Rattle.tcg_tokens.specs.declared.error.TokenError.TheVariants.{Truncated, Reserved, Signed, Continued, TooBig, Unbalanced, Extra, Deep, OutOfMemory}
use Rattle.tcg_tokens.specs.declared.token.Mark.{Mark}
use Rattle.tcg_tokens.specs.declared.token.Mark.TheVariants.{StartList, EndList, StartName, EndName, Call, EndOfData, EndOfSession, StartTransaction, EndTransaction}
use Rattle.tcg_tokens.specs.declared.form.Form.{Form}
use Rattle.tcg_tokens.specs.declared.form.Form.TheVariants.{Short, Medium, Long}
use Rattle.tcg_tokens.specs.Atoms.{tiny_limit, least, upper_range, length_bytes, sign_bit, kind_bit, end_of, has_bit}
use Rattle.tcg_tokens.specs.Grammar.{room_inside}
use Rattle.tcg_tokens.specs.Lexeme.{Lexeme, number_from, same, is_mark}
use Rattle.tcg_tokens.specs.Lexeme as lexeme
use Rattle.tcg_tokens.specs.Lex.{◌>>=◌, content_lexeme, content_at, atom_at, form_at, mark_of, marked, mark_at, lexeme_at, first_lexeme, token_at}
use Rattle.tcg_tokens.specs.Tree.{Tree}
use Rattle.tcg_tokens.specs.declared.value.Item.{Item}
use Rattle.tcg_tokens.specs.Gives.{Fails, Gives}
use Rattle.tcg_tokens.specs.Message.{Message, message}
use Rattle.tcg_tokens.specs.Reading.{Behind, expect, number_token, number_at, uid_token, uid_at, values_up_to, list_with, list_value_with, name_of, named_with, value_after_token, list_at, status_at, call_at, reply_at, marked_of, message_of, message_at, is_blank, reading}
use Rattle.tcg_tokens.proofs.Tokens.{bool_cases}

-- the fault stays, unless the bytes only ended too early
abbrev Stays : {Y : Type 0} → TokenError → Result Y TokenError → Type 0
Stays Truncated after = Unit {0}
Stays e after = after ≡ Err e

abbrev fault : TokenError → Result Message TokenError
fault e = Err e

-- what is read stays, with more bytes behind it, and so does a fault
abbrev Extends : {A : Type 0} → (A → A) → Result A TokenError → Result A TokenError → Type 0
Extends push (Ok x) after = after ≡ Ok (push x)
Extends push (Err e) after = Stays e after

abbrev longer : {A : Type 0} → List ℕ → A × List ℕ → A × List ℕ
longer more x = (x.0, x.1 ++ more)

stays_bind : {A B : Type 0} (e : TokenError) (r : Result A TokenError) (f : A → Result B TokenError) → Stays e r → Stays e (r >>= f)
stays_bind Truncated r f h = tt
stays_bind Reserved r f h = rw h refl
stays_bind Signed r f h = rw h refl
stays_bind Continued r f h = rw h refl
stays_bind TooBig r f h = rw h refl
stays_bind Unbalanced r f h = rw h refl
stays_bind Extra r f h = rw h refl
stays_bind Deep r f h = rw h refl
stays_bind OutOfMemory r f h = rw h refl

bind : {A B : Type 0} (p : A → A) (q : B → B) (r s : Result A TokenError) (f g : A → Result B TokenError) → Extends p r s → ((x : A) → Extends q (f x) (g (p x))) → Extends q (r >>= f) (s >>= g)
bind p q (Ok x) s f g h k = rw h (k x)
bind p q (Err e) s f g h k = stays_bind e s g h

choice : {A : Type 0} (p : A → A) (b : Bool) (r r' s s' : Result A TokenError) → Extends p r r' → Extends p s s' → Extends p (cond b r s) (cond b r' s')
choice p true r r' s s' h k = h
choice p false r r' s s' h k = k

-- ---- a token

module _ (more : List ℕ) where
  abbrev Keeps : {A : Type 0} → Result (A × List ℕ) TokenError → Result (A × List ℕ) TokenError → Type 0
  Keeps r s = Extends (longer more) r s

  content_keeps : (is_bytes : Bool) (len : ℕ) (rest : List ℕ) → Keeps (content_at is_bytes len rest) (content_at is_bytes len (rest ++ more))
  content_keeps is_bytes len rest =
      elim (bool_cases (ltb (length rest) len)) [
        | inl w ↦ rw w tt
        | inr w ↦
            let le : len ≤ length rest = ltb-false _ _ w in
            let still : ltb (length (rest ++ more)) len ≡ false = le-ltb _ _ (omega (arith, length-append rest more)) in
            rw (w, still, take-append-le len rest more le, drop-append-le len rest more le) (kept is_bytes (take len rest) (drop len rest))
      ]
    where
      kept : (is_bytes : Bool) (content after : List ℕ) → Keeps (content_lexeme is_bytes content after) (content_lexeme is_bytes content (after ++ more))
      kept true content after = refl
      kept false content after = choice (longer more) (ltb (number_from 0 content) (2 ^ 64)) _ _ _ _ refl refl

  atom_keeps : (is_bytes is_signed : Bool) (upper width : ℕ) (rest : List ℕ) → Keeps (atom_at is_bytes is_signed upper width rest) (atom_at is_bytes is_signed upper width (rest ++ more))
  atom_keeps true true upper width rest = refl
  atom_keeps false true upper width rest = refl
  atom_keeps is_bytes false upper width rest =
      elim (bool_cases (ltb (length rest) width)) [
        | inl w ↦ rw w tt
        | inr w ↦
            let le : width ≤ length rest = ltb-false _ _ w in
            let still : ltb (length (rest ++ more)) width ≡ false = le-ltb _ _ (omega (arith, length-append rest more)) in
            rw (w, still, take-append-le width rest more le, drop-append-le width rest more le) (content_keeps is_bytes (number_from upper (take width rest)) (drop width rest))
      ]

  mark_keeps : (b : ℕ) (rest : List ℕ) → Keeps (mark_at b rest) (mark_at b (rest ++ more))
  mark_keeps b rest = kept (mark_of b)
    where
      kept : (o : Option Mark) → Keeps (marked o rest) (marked o (rest ++ more))
      kept None = refl
      kept (Some m) = refl

  form_keeps : (form : Form) (b : ℕ) (rest : List ℕ) → Keeps (form_at form b rest) (form_at form b (rest ++ more))
  form_keeps form b rest = atom_keeps (has_bit (kind_bit form) b) (has_bit (sign_bit form) b) (b % upper_range form) (length_bytes form) rest

  lexeme_keeps : (b : ℕ) (rest : List ℕ) → Keeps (lexeme_at b rest) (lexeme_at b (rest ++ more))
  lexeme_keeps b rest =
      choice (longer more) (ltb b tiny_limit) _ _ _ _ refl (choice (longer more) (ltb b (least Short)) _ _ _ _ refl
      (choice (longer more) (ltb b (least Medium)) _ _ _ _ (form_keeps Short b rest)
      (choice (longer more) (ltb b (least Long)) _ _ _ _ (form_keeps Medium b rest)
      (choice (longer more) (ltb b (end_of Long)) _ _ _ _ (form_keeps Long b rest) (mark_keeps b rest)))))

  token_keeps : (text : List ℕ) → Keeps (token_at text) (token_at (text ++ more))
  unfolding first_lexeme
  token_keeps [] = tt
  token_keeps (b ∷ bs) = elim (bool_cases (eqb b 0xff)) [ inl w ↦ rw w (token_keeps bs) | inr w ↦ rw w (lexeme_keeps b bs) ]

  -- ---- values

  abbrev KeepsRest : Result (List ℕ) TokenError → Result (List ℕ) TokenError → Type 0
  KeepsRest r s = Extends (λ rest. rest ++ more) r s

  expect_keeps : (m : Mark) (text : List ℕ) → KeepsRest (expect m text) (expect m (text ++ more))
  unfolding expect
  expect_keeps m text = bind (longer more) (λ rest. rest ++ more) (token_at text) (token_at (text ++ more)) _ _ (token_keeps text) (λ t. choice (λ rest. rest ++ more) (is_mark m t.0) _ _ _ _ refl refl)

  values_keep : (behind : Behind) → ((t : Lexeme) (rest : List ℕ) → Keeps (behind t rest) (behind t (rest ++ more))) → (count count' : ℕ) → count ≤ count' → (text : List ℕ)
      → Keeps (values_up_to behind count text) (values_up_to behind count' (text ++ more))
  unfolding values_up_to
  values_keep behind h zero count' le text = tt
  values_keep behind h (suc count) zero le text = absurd (omega arith)
  values_keep behind h (suc count) (suc count') le text =
      bind (longer more) (longer more) (token_at text) (token_at (text ++ more)) _ _ (token_keeps text) (λ t.
      choice (longer more) (is_mark EndList t.0) _ _ _ _ refl
      (bind (longer more) (longer more) (behind t.0 t.1) (behind t.0 (t.1 ++ more)) _ _ (h t.0 t.1) (λ v.
      bind (longer more) (longer more) (values_up_to behind count v.1) (values_up_to behind count' (v.1 ++ more)) _ _ (values_keep behind h count count' (omega arith) v.1) (λ vs. refl))))

  list_keeps : (behind : Behind) → ((t : Lexeme) (rest : List ℕ) → Keeps (behind t rest) (behind t (rest ++ more))) → (text : List ℕ) → Keeps (list_with behind text) (list_with behind (text ++ more))
  unfolding list_with
  list_keeps behind h text = values_keep behind h (length text) (length (text ++ more)) (omega (arith, length-append text more)) text

  list_value_keeps : (behind : Behind) → ((t : Lexeme) (rest : List ℕ) → Keeps (behind t rest) (behind t (rest ++ more))) → (text : List ℕ) → Keeps (list_value_with behind text) (list_value_with behind (text ++ more))
  unfolding list_value_with
  list_value_keeps behind h text = bind (longer more) (longer more) (list_with behind text) (list_with behind (text ++ more)) _ _ (list_keeps behind h text) (λ vs. refl)

  named_keeps : (behind : Behind) → ((t : Lexeme) (rest : List ℕ) → Keeps (behind t rest) (behind t (rest ++ more))) → (text : List ℕ) → Keeps (named_with behind text) (named_with behind (text ++ more))
  unfolding named_with
  named_keeps behind h text =
      bind (longer more) (longer more) (token_at text) (token_at (text ++ more)) _ _ (token_keeps text) (λ n.
      bind (λ (x : Tree). x) (longer more) (name_of n.0) (name_of n.0) _ _ (name_keeps n.0) (λ name.
      bind (longer more) (longer more) (token_at n.1) (token_at (n.1 ++ more)) _ _ (token_keeps n.1) (λ t.
      bind (longer more) (longer more) (behind t.0 t.1) (behind t.0 (t.1 ++ more)) _ _ (h t.0 t.1) (λ v.
      bind (λ rest. rest ++ more) (longer more) (expect EndName v.1) (expect EndName (v.1 ++ more)) _ _ (expect_keeps EndName v.1) (λ rest. refl)))))
    where
      name_keeps : (t : Lexeme) → Extends (λ (x : Tree). x) (name_of t) (name_of t)
      name_keeps (lexeme.number n) = refl
      name_keeps (lexeme.bytes b) = refl
      name_keeps (lexeme.mark m) = refl

  value_keeps : (room : ℕ) (t : Lexeme) (rest : List ℕ) → Keeps (value_after_token room t rest) (value_after_token room t (rest ++ more))
  unfolding value_after_token
  value_keeps zero (lexeme.number n) rest = refl
  value_keeps (suc room) (lexeme.number n) rest = refl
  value_keeps zero (lexeme.bytes b) rest = refl
  value_keeps (suc room) (lexeme.bytes b) rest = refl
  value_keeps zero (lexeme.mark m) rest = choice (longer more) (same m StartList) _ _ _ _ refl (choice (longer more) (same m StartName) _ _ _ _ refl refl)
  value_keeps (suc room) (lexeme.mark m) rest =
      choice (longer more) (same m StartList) _ _ _ _ (list_value_keeps (value_after_token room) (value_keeps room) rest)
      (choice (longer more) (same m StartName) _ _ _ _ (named_keeps (value_after_token room) (value_keeps room) rest) refl)

  -- ---- items

  number_keeps : (text : List ℕ) → Keeps (number_at text) (number_at (text ++ more))
  unfolding number_at
  number_keeps text = bind (longer more) (longer more) (token_at text) (token_at (text ++ more)) _ _ (token_keeps text) (λ t. kept t.0 t.1)
    where
      kept : (t : Lexeme) (rest : List ℕ) → Keeps (number_token t rest) (number_token t (rest ++ more))
      kept (lexeme.number n) rest = refl
      kept (lexeme.bytes b) rest = refl
      kept (lexeme.mark m) rest = refl

  uid_keeps : (text : List ℕ) → Keeps (uid_at text) (uid_at (text ++ more))
  unfolding uid_at
  uid_keeps text = bind (longer more) (longer more) (token_at text) (token_at (text ++ more)) _ _ (token_keeps text) (λ t. kept t.0 t.1)
    where
      kept : (t : Lexeme) (rest : List ℕ) → Keeps (uid_token t rest) (uid_token t (rest ++ more))
      kept (lexeme.number n) rest = refl
      kept (lexeme.bytes b) rest = choice (longer more) (eqb (length b) 8) _ _ _ _ refl refl
      kept (lexeme.mark m) rest = refl

  values_of_list_keep : (text : List ℕ) → Keeps (list_at text) (list_at (text ++ more))
  unfolding list_at
  values_of_list_keep text = list_keeps (value_after_token room_inside) (value_keeps room_inside) text

  status_keeps : (text : List ℕ) → Keeps (status_at text) (status_at (text ++ more))
  unfolding status_at
  status_keeps text =
      bind (λ rest. rest ++ more) (longer more) (expect StartList text) (expect StartList (text ++ more)) _ _ (expect_keeps StartList text) (λ start.
      bind (longer more) (longer more) (number_at start) (number_at (start ++ more)) _ _ (number_keeps start) (λ a.
      bind (longer more) (longer more) (number_at a.1) (number_at (a.1 ++ more)) _ _ (number_keeps a.1) (λ b.
      bind (longer more) (longer more) (number_at b.1) (number_at (b.1 ++ more)) _ _ (number_keeps b.1) (λ c.
      bind (λ rest. rest ++ more) (longer more) (expect EndList c.1) (expect EndList (c.1 ++ more)) _ _ (expect_keeps EndList c.1) (λ rest. refl)))))

  call_keeps : (text : List ℕ) → Keeps (call_at text) (call_at (text ++ more))
  unfolding call_at
  call_keeps text =
      bind (longer more) (longer more) (uid_at text) (uid_at (text ++ more)) _ _ (uid_keeps text) (λ object.
      bind (longer more) (longer more) (uid_at object.1) (uid_at (object.1 ++ more)) _ _ (uid_keeps object.1) (λ method.
      bind (λ rest. rest ++ more) (longer more) (expect StartList method.1) (expect StartList (method.1 ++ more)) _ _ (expect_keeps StartList method.1) (λ start.
      bind (longer more) (longer more) (list_at start) (list_at (start ++ more)) _ _ (values_of_list_keep start) (λ args.
      bind (λ rest. rest ++ more) (longer more) (expect EndOfData args.1) (expect EndOfData (args.1 ++ more)) _ _ (expect_keeps EndOfData args.1) (λ data_end.
      bind (longer more) (longer more) (status_at data_end) (status_at (data_end ++ more)) _ _ (status_keeps data_end) (λ status. refl))))))

  reply_keeps : (text : List ℕ) → Keeps (reply_at text) (reply_at (text ++ more))
  unfolding reply_at
  reply_keeps text =
      bind (longer more) (longer more) (list_at text) (list_at (text ++ more)) _ _ (values_of_list_keep text) (λ results.
      bind (λ rest. rest ++ more) (longer more) (expect EndOfData results.1) (expect EndOfData (results.1 ++ more)) _ _ (expect_keeps EndOfData results.1) (λ data_end.
      bind (longer more) (longer more) (status_at data_end) (status_at (data_end ++ more)) _ _ (status_keeps data_end) (λ status. refl)))

  marked_keeps : (m : Mark) (text : List ℕ) → Keeps (marked_of m text) (marked_of m (text ++ more))
  marked_keeps Call text = call_keeps text
  marked_keeps StartList text = reply_keeps text
  marked_keeps EndOfSession text = refl
  marked_keeps StartTransaction text = bind (longer more) (longer more) (number_at text) (number_at (text ++ more)) _ _ (number_keeps text) (λ n. refl)
  marked_keeps EndTransaction text = bind (longer more) (longer more) (number_at text) (number_at (text ++ more)) _ _ (number_keeps text) (λ n. refl)
  marked_keeps EndList text = refl
  marked_keeps StartName text = refl
  marked_keeps EndName text = refl
  marked_keeps EndOfData text = refl

  item_keeps : (text : List ℕ) → Keeps (message_at text) (message_at (text ++ more))
  unfolding message_at
  item_keeps text = bind (longer more) (longer more) (token_at text) (token_at (text ++ more)) _ _ (token_keeps text) (λ t. kept t.0 t.1)
    where
      kept : (t : Lexeme) (rest : List ℕ) → Keeps (message_of t rest) (message_of t (rest ++ more))
      kept (lexeme.number n) rest = refl
      kept (lexeme.bytes b) rest = refl
      kept (lexeme.mark m) rest = marked_keeps m rest

  no_length : (b : ℕ) (bs : List ℕ) → eqb (length (b ∷ bs)) 0 ≡ false
  no_length b bs = grind (arith, nat_tests)

  not_blank : (text : List ℕ) → is_blank text ≡ false → is_blank (text ++ more) ≡ false
  not_blank [] e = absurd cc
  not_blank (b ∷ bs) e = elim (bool_cases (eqb b 0xff)) [ inl w ↦ rw w (not_blank bs (rw w at e)) | inr w ↦ rw w (no_length b (bs ++ more)) ]

  abbrev whole : Message × List ℕ → Result Message TokenError
  whole i = if is_blank i.1 then Ok i.0 else Err Extra

  fault_inj : (d e : TokenError) → fault d ≡ fault e → d ≡ e
  fault_inj d e h = cc

  whole_settled : (r s : Result (Message × List ℕ) TokenError) → Keeps r s → (e : TokenError) → (r >>= whole) ≡ Err e → e ≢ Truncated → (s >>= whole) ≡ Err e
  whole_settled (Ok i) s h e is_fault not_cut =
      elim (bool_cases (is_blank i.1)) [
        | inl w ↦ absurd (let k : Ok i.0 ≡ Err e = rw w at is_fault in cc)
        | inr w ↦ let still : is_blank (i.1 ++ more) ≡ false = not_blank i.1 w in rw (h, still) (rw w at is_fault)
      ]
  whole_settled (Err Truncated) s h e is_fault not_cut = absurd (not_cut (err_inj e is_fault))
    where
      err_inj : (e : TokenError) → ((Err Truncated) >>= whole) ≡ Err e → e ≡ Truncated
      err_inj e is_fault = sym (fault_inj Truncated e is_fault)
  whole_settled (Err Reserved) s h e is_fault not_cut = rw h is_fault
  whole_settled (Err Signed) s h e is_fault not_cut = rw h is_fault
  whole_settled (Err Continued) s h e is_fault not_cut = rw h is_fault
  whole_settled (Err TooBig) s h e is_fault not_cut = rw h is_fault
  whole_settled (Err Unbalanced) s h e is_fault not_cut = rw h is_fault
  whole_settled (Err Extra) s h e is_fault not_cut = rw h is_fault
  whole_settled (Err Deep) s h e is_fault not_cut = rw h is_fault
  whole_settled (Err OutOfMemory) s h e is_fault not_cut = rw h is_fault

  pub settled : (text : List ℕ) (e : TokenError) → reading text ≡ Err e → e ≢ Truncated → reading (text ++ more) ≡ Err e
  unfolding reading
  settled text e is_fault not_cut = whole_settled (message_at text) (message_at (text ++ more)) (item_keeps text) e is_fault not_cut

fault_is : {Y : Type 0} (e : TokenError) (r : Result Y TokenError) → Fails e r → e ≢ OutOfMemory → r ≡ Err e
fault_is Truncated r h ne = h
fault_is Reserved r h ne = h
fault_is Signed r h ne = h
fault_is Continued r h ne = h
fault_is TooBig r h ne = h
fault_is Unbalanced r h ne = h
fault_is Extra r h ne = h
fault_is Deep r h ne = h
fault_is OutOfMemory r h ne = absurd (ne refl)

-- what a function gives that gives the reading
pub settled_result : (text : List ℕ) (r : Result Item TokenError) → Gives message r (reading text) → (e : TokenError) → r ≡ Err e → e ≢ Truncated → e ≢ OutOfMemory → (more : List ℕ) → reading (text ++ more) ≡ Err e
settled_result text r gives e is_fault not_cut not_memory more =
    let fails : Fails e (reading text) = subst (λ (x : Result Item TokenError). Gives message x (reading text)) is_fault gives in
    settled more text e (fault_is e (reading text) fails not_memory) not_cut
