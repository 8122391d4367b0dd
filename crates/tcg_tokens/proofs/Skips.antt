-- What is behind something that is read, apart from what it says.
use Rattle.std.proofs.Common.{◌≡◌, ℕ, suc, ◌-◌, ◌+◌, ◌≤◌, ◌<◌, Bool, true, false, List, Result, Ok, Err, refl, sym, ap, ◌∙◌, arith}
use Rattle.std.specs.Prelude.{if◌then◌else◌}
use Rattle.tcg_tokens.specs.declared.error.TokenError.{TokenError}
use Rattle.tcg_tokens.specs.declared.error.TokenError.TheVariants.{Truncated, Unbalanced, Extra, Deep}
use Rattle.tcg_tokens.specs.declared.token.Mark.{Mark}
use Rattle.tcg_tokens.specs.declared.token.Mark.TheVariants.{EndList, StartList, StartName, EndName, EndOfData}
use Rattle.tcg_tokens.specs.Gives.{rest_of, is_fault}
use Rattle.tcg_tokens.specs.Lexeme.{Lexeme, same, is_mark, AreBytes}
use Rattle.tcg_tokens.specs.Lexeme as lexeme
use Rattle.tcg_tokens.specs.Lex.{◌>>=◌, token_at}
use Rattle.tcg_tokens.specs.Tree.{Trees, list, named, more}
use Rattle.tcg_tokens.specs.Grammar.{Spells, room_inside}
use Rattle.tcg_tokens.specs.Message.{Message, call, reply}
use Rattle.tcg_tokens.specs.Reading.{Behind, expect, uid_at, values_up_to, list_with, list_value_with, name_of, named_with, value_after_token, list_at, status_at, call_at, reply_at, message_at, is_blank, reading}
use Rattle.tcg_tokens.proofs.Loop.{deep_list, deep_name, not_a_value, is_a_list, is_a_name, is_a_number, are_bytes}
use Rattle.tcg_tokens.proofs.Items.{all_taken}

-- behind something with its rest, and behind something without one
behind : {A B : Type 0} (r : Result (A × List ℕ) TokenError) (f : A × List ℕ → Result (B × List ℕ) TokenError) (g : List ℕ → Result (List ℕ) TokenError) → ((x : A × List ℕ) → rest_of (f x) ≡ g x.1) → rest_of (r >>= f) ≡ rest_of r >>= g
behind (Ok x) f g h = h x
behind (Err e) f g h = refl

along : {A B : Type 0} (r : Result A TokenError) (f : A → Result (B × List ℕ) TokenError) (g : A → Result (List ℕ) TokenError) → ((x : A) → rest_of (f x) ≡ g x) → rest_of (r >>= f) ≡ r >>= g
along (Ok x) f g h = h x
along (Err e) f g h = refl

-- what is made of it in the end does not matter
last : {B : Type 0} (r : Result (List ℕ) TokenError) (b : B) → rest_of (r >>= λ rest. Ok (b, rest)) ≡ r
last (Ok x) b = refl
last (Err e) b = refl

made : {A B : Type 0} (r : Result (A × List ℕ) TokenError) (f : A → B) → rest_of (r >>= λ x. Ok (f x.0, x.1)) ≡ rest_of r
made (Ok x) f = refl
made (Err e) f = refl

choice : {B : Type 0} (b : Bool) (r s : Result (B × List ℕ) TokenError) → rest_of (if b then r else s) ≡ (if b then rest_of r else rest_of s)
choice true r s = refl
choice false r s = refl

-- ---- values

pub list_value_rest : (value_behind : Behind) (text : List ℕ) → rest_of (list_value_with value_behind text) ≡ rest_of (list_with value_behind text)
unfolding list_value_with
list_value_rest value_behind text = made (list_with value_behind text) list

pub named_rest : (value_behind : Behind) (text : List ℕ) → rest_of (named_with value_behind text) ≡ (token_at text >>= λ n. name_of n.0 >>= λ name. token_at n.1 >>= λ t. rest_of (value_behind t.0 t.1) >>= λ after. expect EndName after)
unfolding named_with
named_rest value_behind text =
    along (token_at text) _ _ (λ n. along (name_of n.0) _ _ (λ name. along (token_at n.1) _ _ (λ t. behind (value_behind t.0 t.1) _ _ (λ v. last (expect EndName v.1) (named name v.0)))))

pub values_rest : (value_behind : Behind) (count : ℕ) (text : List ℕ)
    → rest_of (values_up_to value_behind (suc count) text) ≡ (token_at text >>= λ t. if is_mark EndList t.0 then Ok t.1 else (rest_of (value_behind t.0 t.1) >>= λ after. rest_of (values_up_to value_behind count after)))
unfolding values_up_to
values_rest value_behind count text =
    along (token_at text) _ _ (λ t. choice (is_mark EndList t.0) _ _ ∙ ap (λ (r : Result (List ℕ) TokenError). if is_mark EndList t.0 then Ok t.1 else r) (behind (value_behind t.0 t.1) _ _ (λ v. made (values_up_to value_behind count v.1) (λ (vs : Trees). more v.0 vs))))

pub deep_list_rest : (room : ℕ) (m : Mark) (rest : List ℕ) → room ≡ 0 → same m StartList ≡ true → rest_of (value_after_token room (lexeme.mark m) rest) ≡ Err Deep
deep_list_rest room m rest e is_list = ap rest_of (deep_list room m rest e is_list)

pub deep_name_rest : (room : ℕ) (m : Mark) (rest : List ℕ) → room ≡ 0 → same m StartList ≡ false → same m StartName ≡ true → rest_of (value_after_token room (lexeme.mark m) rest) ≡ Err Deep
deep_name_rest room m rest e no_list is_name = ap rest_of (deep_name room m rest e no_list is_name)

pub no_value_rest : (room : ℕ) (m : Mark) (rest : List ℕ) → same m StartList ≡ false → same m StartName ≡ false → rest_of (value_after_token room (lexeme.mark m) rest) ≡ Err Unbalanced
no_value_rest room m rest no_list no_name = ap rest_of (not_a_value room m rest no_list no_name)

pub a_list_rest : (room less : ℕ) (m : Mark) (rest : List ℕ) → room ≡ less + 1 → same m StartList ≡ true → rest_of (value_after_token room (lexeme.mark m) rest) ≡ rest_of (list_with (value_after_token less) rest)
a_list_rest room less m rest e is_list = ap rest_of (is_a_list room less m rest e is_list) ∙ list_value_rest (value_after_token less) rest

pub a_name_rest : (room less : ℕ) (m : Mark) (rest : List ℕ) → room ≡ less + 1 → same m StartList ≡ false → same m StartName ≡ true → rest_of (value_after_token room (lexeme.mark m) rest) ≡ rest_of (named_with (value_after_token less) rest)
a_name_rest room less m rest e no_list is_name = ap rest_of (is_a_name room less m rest e no_list is_name)

pub a_number_rest : (room n : ℕ) (rest : List ℕ) → rest_of (value_after_token room (lexeme.number n) rest) ≡ Ok rest
a_number_rest room n rest = ap rest_of (is_a_number room n rest)

pub bytes_rest : (room : ℕ) (b rest : List ℕ) → rest_of (value_after_token room (lexeme.bytes b) rest) ≡ Ok rest
bytes_rest room b rest = ap rest_of (are_bytes room b rest)

pub ruleset nesting = (deep_list_rest, deep_name_rest, no_value_rest, a_list_rest, a_name_rest, a_number_rest, bytes_rest)

-- ---- the values of a list, one after the other, as a loop does

module _ (one : Behind) (count i : ℕ) (text : List ℕ) (total : Result (List ℕ) TokenError) where
  abbrev At : Result (List ℕ) TokenError → Type 0
  At r = r ≡ total

  counted : i < count → rest_of (values_up_to one (count - i) text) ≡ (token_at text >>= λ t. if is_mark EndList t.0 then Ok t.1 else (rest_of (one t.0 t.1) >>= λ after. rest_of (values_up_to one (count - (i + 1)) after)))
  counted lt =
      let k : count - i ≡ suc (count - (i + 1)) = omega arith in
      rw k (values_rest one (count - (i + 1)) text)

  pub goes_on : (t : Lexeme) (rest after : List ℕ) → i < count → token_at text ≡ Ok (t, rest) → is_mark EndList t ≡ false → rest_of (one t rest) ≡ Ok after
      → At (rest_of (values_up_to one (count - i) text)) → At (rest_of (values_up_to one (count - (i + 1)) after))
  goes_on t rest after lt is_token no_end is_value so_far =
      let step = counted lt in
      let now = rw (is_token, no_end, is_value) at step in
      sym now ∙ so_far

  pub token_fails : (e : TokenError) → i < count → token_at text ≡ Err e → At (rest_of (values_up_to one (count - i) text)) → total ≡ Err e
  token_fails e lt h so_far =
      let step = counted lt in
      let now = rw h at step in
      sym so_far ∙ now

  pub value_fails : (e : TokenError) (t : Lexeme) (rest : List ℕ) → i < count → token_at text ≡ Ok (t, rest) → is_mark EndList t ≡ false → rest_of (one t rest) ≡ Err e
      → At (rest_of (values_up_to one (count - i) text)) → total ≡ Err e
  value_fails e t rest lt is_token no_end h so_far =
      let step = counted lt in
      let now = rw (is_token, no_end, h) at step in
      sym so_far ∙ now

  pub ends : (t : Lexeme) (rest : List ℕ) → i < count → token_at text ≡ Ok (t, rest) → is_mark EndList t ≡ true → At (rest_of (values_up_to one (count - i) text)) → total ≡ Ok rest
  ends t rest lt is_token is_end so_far =
      let step = counted lt in
      let now = rw (is_token, is_end) at step in
      sym so_far ∙ now

  pub runs_out : count ≤ i → At (rest_of (values_up_to one (count - i) text)) → total ≡ Err Truncated
  unfolding values_up_to
  runs_out le so_far =
      let k : count - i ≡ 0 = omega arith in
      let now : rest_of (values_up_to one (count - i) text) ≡ Err Truncated = rw k refl in
      sym so_far ∙ now

-- ---- items

-- what is behind the values of an outermost list
tail_rest : (text : List ℕ) (f : Trees → List ℕ → Message) → rest_of (list_with (value_after_token room_inside) text >>= λ vs. expect EndOfData vs.1 >>= λ data_end. status_at data_end >>= λ status. Ok (f vs.0 status.0, status.1)) ≡ (rest_of (list_with (value_after_token room_inside) text) >>= λ after. expect EndOfData after >>= λ data_end. rest_of (status_at data_end))
tail_rest text f = behind (list_with (value_after_token room_inside) text) _ _ (λ vs. along (expect EndOfData vs.1) _ _ (λ data_end. made (status_at data_end) (f vs.0)))

pub reply_rest : (text : List ℕ) → rest_of (reply_at text) ≡ (rest_of (list_with (value_after_token room_inside) text) >>= λ after. expect EndOfData after >>= λ data_end. rest_of (status_at data_end))
unfolding reply_at list_at
reply_rest text = tail_rest text reply

pub call_rest : (text : List ℕ) → rest_of (call_at text) ≡ (uid_at text >>= λ object. uid_at object.1 >>= λ method. expect StartList method.1 >>= λ start. rest_of (reply_at start))
unfolding call_at list_at
call_rest text =
    along (uid_at text) _ _ (λ object. along (uid_at object.1) _ _ (λ method. along (expect StartList method.1) _ _ (λ start. tail_rest start (call object.0 method.0) ∙ sym (reply_rest start))))

-- ---- all of the bytes

abbrev whole : Message × List ℕ → Result Message TokenError
whole i = if is_blank i.1 then Ok i.0 else Err Extra

bound_fails : (r : Result (Message × List ℕ) TokenError) (e : TokenError) → rest_of r ≡ Err e → (r >>= whole) ≡ Err e
bound_fails (Ok x) e h = absurd cc
bound_fails (Err d) e h = let same : d ≡ e = cc in ap (λ (x : TokenError). Err x) same

bound_ends : (r : Result (Message × List ℕ) TokenError) (rest : List ℕ) → rest_of r ≡ Ok rest → is_blank rest ≡ true → is_fault (r >>= whole) ≡ false
bound_ends (Ok x) rest h blank =
    let same : x.1 ≡ rest = cc in
    rw (same, blank) refl
bound_ends (Err d) rest h blank = absurd cc

bound_goes_on : (r : Result (Message × List ℕ) TokenError) (rest : List ℕ) → rest_of r ≡ Ok rest → is_blank rest ≡ false → (r >>= whole) ≡ Err Extra
bound_goes_on (Ok x) rest h blank =
    let same : x.1 ≡ rest = cc in
    rw (same, blank) refl
bound_goes_on (Err d) rest h blank = absurd cc

pub whole_fails : (text : List ℕ) (e : TokenError) → rest_of (message_at text) ≡ Err e → reading text ≡ Err e
unfolding reading
whole_fails text e h = bound_fails (message_at text) e h

pub whole_ends : (text rest : List ℕ) → rest_of (message_at text) ≡ Ok rest → is_blank rest ≡ true → is_fault (reading text) ≡ false
unfolding reading
whole_ends text rest h blank = bound_ends (message_at text) rest h blank

pub whole_goes_on : (text rest : List ℕ) → rest_of (message_at text) ≡ Ok rest → is_blank rest ≡ false → reading text ≡ Err Extra
unfolding reading
whole_goes_on text rest h blank = bound_goes_on (message_at text) rest h blank

pub ruleset naming = (named_rest)

pub ruleset calling = (call_rest)

pub ruleset replying = (reply_rest)

pub ruleset all_read = (whole_fails, whole_ends, whole_goes_on)

-- bytes without a fault spell an item
spelled_by : (text : List ℕ) (r : Result Message TokenError) → AreBytes text → reading text ≡ r → is_fault r ≡ false → (m : Message) × Spells text m
spelled_by text (Ok m) ok e h = (m, all_taken text m ok e)
spelled_by text (Err d) ok e h = absurd cc

pub spelled : (text : List ℕ) → AreBytes text → is_fault (reading text) ≡ false → (m : Message) × Spells text m
spelled text ok h = spelled_by text (reading text) ok refl h
