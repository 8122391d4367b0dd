-- Reading the values of a list one after the other, as a loop does.
use Rattle.std.proofs.Common.{◌≡◌, ℕ, zero, suc, add-one, ◌-◌, ◌+◌, ◌≤◌, ◌<◌, true, false, List, Result, Ok, Err, refl, sym, ap, ◌∙◌, arith}
use Rattle.tcg_tokens.specs.Lexeme.{Lexeme, is_mark, same}
use Rattle.tcg_tokens.specs.declared.error.TokenError.{TokenError}
use Rattle.tcg_tokens.specs.declared.error.TokenError.TheVariants.{Truncated, Reserved, Signed, Continued, TooBig, Unbalanced, Extra, Deep, OutOfMemory}
use Rattle.tcg_tokens.specs.declared.token.Mark.TheVariants.{EndList, StartList, StartName}
use Rattle.tcg_tokens.specs.declared.token.Mark.{Mark}
use Rattle.tcg_tokens.specs.Gives.{Fails}
use Rattle.tcg_tokens.specs.Lex.{◌>>=◌, token_at}
use Rattle.tcg_tokens.specs.Tree.{Tree, Trees, number, bytes, empty, more}
use Rattle.tcg_tokens.proofs.Trees.{◌+++◌, +++-empty, +++_assoc, tree_number, tree_bytes}
use Rattle.tcg_tokens.specs.Reading.{Behind, values_up_to, list_value_with, named_with, value_after_token}
use Rattle.tcg_tokens.specs.Lexeme as lexeme

-- a fault of one reading is the fault of another
pub Fails-along : {X Y : Type 0} (e : TokenError) (r : Result X TokenError) (s : Result Y TokenError) → ((d : TokenError) → r ≡ Err d → s ≡ Err d) → Fails e r → Fails e s
Fails-along Truncated r s f h = f Truncated h
Fails-along Reserved r s f h = f Reserved h
Fails-along Signed r s f h = f Signed h
Fails-along Continued r s f h = f Continued h
Fails-along TooBig r s f h = f TooBig h
Fails-along Unbalanced r s f h = f Unbalanced h
Fails-along Extra r s f h = f Extra h
Fails-along Deep r s f h = f Deep h
Fails-along OutOfMemory r s f h = tt

-- a fault that is the reading's
pub told : {Y : Type 0} (e : TokenError) (r : Result Y TokenError) → r ≡ Err e → Fails e r
told Truncated r h = h
told Reserved r h = h
told Signed r h = h
told Continued r h = h
told TooBig r h = h
told Unbalanced r h = h
told Extra r h = h
told Deep r h = h
told OutOfMemory r h = tt

-- what was read before, and what is still read
abbrev pub with_front : Trees → Result (Trees × List ℕ) TokenError → Result (Trees × List ℕ) TokenError
with_front front read = read >>= λ x. Ok (front +++ x.0, x.1)

regroup : (front : Trees) (v : Tree) (read : Result (Trees × List ℕ) TokenError) → with_front front (read >>= λ x. Ok (more v x.0, x.1)) ≡ with_front (front +++ more v empty) read
regroup front v (Ok x) = ap (λ (ts : Trees). Ok (ts, x.1)) (sym (+++_assoc front (more v empty) x.0))
regroup front v (Err e) = refl

module _ (one : Behind) (front : Trees) (count i : ℕ) (text : List ℕ) (total : Result (Trees × List ℕ) TokenError) where
  pub goes_on : (t : Lexeme) (rest : List ℕ) (v : Tree) (after : List ℕ) → i < count → token_at text ≡ Ok (t, rest) → is_mark EndList t ≡ false → one t rest ≡ Ok (v, after)
      → with_front front (values_up_to one (count - i) text) ≡ total → with_front (front +++ more v empty) (values_up_to one (count - (i + 1)) after) ≡ total
  unfolding values_up_to
  goes_on t rest v after lt is_token no_end is_value so_far =
      let k : count - i ≡ suc (count - (i + 1)) = omega arith in
      let step : with_front front (values_up_to one (count - i) text) ≡ with_front (front +++ more v empty) (values_up_to one (count - (i + 1)) after) = rw (k, is_token, no_end, is_value) (regroup front v (values_up_to one (count - (i + 1)) after)) in
      sym step ∙ so_far

  pub token_fails : (e : TokenError) → i < count → Fails e (token_at text) → with_front front (values_up_to one (count - i) text) ≡ total → Fails e total
  unfolding values_up_to
  token_fails e lt h so_far =
      let k : count - i ≡ suc (count - (i + 1)) = omega arith in
      Fails-along e (token_at text) total (λ d is_fault. let step : with_front front (values_up_to one (count - i) text) ≡ Err d = rw (k, is_fault) refl in sym so_far ∙ step) h

  pub value_fails : (e : TokenError) (t : Lexeme) (rest : List ℕ) → i < count → token_at text ≡ Ok (t, rest) → is_mark EndList t ≡ false → Fails e (one t rest)
      → with_front front (values_up_to one (count - i) text) ≡ total → Fails e total
  unfolding values_up_to
  value_fails e t rest lt is_token no_end h so_far =
      let k : count - i ≡ suc (count - (i + 1)) = omega arith in
      Fails-along e (one t rest) total (λ d is_fault. let step : with_front front (values_up_to one (count - i) text) ≡ Err d = rw (k, is_token, no_end, is_fault) refl in sym so_far ∙ step) h

  pub ends : (t : Lexeme) (rest : List ℕ) → i < count → token_at text ≡ Ok (t, rest) → is_mark EndList t ≡ true
      → with_front front (values_up_to one (count - i) text) ≡ total → total ≡ Ok (front, rest)
  unfolding values_up_to
  ends t rest lt is_token is_end so_far =
      let k : count - i ≡ suc (count - (i + 1)) = omega arith in
      let step : with_front front (values_up_to one (count - i) text) ≡ Ok (front, rest) = rw (k, is_token, is_end) (ap (λ (ts : Trees). Ok (ts, rest)) (+++-empty front)) in
      sym so_far ∙ step

  pub runs_out : count ≤ i → with_front front (values_up_to one (count - i) text) ≡ total → total ≡ Err Truncated
  unfolding values_up_to
  runs_out le so_far =
      let k : count - i ≡ 0 = omega arith in
      let step : with_front front (values_up_to one (count - i) text) ≡ Err Truncated = rw k refl in
      sym so_far ∙ step

-- ---- a value behind its first token

pub deep_list : (room : ℕ) (m : Mark) (rest : List ℕ) → room ≡ 0 → same m StartList ≡ true → value_after_token room (lexeme.mark m) rest ≡ Err Deep
unfolding value_after_token
deep_list zero m rest e is_list = rw is_list
deep_list (suc room) m rest e is_list = absurd (omega arith)

pub deep_name : (room : ℕ) (m : Mark) (rest : List ℕ) → room ≡ 0 → same m StartList ≡ false → same m StartName ≡ true → value_after_token room (lexeme.mark m) rest ≡ Err Deep
unfolding value_after_token
deep_name zero m rest e no_list is_name = rw (no_list, is_name)
deep_name (suc room) m rest e no_list is_name = absurd (omega arith)

pub not_a_value : (room : ℕ) (m : Mark) (rest : List ℕ) → same m StartList ≡ false → same m StartName ≡ false → value_after_token room (lexeme.mark m) rest ≡ Err Unbalanced
unfolding value_after_token
not_a_value zero m rest no_list no_name = rw (no_list, no_name)
not_a_value (suc room) m rest no_list no_name = rw (no_list, no_name)

pub is_a_list : (room less : ℕ) (m : Mark) (rest : List ℕ) → room ≡ less + 1 → same m StartList ≡ true → value_after_token room (lexeme.mark m) rest ≡ list_value_with (value_after_token less) rest
unfolding value_after_token
is_a_list room less m rest e is_list = rw (e, add-one, is_list)

pub is_a_name : (room less : ℕ) (m : Mark) (rest : List ℕ) → room ≡ less + 1 → same m StartList ≡ false → same m StartName ≡ true → value_after_token room (lexeme.mark m) rest ≡ named_with (value_after_token less) rest
unfolding value_after_token
is_a_name room less m rest e no_list is_name = rw (e, add-one, no_list, is_name)

pub is_a_number : (room n : ℕ) (rest : List ℕ) → value_after_token room (lexeme.number n) rest ≡ Ok (number n, rest)
unfolding value_after_token
is_a_number zero n rest = refl
is_a_number (suc room) n rest = refl

pub are_bytes : (room : ℕ) (b rest : List ℕ) → value_after_token room (lexeme.bytes b) rest ≡ Ok (bytes b, rest)
unfolding value_after_token
are_bytes zero b rest = refl
are_bytes (suc room) b rest = refl

pub ruleset nesting = (deep_list, deep_name, not_a_value, is_a_list, is_a_name, is_a_number, are_bytes, tree_number, tree_bytes)
