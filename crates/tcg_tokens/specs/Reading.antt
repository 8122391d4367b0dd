-- Reading from left to right. Each step is met in the order in which its token stands, so the fault that is
-- met first is that of the leftmost token that earns one.
use Rattle.std.specs.Prelude.{ℕ, zero, suc, List, [], ◌∷◌, length, Result, Ok, Err, Bool, ◌==◌, if◌then◌else◌}
use Rattle.tcg_tokens.specs.declared.error.TokenError.{TokenError}
use Rattle.tcg_tokens.specs.declared.error.TokenError.TheVariants.{Truncated, Unbalanced, Extra, Deep}
use Rattle.tcg_tokens.specs.declared.token.Mark.{Mark}
use Rattle.tcg_tokens.specs.declared.token.Mark.TheVariants.{StartList, EndList, StartName, EndName, Call, EndOfData, EndOfSession, StartTransaction, EndTransaction}
use Rattle.tcg_tokens.specs.Grammar.{room_inside}
use Rattle.tcg_tokens.specs.Lex.{◌>>=◌, skip, token_at}
use Rattle.tcg_tokens.specs.Lexeme.{Lexeme, same, is_mark}
use Rattle.tcg_tokens.specs.Lexeme as lexeme
use Rattle.tcg_tokens.specs.Tree.{Tree, Trees, number, bytes, list, named, empty, more}
use Rattle.tcg_tokens.specs.Message.{Message, uid_size, call, reply, end_session, begin, end}

-- that mark, and nothing else
unfoldable pub expect : Mark → List ℕ → Result (List ℕ) TokenError
expect m text = do
  t ← token_at text
  if is_mark m t.0 then Ok t.1 else Err Unbalanced

-- a number, where one must stand
abbrev pub number_token : Lexeme → List ℕ → Result (ℕ × List ℕ) TokenError
number_token (lexeme.number n) rest = Ok (n, rest)
number_token (lexeme.bytes b) rest = Err Unbalanced
number_token (lexeme.mark m) rest = Err Unbalanced

unfoldable pub number_at : List ℕ → Result (ℕ × List ℕ) TokenError
number_at text = do
  t ← token_at text
  number_token t.0 t.1

-- eight bytes, where a UID must stand
abbrev pub uid_token : Lexeme → List ℕ → Result (List ℕ × List ℕ) TokenError
uid_token (lexeme.number n) rest = Err Unbalanced
uid_token (lexeme.bytes b) rest = if length b == uid_size then Ok (b, rest) else Err Unbalanced
uid_token (lexeme.mark m) rest = Err Unbalanced

unfoldable pub uid_at : List ℕ → Result (List ℕ × List ℕ) TokenError
uid_at text = do
  t ← token_at text
  uid_token t.0 t.1

-- How a value is read on, behind its first token.
abbrev pub Behind : Type 0
Behind = Lexeme → List ℕ → Result (Tree × List ℕ) TokenError

-- The values up to the mark that ends their list, at most count of them: each has a byte at least.
unfoldable pub values_up_to : Behind → (count : ℕ) → List ℕ → Result (Trees × List ℕ) TokenError
values_up_to value_behind zero text = Err Truncated
values_up_to value_behind (suc count) text = do
  t ← token_at text
  if is_mark EndList t.0 then Ok (empty, t.1) else (do
    v ← value_behind t.0 t.1
    vs ← values_up_to value_behind count v.1
    Ok (more v.0 vs.0, vs.1))

-- the values of a list behind its first token
unfoldable pub list_with : Behind → List ℕ → Result (Trees × List ℕ) TokenError
list_with value_behind text = values_up_to value_behind (length text) text

-- a list behind its first token
unfoldable pub list_value_with : Behind → List ℕ → Result (Tree × List ℕ) TokenError
list_value_with value_behind text = do
  vs ← list_with value_behind text
  Ok (list vs.0, vs.1)

-- a name is a number or bytes
abbrev pub name_of : Lexeme → Result Tree TokenError
name_of (lexeme.number n) = Ok (number n)
name_of (lexeme.bytes b) = Ok (bytes b)
name_of (lexeme.mark m) = Err Unbalanced

-- a named value behind its first token
unfoldable pub named_with : Behind → List ℕ → Result (Tree × List ℕ) TokenError
named_with value_behind text = do
  n ← token_at text
  name ← name_of n.0
  t ← token_at n.1
  v ← value_behind t.0 t.1
  rest ← expect EndName v.1
  Ok (named name v.0, rest)

-- A value behind its first token, where room more lists and named values may be nested.
unfoldable pub value_after_token : (room : ℕ) → Behind
value_after_token room (lexeme.number n) rest = Ok (number n, rest)
value_after_token room (lexeme.bytes b) rest = Ok (bytes b, rest)
value_after_token zero (lexeme.mark m) rest =
    if same m StartList then Err Deep else (if same m StartName then Err Deep else Err Unbalanced)
value_after_token (suc room) (lexeme.mark m) rest =
    if same m StartList then list_value_with (value_after_token room) rest
    else (if same m StartName then named_with (value_after_token room) rest else Err Unbalanced)

-- the values of an outermost list, behind its first token
unfoldable pub list_at : List ℕ → Result (Trees × List ℕ) TokenError
list_at text = list_with (value_after_token room_inside) text

-- the three numbers of a status, as a list
unfoldable pub status_at : List ℕ → Result (List ℕ × List ℕ) TokenError
status_at text = do
  start ← expect StartList text
  a ← number_at start
  b ← number_at a.1
  c ← number_at b.1
  rest ← expect EndList c.1
  Ok (a.0 ∷ b.0 ∷ c.0 ∷ [], rest)

-- a call behind its first token
unfoldable pub call_at : List ℕ → Result (Message × List ℕ) TokenError
call_at text = do
  object ← uid_at text
  method ← uid_at object.1
  start ← expect StartList method.1
  args ← list_at start
  data_end ← expect EndOfData args.1
  status ← status_at data_end
  Ok (call object.0 method.0 args.0 status.0, status.1)

-- a reply behind its first token
unfoldable pub reply_at : List ℕ → Result (Message × List ℕ) TokenError
reply_at text = do
  results ← list_at text
  data_end ← expect EndOfData results.1
  status ← status_at data_end
  Ok (reply results.0 status.0, status.1)

-- an item behind its first token, a mark
abbrev pub marked_of : Mark → List ℕ → Result (Message × List ℕ) TokenError
marked_of Call rest = call_at rest
marked_of StartList rest = reply_at rest
marked_of EndOfSession rest = Ok (end_session, rest)
marked_of StartTransaction rest = number_at rest >>= λ n. Ok (begin n.0, n.1)
marked_of EndTransaction rest = number_at rest >>= λ n. Ok (end n.0, n.1)
marked_of EndList rest = Err Unbalanced
marked_of StartName rest = Err Unbalanced
marked_of EndName rest = Err Unbalanced
marked_of EndOfData rest = Err Unbalanced

-- an item begins with a mark
abbrev pub message_of : Lexeme → List ℕ → Result (Message × List ℕ) TokenError
message_of (lexeme.number n) rest = Err Unbalanced
message_of (lexeme.bytes b) rest = Err Unbalanced
message_of (lexeme.mark m) rest = marked_of m rest

unfoldable pub message_at : List ℕ → Result (Message × List ℕ) TokenError
message_at text = do
  t ← token_at text
  message_of t.0 t.1

-- nothing but empty atoms
abbrev pub is_blank : List ℕ → Bool
is_blank text = length (skip text) == 0

-- one item, and nothing but empty atoms behind it
unfoldable pub reading : List ℕ → Result Message TokenError
reading text = do
  i ← message_at text
  if is_blank i.1 then Ok i.0 else Err Extra
