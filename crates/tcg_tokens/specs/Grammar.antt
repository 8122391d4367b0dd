-- The grammar: which bytes spell which tokens, values and items (TCG Core 2.01, section 3.2.2). It knows
-- nothing of reading or writing. A token may have several spellings.
use Rattle.std.specs.Prelude.{◌≡◌, ℕ, suc, ◌+◌, ◌-◌, ◌*◌, ◌<◌, ◌^◌, List, [], ◌∷◌, ◌++◌, length, Bool, true, false}
use Rattle.tcg_tokens.specs.declared.limits.TheConstants.{NESTING_LIMIT, NUMBER_BITS}
use Rattle.tcg_tokens.specs.declared.token.Mark.{Mark}
use Rattle.tcg_tokens.specs.declared.token.Mark.TheVariants.{StartList, EndList, StartName, EndName, Call, EndOfData, EndOfSession, StartTransaction, EndTransaction}
use Rattle.tcg_tokens.specs.declared.form.Form.TheVariants.{Short, Medium, Long}
use Rattle.tcg_tokens.specs.Atoms.{empty_atom, tiny_limit, upper_range, first_byte}
use Rattle.tcg_tokens.specs.Lexeme.{Lexeme, code_of, number_from}
use Rattle.tcg_tokens.specs.Lexeme as lexeme
use Rattle.tcg_tokens.specs.Tree.{Tree, Trees, number, bytes, list, named, empty, more}
use Rattle.tcg_tokens.specs.Message.{Message, uid_size, call, reply, end_session, begin, end}

-- the bytes before the content of an atom, and the length of the content: a short, a medium, a long atom
pub data IsHeader : Bool → List ℕ → ℕ → Type 0 where
  short : (is_bytes : Bool) (len : ℕ) → len < upper_range Short
      → IsHeader is_bytes ((first_byte Short is_bytes + len) ∷ []) len
  medium : (is_bytes : Bool) (high low : ℕ) → high < upper_range Medium → low < 256
      → IsHeader is_bytes ((first_byte Medium is_bytes + high) ∷ low ∷ []) (256 * high + low)
  long : (is_bytes : Bool) (high middle low : ℕ) → high < 256 → middle < 256 → low < 256
      → IsHeader is_bytes (first_byte Long is_bytes ∷ high ∷ middle ∷ low ∷ [])
      (256 * (256 * high + middle) + low)

-- a token: a tiny atom, an atom that is a number of any length whose value fits, one that is bytes, a mark
pub data IsTokenSpelling : List ℕ → Lexeme → Type 0 where
  tiny : (n : ℕ) → n < tiny_limit → IsTokenSpelling (n ∷ []) (lexeme.number n)
  number_atom : (head content : List ℕ) → IsHeader false head (length content)
      → number_from 0 content < 2 ^ NUMBER_BITS
      → IsTokenSpelling (head ++ content) (lexeme.number (number_from 0 content))
  bytes_atom : (head content : List ℕ) → IsHeader true head (length content)
      → IsTokenSpelling (head ++ content) (lexeme.bytes content)
  mark_byte : (m : Mark) → IsTokenSpelling (code_of m ∷ []) (lexeme.mark m)

-- a token behind any number of empty atoms
pub data IsToken : List ℕ → Lexeme → Type 0 where
  plain : {text : List ℕ} {t : Lexeme} → IsTokenSpelling text t → IsToken text t
  filled : {text : List ℕ} {t : Lexeme} → IsToken text t → IsToken (empty_atom ∷ text) t

-- the name of a named value
pub data IsName : List ℕ → Tree → Type 0 where
  number_name : {text : List ℕ} {n : ℕ} → IsToken text (lexeme.number n) → IsName text (number n)
  bytes_name : {text b : List ℕ} → IsToken text (lexeme.bytes b) → IsName text (bytes b)

-- a value, where room more lists and named values may be nested
mutual
  pub data IsValue : ℕ → List ℕ → Tree → Type 0 where
    a_number : {room : ℕ} {text : List ℕ} {n : ℕ} → IsToken text (lexeme.number n)
        → IsValue room text (number n)
    some_bytes : {room : ℕ} {text b : List ℕ} → IsToken text (lexeme.bytes b)
        → IsValue room text (bytes b)
    a_list : {room : ℕ} {start inner : List ℕ} {vs : Trees} → IsToken start (lexeme.mark StartList)
        → AreValues room inner vs → IsValue (suc room) (start ++ inner) (list vs)
    a_name : {room : ℕ} {start name inner stop : List ℕ} {n v : Tree}
        → IsToken start (lexeme.mark StartName) → IsName name n → IsValue room inner v
        → IsToken stop (lexeme.mark EndName)
        → IsValue (suc room) (start ++ (name ++ (inner ++ stop))) (named n v)

  -- the values of a list, and the mark that ends it
  pub data AreValues : ℕ → List ℕ → Trees → Type 0 where
    no_more : {room : ℕ} {stop : List ℕ} → IsToken stop (lexeme.mark EndList)
        → AreValues room stop empty
    one_more : {room : ℕ} {front back : List ℕ} {v : Tree} {vs : Trees} → IsValue room front v
        → AreValues room back vs → AreValues room (front ++ back) (more v vs)

-- the status: a list of three numbers
pub data IsStatus : List ℕ → List ℕ → Type 0 where
  three_numbers : {start a b c stop : List ℕ} {x y z : ℕ} → IsToken start (lexeme.mark StartList)
      → IsToken a (lexeme.number x) → IsToken b (lexeme.number y) → IsToken c (lexeme.number z)
      → IsToken stop (lexeme.mark EndList)
      → IsStatus (start ++ (a ++ (b ++ (c ++ stop)))) (x ∷ y ∷ z ∷ [])

-- the room that is left inside an outermost list, which has depth 1
abbrev pub room_inside : ℕ
room_inside = NESTING_LIMIT - 1

-- a call, a reply, the end of the session, the begin or the end of a transaction
pub data IsItem : List ℕ → Message → Type 0 where
  a_call : {first object method start args data_end status o m s : List ℕ} {vs : Trees}
      → IsToken first (lexeme.mark Call) → IsToken object (lexeme.bytes o) → length o ≡ uid_size
      → IsToken method (lexeme.bytes m) → length m ≡ uid_size
      → IsToken start (lexeme.mark StartList) → AreValues room_inside args vs
      → IsToken data_end (lexeme.mark EndOfData) → IsStatus status s
      → IsItem (first ++ (object ++ (method ++ (start ++ (args ++ (data_end ++ status))))))
      (call o m vs s)
  a_reply : {start results data_end status s : List ℕ} {vs : Trees}
      → IsToken start (lexeme.mark StartList) → AreValues room_inside results vs
      → IsToken data_end (lexeme.mark EndOfData) → IsStatus status s
      → IsItem (start ++ (results ++ (data_end ++ status))) (reply vs s)
  an_end_session : {text : List ℕ} → IsToken text (lexeme.mark EndOfSession)
      → IsItem text end_session
  a_begin : {first text : List ℕ} {n : ℕ} → IsToken first (lexeme.mark StartTransaction)
      → IsToken text (lexeme.number n) → IsItem (first ++ text) (begin n)
  an_end : {first text : List ℕ} {n : ℕ} → IsToken first (lexeme.mark EndTransaction)
      → IsToken text (lexeme.number n) → IsItem (first ++ text) (end n)

-- any number of empty atoms
pub data IsFill : List ℕ → Type 0 where
  nothing : IsFill []
  one_fill : {text : List ℕ} → IsFill text → IsFill (empty_atom ∷ text)

-- the bytes are an item, and empty atoms behind it
abbrev pub Spells : List ℕ → Message → Type 0
Spells text m = (item : List ℕ) × (fill : List ℕ) × (text ≡ item ++ fill) × IsItem item m
    × IsFill fill
