-- The one spelling that the writer gives: the shortest atoms, and no empty atom (TCG Core 2.01, section 3.2.2).
use Rattle.std.specs.Prelude.{ℕ, ◌+◌, ◌*◌, ◌/◌, ◌%◌, List, [], ◌∷◌, ◌++◌, length, Bool, true, false, nat_lt, ◌==◌, if◌then◌else◌}
use Rattle.std.specs.Int.{w64, to_be_bytes}
use Rattle.std.specs.List.{flat_map}
use Rattle.tcg_tokens.specs.declared.token.Mark.TheVariants.{StartList, EndList, StartName, EndName, Call, EndOfData, EndOfSession, StartTransaction, EndTransaction}
use Rattle.tcg_tokens.specs.Lexeme.{code_of}
use Rattle.tcg_tokens.specs.declared.form.Form.TheVariants.{Short, Medium, Long}
use Rattle.tcg_tokens.specs.Atoms.{tiny_limit, upper_range, first_byte}
use Rattle.tcg_tokens.specs.Tree.{Tree, Trees, number, bytes, list, named, empty, more}
use Rattle.tcg_tokens.specs.Message.{Message, call, reply, end_session, begin, end}

-- what stands before the content of an atom: a short, a medium or a long one, by the length
abbrev pub header : Bool → ℕ → List ℕ
header is_bytes len =
    if nat_lt len (upper_range Short) then (first_byte Short is_bytes + len) ∷ []
    else (if nat_lt len (256 * upper_range Medium) then (first_byte Medium is_bytes + len / 256)
    ∷ len % 256 ∷ []
    else first_byte Long is_bytes ∷ len / 65536 ∷ len / 256 % 256 ∷ len % 256 ∷ [])

-- bytes without the zeros in front
abbrev pub significant : List ℕ → List ℕ
significant [] = []
significant (b ∷ bs) = if b == 0 then significant bs else b ∷ bs

-- a tiny atom where that is enough, else its bytes, the highest first and not 0
unfoldable pub number_spelling : ℕ → List ℕ
number_spelling n =
    if nat_lt n tiny_limit then n ∷ []
    else header false (length (significant (to_be_bytes w64 n))) ++ significant (to_be_bytes w64 n)

unfoldable pub bytes_spelling : List ℕ → List ℕ
bytes_spelling content = header true (length content) ++ content

abbrev mutual
  pub spelling_of : Tree → List ℕ
  spelling_of (number n) = number_spelling n
  spelling_of (bytes b) = bytes_spelling b
  spelling_of (list vs) = code_of StartList ∷ (spellings_of vs ++ code_of EndList ∷ [])
  spelling_of (named n v) =
      code_of StartName ∷ (spelling_of n ++ (spelling_of v ++ code_of EndName ∷ []))

  pub spellings_of : Trees → List ℕ
  spellings_of empty = []
  spellings_of (more v vs) = spelling_of v ++ spellings_of vs

-- the status: a list of its numbers
abbrev pub status_spelling : List ℕ → List ℕ
status_spelling status =
    code_of StartList ∷ (flat_map number_spelling status ++ code_of EndList ∷ [])

abbrev pub item_spelling_of : Message → List ℕ
item_spelling_of (call object method args status) =
    code_of Call ∷ (bytes_spelling object
    ++ (bytes_spelling method
    ++ (spelling_of (list args) ++ (code_of EndOfData ∷ status_spelling status))))
item_spelling_of (reply results status) =
    spelling_of (list results) ++ (code_of EndOfData ∷ status_spelling status)
item_spelling_of end_session = code_of EndOfSession ∷ []
item_spelling_of (begin n) = code_of StartTransaction ∷ number_spelling n
item_spelling_of (end n) = code_of EndTransaction ∷ number_spelling n
