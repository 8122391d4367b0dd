-- How values and items are shown to people.
use Rattle.std.specs.Prelude.{ℕ, List, [], ◌∷◌, ◌++◌, codes, decimal}
use Rattle.std.specs.List.{flat_map, join_by}
use Rattle.hex.specs.Hex.{encode_lower}
use Rattle.tcg_tokens.specs.Tree.{Tree, Trees, number, bytes, list, named, empty, more}
use Rattle.tcg_tokens.specs.Message.{Message, call, reply, end_session, begin, end}
use Rattle.tcg_tokens.specs.declared.error.TokenError.{TokenError}
use Rattle.tcg_tokens.specs.Fault.{code_of_fault, name_of_fault}

-- texts with a blank between each two
abbrev pub with_blanks : List (List ℕ) → List ℕ
with_blanks texts = join_by (λ text. text) (codes " ") texts

-- A number in decimal, bytes as `x` and hex, a list as `[a b]`, a named value as `{n=v}`.
abbrev mutual
  pub text_of : Tree → List ℕ
  text_of (number n) = decimal n
  text_of (bytes b) = codes "x" ++ encode_lower b
  text_of (list vs) = codes "[" ++ with_blanks (texts_of vs) ++ codes "]"
  text_of (named n v) = codes "{" ++ text_of n ++ codes "=" ++ text_of v ++ codes "}"

  -- the text of each
  pub texts_of : Trees → List (List ℕ)
  texts_of empty = []
  texts_of (more v vs) = text_of v ∷ texts_of vs

-- the numbers of a status, a blank before each
abbrev pub status_text : List ℕ → List ℕ
status_text status = flat_map (λ n. codes " " ++ decimal n) status

-- `call OBJECT METHOD ARGS s s s`, `reply RESULTS s s s`, `end-session`, `begin N`, `end N`
abbrev pub item_text_of : Message → List ℕ
item_text_of (call object method args status) =
    codes "call " ++ encode_lower object ++ codes " " ++ encode_lower method ++ codes " "
    ++ text_of (list args) ++ status_text status
item_text_of (reply results status) = codes "reply " ++ text_of (list results) ++ status_text status
item_text_of end_session = codes "end-session"
item_text_of (begin n) = codes "begin " ++ decimal n
item_text_of (end n) = codes "end " ++ decimal n

-- `malformed N NAME`
abbrev pub fault_text_of : TokenError → List ℕ
fault_text_of fault =
    codes "malformed " ++ decimal (code_of_fault fault) ++ codes " " ++ name_of_fault fault
