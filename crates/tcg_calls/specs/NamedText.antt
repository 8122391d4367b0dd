-- Items as text, with names. It is the text without names (`item_text_of` of `tcg_tokens`) but for this: an object or a
-- method that has a name is told by it, wherever its eight bytes stand, and in Get and Set the parameters and the
-- columns are told by theirs.
use Rattle.std.specs.Prelude.{◌==◌, ℕ, List, [], ◌∷◌, ◌++◌, length, Option, None, Some, codes, decimal, if◌then◌else◌}
use Rattle.hex.specs.Hex.{encode_lower}
use Rattle.tcg_tokens.specs.Tree.{Tree, Trees, number, bytes, list, named, empty, more}
use Rattle.tcg_tokens.specs.Message.{Message, uid_size, call, reply, end_session, begin, end}
use Rattle.tcg_tokens.specs.Text.{with_blanks, status_text, item_text_of}
use Rattle.tcg_calls.specs.Asks.{uid_of}
use Rattle.tcg_calls.specs.Objects.{object_name}
use Rattle.tcg_calls.specs.declared.named_tokens.place.Place.{Place}
use Rattle.tcg_calls.specs.declared.named_tokens.place.Place.TheVariants.{Plain}
use Rattle.tcg_calls.specs.Places.{place_in_call, place_of_name, place_behind, number_name}

abbrev pub or_text : Option (List ℕ) → List ℕ → List ℕ
or_text None text = text
or_text (Some name) text = name

-- a number, where it stands
abbrev pub number_text : Place → ℕ → List ℕ
number_text place n = or_text (number_name place n) (decimal n)

-- the eight bytes of an object or a method
abbrev pub octets_text : List ℕ → List ℕ
octets_text octets = or_text (object_name (uid_of octets)) (encode_lower octets)

-- bytes: those of an object that has a name, or any
abbrev pub name_of_bytes : List ℕ → Option (List ℕ)
name_of_bytes content =
    if length content == uid_size then object_name (uid_of content) else None

abbrev pub named_bytes_text : List ℕ → List ℕ
named_bytes_text content = or_text (name_of_bytes content) (codes "x" ++ encode_lower content)

-- the number that a name is
abbrev pub name_number : Tree → Option ℕ
name_number (number n) = Some n
name_number _ = None

abbrev mutual
  pub text_at : Place → Tree → List ℕ
  text_at place (number n) = number_text place n
  text_at place (bytes b) = named_bytes_text b
  text_at place (list vs) = codes "[" ++ with_blanks (texts_at place vs) ++ codes "]"
  text_at place (named n v) =
      codes "{" ++ text_at (place_of_name place) n ++ codes "="
      ++ text_at (place_behind place (name_number n)) v ++ codes "}"

  -- the text of each
  pub texts_at : Place → Trees → List (List ℕ)
  texts_at place empty = []
  texts_at place (more v vs) = text_at place v ∷ texts_at place vs

abbrev pub call_text_of : (object method : List ℕ) → Trees → (status : List ℕ) → List ℕ
call_text_of object method args status =
    codes "call " ++ octets_text object ++ codes " " ++ octets_text method ++ codes " "
    ++ text_at (place_in_call (uid_of object) (uid_of method)) (list args) ++ status_text status

abbrev pub reply_text_of : Trees → (status : List ℕ) → List ℕ
reply_text_of results status = codes "reply " ++ text_at Plain (list results) ++ status_text status

abbrev pub named_item_text_of : Message → List ℕ
named_item_text_of (call object method args status) = call_text_of object method args status
named_item_text_of (reply results status) = reply_text_of results status
named_item_text_of end_session = item_text_of end_session
named_item_text_of (begin n) = item_text_of (begin n)
named_item_text_of (end n) = item_text_of (end n)
