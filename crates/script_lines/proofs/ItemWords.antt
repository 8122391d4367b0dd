-- Words are read one by one exactly where each writes its item.
use Rattle.std.proofs.Common.{◌≡◌, ℕ, ◌<◌, List, [], ◌∷◌, length, sym, ap, ◌∙◌, arith, Some, Ok, subst}
use Rattle.script_lines.specs.Words.{first_word, after_word}
use Rattle.script_lines.specs.Verbs.{verb_of}
use Rattle.script_lines.specs.Fields.{number_of_field, byte_of_field, hex_in}
use Rattle.script_lines.specs.Spellings.{IsMadeOfWords}
use Rattle.script_lines.specs.Says.{SaidWord, Name, Number, Byte, Bytes, WritesWord, WriteEach, Are}
use Rattle.script_lines.proofs.SpellingLaws.{first_is, after_is, none_first}
use Rattle.script_lines.proofs.VerbNames.{is_name, name_is, no_name}
use Rattle.script_lines.proofs.NumberWords.{number_is, is_number}
use Rattle.script_lines.proofs.HexWords.{bytes_are, are_bytes, byte_is, is_byte}

abbrev pub ReadsItem : SaidWord → List ℕ → Type 0
ReadsItem (Name verb) word = verb_of word ≡ Some verb
ReadsItem (Number field number) word = number_of_field field word ≡ Ok number
ReadsItem (Byte field byte) word = byte_of_field field word ≡ Ok byte
ReadsItem (Bytes field bytes) word = hex_in field word ≡ Ok bytes

-- the words of a text read as these items, and none is left
abbrev pub ReadEach : List SaidWord → List ℕ → Type 0
ReadEach [] text = first_word text ≡ []
ReadEach (item ∷ items) text = ReadsItem item (first_word text) × ReadEach items (after_word text)

writes_item : (item : SaidWord) (word : List ℕ) → ReadsItem item word → WritesWord item word
writes_item (Name verb) word h = name_is word verb h
writes_item (Number field number) word h = number_is field word number h
writes_item (Byte field byte) word h = byte_is field word byte h
writes_item (Bytes field bytes) word h = bytes_are field word bytes h

reads_item : (item : SaidWord) (word : List ℕ) → WritesWord item word → ReadsItem item word
reads_item (Name verb) word h = ap verb_of h ∙ is_name verb
reads_item (Number field number) word h = is_number field word number h
reads_item (Byte field byte) word h = is_byte field word byte h
reads_item (Bytes field bytes) word h = are_bytes field word bytes h

not_empty : (item : SaidWord) → ReadsItem item [] → ⊥
not_empty (Name verb) h = no_name verb (name_is [] verb h)
not_empty (Number field number) h = cc h
not_empty (Byte field byte) h = cc h
not_empty (Bytes field bytes) h = cc h

not_none : (w : List ℕ) → 0 < length w → w ≡ [] → ⊥
not_none w some none = let e = ap length none in omega (arith, e, some)

write_each : (items : List SaidWord) (words : List (List ℕ)) (text : List ℕ) → IsMadeOfWords words text → ReadEach items text → WriteEach items words
write_each [] [] text s h = tt
write_each [] (w ∷ ws) text s h = not_none w s.1.is_word.0 (sym (first_is text w s.0 s.1) ∙ h)
write_each (item ∷ items) [] text s h = not_empty item (subst (ReadsItem item) (none_first text s) h.0)
write_each (item ∷ items) (w ∷ ws) text s h = (
  writes_item item w (subst (ReadsItem item) (first_is text w s.0 s.1) h.0),
  write_each items ws s.0 s.2 (subst (ReadEach items) (after_is text w s.0 s.1) h.1),
)

read_each : (items : List SaidWord) (words : List (List ℕ)) (text : List ℕ) → IsMadeOfWords words text → WriteEach items words → ReadEach items text
read_each [] [] text s h = none_first text s
read_each [] (w ∷ ws) text s h = absurd h
read_each (item ∷ items) [] text s h = absurd h
read_each (item ∷ items) (w ∷ ws) text s h = (
  subst (ReadsItem item) (sym (first_is text w s.0 s.1)) (reads_item item w h.0),
  subst (ReadEach items) (sym (after_is text w s.0 s.1)) (read_each items ws s.0 s.2 h.1),
)

-- a name in front of them
pub named : (name : List ℕ) (items : List SaidWord) (w : List ℕ) (ws : List (List ℕ)) (rest : List ℕ) → w ≡ name → IsMadeOfWords ws rest → ReadEach items rest
    → Are name items (w ∷ ws)
named name items w ws rest is s h = (ws, ap (λ x. x ∷ ws) is, write_each items ws rest s h)

pub name_first : (name : List ℕ) (others words : List (List ℕ)) (text : List ℕ) → IsMadeOfWords words text → words ≡ name ∷ others
    → (first_word text ≡ name) × IsMadeOfWords others (after_word text)
name_first name others words text s is =
    let t = subst (λ (ws : List (List ℕ)). IsMadeOfWords ws text) is s in
    (first_is text name t.0 t.1, subst (IsMadeOfWords others) (sym (after_is text name t.0 t.1)) t.2)

pub name_then : (name : List ℕ) (items : List SaidWord) (words : List (List ℕ)) (text : List ℕ) → IsMadeOfWords words text → Are name items words
    → (first_word text ≡ name) × ReadEach items (after_word text)
name_then name items words text s h =
    let t = name_first name h.0 words text s h.1 in
    (t.0, read_each items h.0 (after_word text) t.1 h.2)
