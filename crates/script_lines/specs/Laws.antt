-- What lines are, in words: the reader finds the words that a text spells, and a line says what its words say.
use Rattle.std.specs.Prelude.{◌≡◌, ◌↔◌, ℕ, List, [], slice_index_or, Ok}
use Rattle.script_lines.specs.Words.{nth_word}
use Rattle.script_lines.specs.Lines.{line_said}
use Rattle.script_lines.specs.PortLines.{port_line_of, is_port_line}
use Rattle.script_lines.specs.Spellings.{IsMadeOfWords}
use Rattle.script_lines.specs.Says.{Says}
use Rattle.script_lines.specs.PortSays.{PortSays}
use Rattle.script_lines.specs.Faults.{fault_in, wrong_in, wrong_in_port}
use Rattle.script_lines.specs.declared.line.Line.{Line}
use Rattle.script_lines.specs.declared.port_line.PortLine.{PortLine}

-- every text spells some words
abbrev pub SomeWordsLaw : Type 0
SomeWordsLaw = (text : List ℕ) → (words : List (List ℕ)) × IsMadeOfWords words text

-- and no others
abbrev pub OneSpellingLaw : Type 0
OneSpellingLaw = (text : List ℕ) (words others : List (List ℕ)) → IsMadeOfWords words text
    → IsMadeOfWords others text → words ≡ others

-- the word that the reader finds at a number is the one that the text spells there, and empty behind the last
abbrev pub WordLaw : Type 0
WordLaw = (text : List ℕ) (words : List (List ℕ)) → IsMadeOfWords words text → (k : ℕ)
    → nth_word k text ≡ slice_index_or words k []

-- two texts that spell the same words
abbrev pub SpellTheSame : List ℕ → List ℕ → Type 0
SpellTheSame a b = (words : List (List ℕ)) × IsMadeOfWords words a × IsMadeOfWords words b

-- they say the same line, or the same is wrong with them
abbrev pub LineLaw : Type 0
LineLaw = (a b : List ℕ) → SpellTheSame a b → line_said a ≡ line_said b

-- in a port script too
abbrev pub PortLineLaw : Type 0
PortLineLaw = (a b : List ℕ) → SpellTheSame a b → port_line_of a ≡ port_line_of b

-- and where one says that the lines behind it are those of a port script, so does the other
abbrev pub PortHeadLaw : Type 0
PortHeadLaw = (a b : List ℕ) → SpellTheSame a b → is_port_line a ≡ is_port_line b

-- a text says a line exactly where the words that it spells are those of the line
abbrev pub GoodLineLaw : Type 0
GoodLineLaw = (text : List ℕ) (words : List (List ℕ)) (line : Line) → IsMadeOfWords words text
    → (line_said text ≡ Ok line) ↔ Says line words

-- in a port script too
abbrev pub GoodPortLineLaw : Type 0
GoodPortLineLaw = (text : List ℕ) (words : List (List ℕ)) (line : PortLine)
    → IsMadeOfWords words text
    → (port_line_of text ≡ Ok line) ↔ PortSays line words

-- what is wrong with a text is what is wrong with the words that it spells, and nothing is where it says a line
abbrev pub BadLineLaw : Type 0
BadLineLaw = (text : List ℕ) (words : List (List ℕ)) → IsMadeOfWords words text
    → fault_in (line_said text) ≡ wrong_in words

-- in a port script too
abbrev pub BadPortLineLaw : Type 0
BadPortLineLaw =
    (text : List ℕ) (words : List (List ℕ)) → IsMadeOfWords words text
    → fault_in (port_line_of text) ≡ wrong_in_port words
