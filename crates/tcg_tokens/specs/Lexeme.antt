-- Tokens by what they say, and the byte of each mark (TCG Core 2.01, section 3.2.2).
use Rattle.std.specs.Prelude.{ℕ, ◌+◌, ◌*◌, ◌<◌, List, [], ◌∷◌, Bool, false, ◌==◌}
use Rattle.tcg_tokens.specs.declared.token.Mark.{Mark}
use Rattle.tcg_tokens.specs.declared.token.Mark.TheVariants.{StartList, EndList, StartName, EndName, Call, EndOfData, EndOfSession, StartTransaction, EndTransaction}
use Rattle.tcg_tokens.specs.declared.token.Token.{Token}
use Rattle.tcg_tokens.specs.declared.token.Token.TheVariants as token

-- a number, bytes, or a token of one byte
pub data Lexeme : Type 0 where
  number : ℕ → Lexeme
  bytes : List ℕ → Lexeme
  mark : Mark → Lexeme

-- the byte of a mark
abbrev pub code_of : Mark → ℕ
code_of StartList = 0xf0
code_of EndList = 0xf1
code_of StartName = 0xf2
code_of EndName = 0xf3
code_of Call = 0xf8
code_of EndOfData = 0xf9
code_of EndOfSession = 0xfa
code_of StartTransaction = 0xfb
code_of EndTransaction = 0xfc

-- all of them
abbrev pub marks : List Mark
marks = StartList ∷ EndList ∷ StartName ∷ EndName ∷ Call ∷ EndOfData ∷ EndOfSession
    ∷ StartTransaction ∷ EndTransaction ∷ []

-- the bytes as one number, the highest first, behind what stands before them
abbrev pub number_from : ℕ → List ℕ → ℕ
number_from before [] = before
number_from before (b ∷ bs) = number_from (256 * before + b) bs

-- the numbers of a list are bytes
abbrev pub AreBytes : List ℕ → Type 0
AreBytes [] = Unit {0}
AreBytes (b ∷ bs) = (b < 256) × AreBytes bs

abbrev pub same : Mark → Mark → Bool
same m n = code_of m == code_of n

-- is the token that mark?
abbrev pub is_mark : Mark → Lexeme → Bool
is_mark m (number n) = false
is_mark m (bytes b) = false
is_mark m (mark n) = same n m

-- what a token of the code says
abbrev pub seen : Token → Lexeme
seen (token.Number n) = number n
seen (token.Bytes b) = bytes b.now
seen (token.Mark m) = mark m
