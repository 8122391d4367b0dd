-- The token at the front of bytes, or the fault that it earns (TCG Core 2.01, section 3.2.2).
use Rattle.tcg_tokens.specs.declared.token.Mark.TheVariants.{EndOfSession}
use Rattle.std.specs.Prelude.{ℕ, ◌%◌, ◌^◌, List, [], ◌∷◌, length, take, drop, Option, Some, None, Result, Ok, Err, Bool, false, nat_lt, ◌==◌, if◌then◌else◌}
use Rattle.std.specs.List.{find}
use Rattle.tcg_tokens.specs.declared.error.TokenError.{TokenError}
use Rattle.tcg_tokens.specs.declared.error.TokenError.TheVariants.{Truncated, Reserved, Signed, Continued, TooBig}
use Rattle.tcg_tokens.specs.declared.limits.TheConstants.{NUMBER_BITS}
use Rattle.tcg_tokens.specs.declared.token.Mark.{Mark}
use Rattle.tcg_tokens.specs.declared.form.Form.{Form}
use Rattle.tcg_tokens.specs.declared.form.Form.TheVariants.{Short, Medium, Long}
use Rattle.tcg_tokens.specs.Atoms.{empty_atom, tiny_limit, least, upper_range, length_bytes, sign_bit, kind_bit, end_of, has_bit}
use Rattle.tcg_tokens.specs.Lexeme.{Lexeme, number, bytes, mark, marks, code_of, number_from}

-- what is read, and the bytes behind it; or the first fault
infixl 10 ◌>>=◌
abbrev pub ◌>>=◌ : {A B : Type 0} → Result A TokenError → (A → Result B TokenError)
    → Result B TokenError
(Ok x) >>= f = f x
(Err e) >>= f = Err e

-- the content of a number atom
abbrev pub number_lexeme : List ℕ → List ℕ → Result (Lexeme × List ℕ) TokenError
number_lexeme content rest =
    if nat_lt (number_from 0 content) (2 ^ NUMBER_BITS) then Ok
    (number (number_from 0 content), rest) else Err TooBig

abbrev pub content_lexeme : Bool → List ℕ → List ℕ → Result (Lexeme × List ℕ) TokenError
content_lexeme is_bytes content rest =
    if is_bytes then Ok (bytes content, rest) else number_lexeme content rest

-- len bytes of content
abbrev pub content_at : Bool → ℕ → List ℕ → Result (Lexeme × List ℕ) TokenError
content_at is_bytes len rest =
    if nat_lt (length rest) len then Err Truncated else
    content_lexeme is_bytes (take len rest) (drop len rest)

-- an atom behind its first byte, which holds the upper bits of the length; width bytes of length follow
abbrev pub atom_at : (is_bytes is_signed : Bool) (upper width : ℕ) → List ℕ
    → Result (Lexeme × List ℕ) TokenError
atom_at is_bytes is_signed upper width rest =
    if is_signed then (if is_bytes then Err Continued else Err Signed)
    else (if nat_lt (length rest) width then Err Truncated
    else content_at is_bytes (number_from upper (take width rest)) (drop width rest))

-- an atom of a form, from its first byte on
abbrev pub form_at : Form → ℕ → List ℕ → Result (Lexeme × List ℕ) TokenError
form_at form b rest =
    atom_at (has_bit (kind_bit form) b) (has_bit (sign_bit form) b) (b % upper_range form)
    (length_bytes form) rest

-- the mark that a byte is
abbrev pub mark_of : ℕ → Option Mark
mark_of b = find (λ m. b == code_of m) marks

abbrev pub marked : Option Mark → List ℕ → Result (Lexeme × List ℕ) TokenError
marked None rest = Err Reserved
marked (Some m) rest = Ok (mark m, rest)

abbrev pub mark_at : ℕ → List ℕ → Result (Lexeme × List ℕ) TokenError
mark_at b rest = marked (mark_of b) rest

-- a token whose first byte is b: tiny, tiny and signed, short, medium, long, or a mark
abbrev pub lexeme_at : ℕ → List ℕ → Result (Lexeme × List ℕ) TokenError
lexeme_at b rest =
    if nat_lt b tiny_limit then Ok (number b, rest)
    else (if nat_lt b (least Short) then Err Signed
    else (if nat_lt b (least Medium) then form_at Short b rest
    else (if nat_lt b (least Long) then form_at Medium b rest
    else (if nat_lt b (end_of Long) then form_at Long b rest
    else mark_at b rest))))

-- what is behind the empty atoms
abbrev pub skip : List ℕ → List ℕ
skip [] = []
skip (b ∷ bs) = if b == empty_atom then skip bs else b ∷ bs

unfoldable pub first_lexeme : List ℕ → Result (Lexeme × List ℕ) TokenError
first_lexeme [] = Err Truncated
first_lexeme (b ∷ bs) = lexeme_at b bs

abbrev pub token_at : List ℕ → Result (Lexeme × List ℕ) TokenError
token_at text = first_lexeme (skip text)

-- The first token is the end of a session (TCG Core 2.01, section 3.3.7.1.4), whatever follows.
abbrev pub is_end_byte : List ℕ → Bool
is_end_byte [] = false
is_end_byte (b ∷ bs) = b == code_of EndOfSession

abbrev pub begins_with_end : List ℕ → Bool
begins_with_end text = is_end_byte (skip text)
