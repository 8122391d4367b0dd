-- What the first byte says at once, where nothing is to be skipped.
use Rattle.std.proofs.Common.{◌≡◌, ℕ, ◌<◌, true, eqb, List, [], ◌∷◌, ◌++◌, length, Some, Ok, refl, sym, subst, arith, eq-eqb}
use Rattle.tcg_tokens.specs.Lexeme.{code_of, marks}
use Rattle.tcg_tokens.specs.Lexeme as lexeme
use Rattle.tcg_tokens.specs.declared.token.Mark.{Mark}
use Rattle.tcg_tokens.specs.declared.token.Mark.TheVariants.{StartList, EndList, StartName, EndName, Call, EndOfData, EndOfSession, StartTransaction, EndTransaction}
use Rattle.tcg_tokens.specs.Grammar.{IsHeader, tiny, mark_byte, bytes_atom, short, plain}
use Rattle.tcg_tokens.specs.Lex.{first_lexeme, mark_of, token_at}
use Rattle.tcg_tokens.specs.Reading.{expect, number_at, uid_at}
use Rattle.tcg_tokens.proofs.Tokens.{token_again, mark_found}

pub mark_in_front : (m : Mark) (rest : List ℕ) → expect m (code_of m ∷ rest) ≡ Ok rest
unfolding expect first_lexeme
mark_in_front StartList rest = refl
mark_in_front EndList rest = refl
mark_in_front StartName rest = refl
mark_in_front EndName rest = refl
mark_in_front Call rest = refl
mark_in_front EndOfData rest = refl
mark_in_front EndOfSession rest = refl
mark_in_front StartTransaction rest = refl
mark_in_front EndTransaction rest = refl

pub tiny_in_front : (n : ℕ) (rest : List ℕ) → n < 64 → number_at (n ∷ rest) ≡ Ok (n, rest)
unfolding number_at
tiny_in_front n rest lt = rw (token_again (n ∷ []) (lexeme.number n) (plain (tiny n lt)) rest) refl

pub uid_in_front : (o rest : List ℕ) → length o ≡ 8 → uid_at (0xa8 ∷ (o ++ rest)) ≡ Ok (o, rest)
unfolding uid_at
uid_in_front o rest e =
    let eight : eqb (length o) 8 ≡ true = eq-eqb _ _ e in
    let head : IsHeader true (0xa8 ∷ []) (length o) = subst (λ (n : ℕ). IsHeader true (0xa8 ∷ []) n) (sym e) (short true 8 (omega arith)) in
    rw (token_again (0xa8 ∷ o) (lexeme.bytes o) (plain (bytes_atom (0xa8 ∷ []) o head)) rest, eight) refl

pub tiny_token : (n : ℕ) (rest : List ℕ) → n < 64 → token_at (n ∷ rest) ≡ Ok (lexeme.number n, rest)
tiny_token n rest lt = token_again (n ∷ []) (lexeme.number n) (plain (tiny n lt)) rest

pub mark_token : (b : ℕ) (m : Mark) (rest : List ℕ) → mark_of b ≡ Some m → token_at (b ∷ rest) ≡ Ok (lexeme.mark m, rest)
mark_token b m rest e =
    subst (λ (c : ℕ). token_at (c ∷ rest) ≡ Ok (lexeme.mark m, rest)) (sym (mark_found b marks m e))
    (token_again (code_of m ∷ []) (lexeme.mark m) (plain (mark_byte m)) rest)
