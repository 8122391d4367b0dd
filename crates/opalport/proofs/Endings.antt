-- How a token line ends, by what its digits write.
use Rattle.std.proofs.Common.{◌≡◌, ◌++◌, ℕ, List, [], ◌∷◌, Option, Result, Ok, Err, inl, inr}
use Rattle.std.specs.Io.KnownBytes.{Appends}
use Rattle.hex.specs.Hex.{decode_of}
use Rattle.hex.specs.declared.error.FromHexError.{FromHexError}
use Rattle.tcg_calls.specs.TokenTexts.{token_text}
use Rattle.tcg_calls.specs.declared.named_tokens.naming.Naming.{Naming}
use Rattle.clap.specs.Words.{Text}
use Rattle.opalport.specs.Program.{TokensEnd}

pub tokens_end : (hex : Text) (naming : Naming) (status : ℕ) (old new : Option (List ℕ)) (read : Result (List ℕ) FromHexError) → decode_of hex ≡ read
    → ((bytes : List ℕ) → decode_of hex ≡ Ok bytes → (status ≡ 0) × Appends old new (token_text naming bytes ++ 10 ∷ []))
    → ((e : FromHexError) → decode_of hex ≡ Err e → (status ≡ 2) × (new ≡ old)) → TokensEnd hex naming status old new
tokens_end hex naming status old new (Ok bytes) is printed no_hex = inl (bytes, is, (printed bytes is).0, (printed bytes is).1)
tokens_end hex naming status old new (Err e) is printed no_hex = inr (e, is, (no_hex e is).0, (no_hex e is).1)
