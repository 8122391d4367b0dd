-- The text of what bytes spell: of the item, with names or with numbers, or of what is wrong with them.
use Rattle.std.specs.Prelude.{ℕ, Bool, true, false, List, Result, Ok, Err}
use Rattle.tcg_tokens.specs.Message.{Message}
use Rattle.tcg_tokens.specs.Reading.{reading}
use Rattle.tcg_tokens.specs.Text.{item_text_of, fault_text_of}
use Rattle.tcg_tokens.specs.declared.error.TokenError.{TokenError}
use Rattle.tcg_calls.specs.NamedText.{named_item_text_of}
use Rattle.tcg_calls.specs.declared.named_tokens.naming.Naming.{Naming}
use Rattle.tcg_calls.specs.declared.named_tokens.naming.Naming.TheVariants.{Numbers, Names}

-- names, or numbers
abbrev pub naming_of : Bool → Naming
naming_of true = Names
naming_of false = Numbers

abbrev pub text_as : Naming → Message → List ℕ
text_as Numbers message = item_text_of message
text_as Names message = named_item_text_of message

abbrev pub text_of_reading : Naming → Result Message TokenError → List ℕ
text_of_reading naming (Ok message) = text_as naming message
text_of_reading naming (Err fault) = fault_text_of fault

abbrev pub token_text : Naming → List ℕ → List ℕ
token_text naming bytes = text_of_reading naming (reading bytes)
