-- What lines say, computed from the definitions alone: the bytes are those of the examples, put together by hand.
use Rattle.std.proofs.Common.{◌≡◌, ℕ, List, [], ◌∷◌, codes, refl, Option, Some, None, Result, Ok, Err}
use Rattle.tcg_tokens.specs.Spelling.{number_spelling, bytes_spelling}
use Rattle.tcg_calls.specs.Objects.{named_objects, of_numbers, of_ranges, number_making}
use Rattle.tcg_tokens.specs.Message.{call}
use Rattle.tcg_tokens.specs.Tree.{number, trees_of}
use Rattle.script_lines.specs.KnownSessions.{Known, call_line_text, plain_line, session_begun}
use Rattle.script_lines.specs.Phrases.{bytes_said}
use Rattle.script_lines.specs.Said.{named_line_said}
use Rattle.script_lines.specs.declared.named_lines.fault.CallFault.TheVariants.{NoCall, NoSession}
use Rattle.script_lines.specs.declared.named_lines.line.NamedLine.{NamedLine}
use Rattle.script_lines.specs.declared.named_lines.verb.CallVerb.TheVariants as verbs

abbrev says : ℕ → Option ℕ → List ℕ → Option NamedLine
says client com_id tokens = Some (record { client = client; com_id = com_id; tokens = tokens })

ends : named_line_said (codes "end 7") ≡ says 7 None (0xfa ∷ [])
ends = refl

commits : named_line_said (codes "commit 1") ≡ says 1 None (0xfc ∷ 0 ∷ [])
unfolding number_spelling
commits = refl

-- a text between `"`, and others
texts : bytes_said (codes "\"ab\"") ≡ Some (0x61 ∷ 0x62 ∷ [])
texts = refl

empty-text : bytes_said (codes "\"\"") ≡ Some []
empty-text = refl

no-end : bytes_said (codes "\"ab") ≡ None
no-end = refl

end-amid : bytes_said (codes "\"a\"b\"") ≡ None
end-amid = refl

-- client 7 knows the session 1001h, 1 by the ComID 1000h
abbrev knows : Known
knows = (7, record { com_id = 0x1000; session = record { tsn = 0x1001; hsn = 1 } }) ∷ []

calls : plain_line knows (codes "end 7")
    ≡ Ok (call_line_text 7 (record { com_id = 0x1000; session = record { tsn = 0x1001; hsn = 1 } }) (0xfa ∷ []))
calls = refl

stranger : plain_line knows (codes "end 8") ≡ Err (NoSession 8)
stranger = refl

too-many : plain_line knows (codes "end 7 7") ≡ Err (NoCall verbs.End)
too-many = refl

plain : plain_line knows (codes "recv 7 4096 1") ≡ Ok (codes "recv 7 4096 1")
plain = refl

-- SyncSession (FF03h) of the session manager (FFh): the host's number 1, the TPer's 1001h
begun : session_begun (call (0 ∷ 0 ∷ 0 ∷ 0 ∷ 0 ∷ 0 ∷ 0 ∷ 0xff ∷ []) (0 ∷ 0 ∷ 0 ∷ 0 ∷ 0 ∷ 0 ∷ 0xff ∷ 0x03 ∷ [])
    (trees_of (number 1 ∷ number 0x1001 ∷ [])) (0 ∷ 0 ∷ 0 ∷ [])) ≡ Some (record { tsn = 0x1001; hsn = 1 })
begun = refl

refused : session_begun (call (0 ∷ 0 ∷ 0 ∷ 0 ∷ 0 ∷ 0 ∷ 0 ∷ 0xff ∷ []) (0 ∷ 0 ∷ 0 ∷ 0 ∷ 0 ∷ 0 ∷ 0xff ∷ 0x03 ∷ [])
    (trees_of (number 1 ∷ number 0 ∷ [])) (0x0c ∷ 0 ∷ 0 ∷ [])) ≡ None
refused = refl
