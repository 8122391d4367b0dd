-- The first word of a line, which says what line it is.
use Rattle.std.specs.Prelude.{ℕ, codes, if◌then◌else◌, List, [], ◌∷◌, Option, Some, None}
use Rattle.std.specs.Str.{bytes_eq}
use Rattle.script_lines.specs.declared.verb.Verb.{Verb}
use Rattle.script_lines.specs.declared.verb.Verb.TheVariants as verbs

-- the words, each with its verb
abbrev pub words : List (List ℕ × Verb)
words =
    (codes "read", verbs.Read)
    ∷ (codes "write", verbs.Write)
    ∷ (codes "expect", verbs.Expect)
    ∷ (codes "range", verbs.Range)
    ∷ (codes "dread", verbs.ReadDma)
    ∷ (codes "dwrite", verbs.WriteDma)
    ∷ (codes "call", verbs.Call)
    ∷ (codes "send", verbs.Send)
    ∷ (codes "recv", verbs.Receive)
    ∷ (codes "log", verbs.Log)
    ∷ (codes "reset", verbs.Reset)
    ∷ (codes "tper", verbs.TperReset)
    ∷ (codes "secin", verbs.SecurityIn)
    ∷ (codes "secout", verbs.SecurityOut)
    ∷ (codes "identify", verbs.Identify)
    ∷ []

-- the verb of the first of these that is the same bytes
abbrev pub verb_among : List (List ℕ × Verb) → List ℕ → Option Verb
verb_among [] word = None
verb_among (named ∷ others) word =
    if bytes_eq word named.0 then Some named.1 else verb_among others word

abbrev pub verb_of : List ℕ → Option Verb
verb_of word = verb_among words word
