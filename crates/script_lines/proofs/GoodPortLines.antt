-- A text says a line of a port script exactly where its words are those of the line.
use Rattle.std.proofs.Common.{◌≡◌, ℕ, Bool, true, false, List, [], ◌∷◌, refl, sym, ap, ◌∙◌, Option, Some, None, Ok, if◌then◌else◌}
use Rattle.std.specs.Prelude.{codes, ⊤}
use Rattle.std.specs.Str.{bytes_eq}
use Rattle.std.proofs.lemmas.Slice.Eq.{bytes_eq-Decides}
use Rattle.script_lines.specs.Words.{first_word, after_word}
use Rattle.script_lines.specs.Fields.{or_fault, ◌>>=◌}
use Rattle.script_lines.specs.PortLines.{port_words, port_verb_among, port_verb_of, port_verb_words, port_line_of}
use Rattle.script_lines.specs.Spellings.{IsMadeOfWords}
use Rattle.script_lines.specs.Says.{Number, range_items, reset_number}
use Rattle.script_lines.specs.PortSays.{put_items, slot_items, PortSays}
use Rattle.script_lines.specs.Laws.{GoodPortLineLaw}
use Rattle.script_lines.specs.declared.fault.LineFault.TheVariants.{UnknownStep}
use Rattle.script_lines.specs.declared.field.Field.TheVariants as fields
use Rattle.script_lines.specs.declared.verb.PortVerb.{PortVerb}
use Rattle.script_lines.specs.declared.verb.PortVerb.TheVariants as steps
use Rattle.script_lines.specs.declared.port_line.PortLine.{PortLine}
use Rattle.script_lines.specs.declared.port_line.PortLine.TheVariants as lines
use Rattle.script_lines.proofs.SpellingLaws.{first_is, after_is, none_first}
use Rattle.script_lines.proofs.ItemWords.{named, name_first, name_then}
use Rattle.script_lines.proofs.ReadLines.{bind_ok}
use Rattle.script_lines.proofs.PortReadLines.{PortReadBy, step_of, port_back, port_known}
use Rattle.script_lines.proofs.GoodLines.{good_line_law}

-- each verb's name
abbrev step_name : PortVerb → List ℕ
step_name steps.Range = codes "range"
step_name steps.Put = codes "put"
step_name steps.Issue = codes "issue"
step_name steps.Accept = codes "accept"
step_name steps.Complete = codes "complete"
step_name steps.Recover = codes "recover"
step_name steps.Reset = codes "reset"
step_name steps.Take = codes "take"
step_name steps.Expect = codes "expect"

is_name : (verb : PortVerb) → port_verb_of (step_name verb) ≡ Some verb
is_name steps.Range = refl
is_name steps.Put = refl
is_name steps.Issue = refl
is_name steps.Accept = refl
is_name steps.Complete = refl
is_name steps.Recover = refl
is_name steps.Reset = refl
is_name steps.Take = refl
is_name steps.Expect = refl

abbrev AreNamed : List (List ℕ × PortVerb) → Type 0
AreNamed [] = ⊤
AreNamed (named ∷ others) = (named.0 ≡ step_name named.1) × AreNamed others

some_is : {A : Type 0} (x y : A) → Some x ≡ Some y → x ≡ y
some_is x y h = cc

among_step : (b : Bool) (w name : List ℕ) (verb found : PortVerb) (others : List (List ℕ × PortVerb)) → bytes_eq w name ≡ b → name ≡ step_name verb
    → (port_verb_among others w ≡ Some found → w ≡ step_name found)
    → (if b then Some verb else port_verb_among others w) ≡ Some found → w ≡ step_name found
among_step true w name verb found others is here later h =
    (bytes_eq-Decides w name).0 is ∙ here ∙ ap step_name (some_is verb found h)
among_step false w name verb found others is here later h = later h

among_is : (list : List (List ℕ × PortVerb)) (w : List ℕ) (found : PortVerb) → AreNamed list → port_verb_among list w ≡ Some found → w ≡ step_name found
among_is [] w found all h = cc h
among_is (n ∷ others) w found all h =
    among_step (bytes_eq w n.0) w n.0 n.1 found others refl all.0 (among_is others w found all.1) h

name_is : (w : List ℕ) (verb : PortVerb) → port_verb_of w ≡ Some verb → w ≡ step_name verb
name_is w verb h =
    among_is port_words w verb (refl, (refl, (refl, (refl, (refl, (refl, (refl, (refl, (refl, tt))))))))) h

no_name : (verb : PortVerb) → [] ≡ step_name verb → ⊥
no_name verb h = none_there (ap port_verb_of h ∙ is_name verb) where
  none_there : None ≡ Some verb → ⊥
  none_there e = cc

known_verb : (v : Option PortVerb) (verb : PortVerb) → or_fault UnknownStep v ≡ Ok verb → v ≡ Some verb
known_verb None verb h = cc h
known_verb (Some v) verb h = let same : v ≡ verb = cc in ap Some same

-- from the words that were read
says : (line : PortLine) (w : List ℕ) (ws : List (List ℕ)) (rest : List ℕ) → w ≡ step_name (step_of line) → IsMadeOfWords ws rest → PortReadBy line rest
    → PortSays line (w ∷ ws)
says (lines.Range row) w ws rest is s h = named (codes "range") (range_items row) w ws rest is s h
says (lines.Put client tag request) w ws rest is s h = named (codes "put") (put_items client tag request) w ws rest is s h
says (lines.Issue tag) w ws rest is s h = named (codes "issue") (slot_items tag) w ws rest is s h
says (lines.Accept tag) w ws rest is s h = named (codes "accept") (slot_items tag) w ws rest is s h
says (lines.Complete tag) w ws rest is s h = named (codes "complete") (slot_items tag) w ws rest is s h
says lines.Recover w ws rest is s h = named (codes "recover") [] w ws rest is s h
says (lines.Reset client kind) w ws rest is s h =
    named (codes "reset") (Number fields.Client client ∷ Number fields.ResetKind (reset_number kind) ∷ []) w ws rest is s h
says (lines.Take client tag) w ws rest is s h =
    named (codes "take") (Number fields.Client client ∷ Number fields.Tag tag ∷ []) w ws rest is s h
says lines.Expect w ws rest is s h = (ws, ap (λ x. x ∷ ws) is)

split : (line : PortLine) (ws : List (List ℕ)) (text : List ℕ) → IsMadeOfWords ws text → first_word text ≡ step_name (step_of line) → PortReadBy line (after_word text)
    → PortSays line ws
split line [] text s name h = absurd (no_name (step_of line) (sym (none_first text s) ∙ name))
split line (w ∷ ws) text s name h =
    let rest = after_is text w s.0 s.1 in
    says line w ws s.0 (sym (first_is text w s.0 s.1) ∙ name) s.2 (rw rest at h)

says_back : (text : List ℕ) (ws : List (List ℕ)) (line : PortLine) → IsMadeOfWords ws text → port_line_of text ≡ Ok line → PortSays line ws
says_back text ws line s h =
    let a = bind_ok (or_fault UnknownStep (port_verb_of (first_word text))) _ line h in
    let verb = known_verb (port_verb_of (first_word text)) a.0 a.1 in
    let b = port_back a.0 (after_word text) line a.2 in
    split line ws text s (name_is (first_word text) a.0 verb ∙ ap step_name b.0) b.1

-- from the words that a line has
read : (line : PortLine) (ws : List (List ℕ)) (text : List ℕ) → IsMadeOfWords ws text → PortSays line ws
    → (first_word text ≡ step_name (step_of line)) × PortReadBy line (after_word text)
read (lines.Range row) ws text s h = name_then (codes "range") (range_items row) ws text s h
read (lines.Put client tag request) ws text s h = name_then (codes "put") (put_items client tag request) ws text s h
read (lines.Issue tag) ws text s h = name_then (codes "issue") (slot_items tag) ws text s h
read (lines.Accept tag) ws text s h = name_then (codes "accept") (slot_items tag) ws text s h
read (lines.Complete tag) ws text s h = name_then (codes "complete") (slot_items tag) ws text s h
read lines.Recover ws text s h = name_then (codes "recover") [] ws text s h
read (lines.Reset client kind) ws text s h =
    name_then (codes "reset") (Number fields.Client client ∷ Number fields.ResetKind (reset_number kind) ∷ []) ws text s h
read (lines.Take client tag) ws text s h =
    name_then (codes "take") (Number fields.Client client ∷ Number fields.Tag tag ∷ []) ws text s h
read lines.Expect ws text s h = ((name_first (codes "expect") h.0 ws text s h.1).0, tt)

says_known : (text : List ℕ) (ws : List (List ℕ)) (line : PortLine) → IsMadeOfWords ws text → PortSays line ws → port_line_of text ≡ Ok line
says_known text ws line s h =
    let r = read line ws text s h in
    ap (λ (w : List ℕ). or_fault UnknownStep (port_verb_of w) >>= λ verb. port_verb_words verb (after_word text)) r.0
    ∙ ap (λ (v : Option PortVerb). or_fault UnknownStep v >>= λ verb. port_verb_words verb (after_word text)) (is_name (step_of line))
    ∙ port_known line (after_word text) r.1

pub good_port_line_law : GoodPortLineLaw
good_port_line_law text ws line s = (says_back text ws line s, says_known text ws line s)

pub ruleset of_good_lines = (good_line_law, good_port_line_law)
