-- A word is a verb exactly where it is its name.
use Rattle.std.proofs.Common.{◌≡◌, ℕ, Bool, true, false, List, [], ◌∷◌, refl, ap, ◌∙◌, Some, None, if◌then◌else◌}
use Rattle.std.specs.Prelude.{⊤}
use Rattle.std.specs.Str.{bytes_eq}
use Rattle.std.proofs.lemmas.Slice.Eq.{bytes_eq-Decides}
use Rattle.script_lines.specs.Verbs.{words, verb_among, verb_of}
use Rattle.script_lines.specs.Says.{verb_name}
use Rattle.script_lines.specs.declared.verb.Verb.{Verb}
use Rattle.script_lines.specs.declared.verb.Verb.TheVariants as verbs

pub is_name : (verb : Verb) → verb_of (verb_name verb) ≡ Some verb
is_name verbs.Range = refl
is_name verbs.Read = refl
is_name verbs.Write = refl
is_name verbs.ReadDma = refl
is_name verbs.WriteDma = refl
is_name verbs.Call = refl
is_name verbs.Send = refl
is_name verbs.Receive = refl
is_name verbs.SecurityIn = refl
is_name verbs.SecurityOut = refl
is_name verbs.Identify = refl
is_name verbs.Log = refl
is_name verbs.Reset = refl
is_name verbs.TperReset = refl
is_name verbs.Expect = refl

abbrev AreNamed : List (List ℕ × Verb) → Type 0
AreNamed [] = ⊤
AreNamed (named ∷ others) = (named.0 ≡ verb_name named.1) × AreNamed others

some_is : {A : Type 0} (x y : A) → Some x ≡ Some y → x ≡ y
some_is x y h = cc

among_step : (b : Bool) (w name : List ℕ) (verb found : Verb) (others : List (List ℕ × Verb)) → bytes_eq w name ≡ b → name ≡ verb_name verb
    → (verb_among others w ≡ Some found → w ≡ verb_name found)
    → (if b then Some verb else verb_among others w) ≡ Some found → w ≡ verb_name found
among_step true w name verb found others is here later h =
    (bytes_eq-Decides w name).0 is ∙ here ∙ ap verb_name (some_is verb found h)
among_step false w name verb found others is here later h = later h

among_is : (list : List (List ℕ × Verb)) (w : List ℕ) (found : Verb) → AreNamed list → verb_among list w ≡ Some found → w ≡ verb_name found
among_is [] w found all h = cc h
among_is (n ∷ others) w found all h =
    among_step (bytes_eq w n.0) w n.0 n.1 found others refl all.0 (among_is others w found all.1) h

pub name_is : (w : List ℕ) (verb : Verb) → verb_of w ≡ Some verb → w ≡ verb_name verb
name_is w verb h =
    among_is words w verb (refl, (refl, (refl, (refl, (refl, (refl, (refl, (refl, (refl, (refl, (refl, (refl, (refl, (refl, (refl, tt))))))))))))))) h

pub no_name : (verb : Verb) → [] ≡ verb_name verb → ⊥
no_name verb h = let some = is_name verb in let e : verb_of [] ≡ Some verb = ap verb_of h ∙ some in none_there e where
  none_there : None ≡ Some verb → ⊥
  none_there e = cc
