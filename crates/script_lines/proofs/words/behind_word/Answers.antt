use Rattle.std.proofs.Common.{◌≡◌, ◌-◌, length, take, drop, arith, length-drop, ◌∙◌, List, ℕ, rules}
use Rattle.std.proofs.lemmas.List.{take_all}
use Rattle.std.proofs.lemmas.Slice.Eq.{bytes_eq-Decides}
use Rattle.script_lines.proofs.FrontWords.{front_word}
use Rattle.script_lines.proofs.words.behind_word.Goals as goal

pub returns : goal.returns
returns c =
    let text : List ℕ = c.args.text.now in
    let name : List ℕ = c.args.name.now in
    let is : take (length name) text ≡ name = (bytes_eq-Decides _ name).0 (search rules) in
    let word = front_word name text c.requires.some c.requires.whole is (omega arith) (search rules) in
    let whole : take (length text - length name) (drop (length name) text) ≡ drop (length name) text = take_all _ _ (omega (arith, length-drop (length name) text)) in
    (word.0, whole ∙ word.1)
