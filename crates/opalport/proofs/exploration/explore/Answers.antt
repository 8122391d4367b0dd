-- A file that stands behind no flag is refused, with a part and without.
use denote.Bor.{Bor}
use Rattle.std.proofs.Common.{◌≡◌, ℕ, ◌≤◌, Bool, true, false, List, [], ◌∷◌, length, map, Option, Some, None, refl, arith}
use Rattle.std.proofs.lemmas.Result.{IfOk-weaker}
use Rattle.std.specs.Option.{option_map}
use Rattle.clap.specs.Words.{Text}
use Rattle.tool.specs.OptionTexts.{DriveText, drive_text}
use Rattle.opalport.specs.Program.{ExploreEnds}
use Rattle.opalport.proofs.exploration.explore.Goals as goal

lone_file : (texts : DriveText) (steps limit find : Text) (part : Option (Bor (List ℕ))) (merges : Bool) (files : List (Bor (List ℕ))) (input : Option (List ℕ)) (status : ℕ) (old : Option (List ℕ)) → merges ≡ false → 1 ≤ length files → status ≡ 2 → ExploreEnds texts steps limit find (option_map (λ s. s.now) part) merges (map (λ s. s.now) files) input status old old
lone_file texts steps limit find part true files input status old is some two = absurd (cc)
lone_file texts steps limit find None false [] input status old is some two = absurd (omega arith)
lone_file texts steps limit find None false (file ∷ files) input status old is some two = (two, refl)
lone_file texts steps limit find (Some part) false [] input status old is some two = absurd (omega arith)
lone_file texts steps limit find (Some part) false (file ∷ files) input status old is some two = (two, refl)

pub returns-clause-ends : goal.returns-clause-ends
returns-clause-ends g c =
    let texts = c.args.texts.now in
    let some = rw c.as_slice-names.ensures.value at c.in-false-default-default.len_at_least in
    IfOk-weaker c.tell_usage-in-false-default-default.result _ _
    (λ status two. lone_file (drive_text texts.drive) texts.steps.now texts.limit.now texts.find.now texts.part texts.merges texts.files.items (g.R.Read.remaining c.args.input) status (g.W.Write.contents c.args.output.now) c.in-false-default-default.is-0 some two)
    c.tell_usage-in-false-default-default.ensures
