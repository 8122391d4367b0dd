-- A dump goes on.
use Rattle.std.proofs.Common.{◌≡◌, ◌∙◌, ℕ, List, [], ◌∷◌, ◌++◌, Option, Some, None, refl, subst, sym, ap, append_assoc, append-nil}
use Rattle.std.specs.Io.KnownBytes.{Appends}
use Rattle.std.proofs.KnownBytes.{Appends-trans}
use Rattle.hba_waves.specs.declared.look.Look.{Look}
use Rattle.hba_waves.specs.declared.writer.Dump.{Dump}
use Rattle.hba_waves.specs.Looks.{Shown}
use Rattle.hba_waves.specs.Dumps.{look_text, moments_from, last_look}
use Rattle.hba_waves.specs.Written.{GoesOn, GoesOnIf}

-- by one moment, whose look is written
pub one_more : {D : Type 0} (contents : D → Option (List ℕ)) (number : ℕ) (look other : Look) (old new : Dump D)
    (text : List ℕ) → look ≡ other → text ≡ look_text old.shown number look → new.shown ≡ Some look
    → Appends (contents old.out) (contents new.out) text
    → GoesOn contents (record { number = number; look = other } ∷ []) old new
unfolding moments_from last_look
one_more contents number look other old new text same is shown written = record {
  written = subst (Appends (contents old.out) (contents new.out))
      (is ∙ ap (look_text old.shown number) same ∙ sym (append-nil (look_text old.shown number other))) written;
  shown = shown ∙ ap Some same;
}

from_more : (shown : Option Look) (moments later : List Shown)
    → moments_from shown (moments ++ later) ≡ moments_from shown moments ++ moments_from (last_look shown moments) later
unfolding moments_from last_look
from_more shown [] later = refl
from_more shown (moment ∷ moments) later =
    ap (λ text. look_text shown moment.number moment.look ++ text) (from_more (Some moment.look) moments later)
    ∙ sym (append_assoc (look_text shown moment.number moment.look) (moments_from (Some moment.look) moments)
    (moments_from (last_look (Some moment.look) moments) later))

last_more : (shown : Option Look) (moments later : List Shown)
    → last_look shown (moments ++ later) ≡ last_look (last_look shown moments) later
unfolding last_look
last_more shown [] later = refl
last_more shown (moment ∷ moments) later = last_more (Some moment.look) moments later

then_on : {D : Type 0} (contents : D → Option (List ℕ)) (moments later : List Shown) (old middle new : Dump D)
    → GoesOn contents moments old middle → GoesOn contents later middle new
    → GoesOn contents (moments ++ later) old new
then_on contents moments later old middle new first second = record {
  written = subst (Appends (contents old.out) (contents new.out))
      (ap (λ shown. moments_from old.shown moments ++ moments_from shown later) first.shown
      ∙ sym (from_more old.shown moments later))
      (Appends-trans (contents old.out) (contents middle.out) (contents new.out) _ _ first.written second.written);
  shown = second.shown ∙ ap (λ shown. last_look shown later) first.shown
      ∙ sym (last_more old.shown moments later);
}

-- by some moments and then by more, where a dump is wanted
pub then_on_if : {D : Type 0} (contents : D → Option (List ℕ)) (moments later : List Shown)
    (old middle new : Option (Dump D)) → GoesOnIf contents moments old middle
    → GoesOnIf contents later middle new → GoesOnIf contents (moments ++ later) old new
then_on_if contents moments later None middle new first second =
    subst (λ m. GoesOnIf contents later m new) first second
then_on_if contents moments later (Some old) None new first second = absurd first
then_on_if contents moments later (Some old) (Some middle) None first second = absurd second
then_on_if contents moments later (Some old) (Some middle) (Some new) first second =
    then_on contents moments later old middle new first second
