-- What is still to come of a recorded run, and what came of it.
use Rattle.std.proofs.Common.{◌≡◌, ◌∙◌, ℕ, List, [], ◌∷◌, ◌++◌, refl, sym, ap, subst, append_assoc, append-nil, Option, Some, None}
use Rattle.std.specs.Io.KnownBytes.{Appends}
use Rattle.std.proofs.KnownBytes.{Appends-nil, Appends-trans}
use Rattle.pictures.specs.declared.samples.frame.Frame.{Frame}
use Rattle.tool.specs.Progress.{HandsOn}
use Rattle.runs.specs.Recordings.{Recording, stops, preceded}
use Rattle.runs.specs.Progress.{HoldsMore, ComesTo, RecordsAs}

-- no frame more
pub none-more : (held : Option (List ℕ) → List Frame → Type 0) → HoldsMore [] held held
none-more held = λ base came is. subst (held base) (sym (append-nil came)) is

-- some frames, and others behind them
pub more-frames : (frames others : List Frame) (held holds later : Option (List ℕ) → List Frame → Type 0)
    → HoldsMore frames held holds → HoldsMore others holds later → HoldsMore (frames ++ others) held later
more-frames frames others held holds later first second = λ base came is.
    subst (later base) (append_assoc came frames others) (second base (came ++ frames) (first base came is))

pub same-frames : (frames : List Frame) (held holds later : Option (List ℕ) → List Frame → Type 0)
    → HoldsMore frames held holds → HoldsMore [] holds later → HoldsMore frames held later
same-frames frames held holds later first second = λ base came is.
    subst (later base) (append-nil (came ++ frames)) (second base (came ++ frames) (first base came is))

pub all-to-come : (whole : Recording) (bytes : Option (List ℕ)) (pending : List ℕ)
    (held : Option (List ℕ) → List Frame → Type 0)
    → ComesTo whole whole bytes bytes pending pending held held
all-to-come whole bytes pending held = record {
  earlier = [];
  frames = [];
  comes = refl;
  written = ([], Appends-nil bytes, append-nil pending);
  kept = none-more held;
}

-- nothing is to come but the end
pub ends-now : (whole : Recording) (status : ℕ) (bytes : Option (List ℕ)) (pending : List ℕ)
    (held : Option (List ℕ) → List Frame → Type 0) → whole ≡ stops status
    → ComesTo whole (stops status) bytes bytes pending pending held held
ends-now whole status bytes pending held is =
    subst (λ later. ComesTo whole later bytes bytes pending pending held held) is
    (all-to-come whole bytes pending held)

abbrev parts : List ℕ → List Frame → ℕ → Recording
parts text frames status = record { text = text; frames = frames; status = status }

pub preceded-twice : (e t : List ℕ) (f g : List Frame) (later : Recording)
    → preceded e f (preceded t g later) ≡ preceded (e ++ t) (f ++ g) later
preceded-twice e t f g later =
    ap (λ text. parts text (f ++ (g ++ later.frames)) later.status) (sym (append_assoc e t later.text))
    ∙ ap (λ frames. parts ((e ++ t) ++ later.text) frames later.status)
    (sym (append_assoc f g later.frames))

-- this text is printed, and these frames come
pub more-comes : (whole rest later : Recording) (old now : Option (List ℕ))
    (pending before after : List ℕ) (text : List ℕ) (frames : List Frame)
    (held holds holds-later : Option (List ℕ) → List Frame → Type 0)
    → ComesTo whole rest old now pending before held holds → rest ≡ preceded text frames later
    → after ≡ before ++ text → HoldsMore frames holds holds-later
    → ComesTo whole later old now pending after held holds-later
more-comes whole rest later old now pending before after text frames held holds holds-later leads is prints keeps = record {
  earlier = leads.earlier ++ text;
  frames = leads.frames ++ frames;
  comes = leads.comes ∙ ap (preceded leads.earlier leads.frames) is
      ∙ preceded-twice leads.earlier text leads.frames frames later;
  written = (
    leads.written.0,
    leads.written.1,
    sym (append_assoc pending leads.earlier text)
        ∙ ap (λ all. all ++ text) leads.written.2
        ∙ append_assoc leads.written.0 before text
        ∙ ap (λ all. leads.written.0 ++ all) (sym prints),
  );
  kept = more-frames leads.frames frames held holds holds-later leads.kept keeps;
}

-- some of what is pending is written
pub written-more : (whole rest : Recording) (old now new : Option (List ℕ))
    (pending before after : List ℕ) (held holds later : Option (List ℕ) → List Frame → Type 0)
    → ComesTo whole rest old now pending before held holds → HandsOn now new before after
    → HoldsMore [] holds later → ComesTo whole rest old new pending after held later
written-more whole rest old now new pending before after held holds later leads hands keeps = record {
  earlier = leads.earlier;
  frames = leads.frames;
  comes = leads.comes;
  written = (
    leads.written.0 ++ hands.0,
    Appends-trans old now new leads.written.0 hands.0 leads.written.1 hands.1,
    leads.written.2 ∙ ap (λ all. leads.written.0 ++ all) hands.2
        ∙ sym (append_assoc leads.written.0 hands.0 after),
  );
  kept = same-frames leads.frames held holds later leads.kept keeps;
}

-- nothing more is to come, and what is pending is written
pub all-written : (whole : Recording) (status : ℕ) (old now new : Option (List ℕ)) (pending : List ℕ)
    (held holds later : Option (List ℕ) → List Frame → Type 0)
    → ComesTo whole (stops status) old now [] pending held holds → Appends now new pending
    → HoldsMore [] holds later → RecordsAs whole status old new held later
all-written whole status old now new pending held holds later leads appends keeps = record {
  status = sym (ap (λ (r : Recording). r.status) leads.comes);
  written =
      subst (Appends old new)
      (sym leads.written.2
      ∙ sym (append-nil leads.earlier) ∙ sym (ap (λ (r : Recording). r.text) leads.comes))
      (Appends-trans old now new leads.written.0 pending leads.written.1 appends);
  kept =
      subst (λ frames. HoldsMore frames held later)
      (sym (append-nil leads.frames) ∙ sym (ap (λ (r : Recording). r.frames) leads.comes))
      (same-frames leads.frames held holds later leads.kept keeps);
}
