-- A dump, one frame more at a time.
use Rattle.std.proofs.Common.{◌≡◌, ◌∙◌, ℕ, Bool, IfSome, List, [], ◌∷◌, ◌++◌, refl, sym, ap, subst, append_assoc, append-nil, Option, Some, None}
use Rattle.std.specs.Io.KnownBytes.{Appends}
use Rattle.std.proofs.KnownBytes.{Appends-nil, Appends-trans}
use Rattle.sp_cells.specs.Config.{Config}
use Rattle.pictures.specs.Samples.{Sample}
use Rattle.pictures.specs.declared.samples.frame.Frame.{Frame}
use Rattle.pictures.specs.Dumps.{frame_text, dump_from, dump_text}
use Rattle.runs.specs.Dumped.{last_shown, IsDumped}
use Rattle.runs.specs.Recordings.{recording_by}
use Rattle.runs.specs.Progress.{Records}

shown-more : (shown : Option Sample) (frames : List Frame) (frame : Frame)
    → last_shown shown (frames ++ frame ∷ []) ≡ Some frame.sample
unfolding last_shown
shown-more shown [] frame = refl
shown-more shown (first ∷ frames) frame = shown-more (Some first.sample) frames frame

dumped-more : (shown : Option Sample) (frames : List Frame) (frame : Frame)
    → dump_from shown (frames ++ frame ∷ []) ≡ dump_from shown frames ++ frame_text (last_shown shown frames) frame
unfolding dump_from last_shown
dumped-more shown [] frame = append-nil (frame_text shown frame)
dumped-more shown (first ∷ frames) frame =
    ap (λ text. frame_text shown first ++ text) (dumped-more (Some first.sample) frames frame)
    ∙ sym (append_assoc (frame_text shown first) (dump_from (Some first.sample) frames)
    (frame_text (last_shown (Some first.sample) frames) frame))

-- no frame came
pub none-dumped : (bytes : Option (List ℕ)) (shown : Option Sample) (pending : List ℕ) → shown ≡ None → pending ≡ []
    → IsDumped bytes bytes shown pending []
unfolding dump_from last_shown
none-dumped bytes shown pending is none = ([], Appends-nil bytes, sym none, is)

-- one frame more is pending
pub frame-dumped : (before after : Option (List ℕ)) (shown now : Option Sample) (pending new : List ℕ)
    (frames : List Frame) (frame : Frame) → new ≡ pending ++ frame_text shown frame → now ≡ Some frame.sample
    → IsDumped before after shown pending frames → IsDumped before after now new (frames ++ frame ∷ [])
frame-dumped before after shown now pending new frames frame appends is (bytes, written, text, at) = (
  bytes,
  written,
  dumped-more None frames frame
      ∙ ap (λ text. text ++ frame_text (last_shown None frames) frame) text
      ∙ append_assoc bytes pending (frame_text (last_shown None frames) frame)
      ∙ ap (λ s. bytes ++ (pending ++ frame_text s frame)) (sym at)
      ∙ ap (λ text. bytes ++ text) (sym appends),
  is ∙ sym (shown-more None frames frame),
)

-- what is pending is written
pub written-dumped : (before now after : Option (List ℕ)) (shown then-shown : Option Sample) (pending left : List ℕ)
    (frames : List Frame) → then-shown ≡ shown → left ≡ [] → Appends now after pending
    → IsDumped before now shown pending frames → IsDumped before after then-shown left frames
written-dumped before now after shown then-shown pending left frames same none appends (bytes, written, text, at) = (
  bytes ++ pending,
  Appends-trans before now after bytes pending written appends,
  text ∙ sym (append-nil (bytes ++ pending)) ∙ ap (λ left. (bytes ++ pending) ++ left) (sym none),
  same ∙ at,
)

-- all of it is written
all-written-of : (before after : Option (List ℕ)) (shown : Option Sample) (pending : List ℕ) (frames : List Frame)
    → pending ≡ [] → IsDumped before after shown pending frames → Appends before after (dump_text frames)
all-written-of before after shown pending frames none (bytes, written, text, at) =
    subst (Appends before after)
    (sym (text ∙ ap (λ left. bytes ++ left) none ∙ append-nil bytes)) written

-- the dump of a whole run
pub run-dumped : (input : Option (List ℕ)) (explains : Bool) (config : Config) (status : ℕ)
    (old new before now after : Option (List ℕ)) (last left-shown : Option Sample) (left cleared : List ℕ)
    (held holds : Option (List ℕ) → List Frame → Type 0) → held before []
    → ((frames : List Frame) → holds before frames → IsDumped before now last left frames)
    → left-shown ≡ last → cleared ≡ [] → Appends now after left
    → Records explains config input status old new held holds
    → IfSome input (λ text. Appends before after (dump_text (recording_by explains config text).frames))
run-dumped None explains config status old new before now after last left-shown left cleared held holds
    none dumps same clears appends records = tt
run-dumped (Some text) explains config status old new before now after last left-shown left cleared held
    holds none dumps same clears appends records =
    let frames = (recording_by explains config text).frames in
    all-written-of before after left-shown cleared frames clears
    (written-dumped before now after last left-shown left cleared frames same clears appends
    (dumps frames (records.kept before [] none)))
