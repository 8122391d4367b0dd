-- Frames, one more at a time.
use Rattle.std.proofs.Common.{◌≡◌, ◌∙◌, ℕ, zero, suc, ◌+◌, ◌<◌, ◌≤◌, Bool, true, false, List, [], ◌∷◌, ◌++◌, length, take, drop, ◌-◌, length-drop, get_or, refl, ap, sym, add-one, append_assoc, append-nil, arith, Option, None, Some}
use Rattle.std.proofs.lemmas.List.{drop_more}
use Rattle.std.proofs.Math.ListN.{drop_of_length-le}
use Rattle.std.proofs.Math.Seq.{take-length}
use Rattle.std.specs.Prelude.{if◌then◌else◌, is_some, ◌||◌}
use Rattle.drawing.specs.Pictures.{Picture}
use Rattle.drawing.specs.declared.picture.Bar.{Bar}
use Rattle.drawing.specs.declared.picture.Mark.{Mark}
use Rattle.pictures.specs.declared.samples.frame.Frame.{Frame}
use Rattle.pictures.specs.Looks.{look_at, is_shown, lane_at}
use Rattle.pictures.specs.Bars.{lasting, begun_at, bars_from, is_seen, denial_marks, denials_from, with_bars, with_marks, with_lane, with_lanes}
use Rattle.pictures.specs.declared.pictured.lane.Lane.{Lane}
use Rattle.pictures.specs.declared.pictured.look.Look.{Look}

-- the frame at hand, and those behind it
pub at_hand : (frames : List Frame) (place : ℕ) (frame : Frame) → place < length frames
    → frame ≡ get_or frames place frame → drop place frames ≡ frame ∷ drop (place + 1) frames
at_hand frames place frame below is =
    drop_more frames place frame below ∙ ap (λ x. x ∷ drop (place + 1) frames) (sym is)

-- all that stands behind a place
pub all_behind : (frames : List Frame) (place : ℕ)
    → take (length frames - place) (drop place frames) ≡ drop place frames
all_behind frames place =
    ap (λ n. take n (drop place frames)) (sym (length-drop place frames))
    ∙ take-length (drop place frames)

-- how long a look lasts

none_before : (n : ℕ) → n ≡ 0 + n
none_before n = omega arith

pub lasts_first : (lane : Lane) (look : Look) (at : ℕ) (frames : List Frame)
    → lasting lane look at frames ≡ 0 + lasting lane look (at + 0) (drop 0 frames)
lasts_first lane look at frames =
    let same : at ≡ at + 0 = omega arith in
    ap (λ a. lasting lane look a frames) same ∙ none_before (lasting lane look (at + 0) frames)

moved : (at place : ℕ) → (at + place) + 1 ≡ at + (place + 1)
moved at place = omega arith

counted : (place n : ℕ) → place + (1 + n) ≡ (place + 1) + n
counted place n = omega arith

nothing_more : (place : ℕ) → place + 0 ≡ place
nothing_more place = omega arith

pub lasts_on : (lane : Lane) (look : Look) (at whole place : ℕ) (frames : List Frame) (frame : Frame)
    → place < length frames → frame ≡ get_or frames place frame
    → is_shown look (look_at lane (at + place) frame) ≡ true
    → whole ≡ place + lasting lane look (at + place) (drop place frames)
    → whole ≡ (place + 1) + lasting lane look (at + (place + 1)) (drop (place + 1) frames)
unfolding lasting
lasts_on lane look at whole place frames frame below is shown before =
    before
    ∙ ap (λ fs. place + lasting lane look (at + place) fs) (at_hand frames place frame below is)
    ∙ ap (λ (b : Bool). place + (if b then 1 + lasting lane look ((at + place) + 1) (drop (place + 1) frames) else 0)) shown
    ∙ ap (λ a. place + (1 + lasting lane look a (drop (place + 1) frames))) (moved at place)
    ∙ counted place (lasting lane look (at + (place + 1)) (drop (place + 1) frames))

pub lasts_no_more : (lane : Lane) (look : Look) (at whole place : ℕ) (frames : List Frame) (frame : Frame)
    → place < length frames → frame ≡ get_or frames place frame
    → is_shown look (look_at lane (at + place) frame) ≡ false
    → whole ≡ place + lasting lane look (at + place) (drop place frames) → whole ≡ place
unfolding lasting
lasts_no_more lane look at whole place frames frame below is shown before =
    before
    ∙ ap (λ fs. place + lasting lane look (at + place) fs) (at_hand frames place frame below is)
    ∙ ap (λ (b : Bool). place + (if b then 1 + lasting lane look ((at + place) + 1) (drop (place + 1) frames) else 0)) shown
    ∙ nothing_more place

none_left : (frames : List Frame) (place : ℕ) → length frames ≤ place → drop place frames ≡ []
none_left frames place all = drop_of_length-le frames all

pub lasts_to_the_end : (lane : Lane) (look : Look) (at whole place : ℕ) (frames : List Frame)
    → length frames ≤ place
    → whole ≡ place + lasting lane look (at + place) (drop place frames) → whole ≡ place
unfolding lasting
lasts_to_the_end lane look at whole place frames all before =
    before ∙ ap (λ fs. place + lasting lane look (at + place) fs) (none_left frames place all) ∙ nothing_more place

-- the bars of a lane

bars_more : (p : Picture) (bars more : List Bar) → with_bars (bars ++ more) p ≡ with_bars more (with_bars bars p)
bars_more p bars more = ap (λ all. record p { bars = all }) (sym (append_assoc p.bars bars more))

pub bars_first : (lane : Lane) (row : ℕ) (frames : List Frame) (p : Picture)
    → with_bars (bars_from lane row None 0 frames) p ≡ with_bars (bars_from lane row None 0 (drop 0 frames)) p
bars_first lane row frames p = refl

pub bars_on : (lane : Lane) (row place : ℕ) (shown look : Option Look) (frames behind : List Frame) (frame : Frame)
    (whole old new : Picture)
    → place < length frames → frame ≡ get_or frames place frame → behind ≡ drop (place + 1) frames
    → look ≡ look_at lane place frame
    → whole ≡ with_bars (bars_from lane row shown place (drop place frames)) old
    → new ≡ with_bars (begun_at lane row shown place frame behind look) old
    → whole ≡ with_bars (bars_from lane row look (place + 1) (drop (place + 1) frames)) new
unfolding bars_from
bars_on lane row place shown look frames behind frame whole old new below is rest looks before made =
    before
    ∙ ap (λ fs. with_bars (bars_from lane row shown place fs) old) (at_hand frames place frame below is)
    ∙ bars_more old (begun_at lane row shown place frame (drop (place + 1) frames) (look_at lane place frame))
    (bars_from lane row (look_at lane place frame) (place + 1) (drop (place + 1) frames))
    ∙ ap (λ (l : Option Look). with_bars (bars_from lane row l (place + 1) (drop (place + 1) frames))
    (with_bars (begun_at lane row shown place frame (drop (place + 1) frames) l) old)) (sym looks)
    ∙ ap (λ (fs : List Frame). with_bars (bars_from lane row look (place + 1) (drop (place + 1) frames))
    (with_bars (begun_at lane row shown place frame fs look) old)) (sym rest)
    ∙ ap (with_bars (bars_from lane row look (place + 1) (drop (place + 1) frames))) (sym made)

pub bars_all : (lane : Lane) (row place : ℕ) (shown : Option Look) (frames : List Frame) (whole now : Picture)
    → length frames ≤ place
    → whole ≡ with_bars (bars_from lane row shown place (drop place frames)) now → now ≡ whole
unfolding bars_from
bars_all lane row place shown frames whole now all before =
    sym (before
    ∙ ap (λ fs. with_bars (bars_from lane row shown place fs) now) (none_left frames place all)
    ∙ ap (λ all. record now { bars = all }) (append-nil now.bars))

-- whether a lane shows something

pub seen_on : (lane : Lane) (place : ℕ) (frames : List Frame) (frame : Frame) (whole : Bool)
    → place < length frames → frame ≡ get_or frames place frame
    → is_some (look_at lane place frame) ≡ false
    → whole ≡ is_seen lane place (drop place frames)
    → whole ≡ is_seen lane (place + 1) (drop (place + 1) frames)
unfolding is_seen
seen_on lane place frames frame whole below is none before =
    before
    ∙ ap (is_seen lane place) (at_hand frames place frame below is)
    ∙ ap (λ (b : Bool). b || is_seen lane (place + 1) (drop (place + 1) frames)) none

pub seen_here : (lane : Lane) (place : ℕ) (frames : List Frame) (frame : Frame) (whole : Bool)
    → place < length frames → frame ≡ get_or frames place frame
    → is_some (look_at lane place frame) ≡ true
    → whole ≡ is_seen lane place (drop place frames) → true ≡ whole
unfolding is_seen
seen_here lane place frames frame whole below is some before =
    sym (before
    ∙ ap (is_seen lane place) (at_hand frames place frame below is)
    ∙ ap (λ (b : Bool). b || is_seen lane (place + 1) (drop (place + 1) frames)) some)

pub seen_nowhere : (lane : Lane) (place : ℕ) (frames : List Frame) (whole : Bool)
    → length frames ≤ place → whole ≡ is_seen lane place (drop place frames) → false ≡ whole
unfolding is_seen
seen_nowhere lane place frames whole all before =
    sym (before ∙ ap (is_seen lane place) (none_left frames place all))

-- the marks of denials

marks_more : (p : Picture) (marks more : List Mark)
    → with_marks (marks ++ more) p ≡ with_marks more (with_marks marks p)
marks_more p marks more = ap (λ all. record p { marks = all }) (sym (append_assoc p.marks marks more))

pub denials_on : (place : ℕ) (frames : List Frame) (frame : Frame) (whole old new : Picture)
    → place < length frames → frame ≡ get_or frames place frame
    → whole ≡ with_marks (denials_from place (drop place frames)) old
    → new ≡ with_marks (denial_marks place frame) old
    → whole ≡ with_marks (denials_from (place + 1) (drop (place + 1) frames)) new
unfolding denials_from
denials_on place frames frame whole old new below is before made =
    before
    ∙ ap (λ fs. with_marks (denials_from place fs) old) (at_hand frames place frame below is)
    ∙ marks_more old (denial_marks place frame) (denials_from (place + 1) (drop (place + 1) frames))
    ∙ ap (with_marks (denials_from (place + 1) (drop (place + 1) frames))) (sym made)

pub denials_all : (place : ℕ) (frames : List Frame) (whole now : Picture) → length frames ≤ place
    → whole ≡ with_marks (denials_from place (drop place frames)) now → now ≡ whole
unfolding denials_from
denials_all place frames whole now all before =
    sym (before
    ∙ ap (λ fs. with_marks (denials_from place fs) now) (none_left frames place all)
    ∙ ap (λ all. record now { marks = all }) (append-nil now.marks))

-- lanes

pub no_lanes : (frames : List Frame) (p : Picture) → with_lanes frames 0 p ≡ p
unfolding with_lanes
no_lanes frames p = refl

pub lanes_on : (frames : List Frame) (n : ℕ) (p now new : Picture) (lane : Lane) → lane ≡ lane_at n
    → now ≡ with_lanes frames n p → new ≡ with_lane frames lane now
    → new ≡ with_lanes frames (n + 1) p
unfolding with_lanes
lanes_on frames n p now new lane is before made =
    made ∙ ap (λ l. with_lane frames l now) is ∙ ap (with_lane frames (lane_at n)) before
    ∙ ap (λ k. with_lanes frames k p) (sym (add-one n))
