-- Marks and what they name, as requests and answers are added.
use Rattle.std.proofs.Common.{◌≡◌, ℕ, ◌+◌, ◌<◌, ◌≤◌, List, [], ◌∷◌, ◌++◌, length, get_or, map, refl, ap, ◌∙◌, sym, arith, rules}
use Rattle.std.specs.List.{All}
use Rattle.std.proofs.lemmas.List.{get_or_append_left, get_or_at, map-append, length-append}
use Rattle.std.proofs.lemmas.List.Elements.{All-head, All-tail, All-push}
use Rattle.port_history.specs.declared.entries.Mark.{Mark}
use Rattle.port_history.specs.declared.entries.Mark.TheVariants as marks
use Rattle.port_history.specs.declared.request.Answer.{Answer}
use Rattle.port_history.specs.declared.request.Request.{Request}
use Rattle.port_history.specs.declared.request.Request.TheVariants.{Flush}
use Rattle.port_history.specs.declared.step.Entry.{Entry}
use Rattle.port_history.specs.declared.step.Step.TheVariants as steps
use Rattle.port_history.specs.Entries.{HasRequest, HasAnswer, IsKept, entry_marked}
use Rattle.port_history.specs.Requests.{no_bytes}

-- one mark
has_request_more : (mark : Mark) (n : ℕ) → HasRequest n mark → HasRequest (n + 1) mark
has_request_more (marks.Put tag client place) n h = omega (arith, h)
has_request_more (marks.Issue tag) n h = h
has_request_more (marks.Accept tag) n h = h
has_request_more (marks.Complete tag) n h = h
has_request_more marks.Recover n h = h
has_request_more (marks.Reset kind client) n h = h
has_request_more (marks.Take tag client place) n h = h

has_answer_more : (mark : Mark) (n m : ℕ) → n ≤ m → HasAnswer n mark → HasAnswer m mark
has_answer_more (marks.Put tag client place) n m le h = h
has_answer_more (marks.Issue tag) n m le h = h
has_answer_more (marks.Accept tag) n m le h = h
has_answer_more (marks.Complete tag) n m le h = h
has_answer_more marks.Recover n m le h = h
has_answer_more (marks.Reset kind client) n m le h = h
has_answer_more (marks.Take tag client place) n m le h = omega (arith, le, h)

entry_after_request : (mark : Mark) (requests : List Request) (answers : List Answer) (r : Request)
    → HasRequest (length requests) mark
    → entry_marked (requests ++ r ∷ []) answers mark ≡ entry_marked requests answers mark
entry_after_request (marks.Put tag client place) requests answers r h =
    ap (λ (x : Request). record { step = steps.Put client tag x; reply = no_bytes })
    (get_or_append_left requests (r ∷ []) Flush place h)
entry_after_request (marks.Issue tag) requests answers r h = refl
entry_after_request (marks.Accept tag) requests answers r h = refl
entry_after_request (marks.Complete tag) requests answers r h = refl
entry_after_request marks.Recover requests answers r h = refl
entry_after_request (marks.Reset kind client) requests answers r h = refl
entry_after_request (marks.Take tag client place) requests answers r h = refl

entry_after_answers : (mark : Mark) (requests : List Request) (answers more : List Answer)
    → HasAnswer (length answers) mark
    → entry_marked requests (answers ++ more) mark ≡ entry_marked requests answers mark
entry_after_answers (marks.Put tag client place) requests answers more h = refl
entry_after_answers (marks.Issue tag) requests answers more h = refl
entry_after_answers (marks.Accept tag) requests answers more h = refl
entry_after_answers (marks.Complete tag) requests answers more h = refl
entry_after_answers marks.Recover requests answers more h = refl
entry_after_answers (marks.Reset kind client) requests answers more h = refl
entry_after_answers (marks.Take tag client place) requests answers more h =
    ap (λ (x : Answer). record { step = steps.Take client tag; reply = x })
    (get_or_append_left answers more no_bytes place h)

-- all of them
have_requests_more : (ms : List Mark) (n : ℕ) → All (HasRequest n) ms → All (HasRequest (n + 1)) ms
have_requests_more ms n h k d lt = has_request_more (get_or ms k d) n (h k d lt)

have_answers_more : (ms : List Mark) (n m : ℕ) → n ≤ m → All (HasAnswer n) ms → All (HasAnswer m) ms
have_answers_more ms n m le h k d lt = has_answer_more (get_or ms k d) n m le (h k d lt)

entries_after_request : (ms : List Mark) (requests : List Request) (answers : List Answer)
    (r : Request) → All (HasRequest (length requests)) ms
    → map (entry_marked (requests ++ r ∷ []) answers) ms ≡ map (entry_marked requests answers) ms
entries_after_request [] requests answers r h = refl
entries_after_request (m ∷ ms) requests answers r h =
    let here : entry_marked (requests ++ r ∷ []) answers m ≡ entry_marked requests answers m =
    entry_after_request m requests answers r (All-head (HasRequest (length requests)) m ms h) in
    let rest : map (entry_marked (requests ++ r ∷ []) answers) ms ≡ map (entry_marked requests answers) ms =
    entries_after_request ms requests answers r (All-tail (HasRequest (length requests)) m ms h) in
    cc

entries_after_answers : (ms : List Mark) (requests : List Request) (answers more : List Answer)
    → All (HasAnswer (length answers)) ms
    → map (entry_marked requests (answers ++ more)) ms ≡ map (entry_marked requests answers) ms
entries_after_answers [] requests answers more h = refl
entries_after_answers (m ∷ ms) requests answers more h =
    let here : entry_marked requests (answers ++ more) m ≡ entry_marked requests answers m =
    entry_after_answers m requests answers more (All-head (HasAnswer (length answers)) m ms h) in
    let rest : map (entry_marked requests (answers ++ more)) ms ≡ map (entry_marked requests answers) ms =
    entries_after_answers ms requests answers more (All-tail (HasAnswer (length answers)) m ms h) in
    cc

-- one mark more
pub all_with : (P : Mark → Type 0) (ms now : List Mark) (m : Mark) → now ≡ ms ++ m ∷ []
    → All P ms → P m → All P now
all_with P ms now m is h here = rw is (All-push P ms m h here)

-- a Put, with its request
pub put_pushed : (ms now : List Mark) (requests all : List Request) (answers : List Answer)
    (r : Request) (tag client place : ℕ) → all ≡ requests ++ r ∷ []
    → now ≡ ms ++ marks.Put tag client place ∷ [] → place ≡ length requests
    → All (HasRequest (length requests)) ms
    → map (entry_marked all answers) now ≡ map (entry_marked requests answers) ms
    ++ record { step = steps.Put client tag r; reply = no_bytes } ∷ []
put_pushed ms now requests all answers r tag client place more is placed h =
    rw (more, is, placed)
    (map-append (entry_marked (requests ++ r ∷ []) answers) ms (marks.Put tag client (length requests) ∷ [])
    ∙ ap (λ (es : List Entry). es
    ++ entry_marked (requests ++ r ∷ []) answers (marks.Put tag client (length requests)) ∷ [])
    (entries_after_request ms requests answers r h)
    ∙ ap (λ (x : Request). map (entry_marked requests answers) ms
    ++ record { step = steps.Put client tag x; reply = no_bytes } ∷ [])
    (get_or_at requests r [] Flush (length requests) refl))

pub requests_with : (ms now : List Mark) (requests all : List Request) (r : Request)
    (tag client place : ℕ) → all ≡ requests ++ r ∷ []
    → now ≡ ms ++ marks.Put tag client place ∷ [] → place ≡ length requests
    → All (HasRequest (length requests)) ms → All (HasRequest (length all)) now
requests_with ms now requests all r tag client place more is placed h =
    let long : length all ≡ length requests + 1 = ap length more ∙ length-append requests (r ∷ []) in
    let here : place < length all = omega (arith, placed, long) in
    rw is (All-push (HasRequest (length all)) ms (marks.Put tag client place) (rw long (have_requests_more ms (length requests) h)) here)

-- a Take, with its answer
pub take_pushed : (ms now : List Mark) (requests : List Request) (answers all : List Answer)
    (a : Answer) (tag client place : ℕ) → IsKept answers all a place
    → now ≡ ms ++ marks.Take tag client place ∷ []
    → All (HasAnswer (length answers)) ms
    → map (entry_marked requests all) now ≡ map (entry_marked requests answers) ms
    ++ record { step = steps.Take client tag; reply = a } ∷ []
take_pushed ms now requests answers all a tag client place kept is h =
    let more : List Answer = kept.0.0 in
    let grown : all ≡ answers ++ more = kept.0.1 in
    let there : get_or all place no_bytes ≡ a = kept.2 in
    rw is
    (map-append (entry_marked requests all) ms (marks.Take tag client place ∷ [])
    ∙ ap (λ (es : List Entry). es ++ entry_marked requests all (marks.Take tag client place) ∷ [])
    (rw grown (entries_after_answers ms requests answers more h))
    ∙ ap (λ (x : Answer). map (entry_marked requests answers) ms
    ++ record { step = steps.Take client tag; reply = x } ∷ []) there)

pub answers_with : (ms now : List Mark) (answers all : List Answer) (a : Answer)
    (tag client place : ℕ) → IsKept answers all a place
    → now ≡ ms ++ marks.Take tag client place ∷ []
    → All (HasAnswer (length answers)) ms → All (HasAnswer (length all)) now
answers_with ms now answers all a tag client place kept is h =
    let long : length all ≡ length answers + length kept.0.0 =
    ap length kept.0.1 ∙ length-append answers kept.0.0 in
    let le : length answers ≤ length all = omega (arith, long) in
    rw is (All-push (HasAnswer (length all)) ms (marks.Take tag client place)
    (have_answers_more ms (length answers) (length all) le h) kept.1)
