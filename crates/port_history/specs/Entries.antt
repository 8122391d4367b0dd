-- A history in little memory: a mark for each step, and the requests and answers that marks name.
use Rattle.std.specs.Prelude.{◌≡◌, ℕ, ◌<◌, ◌-◌, ◌++◌, ◌&&◌, Bool, nat_lt, List, length, map, slice_index_or}
use Rattle.port_history.specs.declared.entries.EntryRef.{EntryRef}
use Rattle.port_history.specs.declared.entries.Mark.{Mark}
use Rattle.port_history.specs.declared.entries.Mark.TheVariants as marks
use Rattle.port_history.specs.declared.entries.StepRef.{StepRef}
use Rattle.port_history.specs.declared.entries.StepRef.TheVariants as lent
use Rattle.port_history.specs.declared.request.Answer.{Answer}
use Rattle.port_history.specs.declared.request.Request.{Request}
use Rattle.port_history.specs.declared.request.Request.TheVariants.{Flush}
use Rattle.port_history.specs.declared.step.Entry.{Entry}
use Rattle.port_history.specs.declared.step.Step.{Step}
use Rattle.port_history.specs.declared.step.Step.TheVariants as steps
use Rattle.port_history.specs.Requests.{no_bytes}

-- The entries, the oldest first, and whether there is room for one more mark, request and answer.
pub record EntriesState : Type 0 where
  pub items : List Entry
  pub room : Bool
  pub request_room : Bool
  pub answer_room : Bool

-- The step of a mark, and what it answered.
abbrev pub step_marked : List Request → Mark → Step
step_marked requests (marks.Put tag client place) =
    steps.Put client tag (slice_index_or requests place Flush)
step_marked requests (marks.Issue tag) = steps.Issue tag
step_marked requests (marks.Accept tag) = steps.Accept tag
step_marked requests (marks.Complete tag) = steps.Complete tag
step_marked requests marks.Recover = steps.Recover
step_marked requests (marks.Reset kind client) = steps.Reset client kind
step_marked requests (marks.Take tag client place) = steps.Take client tag

abbrev pub reply_marked : List Answer → Mark → Answer
reply_marked answers (marks.Put tag client place) = no_bytes
reply_marked answers (marks.Issue tag) = no_bytes
reply_marked answers (marks.Accept tag) = no_bytes
reply_marked answers (marks.Complete tag) = no_bytes
reply_marked answers marks.Recover = no_bytes
reply_marked answers (marks.Reset kind client) = no_bytes
reply_marked answers (marks.Take tag client place) = slice_index_or answers place no_bytes

abbrev pub entry_marked : List Request → List Answer → Mark → Entry
entry_marked requests answers mark = record {
  step = step_marked requests mark;
  reply = reply_marked answers mark;
}

-- What a mark names is there, of so many requests, and of so many answers.
abbrev pub HasRequest : ℕ → Mark → Type 0
HasRequest many (marks.Put tag client place) = place < many
HasRequest many (marks.Issue tag) = Unit {0}
HasRequest many (marks.Accept tag) = Unit {0}
HasRequest many (marks.Complete tag) = Unit {0}
HasRequest many marks.Recover = Unit {0}
HasRequest many (marks.Reset kind client) = Unit {0}
HasRequest many (marks.Take tag client place) = Unit {0}

abbrev pub HasAnswer : ℕ → Mark → Type 0
HasAnswer many (marks.Put tag client place) = Unit {0}
HasAnswer many (marks.Issue tag) = Unit {0}
HasAnswer many (marks.Accept tag) = Unit {0}
HasAnswer many (marks.Complete tag) = Unit {0}
HasAnswer many marks.Recover = Unit {0}
HasAnswer many (marks.Reset kind client) = Unit {0}
HasAnswer many (marks.Take tag client place) = place < many

-- An answer stands last.
abbrev pub IsLast : List Answer → Answer → Type 0
IsLast answers answer =
    (0 < length answers) × (slice_index_or answers (length answers - 1) no_bytes ≡ answer)

-- An answer stands at a place of the answers, behind which none was taken away.
abbrev pub IsKept : List Answer → List Answer → Answer → ℕ → Type 0
IsKept before now answer place =
    ((more : List Answer) × (now ≡ before ++ more))
    × (place < length now) × (slice_index_or now place no_bytes ≡ answer)

-- A place has 32 bits.
abbrev pub has_room : ℕ → ℕ → Bool
has_room len capacity = nat_lt len capacity && nat_lt len 4294967296

-- An entry that is lent.
abbrev pub step_lent : StepRef → Step
step_lent (lent.Put client tag request) = steps.Put client tag request.now
step_lent (lent.Issue tag) = steps.Issue tag
step_lent (lent.Accept tag) = steps.Accept tag
step_lent (lent.Complete tag) = steps.Complete tag
step_lent lent.Recover = steps.Recover
step_lent (lent.Reset client kind) = steps.Reset client kind
step_lent (lent.Take client tag) = steps.Take client tag

abbrev pub entry_lent : EntryRef → Entry
entry_lent e = record { step = step_lent e.step; reply = e.reply.now }
