-- What is found on the way: the kinds of lines that are printed, and states that letters tell apart.
use Rattle.std.specs.Prelude.{ℕ, ◌+◌, ◌%◌, ◌^◌, ◌==◌, nat_eq, Bool, ◌||◌, List, [], ◌∷◌, ◌++◌, length, codes, if◌then◌else◌}
use Rattle.std.specs.List.{fold, flat_map, starts_with}
use Rattle.std.specs.Str.{bytes_eq}
use Rattle.script_lines.specs.Words.{nth_word, after_words}
use Rattle.tool.specs.Scripts.{script_lines}
use Rattle.runs.specs.Alphabets.{with_line}
use Rattle.runs.specs.declared.explored.findings.Findings.{Findings}
use Rattle.runs.specs.declared.explored.kinds.Kind.{Kind}
use Rattle.runs.specs.declared.explored.tries.Try.{Try}

-- a printed line; of an audit line without the numbers of its step and its client
abbrev pub kind_text : List ℕ → List ℕ
kind_text line =
    if bytes_eq (nth_word 0 line) (codes "audit") then codes "audit" ++ after_words 3 line else line

-- a denial, a failure, a refusal, or a command that a reset stopped
abbrev pub is_failure_word : List ℕ → Bool
is_failure_word word = bytes_eq word (codes "audit") || bytes_eq word (codes "fail")
    || bytes_eq word (codes "refused") || bytes_eq word (codes "reset")

-- a text stands in another
abbrev pub stands_in : List ℕ → List ℕ → Bool
stands_in needle [] = length needle == 0
stands_in needle (byte ∷ bytes) =
    starts_with nat_eq (byte ∷ bytes) needle || stands_in needle bytes

-- what is looked for: a kind that has a text; where none is given, a failure
abbrev pub is_wanted : List ℕ → List ℕ → Bool
is_wanted [] text = is_failure_word (nth_word 0 text)
is_wanted (byte ∷ bytes) text = stands_in (byte ∷ bytes) text

-- one time more, as far as 64 bits count
abbrev pub seen_again : Kind → Kind
seen_again kind = record {
  text = kind.text;
  times = (kind.times + 1) % 2 ^ 64;
  list = kind.list;
}

-- seen for the first time, behind this list
abbrev pub first_seen : List ℕ → List ℕ → Kind
first_seen text list = record { text = text; times = 1; list = list }

-- kinds of which each stands once, with one that was seen behind a list
abbrev pub with_kind : List Kind → List ℕ → List ℕ → List Kind
with_kind [] text list = first_seen text list ∷ []
with_kind (kind ∷ kinds) text list =
    if bytes_eq kind.text text then seen_again kind ∷ kinds else kind ∷ with_kind kinds text list

-- with what a list printed, where it is looked for
abbrev pub with_printed : List ℕ → List ℕ → List Kind → List ℕ → List Kind
with_printed find list kinds line =
    if is_wanted find (kind_text line) then with_kind kinds (kind_text line) list else kinds

abbrev pub noting_try : List ℕ → List Kind → Try → List Kind
noting_try find kinds try =
    fold (with_printed find try.list) kinds (script_lines try.answer)

-- the kinds of lines that an answer has, a line for each
abbrev pub answer_kinds : List ℕ → List ℕ
answer_kinds answer = flat_map (λ line. kind_text line ++ 10 ∷ []) (script_lines answer)

-- a state is known by what each letter prints next, but for the numbers of steps and clients
abbrev pub state_of : List Try → List ℕ
state_of tries = flat_map (λ try. answer_kinds try.answer ++ 10 ∷ []) tries

-- nothing was found yet
abbrev pub nothing_found : Findings
nothing_found = record { lists = 0; states = []; kinds = [] }

-- with what the letters behind one more list print
abbrev pub noting_tries : List ℕ → Findings → List Try → Findings
noting_tries find findings tries = record {
  lists = (findings.lists + length tries) % 2 ^ 64;
  states = with_line findings.states (state_of tries);
  kinds = fold (noting_try find) findings.kinds tries;
}
