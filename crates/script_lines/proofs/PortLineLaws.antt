-- Texts that spell the same words say the same line of a port script.
use Rattle.std.proofs.Common.{◌≡◌, ℕ, suc, List, refl, ap, ◌∙◌, Option, None, Some, ◌==◌, ◌&&◌, length, Result, Ok}
use Rattle.std.specs.Prelude.{codes}
use Rattle.std.specs.Str.{bytes_eq}
use Rattle.script_lines.specs.Words.{first_word, after_word, after_words}
use Rattle.script_lines.specs.Fields.{or_fault, ◌>>=◌, number_of_field}
use Rattle.script_lines.specs.PortLines.{request_words, put_words, port_verb_words, port_verb_of, read_words, write_words, read_dma_words, write_dma_words, call_words, send_words, receive_words, security_in_words, security_out_words, identify_words, range_words, issue_words, accept_words, complete_words, recover_words, reset_words, take_words}
use Rattle.script_lines.specs.Verbs.{verb_of}
use Rattle.script_lines.specs.declared.field.Field.TheVariants as fields
use Rattle.script_lines.specs.declared.verb.Verb.{Verb}
use Rattle.script_lines.specs.declared.verb.Verb.TheVariants as verbs
use Rattle.script_lines.specs.declared.verb.PortVerb.{PortVerb}
use Rattle.script_lines.specs.declared.verb.PortVerb.TheVariants as steps
use Rattle.script_lines.specs.declared.port_line.PutRequest.{PutRequest}
use Rattle.script_lines.specs.declared.port_line.PortLine.{PortLine}
use Rattle.script_lines.specs.declared.port_line.PortLine.TheVariants as lines
use Rattle.script_lines.specs.declared.fault.LineFault.{LineFault}
use Rattle.script_lines.specs.declared.fault.LineFault.TheVariants.{UnknownStep, UnknownRequest}
use Rattle.script_lines.specs.Laws.{PortLineLaw, PortHeadLaw}
use Rattle.script_lines.proofs.LineLaws.{SameWords, same_words, same_after, line_law}

read_same : (a b : List ℕ) → SameWords a b → read_words a ≡ read_words b
read_same a b w = rw (w 0, w 1, w 2) refl

write_same : (a b : List ℕ) → SameWords a b → write_words a ≡ write_words b
write_same a b w = rw (w 0, w 1, w 2, w 3) refl

read_dma_same : (a b : List ℕ) → SameWords a b → read_dma_words a ≡ read_dma_words b
read_dma_same a b w = rw (w 0, w 1, w 2) refl

write_dma_same : (a b : List ℕ) → SameWords a b → write_dma_words a ≡ write_dma_words b
write_dma_same a b w = rw (w 0, w 1, w 2, w 3) refl

call_same : (a b : List ℕ) → SameWords a b → call_words a ≡ call_words b
call_same a b w = rw (w 0, w 1, w 2, w 3, w 4) refl

send_same : (a b : List ℕ) → SameWords a b → send_words a ≡ send_words b
send_same a b w = rw (w 0, w 1, w 2) refl

receive_same : (a b : List ℕ) → SameWords a b → receive_words a ≡ receive_words b
receive_same a b w = rw (w 0, w 1, w 2) refl

security_in_same : (a b : List ℕ) → SameWords a b → security_in_words a ≡ security_in_words b
security_in_same a b w = rw (w 0, w 1, w 2, w 3) refl

security_out_same : (a b : List ℕ) → SameWords a b → security_out_words a ≡ security_out_words b
security_out_same a b w = rw (w 0, w 1, w 2, w 3) refl

identify_same : (a b : List ℕ) → SameWords a b → identify_words a ≡ identify_words b
identify_same a b w = rw (w 0) refl

request_same : (verb : Verb) (a b : List ℕ) → SameWords a b → request_words verb a ≡ request_words verb b
request_same verbs.Read a b w = read_same a b w
request_same verbs.Write a b w = write_same a b w
request_same verbs.ReadDma a b w = read_dma_same a b w
request_same verbs.WriteDma a b w = write_dma_same a b w
request_same verbs.Call a b w = call_same a b w
request_same verbs.Send a b w = send_same a b w
request_same verbs.Receive a b w = receive_same a b w
request_same verbs.SecurityIn a b w = security_in_same a b w
request_same verbs.SecurityOut a b w = security_out_same a b w
request_same verbs.Identify a b w = identify_same a b w
request_same verbs.TperReset a b w = refl
request_same verbs.Range a b w = refl
request_same verbs.Log a b w = refl
request_same verbs.Reset a b w = refl
request_same verbs.Expect a b w = refl

-- a `put` line by its first words and what the others say
abbrev put_of : List ℕ → List ℕ → List ℕ → (Verb → Result PutRequest LineFault) → Result PortLine LineFault
put_of client_word tag_word name says = do
  client ← number_of_field fields.Client client_word
  tag ← number_of_field fields.Tag tag_word
  verb ← or_fault UnknownRequest (verb_of name)
  request ← says verb
  Ok (lines.Put client tag request)

put_same : (a b : List ℕ) → SameWords a b → put_words a ≡ put_words b
put_same a b w =
    λ i. put_of (w 0 i) (w 1 i) (w 2 i) (λ verb. request_same verb (after_words 3 a) (after_words 3 b) (λ k. w (suc (suc (suc k)))) i)

range_same : (a b : List ℕ) → SameWords a b → range_words a ≡ range_words b
range_same a b w = rw (w 0, w 1, w 2, w 3, w 4, w 5, w 6, w 7) refl

issue_same : (a b : List ℕ) → SameWords a b → issue_words a ≡ issue_words b
issue_same a b w = rw (w 0, w 1) refl

accept_same : (a b : List ℕ) → SameWords a b → accept_words a ≡ accept_words b
accept_same a b w = rw (w 0, w 1) refl

complete_same : (a b : List ℕ) → SameWords a b → complete_words a ≡ complete_words b
complete_same a b w = rw (w 0, w 1) refl

recover_same : (a b : List ℕ) → SameWords a b → recover_words a ≡ recover_words b
recover_same a b w = rw (w 0) refl

reset_same : (a b : List ℕ) → SameWords a b → reset_words a ≡ reset_words b
reset_same a b w = rw (w 0, w 1, w 2) refl

take_same : (a b : List ℕ) → SameWords a b → take_words a ≡ take_words b
take_same a b w = rw (w 0, w 1, w 2) refl

step_same : (verb : PortVerb) (a b : List ℕ) → SameWords a b → port_verb_words verb a ≡ port_verb_words verb b
step_same steps.Range a b w = range_same a b w
step_same steps.Put a b w = put_same a b w
step_same steps.Issue a b w = issue_same a b w
step_same steps.Accept a b w = accept_same a b w
step_same steps.Complete a b w = complete_same a b w
step_same steps.Recover a b w = recover_same a b w
step_same steps.Reset a b w = reset_same a b w
step_same steps.Take a b w = take_same a b w
step_same steps.Expect a b w = refl

step_then_same : (v : Option PortVerb) (a b : List ℕ) → SameWords a b
    → (or_fault UnknownStep v >>= λ verb. port_verb_words verb a) ≡ (or_fault UnknownStep v >>= λ verb. port_verb_words verb b)
step_then_same None a b w = refl
step_then_same (Some v) a b w = step_same v a b w

pub port_line_law : PortLineLaw
port_line_law a b s =
    let w = same_words a b s in
    step_then_same (port_verb_of (first_word a)) (after_word a) (after_word b) (same_after a b w)
    ∙ ap (λ x. or_fault UnknownStep (port_verb_of x) >>= λ verb. port_verb_words verb (after_word b)) (w 0)

pub port_head_law : PortHeadLaw
port_head_law a b s =
    let w = same_words a b s in
    λ i. bytes_eq (w 0 i) (codes "port") && length (w 1 i) == 0

pub ruleset of_lines = (line_law, port_line_law, port_head_law)
