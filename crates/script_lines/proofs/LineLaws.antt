-- Texts that spell the same words say the same line.
use Rattle.std.proofs.Common.{◌≡◌, ℕ, suc, List, refl, sym, ap, ◌∙◌, Option, None, Some}
use Rattle.script_lines.specs.Words.{first_word, after_word, nth_word}
use Rattle.script_lines.specs.Fields.{or_fault, ◌>>=◌}
use Rattle.script_lines.specs.Lines.{verb_line, range_line, read_line, write_line, read_dma_line, write_dma_line, call_line, send_line, receive_line, security_in_line, security_out_line, identify_line, log_line, reset_line, tper_reset_line}
use Rattle.script_lines.specs.Verbs.{verb_of}
use Rattle.script_lines.specs.declared.verb.Verb.{Verb}
use Rattle.script_lines.specs.declared.verb.Verb.TheVariants as verbs
use Rattle.script_lines.specs.declared.fault.LineFault.TheVariants.{UnknownWord}
use Rattle.script_lines.specs.Laws.{SpellTheSame, LineLaw}
use Rattle.script_lines.proofs.SpellingLaws.{word_law}

-- the same word at each number
abbrev pub SameWords : List ℕ → List ℕ → Type 0
SameWords a b = (k : ℕ) → nth_word k a ≡ nth_word k b

pub same_words : (a b : List ℕ) → SpellTheSame a b → SameWords a b
same_words a b s k = word_law a s.0 s.1 k ∙ sym (word_law b s.0 s.2 k)

pub same_after : (a b : List ℕ) → SameWords a b → SameWords (after_word a) (after_word b)
same_after a b w k = w (suc k)

range_same : (a b : List ℕ) → SameWords a b → range_line a ≡ range_line b
range_same a b w = rw (w 0, w 1, w 2, w 3, w 4, w 5, w 6, w 7) refl

read_same : (a b : List ℕ) → SameWords a b → read_line a ≡ read_line b
read_same a b w = rw (w 0, w 1, w 2, w 3, w 4) refl

write_same : (a b : List ℕ) → SameWords a b → write_line a ≡ write_line b
write_same a b w = rw (w 0, w 1, w 2, w 3, w 4, w 5) refl

read_dma_same : (a b : List ℕ) → SameWords a b → read_dma_line a ≡ read_dma_line b
read_dma_same a b w = rw (w 0, w 1, w 2, w 3) refl

write_dma_same : (a b : List ℕ) → SameWords a b → write_dma_line a ≡ write_dma_line b
write_dma_same a b w = rw (w 0, w 1, w 2, w 3, w 4) refl

call_same : (a b : List ℕ) → SameWords a b → call_line a ≡ call_line b
call_same a b w = rw (w 0, w 1, w 2, w 3, w 4, w 5) refl

send_same : (a b : List ℕ) → SameWords a b → send_line a ≡ send_line b
send_same a b w = rw (w 0, w 1, w 2, w 3) refl

receive_same : (a b : List ℕ) → SameWords a b → receive_line a ≡ receive_line b
receive_same a b w = rw (w 0, w 1, w 2, w 3) refl

security_in_same : (a b : List ℕ) → SameWords a b → security_in_line a ≡ security_in_line b
security_in_same a b w = rw (w 0, w 1, w 2, w 3, w 4) refl

security_out_same : (a b : List ℕ) → SameWords a b → security_out_line a ≡ security_out_line b
security_out_same a b w = rw (w 0, w 1, w 2, w 3, w 4) refl

identify_same : (a b : List ℕ) → SameWords a b → identify_line a ≡ identify_line b
identify_same a b w = rw (w 0, w 1) refl

log_same : (a b : List ℕ) → SameWords a b → log_line a ≡ log_line b
log_same a b w = rw (w 0, w 1) refl

reset_same : (a b : List ℕ) → SameWords a b → reset_line a ≡ reset_line b
reset_same a b w = rw (w 0, w 1, w 2) refl

tper_reset_same : (a b : List ℕ) → SameWords a b → tper_reset_line a ≡ tper_reset_line b
tper_reset_same a b w = rw (w 0, w 1) refl

verb_same : (verb : Verb) (a b : List ℕ) → SameWords a b → verb_line verb a ≡ verb_line verb b
verb_same verbs.Range a b w = range_same a b w
verb_same verbs.Read a b w = read_same a b w
verb_same verbs.Write a b w = write_same a b w
verb_same verbs.ReadDma a b w = read_dma_same a b w
verb_same verbs.WriteDma a b w = write_dma_same a b w
verb_same verbs.Call a b w = call_same a b w
verb_same verbs.Send a b w = send_same a b w
verb_same verbs.Receive a b w = receive_same a b w
verb_same verbs.SecurityIn a b w = security_in_same a b w
verb_same verbs.SecurityOut a b w = security_out_same a b w
verb_same verbs.Identify a b w = identify_same a b w
verb_same verbs.Log a b w = log_same a b w
verb_same verbs.Reset a b w = reset_same a b w
verb_same verbs.TperReset a b w = tper_reset_same a b w
verb_same verbs.Expect a b w = refl

verb_then_same : (v : Option Verb) (a b : List ℕ) → SameWords a b
    → (or_fault UnknownWord v >>= λ verb. verb_line verb a) ≡ (or_fault UnknownWord v >>= λ verb. verb_line verb b)
verb_then_same None a b w = refl
verb_then_same (Some v) a b w = verb_same v a b w

pub line_law : LineLaw
line_law a b s =
    let w = same_words a b s in
    verb_then_same (verb_of (first_word a)) (after_word a) (after_word b) (same_after a b w)
    ∙ ap (λ x. or_fault UnknownWord (verb_of x) >>= λ verb. verb_line verb (after_word b)) (w 0)
