-- What a call makes of a pipe.
use Rattle.std.specs.Prelude.{◌≡◌, ◌≢◌, ℕ, Bool, true, false, List, [], Option, None, Some, IfSome}
use Rattle.std.specs.Io.Buffered.{reader_remaining}
use Rattle.std.specs.Io.BufRead.{take_through, drop_through}
use Rattle.std.specs.Io.KnownBytes.{Appends}
use Rattle.host_memory.specs.Access.{Access, Asked, Laid}
use Rattle.hba_program.specs.Replies.{error_line}
use Rattle.hba_program.specs.declared.hba_lines.memory_line.Answer.{Answer}
use Rattle.hba_program.specs.declared.hba_lines.memory_line.Answer.TheVariants.{Given, Refused, Wrong}
use Rattle.hba_program.specs.declared.hba_wire.wire.Wire.{Wire}
use Rattle.hba_program.specs.Pipes.{Pipe, Came, whole_read, whole_written}

-- what the reader has still to give
abbrev pub left_of : {R W : Type 0} → (R → Option (List ℕ)) → Wire R W → Option (List ℕ)
left_of remaining wire = reader_remaining remaining wire.reader

-- the pipe, where the reader has still to give this text
abbrev pub pipe_of : {R W : Type 0} → Wire R W → List ℕ → Pipe
pipe_of wire left = record {
  left = left;
  is_cut_off = wire.is_cut_off;
  has_complained = wire.has_complained;
}

-- the writer stays the caller's
abbrev pub SameWriter : {R W : Type 0} → Wire R W → Wire R W → Type 0
SameWriter old new = new.output.ghost_name ≡ old.output.ghost_name

-- what was said before and what failed stay
abbrev pub SameMarks : {R W : Type 0} → Wire R W → Wire R W → Type 0
SameMarks old new = (new.is_cut_off ≡ old.is_cut_off) × (new.has_complained ≡ old.has_complained)
    × (new.failure ≡ old.failure)

-- one line is taken, where one is left
abbrev pub TakesOne : Bool → List ℕ → List ℕ → Option (List ℕ) → Type 0
TakesOne false line text left = (text ≡ []) × (left ≡ Some [])
TakesOne true line text left = (text ≢ []) × (line ≡ take_through 10 text)
    × (left ≡ Some (drop_through 10 text))

-- value, lines and marks are those of what came
pub record IsCome {A R W : Type 0} (remaining : R → Option (List ℕ))
    (contents : W → Option (List ℕ)) (c : Came A) (old : Wire R W) (value : A)
    (new : Wire R W) : Type 0 where
  pub is_value : value ≡ c.value
  pub left : left_of remaining new ≡ Some c.pipe.left
  pub told : Appends (contents old.output.now) (contents new.output.now) c.told
  pub cut_off : new.is_cut_off ≡ c.pipe.is_cut_off
  pub complained : new.has_complained ≡ c.pipe.has_complained

-- a call does so with the pipe
abbrev pub Comes : {A R W : Type 0} → (R → Option (List ℕ)) → (W → Option (List ℕ))
    → (Pipe → Came A) → Wire R W → A → Wire R W → Type 0
Comes remaining contents does old value new =
    IfSome (left_of remaining old)
    (λ left. IsCome remaining contents (does (pipe_of old left)) old value new)

-- the same, where no call of the reader or of the writer failed, nor had one failed before
abbrev pub ComesUnlessFailed : {A R W : Type 0} → (R → Option (List ℕ))
    → (W → Option (List ℕ)) → (Pipe → Came A) → Wire R W → A → Wire R W → Type 0
ComesUnlessFailed remaining contents does old value new =
    new.failure ≡ None
    → (old.failure ≡ None) × Comes remaining contents does old value new

-- an access of the host's memory
abbrev pub Accesses : {R W : Type 0} → (R → Option (List ℕ)) → (W → Option (List ℕ)) → Wire R W
    → Access → Wire R W → Type 0
Accesses remaining contents old (Asked at n answer) new = SameWriter old new
    × ComesUnlessFailed remaining contents (whole_read at n) old answer new
Accesses remaining contents old (Laid at bytes is_done) new = SameWriter old new
    × ComesUnlessFailed remaining contents (whole_written at bytes) old is_done new

-- an answer is judged: the host is told of one that is none
abbrev pub Judges : {R W : Type 0} → (R → Option (List ℕ)) → (W → Option (List ℕ)) → Answer
    → List ℕ → Wire R W → Bool → Wire R W → Type 0
Judges remaining contents Given wanted old given new = (given ≡ true) × (new ≡ old)
Judges remaining contents Refused wanted old given new = (given ≡ false) × (new ≡ old)
Judges remaining contents Wrong wanted old given new = (given ≡ false)
    × (left_of remaining new ≡ left_of remaining old)
    × Appends (contents old.output.now) (contents new.output.now) (error_line wanted)
    × (new.is_cut_off ≡ old.is_cut_off) × (new.has_complained ≡ true)
