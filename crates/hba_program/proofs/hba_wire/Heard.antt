-- What comes of a line that the host is told.
use Rattle.std.proofs.Common.{◌≡◌, ℕ, Bool, true, false, List, [], ◌∷◌, Option, Some, None, refl, sym, ap, ◌∙◌, subst}
use Rattle.std.specs.Prelude.{IfSome}
use Rattle.std.specs.Io.BufRead.{strip_last, drop_through}
use Rattle.std.specs.Io.KnownBytes.{Appends}
use Rattle.std.proofs.KnownBytes.{Appends-trans}
use Rattle.hba_program.specs.declared.hba_lines.memory_line.Answer.{Answer}
use Rattle.hba_program.specs.declared.hba_lines.memory_line.Answer.TheVariants.{Given, Refused, Wrong}
use Rattle.hba_program.specs.declared.hba_wire.wire.Wire.{Wire}
use Rattle.hba_program.specs.Pipes.{Pipe, Came, questioned, weighed, first_line, decoded_bytes}
use Rattle.std.specs.Prelude.{Result, Ok}
use Rattle.hex.specs.declared.error.FromHexError.{FromHexError}
use Rattle.host_memory.specs.Access.{read_answer}
use Rattle.hba_program.specs.Wires.{left_of, pipe_of, TakesOne, IsCome, Comes, Judges}

-- a value that an answer gives
abbrev pub valued : {A : Type 0} → A → A → Answer → A
valued none value Given = value
valued none value Refused = none
valued none value Wrong = none

come_weighed : {A R W : Type 0} (remaining : R → Option (List ℕ)) (contents : W → Option (List ℕ)) (none value : A) (told wanted : List ℕ)
    (a : Answer) (pipe : Pipe) (old asked new : Wire R W) (given : Bool) → left_of remaining asked ≡ Some pipe.left
    → Appends (contents old.output.now) (contents asked.output.now) told → asked.is_cut_off ≡ pipe.is_cut_off
    → asked.has_complained ≡ pipe.has_complained → Judges remaining contents a wanted asked given new
    → IsCome remaining contents (weighed none told wanted a value pipe) old (valued none value a) new
come_weighed remaining contents none value told wanted Given pipe old asked new given left is_told cut complained judges =
    rw judges.1 (record { is_value = refl; left = left; told = is_told; cut_off = cut; complained = complained })
come_weighed remaining contents none value told wanted Refused pipe old asked new given left is_told cut complained judges =
    rw judges.1 (record { is_value = refl; left = left; told = is_told; cut_off = cut; complained = complained })
come_weighed remaining contents none value told wanted Wrong pipe old asked new given left is_told cut complained judges = record {
  is_value = refl;
  left = judges.1 ∙ left;
  told = Appends-trans _ _ _ _ _ is_told judges.2;
  cut_off = judges.3 ∙ cut;
  complained = judges.4;
}

-- the line that is taken is an answer
answered : {A R W : Type 0} (remaining : R → Option (List ℕ)) (contents : W → Option (List ℕ)) (none : A) (told wanted : List ℕ)
    (answer : List ℕ → Answer) (value : List ℕ → A) (old mid new : Wire R W) (given : Bool) (text : List ℕ)
    → old.is_cut_off ≡ false → TakesOne true mid.line.items text (left_of remaining mid)
    → Appends (contents old.output.now) (contents mid.output.now) told → mid.is_cut_off ≡ false
    → mid.has_complained ≡ old.has_complained
    → Judges remaining contents (answer (strip_last 10 mid.line.items)) wanted mid given new
    → IsCome remaining contents (questioned none told wanted answer value (pipe_of old text)) old
    (valued none (value (strip_last 10 mid.line.items)) (answer (strip_last 10 mid.line.items))) new
answered remaining contents none told wanted answer value old mid new given [] open_ taken is_told cut complained judges = absurd (taken.0 refl)
answered {A} remaining contents none told wanted answer value old mid new given (b ∷ bs) open_ taken is_told cut complained judges =
    let line : strip_last 10 mid.line.items ≡ first_line (b ∷ bs) = ap (strip_last 10) taken.1 in
    let at_line : List ℕ → Type 0 = λ l. Judges remaining contents (answer l) wanted mid given new in
    let after : Pipe = record { left = drop_through 10 (b ∷ bs); is_cut_off = old.is_cut_off; has_complained = old.has_complained } in
    let value_at : A = value (first_line (b ∷ bs)) in
    let answer_at : Answer = answer (first_line (b ∷ bs)) in
    let begins : questioned none told wanted answer value (pipe_of old (b ∷ bs)) ≡ weighed none told wanted answer_at value_at after = rw open_ refl in
    let come : IsCome remaining contents (weighed none told wanted answer_at value_at after) old (valued none value_at answer_at) new =
    come_weighed remaining contents none value_at told wanted answer_at after old mid new given taken.2 is_told (cut ∙ sym open_) complained
    (subst at_line line judges) in
    let by : Came A → Type 0 = λ c. IsCome remaining contents c old (valued none value_at answer_at) new in
    let at_value : List ℕ → Type 0 =
    λ l. IsCome remaining contents (questioned none told wanted answer value (pipe_of old (b ∷ bs))) old (valued none (value l) (answer l)) new in
    subst at_value (sym line) (subst by (sym begins) come)

-- of what there is, one after the other
pub both : {X : Type 0} {P Q : X → Type 0} (o : Option X) → IfSome o P → ((x : X) → P x → Q x) → IfSome o Q
both None p more = tt
both (Some x) p more = more x p

pub comes_by_line : {A R W : Type 0} (remaining : R → Option (List ℕ)) (contents : W → Option (List ℕ)) (none : A) (told wanted : List ℕ)
    (answer : List ℕ → Answer) (value : List ℕ → A) (old mid new : Wire R W) (given : Bool) → old.is_cut_off ≡ false
    → IfSome (left_of remaining old) (λ text. TakesOne true mid.line.items text (left_of remaining mid))
    → Appends (contents old.output.now) (contents mid.output.now) told → mid.is_cut_off ≡ false
    → mid.has_complained ≡ old.has_complained
    → Judges remaining contents (answer (strip_last 10 mid.line.items)) wanted mid given new
    → Comes remaining contents (questioned none told wanted answer value) old
    (valued none (value (strip_last 10 mid.line.items)) (answer (strip_last 10 mid.line.items))) new
comes_by_line remaining contents none told wanted answer value old mid new given open_ taken is_told cut complained judges =
    both (left_of remaining old) taken
    (λ text is_taken. answered remaining contents none told wanted answer value old mid new given text open_ is_taken is_told cut complained judges)

-- whether an answer gives something
abbrev pub is_given : Answer → Bool
is_given Given = true
is_given Refused = false
is_given Wrong = false

pub given_by : {R W : Type 0} (remaining : R → Option (List ℕ)) (contents : W → Option (List ℕ)) (a : Answer) (wanted : List ℕ)
    (old new : Wire R W) (given : Bool) → Judges remaining contents a wanted old given new → given ≡ is_given a
given_by remaining contents Given wanted old new given judges = judges.0
given_by remaining contents Refused wanted old new given judges = judges.0
given_by remaining contents Wrong wanted old new given judges = judges.0

pub read_agrees : (a : Answer) (given : Bool) (room : List ℕ) (d : Result (List ℕ) FromHexError) → (a ≡ Given → d ≡ Ok room)
    → given ≡ is_given a → read_answer given room ≡ valued None (decoded_bytes d) a
read_agrees Given given room d decoded is = rw (is, decoded refl) refl
read_agrees Refused given room d decoded is = rw is refl
read_agrees Wrong given room d decoded is = rw is refl

pub write_agrees : (a : Answer) (given : Bool) → given ≡ is_given a → given ≡ valued false true a
write_agrees Given given is = is
write_agrees Refused given is = is
write_agrees Wrong given is = is
