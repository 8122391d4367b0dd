-- What comes of an access in pieces.
use Rattle.std.proofs.Common.{◌≡◌, ℕ, suc, ◌+◌, ◌-◌, ◌<◌, min, Bool, true, false, List, ◌++◌, length, take, drop, Option, Some, None, refl, sym, ap, ◌∙◌, subst, arith}
use Rattle.std.specs.Prelude.{IfSome, option_map}
use Rattle.std.proofs.KnownBytes.{Appends-trans}
use Rattle.std.proofs.lemmas.List.{length-drop}
use Rattle.host_memory.specs.Access.{read_answer}
use Rattle.hba_program.specs.declared.hba_wire.wire.Wire.{Wire}
use Rattle.hba_program.specs.Pipes.{Pipe, Came, came, pieces, most_moved, piece_read, piece_written, pieces_read, pieces_written, read_on, write_on, and_behind, whole_read, whole_written}
use Rattle.hba_program.specs.Wires.{left_of, pipe_of, IsCome, Comes}
use Rattle.hba_program.proofs.hba_wire.Heard.{both}

one_more : (n : ℕ) → 0 < n → pieces n ≡ suc (pieces (n - min n most_moved))
one_more n some = omega arith

-- the pipe behind a call is what the wire has
piped : {A R W : Type 0} (c : Came A) (mid : Wire R W) → mid.is_cut_off ≡ c.pipe.is_cut_off → mid.has_complained ≡ c.pipe.has_complained
    → pipe_of mid c.pipe.left ≡ c.pipe
piped c mid cut complained = rw (cut, complained) refl

-- what comes of the wire behind a call
next_come : {A B R W : Type 0} (remaining : R → Option (List ℕ)) (contents : W → Option (List ℕ)) (does : Pipe → Came B) (c : Came A)
    (old mid new : Wire R W) (v : A) (value : B) → IsCome remaining contents c old v mid → Comes remaining contents does mid value new
    → IsCome remaining contents (does c.pipe) mid value new
next_come remaining contents does c old mid new v value is comes =
    let at_left : Option (List ℕ) → Type 0 = λ o. IfSome o (λ left. IsCome remaining contents (does (pipe_of mid left)) mid value new) in
    let at_pipe : Pipe → Type 0 = λ p. IsCome remaining contents (does p) mid value new in
    let here : IsCome remaining contents (does (pipe_of mid c.pipe.left)) mid value new = subst at_left is.left comes in
    subst at_pipe (piped c mid is.cut_off is.complained) here

read_step : (at n : ℕ) (pipe : Pipe) → 0 < n
    → whole_read at n pipe
    ≡ read_on (piece_read at (min n most_moved) pipe) (whole_read (at + min n most_moved) (n - min n most_moved)) (piece_read at (min n most_moved) pipe).value
read_step at n pipe some = ap (λ k. pieces_read k at n pipe) (one_more n some)

read_stop : (first : Came (Option (List ℕ))) (rest : Pipe → Came (Option (List ℕ))) (v : Option (List ℕ)) → None ≡ v → read_on first rest v ≡ first
read_stop first rest None is = refl
read_stop first rest (Some bytes) is = cc

read_more : (first : Came (Option (List ℕ))) (rest : Pipe → Came (Option (List ℕ))) (v : Option (List ℕ)) (front : List ℕ) → Some front ≡ v
    → read_on first rest v ≡ and_behind front first.told (rest first.pipe)
read_more first rest v front is = rw (← is) refl

pub read_refused : {R W : Type 0} (remaining : R → Option (List ℕ)) (contents : W → Option (List ℕ)) (at n : ℕ) (old new : Wire R W) → 0 < n
    → Comes remaining contents (piece_read at (min n most_moved)) old None new → Comes remaining contents (whole_read at n) old None new
read_refused remaining contents at n old new some first =
    both (left_of remaining old) first
    (λ text is.
    let pipe : Pipe = pipe_of old text in
    let c : Came (Option (List ℕ)) = piece_read at (min n most_moved) pipe in
    let rest : Pipe → Came (Option (List ℕ)) = whole_read (at + min n most_moved) (n - min n most_moved) in
    let by : Came (Option (List ℕ)) → Type 0 = λ c. IsCome remaining contents c old None new in
    subst by (sym (read_step at n pipe some ∙ read_stop c rest c.value is.is_value)) is)

pub read_further : {R W : Type 0} (remaining : R → Option (List ℕ)) (contents : W → Option (List ℕ)) (at n : ℕ) (old mid new : Wire R W)
    (front : List ℕ) (more : Option (List ℕ)) → 0 < n → Comes remaining contents (piece_read at (min n most_moved)) old (Some front) mid
    → Comes remaining contents (whole_read (at + min n most_moved) (n - min n most_moved)) mid more new
    → Comes remaining contents (whole_read at n) old (option_map (λ others. front ++ others) more) new
read_further remaining contents at n old mid new front more some first second =
    both (left_of remaining old) first
    (λ text is.
    let pipe : Pipe = pipe_of old text in
    let c : Came (Option (List ℕ)) = piece_read at (min n most_moved) pipe in
    let rest : Pipe → Came (Option (List ℕ)) = whole_read (at + min n most_moved) (n - min n most_moved) in
    let then_ : IsCome remaining contents (rest c.pipe) mid more new = next_come remaining contents rest c old mid new (Some front) more is second in
    let by : Came (Option (List ℕ)) → Type 0 = λ c. IsCome remaining contents c old (option_map (λ others. front ++ others) more) new in
    subst by (sym (read_step at n pipe some ∙ read_more c rest c.value front is.is_value))
    (record {
      is_value = ap (option_map (λ others. front ++ others)) then_.is_value;
      left = then_.left;
      told = Appends-trans _ _ _ _ _ is.told then_.told;
      cut_off = then_.cut_off;
      complained = then_.complained;
    }))

pub answer_further : (front others : List ℕ) (is_given : Bool)
    → option_map (λ more. front ++ more) (read_answer is_given others) ≡ read_answer is_given (front ++ others)
answer_further front others true = refl
answer_further front others false = refl

write_step : (at : ℕ) (bytes : List ℕ) (pipe : Pipe) → 0 < length bytes
    → whole_written at bytes pipe
    ≡ write_on (piece_written at (take (min (length bytes) most_moved) bytes) pipe) (whole_written (at + min (length bytes) most_moved) (drop (min (length bytes) most_moved) bytes))
    (piece_written at (take (min (length bytes) most_moved) bytes) pipe).value
write_step at bytes pipe some =
    let len : length (drop (min (length bytes) most_moved) bytes) ≡ length bytes - min (length bytes) most_moved = length-drop (min (length bytes) most_moved) bytes in
    let more : pieces (length bytes) ≡ suc (pieces (length (drop (min (length bytes) most_moved) bytes))) = one_more (length bytes) some ∙ ap (λ n. suc (pieces n)) (sym len) in
    ap (λ k. pieces_written k at bytes pipe) more

write_stop : (first : Came Bool) (rest : Pipe → Came Bool) (v : Bool) → false ≡ v → write_on first rest v ≡ first
write_stop first rest v is = rw (← is) refl

write_more : (first : Came Bool) (rest : Pipe → Came Bool) (v : Bool) → true ≡ v
    → write_on first rest v ≡ came (rest first.pipe).value (first.told ++ (rest first.pipe).told) (rest first.pipe).pipe
write_more first rest v is = rw (← is) refl

pub write_refused : {R W : Type 0} (remaining : R → Option (List ℕ)) (contents : W → Option (List ℕ)) (at : ℕ) (bytes : List ℕ) (old new : Wire R W)
    → 0 < length bytes
    → Comes remaining contents (piece_written at (take (min (length bytes) most_moved) bytes)) old false new
    → Comes remaining contents (whole_written at bytes) old false new
write_refused remaining contents at bytes old new some first =
    both (left_of remaining old) first
    (λ text is.
    let pipe : Pipe = pipe_of old text in
    let c : Came Bool = piece_written at (take (min (length bytes) most_moved) bytes) pipe in
    let rest : Pipe → Came Bool = whole_written (at + min (length bytes) most_moved) (drop (min (length bytes) most_moved) bytes) in
    let by : Came Bool → Type 0 = λ c. IsCome remaining contents c old false new in
    subst by (sym (write_step at bytes pipe some ∙ write_stop c rest c.value is.is_value)) is)

pub write_further : {R W : Type 0} (remaining : R → Option (List ℕ)) (contents : W → Option (List ℕ)) (at : ℕ) (bytes : List ℕ) (old mid new : Wire R W)
    (more : Bool) → 0 < length bytes
    → Comes remaining contents (piece_written at (take (min (length bytes) most_moved) bytes)) old true mid
    → Comes remaining contents (whole_written (at + min (length bytes) most_moved) (drop (min (length bytes) most_moved) bytes)) mid more new
    → Comes remaining contents (whole_written at bytes) old more new
write_further remaining contents at bytes old mid new more some first second =
    both (left_of remaining old) first
    (λ text is.
    let pipe : Pipe = pipe_of old text in
    let c : Came Bool = piece_written at (take (min (length bytes) most_moved) bytes) pipe in
    let rest : Pipe → Came Bool = whole_written (at + min (length bytes) most_moved) (drop (min (length bytes) most_moved) bytes) in
    let then_ : IsCome remaining contents (rest c.pipe) mid more new = next_come remaining contents rest c old mid new true more is second in
    let by : Came Bool → Type 0 = λ c. IsCome remaining contents c old more new in
    subst by (sym (write_step at bytes pipe some ∙ write_more c rest c.value is.is_value))
    (record {
      is_value = then_.is_value;
      left = then_.left;
      told = Appends-trans _ _ _ _ _ is.told then_.told;
      cut_off = then_.cut_off;
      complained = then_.complained;
    }))

pub read_then : {R W : Type 0} (remaining : R → Option (List ℕ)) (contents : W → Option (List ℕ)) (at n size next left : ℕ) (old mid new : Wire R W)
    (given more : Bool) (front others : List ℕ) → 0 < n → size ≡ min n most_moved → next ≡ at + min n most_moved → left ≡ n - min n most_moved
    → given ≡ true → Comes remaining contents (piece_read at size) old (read_answer given front) mid
    → Comes remaining contents (whole_read next left) mid (read_answer more others) new
    → Comes remaining contents (whole_read at n) old (read_answer more (front ++ others)) new
read_then remaining contents at n size next left old mid new given more front others some size_is next_is left_is given_is first second =
    let by_size : ℕ → Type 0 = λ k. Comes remaining contents (piece_read at k) old (read_answer given front) mid in
    let by_given : Bool → Type 0 = λ b. Comes remaining contents (piece_read at (min n most_moved)) old (read_answer b front) mid in
    let by_next : ℕ → Type 0 = λ a. Comes remaining contents (whole_read a left) mid (read_answer more others) new in
    let by_left : ℕ → Type 0 = λ k. Comes remaining contents (whole_read (at + min n most_moved) k) mid (read_answer more others) new in
    let by_answer : Option (List ℕ) → Type 0 = λ v. Comes remaining contents (whole_read at n) old v new in
    subst by_answer (answer_further front others more)
    (read_further remaining contents at n old mid new front (read_answer more others) some (subst by_given given_is (subst by_size size_is first))
    (subst by_left left_is (subst by_next next_is second)))

pub read_else : {R W : Type 0} (remaining : R → Option (List ℕ)) (contents : W → Option (List ℕ)) (at n size : ℕ) (old new : Wire R W)
    (given : Bool) (front room : List ℕ) → 0 < n → size ≡ min n most_moved → given ≡ false
    → Comes remaining contents (piece_read at size) old (read_answer given front) new
    → Comes remaining contents (whole_read at n) old (read_answer given room) new
read_else remaining contents at n size old new given front room some size_is given_is first =
    let by_size : ℕ → Type 0 = λ k. Comes remaining contents (piece_read at k) old (read_answer given front) new in
    let by_given : Bool → Type 0 = λ b. Comes remaining contents (piece_read at (min n most_moved)) old (read_answer b front) new in
    let by_none : Bool → Type 0 = λ b. Comes remaining contents (whole_read at n) old (read_answer b room) new in
    subst by_none (sym given_is) (read_refused remaining contents at n old new some (subst by_given given_is (subst by_size size_is first)))

pub write_then : {R W : Type 0} (remaining : R → Option (List ℕ)) (contents : W → Option (List ℕ)) (at next : ℕ) (bytes front others : List ℕ)
    (old mid new : Wire R W) (given more : Bool) → 0 < length bytes → front ≡ take (min (length bytes) most_moved) bytes
    → others ≡ drop (min (length bytes) most_moved) bytes → next ≡ at + min (length bytes) most_moved → given ≡ true
    → Comes remaining contents (piece_written at front) old given mid → Comes remaining contents (whole_written next others) mid more new
    → Comes remaining contents (whole_written at bytes) old more new
write_then remaining contents at next bytes front others old mid new given more some front_is others_is next_is given_is first second =
    let by_front : List ℕ → Type 0 = λ f. Comes remaining contents (piece_written at f) old given mid in
    let by_given : Bool → Type 0 = λ b. Comes remaining contents (piece_written at (take (min (length bytes) most_moved) bytes)) old b mid in
    let by_next : ℕ → Type 0 = λ a. Comes remaining contents (whole_written a others) mid more new in
    let by_others : List ℕ → Type 0 = λ o. Comes remaining contents (whole_written (at + min (length bytes) most_moved) o) mid more new in
    write_further remaining contents at bytes old mid new more some (subst by_given given_is (subst by_front front_is first))
    (subst by_others others_is (subst by_next next_is second))

pub write_else : {R W : Type 0} (remaining : R → Option (List ℕ)) (contents : W → Option (List ℕ)) (at : ℕ) (bytes front : List ℕ) (old new : Wire R W)
    (given : Bool) → 0 < length bytes → front ≡ take (min (length bytes) most_moved) bytes → given ≡ false
    → Comes remaining contents (piece_written at front) old given new → Comes remaining contents (whole_written at bytes) old given new
write_else remaining contents at bytes front old new given some front_is given_is first =
    let by_front : List ℕ → Type 0 = λ f. Comes remaining contents (piece_written at f) old given new in
    let by_given : Bool → Type 0 = λ b. Comes remaining contents (piece_written at (take (min (length bytes) most_moved) bytes)) old b new in
    let by_none : Bool → Type 0 = λ b. Comes remaining contents (whole_written at bytes) old b new in
    subst by_none (sym given_is) (write_refused remaining contents at bytes old new some (subst by_given given_is (subst by_front front_is first)))
