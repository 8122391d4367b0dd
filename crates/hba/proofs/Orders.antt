-- The operation is that of the first rule that applies.
use Rattle.std.proofs.Common.{◌≡◌, ℕ, ◌+◌, ◌-◌, Bool, true, false, zero, suc, List, [], ◌∷◌, ◌++◌, Option, Some, None, refl, ap, sym, subst, ◌∙◌, inl, inr, append-nil, length, map, ◌/◌, arith}
use Rattle.std.specs.Prelude.{◌⊎◌, ◌==◌, ◌&&◌, not, min, is_none, Result, Ok, Err, if◌then◌else◌}
use Rattle.fis.specs.Types.{h2d_length}
use Rattle.fis.specs.H2d.{h2d_at}
use Rattle.fis.specs.declared.any.Fis.{Fis}
use Rattle.history.specs.Answers.{errored, answer_fis, payload_of}
use Rattle.history.specs.History.{Act, Accept, Complete, event_by}
use Rattle.slots.specs.Layout.{descriptor_size, header_size}
use Rattle.slots.specs.Header.{entry_count}
use Rattle.slots.specs.Table.{is_command}
use Rattle.host_memory.specs.Access.{Access, Asked}
use Rattle.host_memory.specs.declared.hba_memory.miss.Miss.{Miss}
use Rattle.host_memory.specs.declared.hba_memory.miss.Miss.TheVariants as misses
use Rattle.host_memory.specs.declared.hba_memory.reading.Header.{Header}
use Rattle.host_memory.specs.declared.hba_memory.reading.Moved.{Moved}
use Rattle.host_memory.specs.declared.hba_memory.delivery.Arrival.{Arrival}
use Rattle.host_memory.specs.declared.hba_memory.delivery.Place.{Place}
use Rattle.host_memory.specs.declared.width.AddressWidth.{AddressWidth}
use Rattle.host_memory.specs.Memory.{is_sound_header, command_table_of, header_by, data_at, data_len, descriptors_of, data_taken, written_by, ending, moved_by, then_bytes, BringsBlock, BringsEntry, BringsNext, Gathers, Scatters, Counts, PostsTo, PostsOne, After, EndsBy}
use Rattle.hba.specs.declared.registers.Registers.{Registers}
use Rattle.hba.specs.History.{facts_of, Opened, Operation, Missed, Controlled, Asserted, Restarted, Unheard, Fetched, Completed, Account, account, acts_of, regs_of, drive_effect}
use Rattle.hba.specs.Showing.{moved, served, fetching}
use Rattle.hba.specs.SoftwareReset.{resets_behind}
use Rattle.hba.specs.Ready.{is_ready_after}
use Rattle.hba.specs.Blocks.{block_size, of_last_block}
use Rattle.hba.specs.Engine.{header_at, place_of, wanted_after, Acts, ServesSo, ControlsTo, HearsIf, FetchesIf, FetchesFis, FetchesFrom, CompletesFrom}
use Rattle.hba.specs.Orders.{MemoryAnswers, AreAnswered, bytes_read, first_rule, data_rules, rules_of_data, EndsFirst, FetchOrder, CompletionOrder, ReadyOrder, TellsStatus, ErrorOrder, first_missed, PostsUnless, ArrivesInOrder, ArrivalOrder}
use Rattle.hba.proofs.Works.{picked_ready}
use Rattle.hba.proofs.Failures.{fises_failed, data_failed, gives_nothing}

-- What comes of data, by the first rule that applies, if one does.
abbrev Lacks : (Miss → Operation) → Option Operation → Result (List ℕ) Miss → Type 0
Lacks tell first (Ok bytes) = first ≡ None
Lacks tell first (Err miss) = first ≡ Some (tell miss)

end_lacks : (tell : Miss → Operation) (is_end : Bool) (brought : Result (List ℕ) Miss)
    → brought ≡ (if is_end then Ok [] else Err misses.Overflow)
    → Lacks tell (first_rule ((not is_end, tell misses.Overflow) ∷ [])) brought
end_lacks tell true brought e = subst (Lacks tell None) (sym e) refl
end_lacks tell false brought e = subst (Lacks tell (Some (tell misses.Overflow))) (sym e) refl

-- Nothing is wanted any more.
none_left : (left : ℕ) → (left == 0) ≡ true → left ≡ 0
none_left left e = grind arith

none_wanted : (tell : Miss → Operation) (m : MemoryAnswers) (at n left : ℕ) → left ≡ 0
    → first_rule (data_rules tell m at n left) ≡ None
none_wanted tell m at zero left e = ap (λ (k : ℕ). first_rule (data_rules tell m at zero k)) e
none_wanted tell m at (suc n) left e =
    let size = data_len (bytes_read (m at descriptor_size)) in
    ap (λ (k : ℕ). first_rule (data_rules tell m at (suc n) k)) e
    ∙ none_wanted tell m (at + descriptor_size) n (0 - size) (omega arith)

-- A block, and those behind it.
block_lacks : (tell : Miss → Operation) (block : Option (List ℕ)) (first : Option Operation)
    (Rest : List Access → Result (List ℕ) Miss → Type 0) (talk : List Access) (brought : Result (List ℕ) Miss)
    → ((more : Result (List ℕ) Miss) → Rest talk more → Lacks tell first more) → BringsBlock block Rest talk brought
    → Lacks tell (if is_none block then Some (tell misses.Block) else first) brought
block_lacks tell None first Rest talk brought rest h = subst (Lacks tell (Some (tell misses.Block))) (sym h.1) refl
block_lacks tell (Some bytes) first Rest talk brought rest h =
    subst (Lacks tell first) (sym h.2) (behind h.0 (rest h.0 h.1))
  where
    behind : (more : Result (List ℕ) Miss) → Lacks tell first more → Lacks tell first (then_bytes bytes more)
    behind (Ok others) l = l
    behind (Err miss) l = l

-- A descriptor, and its block.
entry_lacks : (tell : Miss → Operation) (m : MemoryAnswers) (left : ℕ) (entry : Option (List ℕ)) (rules : ℕ → List (Bool × Operation))
    (Rest : ℕ → List Access → Result (List ℕ) Miss → Type 0) (talk behind : List Access) (brought : Result (List ℕ) Miss)
    → ((more : ℕ) (later : List Access) (given : Result (List ℕ) Miss) → AreAnswered m (later ++ behind) → Rest more later given
    → Lacks tell (first_rule (rules more)) given)
    → AreAnswered m (talk ++ behind) → BringsEntry entry left Rest talk brought
    → Lacks tell (first_rule ((is_none entry, tell misses.Table)
    ∷ (is_none (m (data_at (bytes_read entry)) (min left (data_len (bytes_read entry)))), tell misses.Block)
    ∷ rules (left - data_len (bytes_read entry)))) brought
entry_lacks tell m left None rules Rest talk behind brought rest from h =
    subst (Lacks tell (Some (tell misses.Table))) (sym h.1) refl
entry_lacks tell m left (Some entry) rules Rest talk behind brought rest from h =
    let more = left - data_len entry in
    let answered : AreAnswered m (Asked (data_at entry) (min left (data_len entry)) h.0 ∷ h.1 ++ behind) =
    subst (λ (xs : List Access). AreAnswered m (xs ++ behind)) h.2 from in
    subst (λ (block : Option (List ℕ)).
    Lacks tell (if is_none block then Some (tell misses.Block) else first_rule (rules more)) brought)
    answered.0
    (block_lacks tell h.0 (first_rule (rules more)) (Rest more) h.1 brought (λ given. rest more h.1 given answered.1) h.3)

next_lacks : (tell : Miss → Operation) (m : MemoryAnswers) (at n left : ℕ) (is_end : Bool) (talk behind : List Access)
    (brought : Result (List ℕ) Miss) → (left == 0) ≡ is_end
    → ((more : ℕ) (later : List Access) (given : Result (List ℕ) Miss) → AreAnswered m (later ++ behind)
    → Gathers (at + descriptor_size) n more later given
    → Lacks tell (first_rule (data_rules tell m (at + descriptor_size) n more)) given)
    → AreAnswered m (talk ++ behind) → BringsNext is_end at left (Gathers (at + descriptor_size) n) talk brought
    → Lacks tell (first_rule ((not is_end && is_none (m at descriptor_size), tell misses.Table)
    ∷ (not is_end && is_none (m (data_at (bytes_read (m at descriptor_size))) (min left (data_len (bytes_read (m at descriptor_size))))), tell misses.Block)
    ∷ data_rules tell m (at + descriptor_size) n (left - data_len (bytes_read (m at descriptor_size))))) brought
next_lacks tell m at n left true talk behind brought e rest from h =
    let size = data_len (bytes_read (m at descriptor_size)) in
    let none : left ≡ 0 = none_left left e in
    subst (Lacks tell (first_rule (data_rules tell m (at + descriptor_size) n (left - size)))) (sym h.1)
    (none_wanted tell m (at + descriptor_size) n (left - size) (omega (arith, none)))
next_lacks tell m at n left false talk behind brought e rest from h =
    let rules = data_rules tell m (at + descriptor_size) n in
    let answered : AreAnswered m (Asked at descriptor_size h.0 ∷ h.1 ++ behind) =
    subst (λ (xs : List Access). AreAnswered m (xs ++ behind)) h.2 from in
    subst (λ (entry : Option (List ℕ)). Lacks tell (first_rule ((is_none entry, tell misses.Table)
    ∷ (is_none (m (data_at (bytes_read entry)) (min left (data_len (bytes_read entry)))), tell misses.Block)
    ∷ rules (left - data_len (bytes_read entry)))) brought)
    answered.0
    (entry_lacks tell m left h.0 rules (Gathers (at + descriptor_size) n) h.1 behind brought rest answered.1 h.3)

gather_lacks : (tell : Miss → Operation) (m : MemoryAnswers) (at n left : ℕ) (talk behind : List Access) (brought : Result (List ℕ) Miss)
    → AreAnswered m (talk ++ behind) → Gathers at n left talk brought
    → Lacks tell (first_rule (data_rules tell m at n left)) brought
gather_lacks tell m at zero left talk behind brought from h = end_lacks tell (left == 0) brought h.1
gather_lacks tell m at (suc n) left talk behind brought from h =
    next_lacks tell m at n left (left == 0) talk behind brought refl
    (λ more later given. gather_lacks tell m (at + descriptor_size) n more later behind given) from h

-- The act, where no rule applies.
act_first : (o : Opened) (a : Account) (place : Place) (fetched : Option ℕ) (act : List ℕ → Act) (operation : List ℕ → Arrival → Operation)
    (gone : Moved) (brought : Result (List ℕ) Miss) (first : Option Operation) (talk : List Access) (done : Operation)
    → Lacks (Missed fetched) first brought → Acts o a place fetched act operation gone brought talk done
    → EndsFirst first operation done
act_first o a place fetched act operation gone (Err miss) first talk done l h =
    subst (λ (it : Option Operation). EndsFirst it operation done) (sym l) h.1
act_first o a place fetched act operation gone (Ok payload) first talk done l h =
    subst (λ (it : Option Operation). EndsFirst it operation done) (sym l) (payload, h.0, h.2)

serve_first : (m : MemoryAnswers) (o : Opened) (a : Account) (place : Place) (n : ℕ) (fetched : Option ℕ) (act : List ℕ → Act)
    (operation : List ℕ → Arrival → Operation) (talk : List Access) (done : Operation) → AreAnswered m talk
    → ServesSo o a place n fetched act operation talk done
    → EndsFirst (first_rule (data_rules (Missed fetched) m (descriptors_of place.header) place.header.entries n)) operation done
serve_first m o a place n fetched act operation talk done from h =
    act_first o a place fetched act operation (moved_by h.0 n) h.2
    (first_rule (data_rules (Missed fetched) m (descriptors_of place.header) place.header.entries n)) h.1 done
    (gather_lacks (Missed fetched) m (descriptors_of place.header) place.header.entries n h.0 h.1 h.2
    (subst (AreAnswered m) h.3 from) h.4)
    h.5

-- A FIS, by what it carries.
abbrev of_command : MemoryAnswers → Opened → Account → ℕ → Header → List ℕ → List (Bool × Operation)
of_command m o a tag header fis =
    data_rules (Missed (Some tag)) m (descriptors_of header) header.entries (payload_of o.origin.tables.config fis)

control_first : (sets was : Bool) (a : Account) (tag : ℕ) (rules : List (Bool × Operation)) (operation : List ℕ → Arrival → Operation)
    (talk : List Access) (done : Operation) → ControlsTo sets was a tag talk done
    → EndsFirst (first_rule ((sets, Asserted tag) ∷ (was, Restarted tag) ∷ (true, Controlled tag) ∷ rules)) operation done
control_first true was a tag rules operation talk done h = h.1
control_first false true a tag rules operation talk done h = h.2
control_first false false a tag rules operation talk done h = h.1

hear_first : (was : Bool) (m : MemoryAnswers) (o : Opened) (a : Account) (tag : ℕ) (header : Header) (fis : List ℕ) (talk : List Access)
    (done : Operation) → AreAnswered m talk → HearsIf was o a (place_of a.registers tag header) tag fis talk done
    → EndsFirst (first_rule ((was, Unheard tag) ∷ of_command m o a tag header fis)) (Fetched tag fis) done
hear_first true m o a tag header fis talk done from h = h.1
hear_first false m o a tag header fis talk done from h =
    serve_first m o a (place_of a.registers tag header) (payload_of o.origin.tables.config fis) (Some tag) (Accept fis) (Fetched tag fis)
    talk done from h

if_first : (is was : Bool) (m : MemoryAnswers) (o : Opened) (a : Account) (tag : ℕ) (header : Header) (fis : List ℕ) (talk : List Access)
    (done : Operation) → a.registers.in_reset ≡ was → AreAnswered m talk
    → FetchesIf is o a (place_of a.registers tag header) tag fis talk done
    → EndsFirst (first_rule ((not is && resets_behind a.registers.in_reset fis, Asserted tag)
    ∷ (not is && a.registers.in_reset, Restarted tag) ∷ (not is, Controlled tag) ∷ (a.registers.in_reset, Unheard tag)
    ∷ of_command m o a tag header fis)) (Fetched tag fis) done
if_first false was m o a tag header fis talk done e from h =
    control_first (resets_behind a.registers.in_reset fis) a.registers.in_reset a tag
    ((a.registers.in_reset, Unheard tag) ∷ of_command m o a tag header fis) (Fetched tag fis) talk done h
if_first true was m o a tag header fis talk done e from h =
    hear_first a.registers.in_reset m o a tag header fis talk done from h

-- By the answer for the FIS.
abbrev of_fis : MemoryAnswers → Opened → Account → ℕ → Header → Option (List ℕ) → List (Bool × Operation)
of_fis m o a tag header fis =
    let is_control = not (is_command (bytes_read fis)) in
    let was = a.registers.in_reset in
    (is_none fis, Missed (Some tag) misses.Table)
    ∷ (is_control && resets_behind was (bytes_read fis), Asserted tag) ∷ (is_control && was, Restarted tag)
    ∷ (is_control, Controlled tag) ∷ (was, Unheard tag) ∷ of_command m o a tag header (bytes_read fis)

fis_first : (m : MemoryAnswers) (o : Opened) (a : Account) (tag : ℕ) (header : Header) (fis : Option (List ℕ)) (talk : List Access)
    (done : Operation) → AreAnswered m talk → FetchesFis o a (place_of a.registers tag header) tag fis talk done
    → EndsFirst (first_rule (of_fis m o a tag header fis)) (Fetched tag (bytes_read fis)) done
fis_first m o a tag header None talk done from h = h.1
fis_first m o a tag header (Some fis) talk done from h =
    if_first (is_command fis) a.registers.in_reset m o a tag header fis talk done refl from h

table_first : (m : MemoryAnswers) (o : Opened) (a : Account) (tag : ℕ) (header : Header) (talk : List Access) (done : Operation)
    → AreAnswered m talk → FetchesFrom o a tag (Ok header) talk done
    → EndsFirst (first_rule (of_fis m o a tag header (m header.table h2d_length)))
    (Fetched tag (bytes_read (m header.table h2d_length))) done
table_first m o a tag header talk done from h =
    let answered : AreAnswered m (Asked header.table h2d_length h.0 ∷ h.1) = subst (AreAnswered m) h.2 from in
    subst (λ (fis : Option (List ℕ)). EndsFirst (first_rule (of_fis m o a tag header fis)) (Fetched tag (bytes_read fis)) done)
    answered.0 (fis_first m o a tag header h.0 h.1 done answered.1 h.3)

-- By the answer for the header.
abbrev named : List ℕ → Header
named bytes = record { table = command_table_of bytes; entries = entry_count bytes }

sound_first : (is : Bool) (m : MemoryAnswers) (o : Opened) (a : Account) (tag : ℕ) (bytes : List ℕ) (talk : List Access) (done : Operation)
    → AreAnswered m talk → FetchesFrom o a tag (if is then Ok (named bytes) else Err misses.Table) talk done
    → EndsFirst (first_rule ((not is, Missed (Some tag) misses.Table)
    ∷ of_fis m o a tag (named bytes) (m (command_table_of bytes) h2d_length)))
    (Fetched tag (bytes_read (m (command_table_of bytes) h2d_length))) done
sound_first false m o a tag bytes talk done from h = h.1
sound_first true m o a tag bytes talk done from h = table_first m o a tag (named bytes) talk done from h

abbrev of_header : MemoryAnswers → Opened → Account → ℕ → Option (List ℕ) → List (Bool × Operation)
of_header m o a tag header =
    (is_none header, Missed (Some tag) misses.List)
    ∷ (not (is_sound_header a.registers.width (bytes_read header)), Missed (Some tag) misses.Table)
    ∷ of_fis m o a tag (named (bytes_read header)) (m (command_table_of (bytes_read header)) h2d_length)

header_first : (m : MemoryAnswers) (o : Opened) (a : Account) (tag : ℕ) (header : Option (List ℕ)) (talk : List Access) (done : Operation)
    → AreAnswered m talk → FetchesFrom o a tag (header_by a.registers.width header) talk done
    → EndsFirst (first_rule (of_header m o a tag header))
    (Fetched tag (bytes_read (m (command_table_of (bytes_read header)) h2d_length))) done
header_first m o a tag None talk done from h = h.1
header_first m o a tag (Some bytes) talk done from h =
    sound_first (is_sound_header a.registers.width bytes) m o a tag bytes talk done from h

pub fetch_order : FetchOrder
fetch_order m o list tag talk done h from =
    let a = account o list in
    let answered : AreAnswered m (Asked (header_at a.registers tag) header_size h.0 ∷ h.1) = subst (AreAnswered m) h.2 from in
    subst (λ (header : Option (List ℕ)). EndsFirst (first_rule (of_header m o a tag header))
    (Fetched tag (bytes_read (m (command_table_of (bytes_read header)) h2d_length))) done)
    answered.0 (header_first m o a tag h.0 h.1 done answered.1 h.3)

-- A completion.
abbrev of_held : MemoryAnswers → AddressWidth → ℕ → Option (List ℕ) → List (Bool × Operation)
of_held m width n header =
    (is_none header, Missed None misses.List)
    ∷ (not (is_sound_header width (bytes_read header)), Missed None misses.Table)
    ∷ rules_of_data (Missed None) m (bytes_read header) n

sound_held : (is : Bool) (m : MemoryAnswers) (o : Opened) (a : Account) (tag n : ℕ) (bytes : List ℕ) (talk : List Access) (done : Operation)
    → AreAnswered m talk → CompletesFrom o a tag n (if is then Ok (named bytes) else Err misses.Table) talk done
    → EndsFirst (first_rule ((not is, Missed None misses.Table) ∷ rules_of_data (Missed None) m bytes n)) (Completed tag) done
sound_held false m o a tag n bytes talk done from h = h.1
sound_held true m o a tag n bytes talk done from h =
    serve_first m o a (place_of a.registers tag (named bytes)) n None (Complete tag) (Completed tag) talk done from h

header_held : (m : MemoryAnswers) (o : Opened) (a : Account) (tag n : ℕ) (header : Option (List ℕ)) (talk : List Access) (done : Operation)
    → AreAnswered m talk → CompletesFrom o a tag n (header_by a.registers.width header) talk done
    → EndsFirst (first_rule (of_held m a.registers.width n header)) (Completed tag) done
header_held m o a tag n None talk done from h = h.1
header_held m o a tag n (Some bytes) talk done from h =
    sound_held (is_sound_header a.registers.width bytes) m o a tag n bytes talk done from h

pub completion_order : CompletionOrder
completion_order m o list tag talk done h from =
    let a = account o list in
    let answered : AreAnswered m (Asked (header_at a.registers tag) header_size h.0 ∷ h.1) = subst (AreAnswered m) h.2 from in
    subst (λ (header : Option (List ℕ)).
    EndsFirst (first_rule (of_held m a.registers.width (wanted_after o a tag) header)) (Completed tag) done)
    answered.0 (header_held m o a tag (wanted_after o a tag) h.0 h.1 done answered.1 h.3)

pub ready_order : ReadyOrder
ready_order o list choice work e = picked_ready (is_ready_after o list) choice work e

-- A failed act.
error_told : (missed : Option Miss) (regs : Registers) (tag error : ℕ) (fises : List Fis)
    → fises ≡ answer_fis true errored error ∷ [] → ((missed ≡ None) ⊎ (missed ≡ Some misses.Fis))
    → TellsStatus error (served tag fises missed regs)
error_told missed regs tag error fises f (inl none) =
    rw none (rw f (record { status = refl; code = refl }))
error_told missed regs tag error fises f (inr lost) =
    rw lost (rw f (record { status = refl; code = refl }))

post_missed : (is_done : Bool) (talk : List Access) (missed : Option Miss)
    → PostsOne is_done (λ later it. (later ≡ []) × (it ≡ None)) talk missed → ((missed ≡ None) ⊎ (missed ≡ Some misses.Fis))
post_missed false talk missed h = inr h.1
post_missed true talk missed h = inl h.1

posts_missed : (to : Option ℕ) (fis : Fis) (talk : List Access) (missed : Option Miss)
    → PostsTo to (fis ∷ []) talk missed → ((missed ≡ None) ⊎ (missed ≡ Some misses.Fis))
posts_missed None fis talk missed h = inl h.1
posts_missed (Some at) fis talk missed h = post_missed h.1 h.2 missed h.5

pub error_order : ErrorOrder
error_order o before tag fis payload error place brought talk arrival e h =
    let f = facts_of o (acts_of o before) in
    let event = event_by f (Accept fis payload) in
    let n = (length payload + length (drive_effect o (account o before) (Accept fis payload)).bytes) / block_size in
    let sent = ap (map (of_last_block n)) (fises_failed f (h2d_at fis) event error e) in
    let given = data_failed f (h2d_at fis) event error e in
    error_told arrival.missed (moved arrival (fetching tag (regs_of o before))) tag error _ sent
    (posts_missed place.to (answer_fis true errored error) talk arrival.missed
    (gives_nothing place brought error _ _ talk arrival sent given h).0)

-- What arrives.
last : (missed : Option Miss) → missed ≡ first_missed (missed ∷ [])
last None = refl
last (Some miss) = refl

end_first : (laid : Option Miss) (place : Place) (brought : Moved) (fises : List Fis) (bytes : List ℕ) (talk before later : List Access)
    (missed : Option Miss) (ended : Option Miss) → ending laid ≡ ended → talk ≡ before ++ later
    → Scatters (descriptors_of place.header) place.header.entries bytes before laid
    → EndsBy ended (Counts place.at (data_taken fises brought.len + written_by before)) (PostsTo place.to fises) later missed
    → ArrivesInOrder place brought fises bytes talk missed
end_first laid place brought fises bytes talk before later missed None e t s h = posted h.2 h.4 h.5
  where
    posted : (counted : Option Miss) → Counts place.at (data_taken fises brought.len + written_by before) h.0 counted
        → After counted (PostsTo place.to fises) h.1 missed → ArrivesInOrder place brought fises bytes talk missed
    posted None c p = record {
      blocks = before;
      count = h.0;
      posts = h.1;
      laid = laid;
      counted = None;
      posted = missed;
      parts = t ∙ ap (λ (xs : List Access). before ++ xs) h.3;
      of_data = s;
      of_count = c;
      of_fises = subst (λ (it : Option Miss). PostsUnless (first_missed (it ∷ None ∷ [])) place.to fises h.1 missed) (sym e) p;
      first = last missed ∙ ap (λ (it : Option Miss). first_missed (it ∷ None ∷ missed ∷ [])) (sym e);
    }
    posted (Some miss) c p = record {
      blocks = before;
      count = h.0;
      posts = h.1;
      laid = laid;
      counted = Some miss;
      posted = None;
      parts = t ∙ ap (λ (xs : List Access). before ++ xs) h.3;
      of_data = s;
      of_count = c;
      of_fises = subst (λ (it : Option Miss). PostsUnless (first_missed (it ∷ Some miss ∷ [])) place.to fises h.1 None) (sym e) (p.0, refl);
      first = p.1 ∙ ap (λ (it : Option Miss). first_missed (it ∷ Some miss ∷ None ∷ [])) (sym e);
    }
end_first laid place brought fises bytes talk before later missed (Some miss) e t s h = record {
  blocks = before;
  count = later;
  posts = [];
  laid = laid;
  counted = h.0;
  posted = None;
  parts = t ∙ ap (λ (xs : List Access). before ++ xs) (sym (append-nil later));
  of_data = s;
  of_count = h.1;
  of_fises = subst (λ (it : Option Miss). PostsUnless (first_missed (it ∷ h.0 ∷ [])) place.to fises [] None) (sym e) (refl, refl);
  first = h.2 ∙ ap (λ (it : Option Miss). first_missed (it ∷ h.0 ∷ None ∷ [])) (sym e);
}

pub arrival_order : ArrivalOrder
arrival_order place brought fises bytes talk arrival h =
    end_first h.2 place brought fises bytes talk h.0 h.1 arrival.missed (ending h.2) refl h.3 h.4 h.7
