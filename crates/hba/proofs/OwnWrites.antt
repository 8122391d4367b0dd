-- Where a piece of work writes, access by access.
use Rattle.std.proofs.Common.{◌≡◌, ℕ, ◌+◌, ◌≤◌, zero, suc, Bool, true, false, List, [], ◌∷◌, ◌++◌, length, take, drop, Option, Some, None, Ok, Err, refl, sym, subst, inl, inr, arith}
use Rattle.std.specs.Prelude.{◌⊎◌, ◌==◌, Result}
use Rattle.std.proofs.lemmas.List.{length-take}
use Rattle.slots.specs.Layout.{descriptor_size}
use Rattle.slots.specs.Table.{is_command}
use Rattle.fis.specs.declared.any.Fis.{Fis}
use Rattle.history.specs.Answers.{payload_of}
use Rattle.history.specs.History.{Act, Accept, Complete}
use Rattle.host_memory.specs.Access.{Access, Asked, Laid, AreReads}
use Rattle.host_memory.specs.declared.hba_memory.miss.Miss.{Miss}
use Rattle.host_memory.specs.declared.hba_memory.reading.Header.{Header}
use Rattle.host_memory.specs.declared.hba_memory.reading.Moved.{Moved}
use Rattle.host_memory.specs.declared.hba_memory.delivery.Arrival.{Arrival}
use Rattle.host_memory.specs.declared.hba_memory.delivery.Place.{Place}
use Rattle.host_memory.specs.Memory.{data_len, descriptors_of, header_by, data_taken, written_by, ending, moved_by, Scatters, TakesNext, TakesEntry, TakesBlock, Counts, CountsIf, Posts, PostsOne, PostsTo, After, EndsBy, Delivers}
use Rattle.hba.specs.declared.work.Work.TheVariants as works
use Rattle.hba.specs.History.{Opened, Operation, Fetched, Completed, Account, account, effect_after}
use Rattle.hba.specs.SoftwareReset.{resets_behind}
use Rattle.hba.specs.Engine.{header_at, fises_at, signature_fis, place_of, Acts, ServesSo, ControlsTo, HearsIf, FetchesIf, FetchesFis, FetchesFrom, CompletesFrom, wanted_after}
use Rattle.hba.specs.Writes.{IsByteCount, IsReceivedFis, IsOfBlock, WritesOwn, WritesLaw}
use Rattle.hba.proofs.Turns.{gathers_reads}

-- Nothing is asked.
none_own : (header to : Option ℕ) (entry : Option (List ℕ)) (talk : List Access) → talk ≡ []
    → WritesOwn header to entry talk
none_own header to entry talk e = subst (WritesOwn header to entry) (sym e) tt

behind_any : (header to : Option ℕ) (entry : Option (List ℕ)) (at : ℕ) (bytes : List ℕ)
    → (IsOfBlock None at bytes ⊎ (IsByteCount header at bytes ⊎ IsReceivedFis to at bytes))
    → (IsOfBlock entry at bytes ⊎ (IsByteCount header at bytes ⊎ IsReceivedFis to at bytes))
behind_any header to entry at bytes (inl none) = absurd none
behind_any header to entry at bytes (inr own) = inr own

-- Behind any descriptor.
weaker : (header to : Option ℕ) (entry : Option (List ℕ)) (talk : List Access)
    → WritesOwn header to None talk → WritesOwn header to entry talk
weaker header to entry [] w = tt
weaker header to entry (Asked at n answer ∷ later) w = w
weaker header to entry (Laid at bytes is_done ∷ later) w =
    (behind_any header to entry at bytes w.0, w.1)

both : (header to : Option ℕ) (entry : Option (List ℕ)) (before later : List Access)
    → WritesOwn header to entry before → WritesOwn header to None later
    → WritesOwn header to entry (before ++ later)
both header to entry [] later w v = weaker header to entry later v
both header to entry (Asked at n answer ∷ more) later w v = both header to answer more later w v
both header to entry (Laid at bytes is_done ∷ more) later w v =
    (w.0, both header to None more later w.1 v)

both_as : (header to : Option ℕ) (talk before later : List Access) → talk ≡ before ++ later
    → WritesOwn header to None before → WritesOwn header to None later → WritesOwn header to None talk
both_as header to talk before later e w v =
    subst (WritesOwn header to None) (sym e) (both header to None before later w v)

reads_own : (header to : Option ℕ) (entry : Option (List ℕ)) (talk : List Access) → AreReads talk
    → WritesOwn header to entry talk
reads_own header to entry [] r = tt
reads_own header to entry (Asked at n answer ∷ later) r = reads_own header to answer later r
reads_own header to entry (Laid at bytes is_done ∷ later) r = absurd r

part_fits : (n : ℕ) (bytes : List ℕ) → length (take n bytes) ≤ n
part_fits n bytes =
    let l = length-take n bytes in
    omega (arith, l)

-- Data over their blocks.
block_own : (header to : Option ℕ) (is_done : Bool) (Rest : List Access → Option Miss → Type 0)
    (talk : List Access) (missed : Option Miss)
    → (Rest talk missed → WritesOwn header to None talk) → TakesBlock is_done Rest talk missed
    → WritesOwn header to None talk
block_own header to false Rest talk missed f t = none_own header to None talk t.0
block_own header to true Rest talk missed f t = f t

entry_own : (header to : Option ℕ) (entry : Option (List ℕ)) (bytes : List ℕ)
    (Rest : List ℕ → List Access → Option Miss → Type 0) (talk : List Access) (missed : Option Miss)
    → ((left : List ℕ) (later : List Access) → Rest left later missed → WritesOwn header to None later)
    → TakesEntry entry bytes Rest talk missed → WritesOwn header to entry talk
entry_own header to None bytes Rest talk missed f t = none_own header to None talk t.0
entry_own header to (Some entry) bytes Rest talk missed f t =
    let rest = block_own header to t.0 (Rest (drop (data_len entry) bytes)) t.1 missed
    (f (drop (data_len entry) bytes) t.1) t.3 in
    subst (WritesOwn header to (Some entry)) (sym t.2)
    (inl (refl, part_fits (data_len entry) bytes), rest)

next_own : (header to : Option ℕ) (is_end : Bool) (at : ℕ) (bytes : List ℕ)
    (Rest : List ℕ → List Access → Option Miss → Type 0) (talk : List Access) (missed : Option Miss)
    → ((left : List ℕ) (later : List Access) → Rest left later missed → WritesOwn header to None later)
    → TakesNext is_end at bytes Rest talk missed → WritesOwn header to None talk
next_own header to true at bytes Rest talk missed f t = none_own header to None talk t.0
next_own header to false at bytes Rest talk missed f t =
    subst (WritesOwn header to None) (sym t.2) (entry_own header to t.0 bytes Rest t.1 missed f t.3)

scatters_own : (header to : Option ℕ) (at n : ℕ) (bytes : List ℕ) (talk : List Access) (missed : Option Miss)
    → Scatters at n bytes talk missed → WritesOwn header to None talk
scatters_own header to at zero bytes talk missed s = none_own header to None talk s.0
scatters_own header to at (suc n) bytes talk missed s =
    next_own header to (length bytes == 0) at bytes (Scatters (at + descriptor_size) n) talk missed
    (λ left later r. scatters_own header to (at + descriptor_size) n left later missed r) s

-- The count, and FISes.
count_own : (header n : ℕ) (to : Option ℕ) (is_none : Bool) (talk : List Access) (missed : Option Miss)
    → CountsIf is_none header n talk missed → WritesOwn (Some header) to None talk
count_own header n to true talk missed c = none_own (Some header) to None talk c.0
count_own header n to false talk missed c =
    subst (WritesOwn (Some header) to None) (sym c.1) (inr (inl (refl, refl)), tt)

one_own : (header : Option ℕ) (base : ℕ) (is_done : Bool) (Rest : List Access → Option Miss → Type 0)
    (talk : List Access) (missed : Option Miss)
    → (Rest talk missed → WritesOwn header (Some base) None talk) → PostsOne is_done Rest talk missed
    → WritesOwn header (Some base) None talk
one_own header base false Rest talk missed f t = none_own header (Some base) None talk t.0
one_own header base true Rest talk missed f t = f t

posts_own : (header : Option ℕ) (base : ℕ) (list : List Fis) (talk : List Access) (missed : Option Miss)
    → Posts base list talk missed → WritesOwn header (Some base) None talk
posts_own header base [] talk missed p = none_own header (Some base) None talk p.0
posts_own header base (fis ∷ more) talk missed p =
    let rest = one_own header base p.1 (Posts base more) p.2 missed (posts_own header base more p.2 missed) p.5 in
    subst (WritesOwn header (Some base) None) (sym p.4) (inr (inr (fis, refl, p.3)), rest)

posts_to_own : (header to : Option ℕ) (list : List Fis) (talk : List Access) (missed : Option Miss)
    → PostsTo to list talk missed → WritesOwn header to None talk
posts_to_own header None list talk missed p = none_own header None None talk p.0
posts_to_own header (Some base) list talk missed p = posts_own header base list talk missed p

after_own : (header : ℕ) (to : Option ℕ) (list : List Fis) (first : Option Miss) (talk : List Access)
    (missed : Option Miss) → After first (PostsTo to list) talk missed → WritesOwn (Some header) to None talk
after_own header to list None talk missed a = posts_to_own (Some header) to list talk missed a
after_own header to list (Some miss) talk missed a = none_own (Some header) to None talk a.0

ends_own : (header n : ℕ) (to : Option ℕ) (list : List Fis) (ended : Option Miss) (talk : List Access)
    (missed : Option Miss) → EndsBy ended (Counts header n) (PostsTo to list) talk missed
    → WritesOwn (Some header) to None talk
ends_own header n to list None talk missed e =
    both_as (Some header) to talk e.0 e.1 e.3 (count_own header n to (n == 0) e.0 e.2 e.4)
    (after_own header to list e.2 e.1 missed e.5)
ends_own header n to list (Some miss) talk missed e = count_own header n to (n == 0) talk e.0 e.1

delivers_own : (place : Place) (brought : Moved) (list : List Fis) (bytes : List ℕ) (talk : List Access)
    (arrival : Arrival) → Delivers place brought list bytes talk arrival
    → WritesOwn (Some place.at) place.to None talk
delivers_own place brought list bytes talk arrival d =
    both_as (Some place.at) place.to talk d.0 d.1 d.3
    (scatters_own (Some place.at) place.to (descriptors_of place.header) place.header.entries bytes d.0 d.2 d.4)
    (ends_own place.at (data_taken list brought.len + written_by d.0) place.to list (ending d.2) d.1 arrival.missed d.7)

-- A command.
acts_own : (o : Opened) (a : Account) (place : Place) (fetched : Option ℕ) (act : List ℕ → Act)
    (operation : List ℕ → Arrival → Operation) (moved : Moved) (brought : Result (List ℕ) Miss)
    (talk : List Access) (done : Operation) → Acts o a place fetched act operation moved brought talk done
    → WritesOwn (Some place.at) place.to None talk
acts_own o a place fetched act operation moved (Err miss) talk done h = none_own (Some place.at) place.to None talk h.0
acts_own o a place fetched act operation moved (Ok payload) talk done h =
    delivers_own place moved (effect_after o a (act payload)).fises (effect_after o a (act payload)).bytes talk h.0 h.1

serves_own : (o : Opened) (a : Account) (place : Place) (n : ℕ) (fetched : Option ℕ) (act : List ℕ → Act)
    (operation : List ℕ → Arrival → Operation) (talk : List Access) (done : Operation)
    → ServesSo o a place n fetched act operation talk done → WritesOwn (Some place.at) place.to None talk
serves_own o a place n fetched act operation talk done s =
    both_as (Some place.at) place.to talk s.0 s.1 s.3
    (reads_own (Some place.at) place.to None s.0
    (gathers_reads (descriptors_of place.header) place.header.entries n s.0 s.2 s.4))
    (acts_own o a place fetched act operation (moved_by s.0 n) s.2 s.1 done s.5)

abbrev Own : Account → ℕ → Option (List ℕ) → List Access → Type 0
Own a tag entry talk = WritesOwn (Some (header_at a.registers tag)) (fises_at a.registers) entry talk

controls_own : (sets was : Bool) (a : Account) (tag : ℕ) (talk : List Access) (done : Operation)
    → ControlsTo sets was a tag talk done → Own a tag None talk
controls_own true was a tag talk done h = none_own (Some (header_at a.registers tag)) (fises_at a.registers) None talk h.0
controls_own false true a tag talk done h =
    posts_to_own (Some (header_at a.registers tag)) (fises_at a.registers) (signature_fis ∷ []) talk h.0 h.1
controls_own false false a tag talk done h = none_own (Some (header_at a.registers tag)) (fises_at a.registers) None talk h.0

hears_own : (in_reset : Bool) (o : Opened) (a : Account) (tag : ℕ) (header : Header) (fis : List ℕ) (talk : List Access)
    (done : Operation) → HearsIf in_reset o a (place_of a.registers tag header) tag fis talk done → Own a tag None talk
hears_own true o a tag header fis talk done h = none_own (Some (header_at a.registers tag)) (fises_at a.registers) None talk h.0
hears_own false o a tag header fis talk done h =
    serves_own o a (place_of a.registers tag header) (payload_of o.origin.tables.config fis) (Some tag) (Accept fis) (Fetched tag fis) talk done h

if_own : (is : Bool) (o : Opened) (a : Account) (tag : ℕ) (header : Header) (fis : List ℕ) (talk : List Access)
    (done : Operation) → FetchesIf is o a (place_of a.registers tag header) tag fis talk done → Own a tag None talk
if_own false o a tag header fis talk done h =
    controls_own (resets_behind a.registers.in_reset fis) a.registers.in_reset a tag talk done h
if_own true o a tag header fis talk done h = hears_own a.registers.in_reset o a tag header fis talk done h

fis_own : (o : Opened) (a : Account) (tag : ℕ) (header : Header) (fis : Option (List ℕ)) (talk : List Access)
    (done : Operation) → FetchesFis o a (place_of a.registers tag header) tag fis talk done → Own a tag None talk
fis_own o a tag header None talk done h = none_own (Some (header_at a.registers tag)) (fises_at a.registers) None talk h.0
fis_own o a tag header (Some fis) talk done h = if_own (is_command fis) o a tag header fis talk done h

from_own : (o : Opened) (a : Account) (tag : ℕ) (header : Result Header Miss) (talk : List Access)
    (done : Operation) → FetchesFrom o a tag header talk done → Own a tag None talk
from_own o a tag (Err miss) talk done h = none_own (Some (header_at a.registers tag)) (fises_at a.registers) None talk h.0
from_own o a tag (Ok header) talk done h =
    subst (Own a tag None) (sym h.2)
    (weaker (Some (header_at a.registers tag)) (fises_at a.registers) h.0 h.1 (fis_own o a tag header h.0 h.1 done h.3))

end_own : (o : Opened) (a : Account) (tag n : ℕ) (header : Result Header Miss) (talk : List Access)
    (done : Operation) → CompletesFrom o a tag n header talk done → Own a tag None talk
end_own o a tag n (Err miss) talk done h = none_own (Some (header_at a.registers tag)) (fises_at a.registers) None talk h.0
end_own o a tag n (Ok header) talk done h =
    serves_own o a (place_of a.registers tag header) n None (Complete tag) (Completed tag) talk done h

pub writes_law : WritesLaw
writes_law works.Signature o list talk done h = posts_to_own None (fises_at (account o list).registers) (signature_fis ∷ []) talk h.0 h.1
writes_law (works.Fetch tag) o list talk done h =
    let a = account o list in
    subst (Own a tag None) (sym h.2) (weaker (Some (header_at a.registers tag)) (fises_at a.registers) h.0 h.1 (from_own o a tag (header_by a.registers.width h.0) h.1 done h.3))
writes_law (works.Complete tag) o list talk done h =
    let a = account o list in
    subst (Own a tag None) (sym h.2)
    (weaker (Some (header_at a.registers tag)) (fises_at a.registers) h.0 h.1 (end_own o a tag (wanted_after o a tag) (header_by a.registers.width h.0) h.1 done h.3))
