-- What is delivered where nothing is missed.
use Rattle.std.proofs.Common.{◌≡◌, ℕ, ◌+◌, Bool, true, false, zero, suc, List, ◌∷◌, ◌++◌, length, take, drop, Option, Some, None, refl, ap, sym, subst, arith, ◌∙◌}
use Rattle.std.specs.Prelude.{◌==◌, if◌then◌else◌}
use Rattle.std.proofs.lemmas.Grind.{common_steps}
use Rattle.host_memory.specs.Access.{Access, Laid}
use Rattle.host_memory.specs.declared.hba_memory.miss.Miss.{Miss}
use Rattle.host_memory.specs.declared.hba_memory.miss.Miss.TheVariants as misses
use Rattle.host_memory.specs.Memory.{data_at, data_len, written_by, runs_short, ending, descriptors_of, data_taken, TakesBlock, TakesEntry, TakesNext, Scatters, Counts, PostsTo, After, Then, EndsBy}
use Rattle.host_memory.specs.DeliveryLaws.{DeliveredLaw}

clash : {A : Type 0} {x : A} → Some x ≡ None → ⊥
clash e = cc

-- As many bytes are written as are laid.
no_bytes : (bytes : List ℕ) → (length bytes == 0) ≡ true → 0 ≡ length bytes
no_bytes bytes e = grind arith

ends_so : (bytes : List ℕ) (is : Bool) → (length bytes == 0) ≡ is
    → None ≡ (if is then None else Some misses.Overflow) → 0 ≡ length bytes
ends_so bytes true e h = no_bytes bytes e
ends_so bytes false e h = absurd (clash (sym h))

two_parts : (bytes : List ℕ) (n : ℕ) → length (take n bytes) + length (drop n bytes) ≡ length bytes
two_parts bytes n = grind (arith, common_steps)

block_so : (Rest : List Access → Option Miss → Type 0) (is_done : Bool) (here : ℕ) (part bytes : List ℕ) (talk : List Access)
    → ((later : List Access) → Rest later None → written_by later ≡ length bytes)
    → TakesBlock is_done Rest talk None → written_by (Laid here part is_done ∷ talk) ≡ length part + length bytes
block_so Rest false here part bytes talk rest h = absurd (clash (sym h.1))
block_so Rest true here part bytes talk rest h = ap (λ (m : ℕ). length part + m) (rest talk h)

entry_so : (Rest : List ℕ → List Access → Option Miss → Type 0) (entry : Option (List ℕ)) (bytes : List ℕ) (talk : List Access)
    → ((more : List ℕ) (later : List Access) → Rest more later None → written_by later ≡ length more)
    → TakesEntry entry bytes Rest talk None → written_by talk ≡ length bytes
entry_so Rest None bytes talk rest h = absurd (clash (sym h.1))
entry_so Rest (Some entry) bytes talk rest h =
    ap written_by h.2
    ∙ block_so (Rest (drop (data_len entry) bytes)) h.0 (data_at entry) (take (data_len entry) bytes)
    (drop (data_len entry) bytes) h.1 (rest (drop (data_len entry) bytes)) h.3
    ∙ two_parts bytes (data_len entry)

next_so : (Rest : List ℕ → List Access → Option Miss → Type 0) (here : ℕ) (bytes : List ℕ) (talk : List Access) (is : Bool)
    → ((more : List ℕ) (later : List Access) → Rest more later None → written_by later ≡ length more)
    → (length bytes == 0) ≡ is → TakesNext is here bytes Rest talk None → written_by talk ≡ length bytes
next_so Rest here bytes talk true rest e h = ap written_by h.0 ∙ no_bytes bytes e
next_so Rest here bytes talk false rest e h = ap written_by h.2 ∙ entry_so Rest h.0 bytes h.1 rest h.3

laid_so : (at n : ℕ) (bytes : List ℕ) (talk : List Access) → Scatters at n bytes talk None → written_by talk ≡ length bytes
laid_so at zero bytes talk h = ap written_by h.0 ∙ ends_so bytes (length bytes == 0) refl h.1
laid_so at (suc n) bytes talk h =
    next_so (Scatters (at + 16) n) at bytes talk (length bytes == 0) (laid_so (at + 16) n) refl h

-- The data end nothing.
laid_whole : (laid : Option Miss) (missed : Option Miss) (Counting Posting : List Access → Option Miss → Type 0)
    (talk : List Access) → EndsBy (ending laid) Counting Posting talk missed → missed ≡ None
    → runs_short laid ≡ false → laid ≡ None
laid_whole None missed Counting Posting talk h e s = refl
laid_whole (Some misses.List) missed Counting Posting talk h e s = absurd (clash (sym h.2 ∙ e))
laid_whole (Some misses.Table) missed Counting Posting talk h e s = absurd (clash (sym h.2 ∙ e))
laid_whole (Some misses.Block) missed Counting Posting talk h e s = absurd (clash (sym h.2 ∙ e))
laid_whole (Some misses.Overflow) missed Counting Posting talk h e s = grind arith
laid_whole (Some misses.Fis) missed Counting Posting talk h e s = absurd (clash (sym h.2 ∙ e))

first_whole : (first : Option Miss) (Next : List Access → Option Miss → Type 0) (talk : List Access)
    → After first Next talk None → (first ≡ None) × Next talk None
first_whole None Next talk h = (refl, h)
first_whole (Some miss) Next talk h = absurd (clash (sym h.1))

pub delivered_law : DeliveredLaw
delivered_law place brought fises bytes talk arrival g m s =
    let whole = laid_whole g.2 arrival.missed (Counts place.at (data_taken fises brought.len + written_by g.0))
    (PostsTo place.to fises) g.1 g.7 m (sym g.5 ∙ s) in
    let laid : Scatters (descriptors_of place.header) place.header.entries bytes g.0 None =
    subst (λ (x : Option Miss). Scatters (descriptors_of place.header) place.header.entries bytes g.0 x) whole g.4 in
    let count = laid_so (descriptors_of place.header) place.header.entries bytes g.0 laid in
    let ends : Then (Counts place.at (data_taken fises brought.len + length bytes)) (PostsTo place.to fises) g.1 None =
    subst (λ (n : ℕ). Then (Counts place.at (data_taken fises brought.len + n)) (PostsTo place.to fises) g.1 None) count
    (subst (λ (x : Option Miss). EndsBy (ending x) (Counts place.at (data_taken fises brought.len + written_by g.0))
    (PostsTo place.to fises) g.1 None) whole
    (subst (λ (x : Option Miss). EndsBy (ending g.2) (Counts place.at (data_taken fises brought.len + written_by g.0))
    (PostsTo place.to fises) g.1 x) m g.7)) in
    let rest = first_whole ends.2 (PostsTo place.to fises) ends.1 ends.5 in
    record {
      data_part = g.0;
      count_part = ends.0;
      fis_part = ends.1;
      parts = g.3 ∙ ap (λ (xs : List Access). g.0 ++ xs) ends.3;
      laid = laid;
      counted = subst (λ (x : Option Miss). Counts place.at (data_taken fises brought.len + length bytes) ends.0 x) rest.0 ends.4;
      posted = rest.1;
    }
