-- Sets of bytes lie within the table, and so what is past it stays zero.
use Rattle.std.proofs.Common.{◌≡◌, ℕ, ◌+◌, ◌*◌, ◌≤◌, Bool, true, false, ◌&&◌, List, [], ◌∷◌, ◌++◌, length, Option, Some, None, refl, sym, ◌∙◌, ap, cond, arith}
use Rattle.std.specs.Prelude.{nat_le, nat_lt, ◌-◌, slice_index, option_to_list}
use Rattle.std.specs.List.{list_all}
use Rattle.std.proofs.lemmas.List.Folds.{list_all-append}
use Rattle.std.proofs.lemmas.Bool.Decides.{nat_tests}
use Rattle.sp_cells.specs.declared.names.Sp.{Sp}
use Rattle.sp_cells.specs.declared.names.Sp.TheVariants.{Admin, Locking}
use Rattle.sp_cells.specs.Config.{table_sectors}
use Rattle.sessions.specs.Deeds.{cells_set, bytes_set, Change, Sets, Restores, Resets, SessionDeed, Unchanged, Started, Tried, Changed, Began, Committed, Aborted, Ended, Activated, Reverted, Erased, Drew, HostTold, StackReset, StackTold}
use Rattle.history.specs.Changes.{byte_then, byte_in}
use Rattle.history.specs.Opening.{Origin}
use Rattle.history.specs.Events.{Response, Deed, Nothing, InSession, OfQueue, Wrote, Trimmed, Took, BlockedSid, Chose, PowerSet, WasReset, Event}
use Rattle.history.specs.Readers.{changes_on, begins, open_on, own_changes, if_open, open_changes, only_on, unless_any_open, pin_change, brought, changes, is_of}
use Rattle.history.specs.History.{Act, event, log}
use Rattle.history.specs.Deeds.{is_inside, Changes, CanDo}
use Rattle.history.specs.Bounds.{TableLaw}
use Rattle.history.proofs.Emptied.{every-since-more}
use Rattle.history.proofs.DeedLaws.{deed_law}
use Rattle.history.proofs.OwnerLaws.{changed-is}

-- changes of the Locking SP within the table
abbrev are_inside : ℕ → List Change → Bool
are_inside size cs = list_all (is_inside size Locking) cs

abbrev Can : Origin → List Event → Event → Type 0
Can o past e = (d : SessionDeed) (r : Response) → e.deed ≡ InSession d r → CanDo o past d

abbrev size_of : Origin → ℕ
size_of o = table_sectors o.tables.config

own-inside : (o : Origin) (e : Event) (es : List Event) → Can o es e → are_inside (size_of o) (own_changes es Locking) ≡ true → are_inside (size_of o) (own_changes (e ∷ es) Locking) ≡ true
own-inside o e es can own = by_begin (begins Locking e.deed) refl
  where
    by_change : (x : Option Change) → changes_on Locking e.deed ≡ x → are_inside (size_of o) (option_to_list x ++ own_changes es Locking) ≡ true
    by_change None is = own
    by_change (Some c) is =
        let d = changed-is Locking e.deed c is in
        let set : Changes o es Locking c = can (Changed Locking c) d.0 d.1 in
        ap (λ b. b && are_inside (size_of o) (own_changes es Locking)) set.inside ∙ own

    by_begin : (b : Bool) → begins Locking e.deed ≡ b → are_inside (size_of o) (own_changes (e ∷ es) Locking) ≡ true
    by_begin true is = ap (are_inside (size_of o)) (every-since-more (changes_on Locking) (begins Locking) e es true is)
    by_begin false is = ap (are_inside (size_of o)) (every-since-more (changes_on Locking) (begins Locking) e es false is) ∙ by_change (changes_on Locking e.deed) refl

open-inside : (size : ℕ) (x : Option ℕ) (own : List Change) → are_inside size own ≡ true → are_inside size (if_open x own) ≡ true
open-inside size None own h = refl
open-inside size (Some n) own h = h

only-inside : (size : ℕ) (t : Sp) (xs : List Change) → (t ≡ Locking → are_inside size xs ≡ true) → are_inside size (only_on Locking t xs) ≡ true
only-inside size Locking xs h = h refl
only-inside size Admin xs h = refl

set-inside : (size : ℕ) (x : Option ℕ) (c : Change) → is_inside size Locking c ≡ true → are_inside size (unless_any_open x c) ≡ true
set-inside size None c h = ap (λ b. b && true) h
set-inside size (Some n) c h = refl

pin-inside : (size : ℕ) (x : _) → are_inside size (pin_change x) ≡ true
pin-inside size None = refl
pin-inside size (Some pin) = refl

brought-inside : (o : Origin) (es : List Event) (d : Deed) → ((x : SessionDeed) (r : Response) → d ≡ InSession x r → CanDo o es x) → are_inside (size_of o) (own_changes es Locking) ≡ true → are_inside (size_of o) (brought es Locking d) ≡ true
brought-inside o es (InSession (Changed t c) r) can own =
    let set : Changes o es t c = can (Changed t c) r refl in
    only-inside (size_of o) t (unless_any_open (open_on es Locking) c) (λ locking. set-inside (size_of o) (open_on es Locking) c (ap (λ x. is_inside (size_of o) x c) (sym locking) ∙ set.inside))
brought-inside o es (InSession (Committed t) r) can own = only-inside (size_of o) t (open_changes es Locking) (λ locking. open-inside (size_of o) (open_on es Locking) (own_changes es Locking) own)
brought-inside o es (InSession Unchanged r) can own = refl
brought-inside o es (InSession (Started session row) r) can own = refl
brought-inside o es (InSession (Tried attempt) r) can own = refl
brought-inside o es (InSession (Began s n) r) can own = refl
brought-inside o es (InSession (Aborted s) r) can own = refl
brought-inside o es (InSession (Ended s) r) can own = refl
brought-inside o es (InSession (Activated pin) r) can own = pin-inside (size_of o) pin
brought-inside o es (InSession (Erased w) r) can own = refl
brought-inside o es (InSession (Drew count) r) can own = refl
brought-inside o es (InSession (HostTold com_id limits) r) can own = refl
brought-inside o es (InSession (StackTold com_id) r) can own = refl
brought-inside o es (InSession (StackReset com_id ends) r) can own = refl
brought-inside o es (InSession (Reverted Admin w) r) can own = refl
brought-inside o es (InSession (Reverted Locking w) r) can own = refl
brought-inside o es Nothing can own = refl
brought-inside o es (OfQueue d) can own = refl
brought-inside o es (Wrote lba bytes) can own = refl
brought-inside o es (Trimmed extents) can own = refl
brought-inside o es (Took x) can own = refl
brought-inside o es (BlockedSid block) can own = refl
brought-inside o es (Chose feature) can own = refl
brought-inside o es (PowerSet in_standby) can own = refl
brought-inside o es (WasReset kind) can own = refl

record Inside (o : Origin) (past : List Event) : Type 0 where
  own : are_inside (size_of o) (own_changes past Locking) ≡ true
  all : are_inside (size_of o) (changes past Locking) ≡ true

inside : (o : Origin) (acts : List Act) → Inside o (log o acts)
inside o [] = record { own = refl; all = refl }
inside o (act ∷ acts) =
    let es : List Event = log o acts in
    let e : Event = event o (log o acts) act in
    let can : Can o es e = λ d r is. deed_law o es act d r is in
    let before : Inside o es = inside o acts in
    record {
      own = own-inside o e es can before.own;
      all = list_all-append (is_inside (size_of o) Locking) (brought es Locking e.deed) (changes es Locking)
          ∙ ap (λ b. b && are_inside (size_of o) (changes es Locking)) (brought-inside o es e.deed can before.own)
          ∙ before.all;
    }

-- bytes past the table
not-below : (place start size n : ℕ) → nat_le (start + n) size ≡ true → size ≤ place → nat_lt place (start + n) ≡ false
not-below place start size n h le = grind (arith, nat_tests)

and-false : (b : Bool) → (b && false) ≡ false
and-false true = refl
and-false false = refl

then-zero : (sectors : ℕ) (c : Change) (before place : ℕ) → is_inside sectors Locking c ≡ true → 512 * sectors ≤ place → before ≡ 0 → byte_then c before place ≡ 0
then-zero sectors (Sets (cells_set object cells)) before place h le zero = zero
then-zero sectors (Sets (bytes_set start content)) before place h le zero =
    ap (λ b. cond (nat_le start place && b) (slice_index content (place - start)) before) (not-below place start (512 * sectors) (length content) h le)
    ∙ ap (λ b. cond b (slice_index content (place - start)) before) (and-false (nat_le start place)) ∙ zero
then-zero sectors Restores before place h le zero = refl
then-zero sectors (Resets kind) before place h le zero = zero

and-parts : (a b : Bool) → (a && b) ≡ true → (a ≡ true) × (b ≡ true)
and-parts true b h = (refl, h)
and-parts false b h = cc

in-zero : (sectors : ℕ) (cs : List Change) (place : ℕ) → are_inside sectors cs ≡ true → 512 * sectors ≤ place → byte_in cs place ≡ 0
in-zero sectors [] place h le = refl
in-zero sectors (c ∷ cs) place h le =
    let parts = and-parts (is_inside sectors Locking c) (are_inside sectors cs) h in
    then-zero sectors c (byte_in cs place) place parts.0 le (in-zero sectors cs place parts.1 le)

pub table_law : TableLaw
table_law o acts place le =
    let k : Inside o (log o acts) = inside o acts in
    let past : List Event = log o acts in
    let within : are_inside (size_of o) (open_changes past Locking ++ changes past Locking) ≡ true =
    list_all-append (is_inside (size_of o) Locking) (open_changes past Locking) (changes past Locking)
    ∙ ap (λ b. b && are_inside (size_of o) (changes past Locking)) (open-inside (size_of o) (open_on past Locking) (own_changes past Locking) k.own)
    ∙ k.all in
    record {
      byte = in-zero (size_of o) (changes past Locking) place k.all le;
      views = λ number. by_owner (is_of number (open_on past Locking)) (in-zero (size_of o) (open_changes past Locking ++ changes past Locking) place within le) (in-zero (size_of o) (changes past Locking) place k.all le);
    }
  where
    by_owner : (b : Bool) → byte_in (open_changes (log o acts) Locking ++ changes (log o acts) Locking) place ≡ 0 → byte_in (changes (log o acts) Locking) place ≡ 0
        → cond b (byte_in (open_changes (log o acts) Locking ++ changes (log o acts) Locking) place) (byte_in (changes (log o acts) Locking) place) ≡ 0
    by_owner true w a = w
    by_owner false w a = a
