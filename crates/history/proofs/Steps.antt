-- What one more event makes of the rows, the transaction and the Tries of an SP: the right sides of a store's clauses.
use Rattle.std.proofs.Common.{◌≡◌, ◌+◌, ℕ, Bool, true, false, List, [], ◌∷◌, ◌++◌, Option, Some, None, refl, sym, ◌∙◌, ap, cond}
use Rattle.std.specs.Prelude.{option_to_list, unwrap_or}
use Rattle.sp_cells.specs.declared.names.Sp.{Sp}
use Rattle.sp_cells.specs.declared.names.Sp.TheVariants.{Admin, Locking}
use Rattle.sp_cells.specs.Limits.{manufactured, manufactured_inactive}
use Rattle.sp_cells.specs.Names.{locking_sp, admin_pin_uid}
use Rattle.sp_cells.specs.declared.cells.Cell.{Cell}
use Rattle.sp_cells.specs.declared.cells.Cell.TheVariants.{Number}
use Rattle.std.specs.List.{flat_map}
use Rattle.sp_cells.specs.Flat.{sp_eq}
use Rattle.sp_cells.specs.declared.names.Uid.{Uid}
use Rattle.sp_cells.specs.ColumnNames.{life_cycle_state_column, pin_column}
use Rattle.shadow_mbr.specs.declared.erasure.Erasure.{Erasure}
use Rattle.sessions.specs.Deeds.{Begun, Change, Restores, Attempt, Started, Tried, Changed, Began, Committed, Aborted, Ended, Activated, Reverted}
use Rattle.history.specs.Opening.{Origin}
use Rattle.sp_tables.specs.Looks.{RowLook, puts_in}
use Rattle.history.specs.Changes.{apply, apply_all, reset_rows}
use Rattle.history.specs.Events.{Response, InSession, WasReset, Event, since, every, count}
use Rattle.history.specs.Readers.{is_start, living, session_on, next_number, starts, gains, authorities, turns, begins, changes_on, open_on, own_changes, if_open, open_changes, unless_any_open, brought, changes, factory_rows, rows_after, rows_within}
use Rattle.history.proofs.Words.{latest-here, latest-skip, sp-same}
use Rattle.history.proofs.Emptied.{every-since-more}

-- changes in a row
pub apply_all-append : (factory rows : RowLook) (cs ds : List Change) → apply_all factory (cs ++ ds) rows ≡ apply_all factory cs (apply_all factory ds rows)
apply_all-append factory rows [] ds = refl
apply_all-append factory rows (c ∷ cs) ds = ap (apply factory c) (apply_all-append factory rows cs ds)

pub rows-brought : (o : Origin) (e : Event) (es : List Event) (s : Sp) → rows_after o (e ∷ es) s ≡ apply_all (factory_rows o s) (brought es s e.deed) (rows_after o es s)
rows-brought o e es s = apply_all-append (factory_rows o s) _ (brought es s e.deed) (changes es s)

pub rows-by : (o : Origin) (e : Event) (es : List Event) (s : Sp) (cs : List Change) → brought es s e.deed ≡ cs → rows_after o (e ∷ es) s ≡ apply_all (factory_rows o s) cs (rows_after o es s)
rows-by o e es s cs h = rows-brought o e es s ∙ ap (λ xs. apply_all (factory_rows o s) xs (rows_after o es s)) h

-- the transaction of an SP
pub turned : (s : Sp) (e : Event) (es : List Event) (x : Option ℕ) → turns s e.deed ≡ Some x → open_on (e ∷ es) s ≡ x
turned s e es x h = ap (λ y. unwrap_or y None) (latest-here (turns s) e es x h)

pub unturned : (s : Sp) (e : Event) (es : List Event) → turns s e.deed ≡ None → open_on (e ∷ es) s ≡ open_on es s
unturned s e es h = ap (λ y. unwrap_or y None) (latest-skip (turns s) e es h)

-- begin: its view is the rows in force
pub begun-within : (o : Origin) (e : Event) (es : List Event) (s : Sp) (n : ℕ) (r : Response) → e.deed ≡ InSession (Began s n) r → (open_on (e ∷ es) s ≡ Some n) × (rows_within o (e ∷ es) s ≡ rows_after o (e ∷ es) s) × (rows_after o (e ∷ es) s ≡ rows_after o es s)
begun-within o e es s n r is =
    let opens : open_on (e ∷ es) s ≡ Some n = turned s e es (Some n) (ap (turns s) is ∙ ap (λ b. cond b (Some (Some n)) None) (sp-same s)) in
    let own : own_changes (e ∷ es) s ≡ [] = every-since-more (changes_on s) (begins s) e es true (ap (begins s) is ∙ sp-same s) in
    (opens, ap (λ x. apply_all (factory_rows o s) (if_open x (own_changes (e ∷ es) s)) (rows_after o (e ∷ es) s)) opens ∙ ap (λ xs. apply_all (factory_rows o s) xs (rows_after o (e ∷ es) s)) own, rows-by o e es s [] (ap (brought es s) is))

-- a Set outside of a transaction changes the rows in force
pub set-outside : (o : Origin) (e : Event) (es : List Event) (s : Sp) (c : Change) (r : Response) → e.deed ≡ InSession (Changed s c) r → open_on es s ≡ None → rows_after o (e ∷ es) s ≡ apply (factory_rows o s) c (rows_after o es s)
set-outside o e es s c r is closed = rows-by o e es s (c ∷ []) (ap (brought es s) is ∙ ap (λ b. cond b (unless_any_open (open_on es s) c) []) (sp-same s) ∙ ap (λ x. unless_any_open x c) closed)

-- inside, its view alone
pub set-inside : (o : Origin) (e : Event) (es : List Event) (s : Sp) (c : Change) (r : Response) (n : ℕ) → e.deed ≡ InSession (Changed s c) r → open_on es s ≡ Some n → (rows_after o (e ∷ es) s ≡ rows_after o es s) × (rows_within o (e ∷ es) s ≡ apply (factory_rows o s) c (rows_within o es s))
set-inside o e es s c r n is opens =
    let same : rows_after o (e ∷ es) s ≡ rows_after o es s = rows-by o e es s [] (ap (brought es s) is ∙ ap (λ b. cond b (unless_any_open (open_on es s) c) []) (sp-same s) ∙ ap (λ x. unless_any_open x c) opens) in
    let still : open_on (e ∷ es) s ≡ Some n = unturned s e es (ap (turns s) is) ∙ opens in
    let own : own_changes (e ∷ es) s ≡ c ∷ own_changes es s =
    every-since-more (changes_on s) (begins s) e es false (ap (begins s) is)
    ∙ ap (λ x. option_to_list x ++ own_changes es s) (ap (changes_on s) is ∙ ap (λ b. cond b (Some c) None) (sp-same s)) in (
      same,
      ap (λ x. apply_all (factory_rows o s) (if_open x (own_changes (e ∷ es) s)) (rows_after o (e ∷ es) s)) still
          ∙ ap (λ xs. apply_all (factory_rows o s) xs (rows_after o (e ∷ es) s)) own
          ∙ ap (λ rows. apply (factory_rows o s) c (apply_all (factory_rows o s) (own_changes es s) rows)) same
          ∙ ap (λ x. apply (factory_rows o s) c (apply_all (factory_rows o s) (if_open x (own_changes es s)) (rows_after o es s))) (sym opens),
    )

-- a commit makes the view the rows in force
pub committed : (o : Origin) (e : Event) (es : List Event) (s : Sp) (r : Response) → e.deed ≡ InSession (Committed s) r → (open_on (e ∷ es) s ≡ None) × (rows_after o (e ∷ es) s ≡ rows_within o es s)
committed o e es s r is = (
  turned s e es None (ap (turns s) is ∙ ap (λ b. cond b closed None) (sp-same s)),
  rows-by o e es s (open_changes es s) (ap (brought es s) is ∙ ap (λ b. cond b (open_changes es s) []) (sp-same s)),
)
  where
    closed : Option (Option ℕ)
    closed = Some None

-- an abort leaves the rows in force
pub aborted : (o : Origin) (e : Event) (es : List Event) (s : Sp) (r : Response) → e.deed ≡ InSession (Aborted s) r → (open_on (e ∷ es) s ≡ None) × (rows_after o (e ∷ es) s ≡ rows_after o es s)
aborted o e es s r is = (turned s e es None (ap (turns s) is ∙ ap (λ b. cond b closed None) (sp-same s)), rows-by o e es s [] (ap (brought es s) is))
  where
    closed : Option (Option ℕ)
    closed = Some None

-- and so does the end of a session
pub ended : (o : Origin) (e : Event) (es : List Event) (s : Sp) (r : Response) → e.deed ≡ InSession (Ended s) r → (open_on (e ∷ es) s ≡ None) × (rows_after o (e ∷ es) s ≡ rows_after o es s)
ended o e es s r is = (turned s e es None (ap (turns s) is ∙ ap (λ b. cond b closed None) (sp-same s)), rows-by o e es s [] (ap (brought es s) is))
  where
    closed : Option (Option ℕ)
    closed = Some None

-- an Activate that takes effect
pub activated : (o : Origin) (e : Event) (es : List Event) (pin : Cell) (r : Response) → e.deed ≡ InSession (Activated (Some pin)) r
    → (rows_after o (e ∷ es) Admin ≡ puts_in locking_sp ((life_cycle_state_column, Number manufactured) ∷ []) (rows_after o es Admin)) × (rows_after o (e ∷ es) Locking ≡ puts_in (admin_pin_uid 1) ((pin_column, pin) ∷ []) (rows_after o es Locking))
activated o e es pin r is = (rows-by o e es Admin _ (ap (brought es Admin) is), rows-by o e es Locking _ (ap (brought es Locking) is))

-- a Revert of the Locking SP, and of the Admin SP
pub reverted-locking : (o : Origin) (e : Event) (es : List Event) (w : Erasure) (r : Response) → e.deed ≡ InSession (Reverted Locking w) r
    → (rows_after o (e ∷ es) Admin ≡ puts_in locking_sp ((life_cycle_state_column, Number manufactured_inactive) ∷ []) (rows_after o es Admin)) × (rows_after o (e ∷ es) Locking ≡ factory_rows o Locking)
reverted-locking o e es w r is = (rows-by o e es Admin _ (ap (brought es Admin) is), rows-by o e es Locking (Restores ∷ []) (ap (brought es Locking) is))

pub reverted-admin : (o : Origin) (e : Event) (es : List Event) (w : Erasure) (r : Response) (s : Sp) → e.deed ≡ InSession (Reverted Admin w) r → rows_after o (e ∷ es) s ≡ factory_rows o s
reverted-admin o e es w r s is = rows-by o e es s (Restores ∷ []) (ap (brought es s) is)

-- a reset
pub was_reset : (o : Origin) (e : Event) (es : List Event) (kind : ℕ) (s : Sp) → e.deed ≡ WasReset kind → (open_on (e ∷ es) s ≡ None) × (rows_after o (e ∷ es) s ≡ reset_rows kind (rows_after o es s))
was_reset o e es kind s is = (turned s e es None (ap (turns s) is), rows-by o e es s _ (ap (brought es s) is))

-- an event that turns, begins, changes and brings nothing on an SP
pub spared : (o : Origin) (e : Event) (es : List Event) (s : Sp) → turns s e.deed ≡ None → begins s e.deed ≡ false → changes_on s e.deed ≡ None → brought es s e.deed ≡ []
    → (open_on (e ∷ es) s ≡ open_on es s) × (rows_after o (e ∷ es) s ≡ rows_after o es s) × (rows_within o (e ∷ es) s ≡ rows_within o es s)
spared o e es s turn start change bring =
    let same : rows_after o (e ∷ es) s ≡ rows_after o es s = rows-by o e es s [] bring in
    let own : own_changes (e ∷ es) s ≡ own_changes es s = every-since-more (changes_on s) (begins s) e es false start ∙ ap (λ x. option_to_list x ++ own_changes es s) change in (
      unturned s e es turn,
      same,
      ap (λ x. apply_all (factory_rows o s) (if_open x (own_changes (e ∷ es) s)) (rows_after o (e ∷ es) s)) (unturned s e es turn)
          ∙ ap (λ xs. apply_all (factory_rows o s) (if_open (open_on es s) xs) (rows_after o (e ∷ es) s)) own
          ∙ ap (apply_all (factory_rows o s) (open_changes es s)) same,
    )

-- Sessions.

-- a session that begins has what it began with
pub started : (e : Event) (es : List Event) (b : Begun) (row : Uid) (r : Response) → e.deed ≡ InSession (Started b row) r → (session_on (e ∷ es) b.sp ≡ Some b) × (authorities (e ∷ es) b ≡ b.authorities) × (next_number (e ∷ es) ≡ 0x1000 + (count is_start es + 1))
started e es b row r is = (
  ap (λ y. unwrap_or y None) (latest-here (living b.sp) e es (Some b) (ap (living b.sp) is ∙ ap (λ t. cond t (Some (Some b)) None) (sp-same b.sp))),
  ap (λ l. flat_map (λ us. us) l ++ b.authorities) (every-since-more (gains b.sp) (starts b.sp) e es true (ap (starts b.sp) is ∙ sp-same b.sp)),
  ap (λ t. 0x1000 + cond t (count is_start es + 1) (count is_start es)) (ap is_start is),
)

-- an attempt adds what it gained; one that fails gained nothing
pub tried-gains : (e : Event) (es : List Event) (a : Attempt) (b : Begun) (r : Response) → e.deed ≡ InSession (Tried a) r → b.sp ≡ a.sp → authorities (e ∷ es) b ≡ (a.gained ++ flat_map (λ us. us) (every (gains b.sp) (since (starts b.sp) es))) ++ b.authorities
tried-gains e es a b r is on =
    ap (λ l. flat_map (λ us. us) l ++ b.authorities)
    (every-since-more (gains b.sp) (starts b.sp) e es false (ap (starts b.sp) is)
    ∙ ap (λ x. option_to_list x ++ every (gains b.sp) (since (starts b.sp) es)) (ap (gains b.sp) is ∙ ap (λ t. cond (sp_eq a.sp t) (Some a.gained) None) on ∙ ap (λ t. cond t (Some a.gained) None) (sp-same a.sp)))

-- what ends a session, and what leaves it
pub gone : (e : Event) (es : List Event) (s : Sp) → living s e.deed ≡ Some None → session_on (e ∷ es) s ≡ None
gone e es s h = ap (λ y. unwrap_or y None) (latest-here (living s) e es None h)

pub lives-on : (e : Event) (es : List Event) (s : Sp) → living s e.deed ≡ None → session_on (e ∷ es) s ≡ session_on es s
lives-on e es s h = ap (λ y. unwrap_or y None) (latest-skip (living s) e es h)
