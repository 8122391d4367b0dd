-- The acts of a line, and what they denied.
use Rattle.std.proofs.Common.{◌≡◌, ◌∙◌, ℕ, ◌-◌, Bool, true, false, List, [], ◌∷◌, ◌++◌, take, map, length, refl, sym, ap, subst, arith, Option, Some, None}
use Rattle.audit.specs.declared.rules.rule.Rule.{Rule}
use Rattle.std.specs.Prelude.{suc, is_some, ◌||◌, if◌then◌else◌}
use Rattle.audit.specs.declared.reason.Why.{Why}
use Rattle.trusted_cmds.specs.declared.command.Command.{Command}
use Rattle.trusted_cmds.specs.declared.command.Command.TheVariants.{WriteQueued}
use Rattle.history.specs.Opening.{Origin}
use Rattle.history.specs.Events.{Event, HeldCommand}
use Rattle.history.specs.Decisions.{completed, completed_by}
use Rattle.history.specs.History.{Act, Accept, Complete, Reset, log, event}
use Rattle.sp_cells.specs.declared.names.Sp.{Sp}
use Rattle.history.specs.Readers.{in_force, held, session_on}
use Rattle.reasons.specs.declared.explained.onset.Source.{Source}
use Rattle.reasons.specs.declared.explained.onset.Counted.TheVariants.{Acts}
use Rattle.reasons.specs.Onsets.{Sourced, from_source, bare_acts}
use Rattle.fis.specs.H2d.{h2d_at}
use Rattle.fis.specs.declared.h2d.RegH2d.{RegH2d}
use Rattle.reasons.specs.Rulings.{command_carried}
use Rattle.drive_scripts.specs.Explanations.{added, attributed, no_objection, objection_of, objection_in, command_done, payload_done, denial_text, objection_text, told_reasons, once_served}

-- the first items of a list, by how many stand behind them

take_none : {A : Type 0} (n m : ℕ) (xs : List A) → n ≡ m → take (n - m) xs ≡ []
take_none n m xs e = let none : n - m ≡ 0 = omega arith in ap (λ k. take k xs) none

take_one : {A : Type 0} (n m : ℕ) (x : A) (xs : List A) → n ≡ m → take (suc n - m) (x ∷ xs) ≡ x ∷ []
take_one n m x xs e = let one : suc n - m ≡ 1 = omega arith in ap (λ k. take k (x ∷ xs)) one

take_two : {A : Type 0} (n m : ℕ) (x y : A) (xs : List A) → n ≡ m → take (suc (suc n) - m) (x ∷ y ∷ xs) ≡ x ∷ y ∷ []
take_two n m x y xs e = let two : suc (suc n) - m ≡ 2 = omega arith in ap (λ k. take k (x ∷ y ∷ xs)) two

-- the acts of a line, with their source

pub attributed_none : (source : Source) (past : List Sourced) → attributed source (bare_acts past) past ≡ past
attributed_none source past =
    ap (λ acts. map (from_source source) acts ++ past) (take_none (length (bare_acts past)) (length (bare_acts past)) (bare_acts past) refl)

pub attributed_one : (source : Source) (act : Act) (past : List Sourced) → attributed source (act ∷ bare_acts past) past ≡ from_source source act ∷ past
attributed_one source act past =
    ap (λ acts. map (from_source source) acts ++ past) (take_one (length (bare_acts past)) (length (bare_acts past)) act (bare_acts past) refl)

pub attributed_two : (source : Source) (act earlier : Act) (past : List Sourced)
    → attributed source (act ∷ earlier ∷ bare_acts past) past ≡ from_source source act ∷ from_source source earlier ∷ past
attributed_two source act earlier past =
    ap (λ acts. map (from_source source) acts ++ past) (take_two (length (bare_acts past)) (length (bare_acts past)) act earlier (bare_acts past) refl)

-- and without it they are as they were
pub bare_none : (source : Source) (past : List Sourced) → bare_acts (attributed source (bare_acts past) past) ≡ bare_acts past
bare_none source past = ap bare_acts (attributed_none source past)

pub bare_one : (source : Source) (act : Act) (past : List Sourced) → bare_acts (attributed source (act ∷ bare_acts past) past) ≡ act ∷ bare_acts past
bare_one source act past = ap bare_acts (attributed_one source act past)

bare_served : (source : Source) (held : Bool) (fis payload : List ℕ) (tag : ℕ) (bytes : List ℕ) (past : List Sourced)
    → bare_acts (attributed source (once_served held fis payload tag bytes (bare_acts past)) past) ≡ once_served held fis payload tag bytes (bare_acts past)
bare_served source true fis payload tag bytes past = ap bare_acts (attributed_two source (Complete tag bytes) (Accept fis payload) past)
bare_served source false fis payload tag bytes past = ap bare_acts (attributed_one source (Accept fis payload) past)

pub bare_command : (source : Source) (held : Bool) (fis payload : List ℕ) (tag : ℕ) (bytes : List ℕ) (past : List Sourced) (acts : List Act)
    → acts ≡ once_served held fis payload tag bytes (bare_acts past) → bare_acts (attributed source acts past) ≡ acts
bare_command source held fis payload tag bytes past acts is =
    subst (λ acts. bare_acts (attributed source acts past) ≡ acts) (sym is) (bare_served source held fis payload tag bytes past)

-- a completion brings nothing into force, and denies nothing

by_command : (o : Origin) (past : List Event) (tag : ℕ) (bytes : List ℕ) (command : Command)
    → in_force o (completed_by tag bytes command ∷ past) ≡ in_force o past
by_command o past tag bytes (WriteQueued lba count) = refl
by_command o past tag bytes _ = refl

by_held : (o : Origin) (past : List Event) (tag : ℕ) (bytes : List ℕ) (h : Option HeldCommand)
    → in_force o (completed tag bytes h ∷ past) ≡ in_force o past
by_held o past tag bytes None = refl
by_held o past tag bytes (Some h) = by_command o past tag bytes h.command

pub rows_stay : (o : Origin) (tag : ℕ) (bytes : List ℕ) (acts : List Act)
    → in_force o (log o (Complete tag bytes ∷ acts)) ≡ in_force o (log o acts)
rows_stay o tag bytes acts = by_held o (log o acts) tag bytes (held (log o acts) tag)

live_command : (past : List Event) (tag : ℕ) (bytes : List ℕ) (command : Command) (sp : Sp)
    → session_on (completed_by tag bytes command ∷ past) sp ≡ session_on past sp
live_command past tag bytes (WriteQueued lba count) sp = refl
live_command past tag bytes _ sp = refl

live_held : (past : List Event) (tag : ℕ) (bytes : List ℕ) (h : Option HeldCommand) (sp : Sp)
    → session_on (completed tag bytes h ∷ past) sp ≡ session_on past sp
live_held past tag bytes None sp = refl
live_held past tag bytes (Some h) sp = live_command past tag bytes h.command sp

pub sessions_stay : (o : Origin) (tag : ℕ) (bytes : List ℕ) (acts : List Act) (sp : Sp)
    → session_on (log o (Complete tag bytes ∷ acts)) sp ≡ session_on (log o acts) sp
sessions_stay o tag bytes acts sp = live_held (log o acts) tag bytes (held (log o acts) tag) sp

silent_command : (events : List Event) (tag : ℕ) (bytes : List ℕ) (command : Command)
    → objection_in (completed_by tag bytes command ∷ events) ≡ objection_in events
silent_command events tag bytes (WriteQueued lba count) = refl
silent_command events tag bytes _ = refl

silent : (events : List Event) (tag : ℕ) (bytes : List ℕ) (h : Option HeldCommand)
    → objection_in (completed tag bytes h ∷ events) ≡ objection_in events
silent events tag bytes None = refl
silent events tag bytes (Some h) = silent_command events tag bytes h.command

-- what the acts of a command denied is what its acceptance did

told_or : (why : Option Why) (rule : Option Rule)
    → (if is_some why || is_some rule then record { denied = why; rule = rule } else no_objection) ≡ record { denied = why; rule = rule }
told_or None None = refl
told_or None (Some rule) = refl
told_or (Some why) rule = refl

as_many_events : (o : Origin) (acts : List Act) → length (log o acts) ≡ length acts
as_many_events o [] = refl
as_many_events o (act ∷ acts) = ap suc (as_many_events o acts)

objection_served : (o : Origin) (held : Bool) (fis payload : List ℕ) (tag : ℕ) (bytes : List ℕ) (past : List Sourced)
    → (let acts = once_served held fis payload tag bytes (bare_acts past) in objection_in (take (added acts past) (log o acts)))
    ≡ objection_of (event o (log o (bare_acts past)) (Accept fis payload))
objection_served o true fis payload tag bytes past =
    let earlier = Accept fis payload ∷ bare_acts past in
    let made = event o (log o (bare_acts past)) (Accept fis payload) in
    ap objection_in (take_two (length (bare_acts past)) (length (bare_acts past)) (event o (log o earlier) (Complete tag bytes)) made (log o (bare_acts past)) refl)
    ∙ silent (made ∷ []) tag bytes (held (log o earlier) tag)
    ∙ told_or made.denied made.rule
objection_served o false fis payload tag bytes past =
    let made = event o (log o (bare_acts past)) (Accept fis payload) in
    ap objection_in (take_one (length (bare_acts past)) (length (bare_acts past)) made (log o (bare_acts past)) refl)
    ∙ told_or made.denied made.rule

-- and its command that of the FIS
command_served : (held : Bool) (fis payload : List ℕ) (tag : ℕ) (bytes : List ℕ) (acts : List Act)
    → command_done (once_served held fis payload tag bytes acts) ≡ command_carried (h2d_at fis)
command_served true fis payload tag bytes acts = refl
command_served false fis payload tag bytes acts = refl

payload_served : (held : Bool) (fis payload : List ℕ) (tag : ℕ) (bytes : List ℕ) (acts : List Act)
    → payload_done (once_served held fis payload tag bytes acts) ≡ payload
payload_served true fis payload tag bytes acts = refl
payload_served false fis payload tag bytes acts = refl

pub reasons_of_command : (o : Origin) (held : Bool) (fis payload : List ℕ) (tag : ℕ) (bytes : List ℕ) (past : List Sourced) (acts : List Act) (h : RegH2d) (denied : Option Why) (rule : Option Rule)
    → h2d_at fis ≡ h
    → acts ≡ once_served held fis payload tag bytes (bare_acts past)
    → denied ≡ (event o (log o (bare_acts past)) (Accept fis payload)).denied
    → rule ≡ (event o (log o (bare_acts past)) (Accept fis payload)).rule
    → denial_text Acts o past acts (command_carried h) payload denied rule ≡ told_reasons o past acts
reasons_of_command o held fis payload tag bytes past acts h denied rule read is told ruled =
    ap (λ (command : Option Command). denial_text Acts o past acts command payload denied rule)
    (sym (ap command_carried read) ∙ sym (command_served held fis payload tag bytes (bare_acts past)) ∙ sym (ap command_done is))
    ∙ ap (λ (sent : List ℕ). denial_text Acts o past acts (command_done acts) sent denied rule)
    (sym (payload_served held fis payload tag bytes (bare_acts past)) ∙ sym (ap payload_done is))
    ∙ ap (λ denied. denial_text Acts o past acts (command_done acts) (payload_done acts) denied rule) told
    ∙ ap (λ rule. denial_text Acts o past acts (command_done acts) (payload_done acts) (event o (log o (bare_acts past)) (Accept fis payload)).denied rule) ruled
    ∙ ap (objection_text o past acts)
    (sym (objection_served o held fis payload tag bytes past) ∙ sym (ap (λ acts. objection_in (take (added acts past) (log o acts))) is))

-- a line without acts denies nothing, nor does a reset

pub reasons_of_none : (o : Origin) (past : List Sourced) → told_reasons o past (bare_acts past) ≡ []
reasons_of_none o past =
    ap (λ events. objection_text o past (bare_acts past) (objection_in events)) (take_none (length (bare_acts past)) (length (bare_acts past)) (log o (bare_acts past)) refl)

pub reasons_of_reset : (o : Origin) (past : List Sourced) (kind : ℕ) → told_reasons o past (Reset kind ∷ bare_acts past) ≡ []
reasons_of_reset o past kind =
    ap (λ events. objection_text o past (Reset kind ∷ bare_acts past) (objection_in events))
    (take_one (length (bare_acts past)) (length (bare_acts past)) (event o (log o (bare_acts past)) (Reset kind)) (log o (bare_acts past)) refl)
