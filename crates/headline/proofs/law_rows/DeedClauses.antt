-- What each clause of the laws of deeds of `history` says: what an item did, it could do.
use Rattle.std.proofs.Common.{◌≡◌, ℕ, true, false, List, ◌∷◌, Option, Some, None, ◌⊎◌, inl, inr, sym, ◌∙◌, Bool, ap, eq-eqb}
use Rattle.sp_cells.specs.declared.cells.Cell.{Cell}
use Rattle.sp_cells.specs.declared.names.Sp.{Sp}
use Rattle.sp_cells.specs.declared.names.Sp.TheVariants.{Admin, Locking}
use Rattle.sp_cells.specs.declared.names.Uid.{Uid}
use Rattle.basics.specs.Profiles.{has_field}
use Rattle.sessions.specs.Deeds.{SessionDeed, Begun, Change, Started, Changed, Began, Committed, Aborted, Ended, Activated, Reverted, Erased, StackReset}
use Rattle.sessions.specs.Starts.{is_in_use}
use Rattle.shadow_mbr.specs.declared.erasure.Erasure.{Erasure}
use Rattle.sp_cells.specs.Config.{table_sectors}
use Rattle.methods.specs.Erasures.{erased_by_key, erased_by_revert}
use Rattle.history.specs.Deeds.{DeedLaw, OwnerLaw, LifeLaw, ActivateLaw, RevertLaw, IsRevert, IsRevertSp, is_of_row, is_set_in_admin, is_inside}
use Rattle.history.specs.Events.{Event, Response, InSession}
use Rattle.history.specs.Facts.{is_on_com_id}
use Rattle.history.specs.History.{Act, event, log}
use Rattle.history.specs.Opening.{Origin}
use Rattle.history.specs.Readers.{session_on, next_number, open_on, is_of, in_force}
use Rattle.headline.proofs.law_rows.Lists.{not_both}

abbrev does : Origin → List Event → Act → SessionDeed → Response → Type 0
does o past act deed response = (event o past act).deed ≡ InSession deed response

-- `deeds`: a session begins on an SP that is in use and has none, with the next number.
started_says : DeedLaw → (o : Origin) (past : List Event) (act : Act) (session : Begun) (row : Uid)
    (response : Response) → does o past act (Started session row) response
    → (session_on past session.sp ≡ None) × (is_in_use (in_force o past) session.sp ≡ true)
    × (session.number ≡ next_number past)
started_says law o past act session row response is =
    let its = law o past act (Started session row) response is in (its.free, its.made, its.number)

-- A Set is of a live session; in the Admin SP of three objects, and in the table's sectors.
changed_says : DeedLaw → (o : Origin) (past : List Event) (act : Act) (sp : Sp) (change : Change)
    (response : Response) → does o past act (Changed sp change) response
    → (session : Begun) × (session_on past sp ≡ Some session) × (session.sp ≡ sp)
    × (sp ≡ Admin → is_of_row (is_set_in_admin o.tables.config.profile) change ≡ true)
    × (is_inside (table_sectors o.tables.config) sp change ≡ true)
changed_says law o past act sp change response is =
    let its = law o past act (Changed sp change) response is in
    (its.session, its.lives.lives, its.lives.on, its.row, its.inside)

-- A transaction begins where none is open, for a live session of this number; its own session ends it.
began_says : DeedLaw → (o : Origin) (past : List Event) (act : Act) (sp : Sp) (number : ℕ)
    (response : Response) → does o past act (Began sp number) response
    → (session : Begun) × (session_on past sp ≡ Some session) × (session.number ≡ number)
    × (open_on past sp ≡ None)
began_says law o past act sp number response is =
    let its = law o past act (Began sp number) response is in
    (its.session, its.lives.lives, its.own, its.free)

committed_says : DeedLaw → (o : Origin) (past : List Event) (act : Act) (sp : Sp) (response : Response)
    → does o past act (Committed sp) response
    → (session : Begun) × (session_on past sp ≡ Some session)
    × (is_of session.number (open_on past sp) ≡ true)
committed_says law o past act sp response is =
    let its = law o past act (Committed sp) response is in (its.session, its.lives.lives, its.own)

aborted_says : DeedLaw → (o : Origin) (past : List Event) (act : Act) (sp : Sp) (response : Response)
    → does o past act (Aborted sp) response
    → (session : Begun) × (session_on past sp ≡ Some session)
    × (is_of session.number (open_on past sp) ≡ true)
aborted_says law o past act sp response is =
    let its = law o past act (Aborted sp) response is in (its.session, its.lives.lives, its.own)

-- A session that ends was live.
ended_says : DeedLaw → (o : Origin) (past : List Event) (act : Act) (sp : Sp) (response : Response)
    → does o past act (Ended sp) response
    → (session : Begun) × (session_on past sp ≡ Some session) × (session.sp ≡ sp)
ended_says law o past act sp response is =
    let its = law o past act (Ended sp) response is in (its.0, its.1.lives, its.1.on)

-- An Activate is of a session of the Admin SP outside of a transaction, and of an SP that is not in use.
activated_says : DeedLaw → (o : Origin) (past : List Event) (act : Act) (pin : Option Cell)
    (response : Response) → does o past act (Activated pin) response
    → (session : Begun) × (session_on past Admin ≡ Some session)
    × (is_of session.number (open_on past Admin) ≡ false)
    × (is_in_use (in_force o past) Locking ≡ false)
activated_says law o past act pin response is =
    let its = law o past act (Activated pin) response is in
    (its.0.session, its.0.lives.lives, its.0.outside, its.1)

-- A Revert of the Admin SP is no RevertSP: it erases by the rows in force.
revert_says : DeedLaw → (o : Origin) (past : List Event) (act : Act) (erasure : Erasure)
    (response : Response) → does o past act (Reverted Admin erasure) response
    → erasure ≡ erased_by_revert (in_force o past)
revert_says law o past act erasure response is = told (law o past act (Reverted Admin erasure) response is)
  where
    told : IsRevert o past erasure ⊎ IsRevertSp o past Admin erasure
        → erasure ≡ erased_by_revert (in_force o past)
    told (inl its) = its.erases
    told (inr its) = absurd (no_admin its.reverts)
      where
        no_admin : Admin ≡ Locking → ⊥
        no_admin e = cc

-- A GenKey is under each profile but the base one, of a session of the Locking SP, and erases by a range.
erased_says : DeedLaw → (o : Origin) (past : List Event) (act : Act) (erasure : Erasure)
    (response : Response) → does o past act (Erased erasure) response
    → (range : ℕ) × (session : Begun) × (session_on past Locking ≡ Some session)
    × (is_of session.number (open_on past Locking) ≡ false)
    × (has_field o.tables.config.profile ≡ true) × (erasure ≡ erased_by_key (in_force o past) range)
erased_says law o past act erasure response is =
    let its = law o past act (Erased erasure) response is in
    (its.range, its.outside.session, its.outside.lives.lives, its.outside.outside, its.profile, its.erases)

-- The reset of a stack ends the sessions that live on its ComID.
stack_reset_says : DeedLaw → (o : Origin) (past : List Event) (act : Act) (com_id : ℕ)
    (ends : Sp → Bool) (response : Response) → does o past act (StackReset com_id ends) response
    → (session : Begun) (sp : Sp) → session_on past sp ≡ Some session → session.com_id ≡ com_id
    → ends sp ≡ true
stack_reset_says law o past act com_id ends response is session sp lives on =
    law o past act (StackReset com_id ends) response is sp
    ∙ ap (is_on_com_id com_id) lives ∙ eq-eqb session.com_id com_id on

-- `owners`: where no session lives, no transaction is open.
no_owner_no_transaction : OwnerLaw → (o : Origin) (acts : List Act) (sp : Sp) (number : ℕ)
    → session_on (log o acts) sp ≡ None → open_on (log o acts) sp ≡ Some number → ⊥
no_owner_no_transaction law o acts sp number none is =
    let its = law o acts sp number is in no_session (sym none ∙ its.1)
  where
    no_session : {session : Begun} → None ≡ Some session → ⊥
    no_session e = cc

-- `life`: where the Locking SP is not in use, no session of it lives.
not_in_use_no_session : LifeLaw → (o : Origin) (acts : List Act) (session : Begun)
    → is_in_use (in_force o (log o acts)) Locking ≡ false
    → session_on (log o acts) Locking ≡ Some session → ⊥
not_in_use_no_session law o acts session unused lives = not_both (law o acts session lives) unused

-- `activate`: no transaction is open on either SP.
activate_finds_none : ActivateLaw → (o : Origin) (acts : List Act) (act : Act) (pin : Option Cell)
    (response : Response) → does o (log o acts) act (Activated pin) response
    → (open_on (log o acts) Admin ≡ None) × (open_on (log o acts) Locking ≡ None)
activate_finds_none law o acts act pin response is =
    (law o acts act pin response is Admin, law o acts act pin response is Locking)

-- `revert`: behind it none is open on either, and no session of the Locking SP lives.
revert_leaves_none : RevertLaw → (o : Origin) (acts : List Act) (act : Act) (sp : Sp) (erasure : Erasure)
    (response : Response) → does o (log o acts) act (Reverted sp erasure) response
    → (open_on (event o (log o acts) act ∷ log o acts) Admin ≡ None)
    × (open_on (event o (log o acts) act ∷ log o acts) Locking ≡ None)
    × (session_on (event o (log o acts) act ∷ log o acts) Locking ≡ None)
revert_leaves_none law o acts act sp erasure response is =
    let its = law o acts act sp erasure response is in (its.1 Admin, its.1 Locking, its.2)

-- One that reverts the Admin SP finds none open there.
revert_finds_none : RevertLaw → (o : Origin) (acts : List Act) (act : Act) (erasure : Erasure)
    (response : Response) → does o (log o acts) act (Reverted Admin erasure) response
    → open_on (log o acts) Admin ≡ None
revert_finds_none law o acts act erasure response is = told (law o acts act Admin erasure response is).0
  where
    told : (IsRevert o (log o acts) erasure × (open_on (log o acts) Admin ≡ None))
        ⊎ (IsRevertSp o (log o acts) Admin erasure × (open_on (log o acts) Locking ≡ None))
        → open_on (log o acts) Admin ≡ None
    told (inl its) = its.1
    told (inr its) = absurd (no_admin its.0.reverts)
      where
        no_admin : Admin ≡ Locking → ⊥
        no_admin e = cc
