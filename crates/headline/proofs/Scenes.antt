-- Words of worked lists of steps.
use Rattle.std.proofs.Common.{◌≡◌, ℕ, ◌&&◌, Bool, true, false, List, [], ◌∷◌, ◌++◌, Option, Some, None, refl}
use Rattle.std.specs.Prelude.{is_none, option_map}
use Rattle.compacket.specs.Spelling.{frame_bytes}
use Rattle.device_data.specs.ErrorLog.{sized}
use Rattle.sp_cells.specs.Names.{locking_sp, admin_uid}
use Rattle.tcg_tokens.specs.Message.{Message}
use Rattle.tcg_tokens.specs.Spelling.{item_spelling_of}
use Rattle.audit.specs.declared.reason.Why.{Why}
use Rattle.history.specs.Events.{Deed, InSession, Event}
use Rattle.sessions.specs.Deeds.{SessionDeed}
use Rattle.history.specs.Items.{Items}
use Rattle.history.specs.Opening.{Origin}
use Rattle.history.proofs.Scripts.{msid, start_as}
use Rattle.port_history.specs.declared.error.PortError.{PortError}
use Rattle.port_history.specs.declared.request.Request.{Request}
use Rattle.port_history.specs.declared.request.Request.TheVariants.{Send, Receive}
use Rattle.port_history.specs.declared.step.Step.{Step}
use Rattle.port_history.specs.declared.step.Step.TheVariants.{Put, Issue, Accept}
use Rattle.port_history.specs.Refusals.{AreLawful, IsLawful, refusal_with_room, has_slot}
use Rattle.port_history.specs.Steps.{trace_of}
use Rattle.history.specs.Tcg.{tcg}
use Rattle.headline.specs.Steps.{event_after}

-- Each step of a list is lawful where it stands, by what items do; and by those of this drive.
abbrev pub are_lawful_by : Items → Origin → List Step → Bool
are_lawful_by items o [] = true
are_lawful_by items o (step ∷ before) =
    has_slot step && is_none (refusal_with_room (trace_of items o before) step) && are_lawful_by items o before

abbrev pub are_lawful : Origin → List Step → Bool
are_lawful = are_lawful_by tcg

both : (a b : Bool) → (a && b) ≡ true → (a ≡ true) × (b ≡ true)
both true b e = (refl, e)
both false b e = absurd (cc)

none_of : (x : Option PortError) → is_none x ≡ true → x ≡ None
none_of None e = refl
none_of (Some x) e = absurd (cc)

pub lawful_by : (items : Items) (o : Origin) (list : List Step) → are_lawful_by items o list ≡ true → AreLawful items o list
lawful_by items o [] e = tt
lawful_by items o (step ∷ before) e =
    let refused = refusal_with_room (trace_of items o before) step in
    let p = both (has_slot step && is_none refused) (are_lawful_by items o before) e in
    let q = both (has_slot step) (is_none refused) p.0 in
    (q.0, none_of refused q.1, lawful_by items o before p.1)

pub lawful : (o : Origin) (list : List Step) → are_lawful o list ≡ true → IsLawful o list
lawful = lawful_by tcg

-- A request that sends a message to ComID 1000h.
abbrev pub told : ℕ → ℕ → Message → Request
told tsn hsn message =
    Send 1 0x1000
    (sized 512 (frame_bytes 0x1000 (record { tsn = tsn; hsn = hsn })
    (item_spelling_of message)))

-- The steps that bring a request to the device, the newest first; and those before its acceptance.
abbrev pub lays : ℕ → ℕ → Request → List Step
lays client tag request = Issue tag ∷ Put client tag request ∷ []

abbrev pub brings : ℕ → ℕ → Request → List Step
brings client tag request = Accept tag ∷ lays client tag request

-- Client 2 begins a session of the Locking SP, of this start, and takes no answer.
abbrev pub begins : Message → List Step
begins start = brings 2 1 (Receive 1 0x1000 2) ++ brings 2 0 (told 0 0 start)

-- It sends a message to it, and receives the response.
abbrev pub says : ℕ → ℕ → Message → List Step
says tag next message =
    brings 2 next (Receive 1 0x1000 2) ++ brings 2 tag (told 0x1000 1 message)

abbrev pub by_admin : Message
by_admin = start_as locking_sp (admin_uid 1) msid

-- What a step did in a session, and what denied it.
abbrev pub in_session : Deed → Option SessionDeed
in_session (InSession deed response) = Some deed
in_session _ = None

abbrev pub joined : {A : Type 0} → Option (Option A) → Option A
joined None = None
joined (Some x) = x

abbrev pub deed_of : Origin → List Step → Step → Option SessionDeed
deed_of o before step = joined (option_map (λ (e : Event). in_session e.deed) (event_after tcg o before step))

abbrev pub denied_of : Origin → List Step → Step → Option Why
denied_of o before step = joined (option_map (λ (e : Event). e.denied) (event_after tcg o before step))
