-- Behind a power cycle a drive is off, and two drives that are off and keep the same are alike.
use Rattle.std.proofs.Common.{◌≡◌, ◌<◌, ℕ, List, [], ◌∷◌, length, Option, None, Some, option_map, refl, sym, subst, ap, ◌∙◌}
use Rattle.sp_cells.specs.declared.names.Sp.{Sp}
use Rattle.sp_cells.specs.declared.names.Sp.TheVariants.{Admin, Locking}
use Rattle.sp_cells.specs.Resets.{power_cycle}
use Rattle.shadow_mbr.specs.Stored.{StoredSectors, sector_at}
use Rattle.sp_tables.specs.Contents.{Contents}
use Rattle.device_data.specs.Settings.{first_settings}
use Rattle.transactions.specs.Stored.{Stored, Transaction, part, new_store}
use Rattle.sessions.specs.declared.beside.Beside.{Beside}
use Rattle.sessions.specs.Beside.{new_beside}
use Rattle.sessions.specs.Deeds.{Begun}
use Rattle.sessions.specs.Live.{Holder, Live, session_at}
use Rattle.history.specs.Opening.{Origin}
use Rattle.history.specs.Events.{Event, WasReset, did}
use Rattle.history.specs.KeptSessions.{IsKeptAs, KeepsSessions, session_numbered}
use Rattle.history.specs.KeptStore.{KeepsStore}
use Rattle.history.specs.Readers.{beside}
use Rattle.tper.specs.Tper.{Tper, Keeps as KeepsTper, response_at}
use Rattle.drive.specs.declared.queue.Queue.{Queue}
use Rattle.drive.specs.Queue.{empty_queue}
use Rattle.drive.specs.State.{DriveState, KeepsDrive}
use Rattle.drive.proofs.Restarts.{empty-held, empty-length}
use Rattle.drive.specs.Rest.{Rest, IsOff, KeepsRest, PowerOffLaw, SameRestLaw}

-- what is kept of no session is none
kept-none : (past : List Event) (h : Option Holder) → IsKeptAs past h None → h ≡ None
kept-none past None k = refl
kept-none past (Some h) k = absurd k

some-none : (n : ℕ) → Some n ≡ None → ⊥
some-none n h = cc

-- no number is that of a transaction that is none
unopened : (t : Option Transaction) → option_map (λ x. x.tsn) t ≡ None → t ≡ None
unopened None h = refl
unopened (Some t) h = absurd (some-none t.tsn h)

no-transaction : (d : DriveState) (o : Origin) (past : List Event) → KeepsDrive d o (did (WasReset power_cycle) ∷ past) → (sp : Sp) → (part d.tper.store sp).pending ≡ None
no-transaction d o past k Admin = unopened d.tper.store.admin.pending (k.tper.store.parts Admin).transaction
no-transaction d o past k Locking = unopened d.tper.store.locking.pending (k.tper.store.parts Locking).transaction

-- what a power cycle leaves beside the sessions
left-beside : (d b : Beside) → d ≡ record new_beside { drawn = b.drawn } → d ≡ record new_beside { drawn = d.drawn }
left-beside d b is = is ∙ ap (λ n. record new_beside { drawn = n }) (sym (ap (λ (x : Beside). x.drawn) is))

pub power_off_law : PowerOffLaw
power_off_law d o past k = record {
  sessions = λ n. kept-none (did (WasReset power_cycle) ∷ past) (session_at d.tper.live n) (k.tper.sessions.at n);
  transactions = no-transaction d o past k;
  waiting = λ com_id. k.tper.waiting com_id;
  beside = left-beside d.tper.live.beside (beside past) k.tper.beside;
  slots = k.slots;
  held = λ tag. k.held tag;
  failure = k.failure;
  settings = k.settings;
}

-- one number of a session in place of another that is the same
numbered : (past : List Event) (a b : Live) → ((n : ℕ) → session_at a n ≡ None) → ((n : ℕ) → session_at b n ≡ None) → a.next ≡ b.next → KeepsSessions a past → KeepsSessions b past
numbered past a b none also next k = record {
  next = sym next ∙ k.next;
  at = λ n. subst (λ (h : Option Holder). IsKeptAs past h (session_numbered past n)) (none n ∙ sym (also n)) (k.at n);
  on = k.on;
  below = λ sp session is. subst (λ n. session.number < n) next (k.below sp session is);
  apart = k.apart;
}

same-tper : (rest : Rest) (d e : DriveState) (o : Origin) (past : List Event) → IsOff d → IsOff e → KeepsRest rest d → KeepsRest rest e → KeepsTper d.tper o past → KeepsTper e.tper o past
same-tper rest d e o past off also r s k = record {
  store = subst (λ (x : Stored). KeepsStore x o past) (r.store ∙ sym s.store) k.store;
  sessions = numbered past d.tper.live e.tper.live off.sessions also.sessions (r.next ∙ sym s.next) k.sessions;
  beside = also.beside ∙ ap (λ n. record new_beside { drawn = n }) (s.drawn ∙ sym r.drawn) ∙ sym off.beside ∙ k.beside;
  waiting = λ com_id. also.waiting com_id ∙ sym (off.waiting com_id) ∙ k.waiting com_id;
}

pub same_rest_law : SameRestLaw
same_rest_law rest d e o past off also r s k = record {
  tper = same-tper rest d e o past off also r s k.tper;
  slots = also.slots;
  held = λ tag. also.held tag ∙ sym (off.held tag) ∙ k.held tag;
  failure = also.failure ∙ sym off.failure ∙ k.failure;
  sectors = λ place. ap (λ (m : StoredSectors). sector_at m place) (s.media ∙ sym r.media) ∙ k.sectors place;
  settings = also.settings ∙ sym off.settings ∙ k.settings;
}

-- no transaction is open in a store over tables
fresh : (s : Stored) (tables : Contents) (bytes : StoredSectors) → s ≡ new_store tables bytes → (sp : Sp) → (part s sp).pending ≡ None
fresh s tables bytes is Admin = ap (λ (x : Stored). x.admin.pending) is
fresh s tables bytes is Locking = ap (λ (x : Stored). x.locking.pending) is

-- a drive over what another one kept
pub resumed-off : (d : DriveState) (tables : Contents) (bytes : StoredSectors) (drawn : ℕ) → d.tper.store ≡ new_store tables bytes
    → ((n : ℕ) → session_at d.tper.live n ≡ None) → ((com_id : ℕ) → response_at d.tper.waiting com_id ≡ None)
    → d.tper.live.beside ≡ record new_beside { drawn = drawn } → d.queue ≡ empty_queue → d.settings ≡ first_settings → IsOff d
resumed-off d tables bytes drawn store none waiting beside queue chosen = record {
  sessions = none;
  transactions = fresh d.tper.store tables bytes store;
  waiting = waiting;
  beside = beside ∙ ap (λ n. record new_beside { drawn = n }) (sym (ap (λ (x : Beside). x.drawn) beside));
  slots = empty-length d.queue queue;
  held = λ tag. empty-held d.queue tag queue;
  failure = ap (λ (q : Queue). q.failure) queue;
  settings = chosen;
}

-- what is kept of a drive that is off is all that it has
pub own_rest : (d : DriveState) (t u v : Tper) (media : StoredSectors) (tables : Contents) (bytes : StoredSectors) (next drawn : ℕ) → t ≡ d.tper
    → ((part t.store Admin).pending ≡ None → (part t.store Locking).pending ≡ None → t.store ≡ new_store tables bytes)
    → u ≡ d.tper → next ≡ u.live.next → v ≡ d.tper → drawn ≡ v.live.beside.drawn → media ≡ d.media → IsOff d
    → KeepsRest (record { tables = tables; bytes = bytes; media = media; next = next; drawn = drawn }) d
own_rest d t u v media tables bytes next drawn is alone also numbered too random held off = record {
  store = subst (λ (x : Tper). (part x.store Admin).pending ≡ None → (part x.store Locking).pending ≡ None → x.store ≡ new_store tables bytes) is alone
      (off.transactions Admin) (off.transactions Locking);
  media = sym held;
  next = sym (numbered ∙ ap (λ (x : Tper). x.live.next) also);
  drawn = sym (random ∙ ap (λ (x : Tper). x.live.beside.drawn) too);
}
