-- After an abort all that is read off the past is the same, whatever the transaction's Sets were.
use Rattle.std.proofs.Common.{◌≡◌, ◌∙◌, ℕ, ◌+◌, Bool, true, false, List, [], ◌∷◌, ◌++◌, Option, Some, None, refl, sym, ap, cond}
use Rattle.std.specs.Prelude.{unwrap_or}
use Rattle.sp_cells.specs.declared.names.Sp.{Sp}
use Rattle.sp_cells.specs.Flat.{sp_eq}
use Rattle.history.specs.Events.{Deed, InSession, Event, or_else, latest, since, every}
use Rattle.sessions.specs.Deeds.{Changed, Committed}
use Rattle.history.specs.Items.{Items}
use Rattle.history.specs.History.{Act, event_of, event_in}
use Rattle.history.specs.NoTrace.{emptied, is_commit, Aborts, further}
use Rattle.history.specs.Opening.{Origin}
use Rattle.history.specs.Readers.{is_start, living, starts, gains, turns, open_on, own_changes, if_open, open_changes, only_on, unless_any_open, brought, changes, tries_then, writing, holding, failing, waits, beside_then, settings_then}
use Rattle.history.proofs.Emptied.{every-since, every-since-more, tries-emptied, open_on-emptied, open_changes-emptied, changes-emptied}
use Rattle.history.proofs.NoTraceLaws.{Read, Alike, read-emptied, open_changes-more, facts-alike}
use Rattle.history.proofs.Words.{latest-here, sp-is}

-- the same event on both
latest_more : {A : Type 0} (f : Deed → Option A) (d : A) (e : Event) (es fs : List Event)
    → unwrap_or (latest f fs) d ≡ unwrap_or (latest f es) d
    → unwrap_or (latest f (e ∷ fs)) d ≡ unwrap_or (latest f (e ∷ es)) d
latest_more f d e es fs h = by_it (f e.deed)
  where
    by_it : (x : Option _) → unwrap_or (or_else x (latest f fs)) d ≡ unwrap_or (or_else x (latest f es)) d
    by_it (Some x) = refl
    by_it None = h

since_more : {A : Type 0} (f : Deed → Option A) (p : Deed → Bool) (e : Event) (es fs : List Event)
    → every f (since p fs) ≡ every f (since p es)
    → every f (since p (e ∷ fs)) ≡ every f (since p (e ∷ es))
since_more f p e es fs h =
    every-since-more f p e fs (p e.deed) refl
    ∙ ap (every-since f (p e.deed) (f e.deed)) h
    ∙ sym (every-since-more f p e es (p e.deed) refl)

read_more : (e : Event) (es fs : List Event) → Read es fs → Read (e ∷ es) (e ∷ fs)
read_more e es fs h = record {
  sessions = λ s. latest_more (living s) None e es fs (h.sessions s);
  gained = λ s. since_more (gains s) (starts s) e es fs (h.gained s);
  starts = ap (λ n. cond (is_start e.deed) (n + 1) n) h.starts;
  held = λ tag. latest_more (holding tag) None e es fs (h.held tag);
  failure = latest_more failing None e es fs h.failure;
  waiting = λ com_id. latest_more (waits com_id) None e es fs (h.waiting com_id);
  sector = λ place. latest_more (writing place) _ e es fs (h.sector place);
  beside = ap (beside_then e.deed) h.beside;
  settings = ap (settings_then e.deed) h.settings;
}

brought_alike : (s : Sp) (es fs : List Event) → open_on fs s ≡ open_on es s → (d : Deed)
    → (is_commit d ≡ true → open_changes fs s ≡ open_changes es s) → brought fs s d ≡ brought es s d
brought_alike s es fs same (InSession (Changed t c) r) own = ap (λ x. only_on s t (unless_any_open x c)) same
brought_alike s es fs same (InSession (Committed t) r) own = ap (only_on s t) (own refl)
brought_alike s es fs same _ own = refl

alike_more : (e : Event) (es fs : List Event) → Alike es fs → Alike (e ∷ es) (e ∷ fs)
alike_more e es fs h = record {
  changes = λ s.
      ap (λ l. l ++ changes fs s) (brought_alike s es fs (h.open_on s) e.deed (λ is. h.open_changes s))
      ∙ ap (λ l. brought es s e.deed ++ l) (h.changes s);
  open_on = λ s. latest_more (turns s) None e es fs (h.open_on s);
  open_changes = λ s. open_changes-more s e es fs (h.open_on s) (h.open_changes s);
  attempts = λ s row. ap (tries_then s row e.deed) (h.attempts s row);
  read = read_more e es fs h.read;
}

closed_now : (s : Sp) (e : Event) (es : List Event) → turns s e.deed ≡ Some None
    → open_changes (e ∷ es) s ≡ []
closed_now s e es is =
    ap (λ o. if_open (unwrap_or o None) (own_changes (e ∷ es) s)) (latest-here (turns s) e es None is)

-- at the abort
pub alike_aborted : (e : Event) (es : List Event) (sp : Sp) (n : ℕ) → open_on es sp ≡ Some n
    → Aborts sp e → Alike (e ∷ es) (e ∷ emptied sp es)
alike_aborted e es sp n is_open a = record {
  changes = λ s.
      ap (λ l. l ++ changes (emptied sp es) s)
      (brought_alike s es (emptied sp es) (open_on-emptied sp s es) e.deed (λ is. absurd (no_commit is)))
      ∙ ap (λ l. brought es s e.deed ++ l) (changes-emptied sp s n es is_open);
  open_on = λ s. latest_more (turns s) None e es (emptied sp es) (open_on-emptied sp s es);
  open_changes = λ s. by_sp s (sp_eq s sp) refl;
  attempts = λ s row. ap (tries_then s row e.deed) (tries-emptied sp s row es);
  read = read_more e es (emptied sp es) (read-emptied sp es);
}
  where
    no_commit : is_commit e.deed ≡ true → ⊥
    no_commit is = let g : is_commit e.deed ≡ false = a.no_commit in cc

    by_sp : (s : Sp) (b : Bool) → sp_eq s sp ≡ b
        → open_changes (e ∷ emptied sp es) s ≡ open_changes (e ∷ es) s
    by_sp s true is =
        let closes : turns s e.deed ≡ Some None = ap (λ x. turns x e.deed) (sp-is s sp is) ∙ a.closes in
        closed_now s e (emptied sp es) closes ∙ sym (closed_now s e es closes)
    by_sp s false is =
        open_changes-more s e es (emptied sp es) (open_on-emptied sp s es) (open_changes-emptied sp s is es)

-- and after all further acts
pub alike_further : (items : Items) (o : Origin) (es fs : List Event) → Alike es fs → (acts : List Act)
    → Alike (further items o es acts ++ es) (further items o fs acts ++ fs)
alike_further items o es fs h [] = h
alike_further items o es fs h (act ∷ acts) =
    let before = alike_further items o es fs h acts in
    let same : event_of items o (further items o fs acts ++ fs) act ≡ event_of items o (further items o es acts ++ es) act =
    ap (λ f. event_in items f act) (facts-alike o (further items o es acts ++ es) (further items o fs acts ++ fs) before) in
    alike_by same (alike_more (event_of items o (further items o es acts ++ es) act) (further items o es acts ++ es)
    (further items o fs acts ++ fs) before)
  where
    alike_by : {x y : Event} {ps qs : List Event} → x ≡ y → Alike (y ∷ ps) (y ∷ qs) → Alike (y ∷ ps) (x ∷ qs)
    alike_by {x} {y} {ps} {qs} same a = rw same a
