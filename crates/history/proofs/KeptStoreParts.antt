-- What is kept of one SP, after one more event.
use Rattle.std.proofs.Common.{◌≡◌, ℕ, false, List, [], ◌∷◌, Option, Some, None, refl, sym, ◌∙◌, ap, cond}
use Rattle.std.specs.Prelude.{is_some, option_map}
use Rattle.std.proofs.lemmas.Bool.{eq-eqb}
use Rattle.sp_cells.specs.declared.names.Uid.{Uid}
use Rattle.sp_cells.specs.declared.names.Sp.{Sp}
use Rattle.sp_tables.specs.Items.{Item, item_at}
use Rattle.sp_tables.specs.Looks.{RowLook}
use Rattle.transactions.specs.Stored.{Transaction, Part, rows_of_part, part_begin, part_commit}
use Rattle.sessions.specs.Deeds.{Setting, Sets, Changed, Began, Committed}
use Rattle.sessions.specs.Made.{part_with}
use Rattle.history.specs.Opening.{Origin}
use Rattle.history.specs.Changes.{apply, apply_all}
use Rattle.history.specs.Events.{Deed, Response, InSession, Event}
use Rattle.history.specs.Readers.{turns, begins, changes_on, brought, own_changes, if_open, open_on, rows_after, rows_within, tries, factory_rows}
use Rattle.history.specs.KeptStore.{but_tries, tries_alone, KeepsPart}
use Rattle.history.proofs.Steps.{spared, begun-within, set-outside, set-inside, committed}
use Rattle.history.proofs.KeptStoreRows.{ShowRows, ShowTries, SamePlaces, shows-places, setting-shows, setting-places, counts-same}

pub nobody : {A : Type 0} {x : A} → None ≡ Some x → ⊥
nobody h = cc

pub some-same : {A : Type 0} {x y : A} → Some x ≡ Some y → x ≡ y
some-same h = cc

-- with no transaction open
pub within-closed : (o : Origin) (past : List Event) (sp : Sp) → open_on past sp ≡ None → rows_within o past sp ≡ rows_after o past sp
within-closed o past sp h = ap (λ x. apply_all (factory_rows o sp) (if_open x (own_changes past sp)) (rows_after o past sp)) h

pub places-of : (rows new : RowLook) → rows ≡ new → SamePlaces rows new
places-of rows new h object column = ap (λ r. is_some (r object column)) h

pub closed-part : (p : Part) (o : Origin) (past : List Event) (sp : Sp) → p.pending ≡ None → open_on past sp ≡ None → (rows : RowLook) → rows_after o past sp ≡ rows → ShowRows p.rows rows → ShowTries p.tries (tries past sp) rows → KeepsPart p o past sp
closed-part p o past sp shut closed rows same shown counted = record {
  rows = λ object column. shown object column ∙ ap (λ r. but_tries r object column) (sym same);
  tries = λ object column. counted object column ∙ ap (λ r. tries_alone (tries past sp) r object column) (sym same);
  transaction = ap (option_map (λ t. t.tsn)) shut ∙ sym closed;
  within = λ t is. absurd (nobody (sym shut ∙ is));
  places = places-of (rows_within o past sp) (rows_after o past sp) (within-closed o past sp closed);
}

-- none is open of which nothing is pending
pub was-closed : (p : Part) (o : Origin) (past : List Event) (sp : Sp) → KeepsPart p o past sp → p.pending ≡ None → open_on past sp ≡ None
was-closed p o past sp h shut = sym h.transaction ∙ ap (option_map (λ t. t.tsn)) shut

pub was-open : (p : Part) (o : Origin) (past : List Event) (sp : Sp) (t : Transaction) → KeepsPart p o past sp → p.pending ≡ Some t → open_on past sp ≡ Some t.tsn
was-open p o past sp t h is = sym h.transaction ∙ ap (option_map (λ t. t.tsn)) is

-- an event that changes no rows of an SP
pub record Spares (d : Deed) (past : List Event) (sp : Sp) : Type 0 where
  pub turn : turns sp d ≡ None
  pub start : begins sp d ≡ false
  pub change : changes_on sp d ≡ None
  pub bring : brought past sp d ≡ []

pub counted-part : (p : Part) (counts : List Item) (o : Origin) (e : Event) (past : List Event) (sp : Sp) → KeepsPart p o past sp → Spares e.deed past sp → ShowTries counts (tries (e ∷ past) sp) (rows_after o past sp) → KeepsPart (record p { tries = counts }) o (e ∷ past) sp
counted-part p counts o e past sp h apart counted =
    let same = spared o e past sp apart.turn apart.start apart.change apart.bring in
    record {
      rows = λ object column. h.rows object column ∙ ap (λ r. but_tries r object column) (sym same.1);
      tries = λ object column. counted object column ∙ ap (λ r. tries_alone (tries (e ∷ past) sp) r object column) (sym same.1);
      transaction = h.transaction ∙ sym same.0;
      within = λ t is object column. h.within t is object column ∙ ap (λ r. but_tries r object column) (sym same.2);
      places = λ object column. places-of (rows_within o (e ∷ past) sp) (rows_within o past sp) same.2 object column ∙ h.places object column ∙ places-of (rows_after o past sp) (rows_after o (e ∷ past) sp) (sym same.1) object column;
    }

pub spared-part : (p : Part) (o : Origin) (e : Event) (past : List Event) (sp : Sp) → KeepsPart p o past sp → Spares e.deed past sp → ((u : Uid) → tries (e ∷ past) sp u ≡ tries past sp u) → KeepsPart p o (e ∷ past) sp
spared-part p o e past sp h apart same = counted-part p p.tries o e past sp h apart (counts-same p.tries (tries past sp) (tries (e ∷ past) sp) (rows_after o past sp) (λ object column. h.tries object column) same)

-- begin
pub begun-part : (p : Part) (o : Origin) (e : Event) (past : List Event) (sp : Sp) (n : ℕ) (r : Response) → KeepsPart p o past sp → e.deed ≡ InSession (Began sp n) r → ((u : Uid) → tries (e ∷ past) sp u ≡ tries past sp u) → KeepsPart (part_begin n p) o (e ∷ past) sp
begun-part p o e past sp n r h is same =
    let step = begun-within o e past sp n r is in
    let counts : ShowTries p.tries (tries (e ∷ past) sp) (rows_after o past sp) = counts-same p.tries (tries past sp) (tries (e ∷ past) sp) (rows_after o past sp) (λ object column. h.tries object column) same in
    record {
      rows = λ object column. h.rows object column ∙ ap (λ x. but_tries x object column) (sym step.2);
      tries = λ object column. counts object column ∙ ap (λ x. tries_alone (tries (e ∷ past) sp) x object column) (sym step.2);
      transaction = sym step.0;
      within = λ t has object column. ap (λ (x : Transaction). item_at x.rows object column) (sym (some-same has)) ∙ h.rows object column ∙ ap (λ x. but_tries x object column) (sym (step.1 ∙ step.2));
      places = places-of (rows_within o (e ∷ past) sp) (rows_after o (e ∷ past) sp) step.1;
    }

-- a Set
set-by : (p : Part) (o : Origin) (e : Event) (past : List Event) (sp : Sp) (st : Setting) (r : Response) → KeepsPart p o past sp → e.deed ≡ InSession (Changed sp (Sets st)) r → ((u : Uid) → tries (e ∷ past) sp u ≡ tries past sp u)
    → open_on (e ∷ past) sp ≡ open_on past sp → (x : Option Transaction) → p.pending ≡ x → KeepsPart (part_with st p x) o (e ∷ past) sp
set-by p o e past sp st r h is same stays None shut =
    let closed : open_on past sp ≡ None = was-closed p o past sp h shut in
    let rows : RowLook = rows_after o past sp in
    let counts : ShowTries p.tries (tries (e ∷ past) sp) rows = counts-same p.tries (tries past sp) (tries (e ∷ past) sp) rows (λ object column. h.tries object column) same in
    closed-part (part_with st p None) o (e ∷ past) sp shut (stays ∙ closed) (apply (factory_rows o sp) (Sets st) rows) (set-outside o e past sp (Sets st) r is closed)
    (setting-shows (factory_rows o sp) st p.rows rows (λ object column. h.rows object column))
    (shows-places p.tries (tries (e ∷ past) sp) rows (apply (factory_rows o sp) (Sets st) rows) counts (setting-places (factory_rows o sp) st rows))
set-by p o e past sp st r h is same stays (Some t) has =
    let opens : open_on past sp ≡ Some t.tsn = was-open p o past sp t h has in
    let step = set-inside o e past sp (Sets st) r t.tsn is opens in
    let rows : RowLook = rows_after o past sp in
    let seen : RowLook = rows_within o past sp in
    let counts : ShowTries p.tries (tries (e ∷ past) sp) rows = counts-same p.tries (tries past sp) (tries (e ∷ past) sp) rows (λ object column. h.tries object column) same in
    record {
      rows = λ object column. h.rows object column ∙ ap (λ x. but_tries x object column) (sym step.0);
      tries = λ object column. counts object column ∙ ap (λ x. tries_alone (tries (e ∷ past) sp) x object column) (sym step.0);
      transaction = sym (stays ∙ opens);
      within = λ t' is' object column.
          ap (λ (x : Transaction). item_at x.rows object column) (sym (some-same is'))
          ∙ setting-shows (factory_rows o sp) st t.rows seen (λ object column. h.within t has object column) object column
          ∙ ap (λ x. but_tries x object column) (sym step.1);
      places = λ object column.
          places-of (rows_within o (e ∷ past) sp) (apply (factory_rows o sp) (Sets st) seen) step.1 object column
          ∙ sym (setting-places (factory_rows o sp) st seen object column)
          ∙ h.places object column
          ∙ places-of rows (rows_after o (e ∷ past) sp) (sym step.0) object column;
    }

pub set-part : (p : Part) (o : Origin) (e : Event) (past : List Event) (sp : Sp) (st : Setting) (r : Response) → KeepsPart p o past sp → e.deed ≡ InSession (Changed sp (Sets st)) r → ((u : Uid) → tries (e ∷ past) sp u ≡ tries past sp u)
    → open_on (e ∷ past) sp ≡ open_on past sp → KeepsPart (part_with st p p.pending) o (e ∷ past) sp
set-part p o e past sp st r h is same stays = set-by p o e past sp st r h is same stays p.pending refl

-- commit
abbrev opened : Part → Transaction → Part
opened p t = record p { pending = Some t }

pub seen-own : (p : Part) (t : Transaction) → p.pending ≡ Some t → rows_of_part p t.tsn ≡ t.rows
seen-own p t has = ap (λ x. rows_of_part (record p { pending = x }) t.tsn) has ∙ ap (λ b. cond b t.rows p.rows) (eq-eqb t.tsn t.tsn refl)

pub committed-part : (p : Part) (o : Origin) (e : Event) (past : List Event) (sp : Sp) (t : Transaction) (r : Response) → KeepsPart p o past sp → e.deed ≡ InSession (Committed sp) r → p.pending ≡ Some t → ((u : Uid) → tries (e ∷ past) sp u ≡ tries past sp u) → KeepsPart (part_commit t.tsn p) o (e ∷ past) sp
committed-part p o e past sp t r h is has same =
    let step = committed o e past sp r is in
    let seen : RowLook = rows_within o past sp in
    let counts : ShowTries p.tries (tries (e ∷ past) sp) (rows_after o past sp) = counts-same p.tries (tries past sp) (tries (e ∷ past) sp) (rows_after o past sp) (λ object column. h.tries object column) same in
    closed-part (part_commit t.tsn p) o (e ∷ past) sp refl step.0 seen step.1
    (λ object column. ap (λ items. item_at items object column) (seen-own p t has) ∙ h.within t has object column)
    (shows-places p.tries (tries (e ∷ past) sp) (rows_after o past sp) seen counts (λ object column. sym (h.places object column)))
