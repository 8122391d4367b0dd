-- The bytes that are kept of the shadow, after one more event.
use Rattle.std.proofs.Common.{◌≡◌, ◌≤◌, ◌<◌, ℕ, zero, suc, ◌*◌, ◌+◌, inl, inr, true, false, List, [], ◌∷◌, ◌++◌, Option, Some, None, refl, sym, ◌∙◌, ap, cond, length, arith}
use Rattle.std.specs.Prelude.{option_to_list, slice_index}
use Rattle.std.proofs.lemmas.Bool.{cases_lt, eq-eqb}
use Rattle.std.proofs.lemmas.Bool.Decides.{nat_tests}
use Rattle.std.proofs.lemmas.List.{get_or_past}
use Rattle.sp_cells.specs.Config.{table_sectors}
use Rattle.sp_cells.specs.declared.names.Sp.{Sp}
use Rattle.sp_cells.specs.declared.names.Sp.TheVariants.{Locking}
use Rattle.shadow_mbr.specs.Stored.{StoredSectors as Mbr, sector_size, byte_at, byte_after}
use Rattle.transactions.specs.Bytes.{bytes_from, mbr_table_bytes, laid, written, blank}
use Rattle.transactions.specs.Stored.{Transaction, Part, bytes_seen, part_begin, part_commit}
use Rattle.transactions.proofs.ByteLemmas.{length-from}
use Rattle.sessions.specs.Deeds.{Setting, cells_set, bytes_set, Change, Sets, Changed, Began, Committed}
use Rattle.sessions.specs.Made.{part_with, bytes_with}
use Rattle.history.specs.Opening.{Origin}
use Rattle.history.specs.Changes.{byte_in}
use Rattle.history.specs.Events.{Response, InSession, Event}
use Rattle.history.specs.Readers.{turns, begins, changes_on, brought, own_changes, if_open, open_on, open_changes, unless_any_open, changes}
use Rattle.history.specs.KeptStore.{KeepsBytes}
use Rattle.history.proofs.Words.{sp-same}
use Rattle.history.proofs.Emptied.{every-since-more}
use Rattle.history.proofs.Steps.{unturned}
use Rattle.history.proofs.KeptStoreParts.{Spares, nobody, some-same}

-- bytes that are written, and blank ones
laid-length : (place : ℕ) (bs : List ℕ) (k : ℕ) (old : List ℕ) → length (laid place bs k old) ≡ length old
laid-length place bs k [] = refl
laid-length place bs k (b ∷ old) = ap suc (laid-length place bs (suc k) old)

laid-at : (start : ℕ) (bs : List ℕ) (k : ℕ) (old : List ℕ) (i : ℕ) → i < length old → slice_index (laid start bs k old) i ≡ byte_after start bs (slice_index old i) (k + i)
laid-at start bs k [] i lt = absurd (omega arith)
laid-at start bs k (b ∷ old) zero lt = let e : k ≡ k + 0 = omega arith in ap (byte_after start bs b) e
laid-at start bs k (b ∷ old) (suc i) lt = let e : suc k + i ≡ k + suc i = omega arith in laid-at start bs (suc k) old i (omega arith) ∙ ap (byte_after start bs (slice_index old i)) e

behind : (start : ℕ) (bs : List ℕ) (b p : ℕ) → start + length bs ≤ p → byte_after start bs b p ≡ b
behind start bs b p high = grind (arith, nat_tests)

past-end : (bs : List ℕ) (i : ℕ) → length bs ≤ i → slice_index bs i ≡ 0
past-end bs i h = get_or_past bs i 0 h

pub written-at : (start : ℕ) (bs old : List ℕ) (i : ℕ) → start + length bs ≤ length old → slice_index (written start bs old) i ≡ byte_after start bs (slice_index old i) i
written-at start bs old i fits = elim (cases_lt i (length old)) [
  | inl inside ↦ let e : 0 + i ≡ i = omega arith in laid-at start bs 0 old i inside ∙ ap (byte_after start bs (slice_index old i)) e
  | inr outside ↦
      let long : length (written start bs old) ≡ length old = laid-length start bs 0 old in
      past-end (written start bs old) i (omega (arith, long, outside)) ∙ sym (past-end old i (omega (arith, outside))) ∙ sym (behind start bs (slice_index old i) i (omega (arith, fits, outside)))
]

pub written-length : (start : ℕ) (bs old : List ℕ) → length (written start bs old) ≡ length old
written-length start bs old = laid-length start bs 0 old

pub blank-length : (bs : List ℕ) → length (blank bs) ≡ length bs
blank-length [] = refl
blank-length (b ∷ bs) = ap suc (blank-length bs)

pub blank-at : (bs : List ℕ) (i : ℕ) → slice_index (blank bs) i ≡ 0
blank-at [] i = refl
blank-at (b ∷ bs) zero = refl
blank-at (b ∷ bs) (suc i) = blank-at bs i

pub in-length : (mbr : Mbr) → length (mbr_table_bytes mbr) ≡ sector_size * mbr.sectors
unfolding mbr_table_bytes
in-length mbr = length-from (byte_at mbr) 0 (sector_size * mbr.sectors)

from-zeros : (holds : ℕ → ℕ) → ((place : ℕ) → holds place ≡ 0) → (place n i : ℕ) → slice_index (bytes_from holds place n) i ≡ 0
from-zeros holds h place zero i = refl
from-zeros holds h place (suc n) zero = h place
from-zeros holds h place (suc n) (suc i) = from-zeros holds h (suc place) n i

pub in-zeros : (mbr : Mbr) → ((place : ℕ) → byte_at mbr place ≡ 0) → (i : ℕ) → slice_index (mbr_table_bytes mbr) i ≡ 0
unfolding mbr_table_bytes
in-zeros mbr h i = from-zeros (byte_at mbr) h 0 (sector_size * mbr.sectors) i

-- the changes of an SP
own-shut : (past : List Event) (sp : Sp) → open_on past sp ≡ None → open_changes past sp ≡ []
own-shut past sp h = ap (λ x. if_open x (own_changes past sp)) h

own-spared : (e : Event) (es : List Event) (sp : Sp) → Spares e.deed es sp → open_changes (e ∷ es) sp ≡ open_changes es sp
own-spared e es sp apart =
    ap (λ x. if_open x (own_changes (e ∷ es) sp)) (unturned sp e es apart.turn)
    ∙ ap (if_open (open_on es sp)) (every-since-more (changes_on sp) (begins sp) e es false apart.start ∙ ap (λ x. option_to_list x ++ own_changes es sp) apart.change)

own-begun : (e : Event) (es : List Event) (sp : Sp) (n : ℕ) (r : Response) → e.deed ≡ InSession (Began sp n) r → open_changes (e ∷ es) sp ≡ []
own-begun e es sp n r is = ap (if_open (open_on (e ∷ es) sp)) (every-since-more (changes_on sp) (begins sp) e es true (ap (begins sp) is ∙ sp-same sp)) ∙ by_open (open_on (e ∷ es) sp)
  where
    by_open : (x : Option ℕ) → if_open x [] ≡ []
    by_open None = refl
    by_open (Some m) = refl

own-inside : (e : Event) (es : List Event) (sp : Sp) (c : Change) (r : Response) (n : ℕ) → e.deed ≡ InSession (Changed sp c) r → open_on es sp ≡ Some n → open_changes (e ∷ es) sp ≡ c ∷ open_changes es sp
own-inside e es sp c r n is opens =
    ap (λ x. if_open x (own_changes (e ∷ es) sp)) (unturned sp e es (ap (turns sp) is) ∙ opens)
    ∙ every-since-more (changes_on sp) (begins sp) e es false (ap (begins sp) is)
    ∙ ap (λ x. option_to_list x ++ own_changes es sp) (ap (changes_on sp) is ∙ ap (λ b. cond b (Some c) None) (sp-same sp))
    ∙ ap (λ x. c ∷ if_open x (own_changes es sp)) (sym opens)

pub all-by : (e : Event) (es : List Event) (sp : Sp) (cs : List Change) → brought es sp e.deed ≡ cs → changes (e ∷ es) sp ≡ cs ++ changes es sp
all-by e es sp cs h = ap (λ x. x ++ changes es sp) h

-- with no transaction
pub closed-bytes : (p : Part) (o : Origin) (past : List Event) (cs : List Change) → p.pending ≡ None → changes past Locking ≡ cs → length p.bytes ≡ sector_size * table_sectors o.tables.config → ((place : ℕ) → slice_index p.bytes place ≡ byte_in cs place) → KeepsBytes p o past
closed-bytes p o past cs shut same long has = record {
  size = long;
  bytes = λ place. has place ∙ ap (λ x. byte_in x place) (sym same);
  size_within = λ t is. absurd (nobody (sym shut ∙ is));
  within = λ t is. absurd (nobody (sym shut ∙ is));
}

-- an event that changes none
pub spared-bytes : (p new : Part) (o : Origin) (e : Event) (past : List Event) → KeepsBytes p o past → Spares e.deed past Locking → new.bytes ≡ p.bytes → new.pending ≡ p.pending → KeepsBytes new o (e ∷ past)
spared-bytes p new o e past h apart same still =
    let all : changes (e ∷ past) Locking ≡ changes past Locking = all-by e past Locking [] apart.bring in
    let own : open_changes (e ∷ past) Locking ≡ open_changes past Locking = own-spared e past Locking apart in
    record {
      size = ap length same ∙ h.size;
      bytes = λ place. ap (λ bs. slice_index bs place) same ∙ h.bytes place ∙ ap (λ x. byte_in x place) (sym all);
      size_within = λ t is. h.size_within t (sym still ∙ is);
      within = λ t is place. h.within t (sym still ∙ is) place ∙ ap (λ x. byte_in (x ++ changes past Locking) place) (sym own) ∙ ap (λ x. byte_in (open_changes (e ∷ past) Locking ++ x) place) (sym all);
    }

-- an event after which no transaction is open, and no byte another
pub shut-bytes : (p new : Part) (o : Origin) (e : Event) (past : List Event) → KeepsBytes p o past → ((place : ℕ) → byte_in (changes (e ∷ past) Locking) place ≡ byte_in (changes past Locking) place) → new.bytes ≡ p.bytes → new.pending ≡ None → KeepsBytes new o (e ∷ past)
shut-bytes p new o e past h all same shut =
    closed-bytes new o (e ∷ past) (changes (e ∷ past) Locking) shut refl (ap length same ∙ h.size) (λ place. ap (λ bs. slice_index bs place) same ∙ h.bytes place ∙ sym (all place))

-- begin
pub begun-bytes : (p : Part) (o : Origin) (e : Event) (past : List Event) (n : ℕ) (r : Response) → KeepsBytes p o past → e.deed ≡ InSession (Began Locking n) r → KeepsBytes (part_begin n p) o (e ∷ past)
begun-bytes p o e past n r h is =
    let all : changes (e ∷ past) Locking ≡ changes past Locking = all-by e past Locking [] (ap (brought past Locking) is) in
    let own : open_changes (e ∷ past) Locking ≡ [] = own-begun e past Locking n r is in
    let bytes : (place : ℕ) → slice_index p.bytes place ≡ byte_in (changes (e ∷ past) Locking) place = λ place. h.bytes place ∙ ap (λ x. byte_in x place) (sym all) in
    record {
      size = h.size;
      bytes = bytes;
      size_within = λ t has. ap (λ (x : Transaction). length x.bytes) (sym (some-same has)) ∙ h.size;
      within = λ t has place. ap (λ (x : Transaction). slice_index x.bytes place) (sym (some-same has)) ∙ bytes place ∙ ap (λ x. byte_in (x ++ changes (e ∷ past) Locking) place) (sym own);
    }

-- a Set that fits
abbrev pub FitsIn : Setting → ℕ → Type 0
FitsIn (cells_set object cells) size = Unit {0}
FitsIn (bytes_set start bytes) size = start + length bytes ≤ size

pub with-length : (st : Setting) (bs : List ℕ) → length (bytes_with st bs) ≡ length bs
with-length (cells_set object cells) bs = refl
with-length (bytes_set start bytes) bs = written-length start bytes bs

with-at : (st : Setting) (bs : List ℕ) (cs : List Change) → FitsIn st (length bs) → ((place : ℕ) → slice_index bs place ≡ byte_in cs place) → (place : ℕ) → slice_index (bytes_with st bs) place ≡ byte_in (Sets st ∷ cs) place
with-at (cells_set object cells) bs cs fits h place = h place
with-at (bytes_set start bytes) bs cs fits h place = written-at start bytes bs place fits ∙ ap (λ b. byte_after start bytes b place) (h place)

set-by : (p : Part) (o : Origin) (e : Event) (past : List Event) (st : Setting) (r : Response) → KeepsBytes p o past → FitsIn st (sector_size * table_sectors o.tables.config) → e.deed ≡ InSession (Changed Locking (Sets st)) r
    → (x : Option Transaction) → p.pending ≡ x → (y : Option ℕ) → open_on past Locking ≡ y → (x ≡ None → y ≡ None) → ((t : Transaction) → x ≡ Some t → y ≡ Some t.tsn) → KeepsBytes (part_with st p x) o (e ∷ past)
set-by p o e past st r h fits is None shut y opens none some =
    closed-bytes (part_with st p None) o (e ∷ past) (Sets st ∷ changes past Locking) shut
    (all-by e past Locking (Sets st ∷ []) (ap (brought past Locking) is ∙ ap (λ z. unless_any_open z (Sets st)) (opens ∙ none refl)))
    (with-length st p.bytes ∙ h.size)
    (with-at st p.bytes (changes past Locking) (rw h.size fits) h.bytes)
set-by p o e past st r h fits is (Some t) has y opens none some =
    let owner : open_on past Locking ≡ Some t.tsn = opens ∙ some t refl in
    let all : changes (e ∷ past) Locking ≡ changes past Locking = all-by e past Locking [] (ap (brought past Locking) is ∙ ap (λ z. unless_any_open z (Sets st)) owner) in
    let own : open_changes (e ∷ past) Locking ≡ Sets st ∷ open_changes past Locking = own-inside e past Locking (Sets st) r t.tsn is owner in
    let long : length t.bytes ≡ sector_size * table_sectors o.tables.config = h.size_within t has in
    record {
      size = h.size;
      bytes = λ place. h.bytes place ∙ ap (λ x. byte_in x place) (sym all);
      size_within = λ t' is'. ap (λ (x : Transaction). length x.bytes) (sym (some-same is')) ∙ with-length st t.bytes ∙ long;
      within = λ t' is' place.
          ap (λ (x : Transaction). slice_index x.bytes place) (sym (some-same is'))
          ∙ with-at st t.bytes (open_changes past Locking ++ changes past Locking) (rw long fits) (h.within t has) place
          ∙ ap (λ x. byte_in (x ++ changes past Locking) place) (sym own)
          ∙ ap (λ x. byte_in (open_changes (e ∷ past) Locking ++ x) place) (sym all);
    }

pub set-bytes : (p : Part) (o : Origin) (e : Event) (past : List Event) (st : Setting) (r : Response) → KeepsBytes p o past → FitsIn st (sector_size * table_sectors o.tables.config) → e.deed ≡ InSession (Changed Locking (Sets st)) r
    → (p.pending ≡ None → open_on past Locking ≡ None) → ((t : Transaction) → p.pending ≡ Some t → open_on past Locking ≡ Some t.tsn) → KeepsBytes (part_with st p p.pending) o (e ∷ past)
set-bytes p o e past st r h fits is none some = set-by p o e past st r h fits is p.pending refl (open_on past Locking) refl none some

-- commit
seen-own : (p : Part) (t : Transaction) → p.pending ≡ Some t → bytes_seen p t.tsn ≡ t.bytes
seen-own p t has = ap (λ x. bytes_seen (record p { pending = x }) t.tsn) has ∙ ap (λ b. cond b t.bytes p.bytes) (eq-eqb t.tsn t.tsn refl)

pub committed-bytes : (p : Part) (o : Origin) (e : Event) (past : List Event) (t : Transaction) (r : Response) → KeepsBytes p o past → e.deed ≡ InSession (Committed Locking) r → p.pending ≡ Some t → KeepsBytes (part_commit t.tsn p) o (e ∷ past)
committed-bytes p o e past t r h is has =
    closed-bytes (part_commit t.tsn p) o (e ∷ past) (open_changes past Locking ++ changes past Locking) refl (all-by e past Locking (open_changes past Locking) (ap (brought past Locking) is))
    (ap length (seen-own p t has) ∙ h.size_within t has)
    (λ place. ap (λ bs. slice_index bs place) (seen-own p t has) ∙ h.within t has place)
