-- What accesses make of a window.
use Rattle.std.proofs.Common.{◌≡◌, ℕ, ◌-◌, Bool, true, false, List, [], ◌∷◌, length, refl, ap, sym, ◌∙◌}
use Rattle.std.specs.Prelude.{nat_le, if◌then◌else◌}
use Rattle.host_memory.specs.declared.window.Window.{Window}
use Rattle.host_memory.specs.Access.{Access, Asked, Laid, IsAccessIf, AreReads, access_end, address_end}
use Rattle.host_memory.specs.Window.{is_held, overlaid}
use Rattle.host_memory.specs.WindowLaws.{WindowDoes, all_written, WrittenLaw, ReadLaw}

-- Where the window stands, and its bytes after an access.
abbrev Steps : Window → Access → Window → Type 0
Steps old access new =
    (new.base ≡ old.base) × (new.bytes.now ≡ all_written old.base (access ∷ []) old.bytes.now)

laid_if : (told stands : Bool) (bytes others : List ℕ) (place : ℕ) → told ≡ stands
    → (if stands then overlaid bytes place others else bytes)
    ≡ (if told then overlaid bytes place others else bytes)
laid_if told stands bytes others place e =
    ap (λ (b : Bool). if b then overlaid bytes place others else bytes) (sym e)

one_step : (in_reach : Bool) (old new : Window) (access : Access)
    → IsAccessIf in_reach WindowDoes old access new → Steps old access new
one_step true old new (Asked at n answer) h = (h.0, h.2.1)
one_step true old new (Laid at others is_done) h =
    (h.0, h.2.1 ∙ laid_if is_done (is_held old.base old.bytes.now at (length others)) old.bytes.now others (at - old.base) h.2.0)
one_step false old new (Asked at n answer) h =
    (ap (λ (w : Window). w.base) h.1, ap (λ (w : Window). w.bytes.now) h.1)
one_step false old new (Laid at others true) h = cc
one_step false old new (Laid at others false) h =
    (ap (λ (w : Window). w.base) h.1, ap (λ (w : Window). w.bytes.now) h.1)

then_written : (base : ℕ) (access : Access) (later : List Access) (bytes : List ℕ)
    → all_written base later (all_written base (access ∷ []) bytes) ≡ all_written base (access ∷ later) bytes
then_written base (Asked at n answer) later bytes = refl
then_written base (Laid at others is_done) later bytes = refl

pub written_law : WrittenLaw
written_law width old new [] h = ap (λ (w : Window). w.bytes.now) h
written_law width old new (access ∷ later) h =
    let s = one_step (nat_le (access_end access) (address_end width)) old h.0 access h.1 in
    written_law width h.0 new later h.2
    ∙ ap (λ (b : ℕ). all_written b later h.0.bytes.now) s.0
    ∙ ap (λ (xs : List ℕ). all_written old.base later xs) s.1
    ∙ then_written old.base access later old.bytes.now

reads_leave : (base : ℕ) (talk : List Access) (bytes : List ℕ) → AreReads talk
    → all_written base talk bytes ≡ bytes
reads_leave base [] bytes h = refl
reads_leave base (Asked at n answer ∷ later) bytes h = reads_leave base later bytes h
reads_leave base (Laid at others is_done ∷ later) bytes h = absurd h

pub read_law : ReadLaw
read_law width old new talk reads h =
    written_law width old new talk h ∙ reads_leave old.base talk old.bytes.now reads
