-- Which of several windows answers an access, and what it leaves.
use Rattle.std.proofs.Common.{◌≡◌, ◌<◌, ℕ, zero, suc, Bool, true, false, List, [], ◌∷◌, length, take, get_or, slice_set, Option, Some, None, refl, ap, sym, arith, ◌∙◌, true≢false}
use Rattle.std.specs.Prelude.{nat_le, if◌then◌else◌}
use Rattle.host_memory.specs.declared.window.Window.{Window}
use Rattle.host_memory.specs.declared.windows.Windows.{Windows}
use Rattle.host_memory.specs.Access.{Access, Asked, Laid, IsAccessIf, access_end, address_end, is_refused}
use Rattle.host_memory.specs.Window.{is_held, bytes_held_at, bytes_laid, StandsSo}
use Rattle.host_memory.specs.WindowLaws.{WindowDoes}
use Rattle.host_memory.specs.Windows.{all_bytes, window_has, NoWindowHas, IsFirst, place_of_access, size_of_access, has_all, AnswersIf, WindowsStand, WindowsDo, WindowsReadLaw, OneWindowLaw, StaysUnlessHeld, OthersLaw}

pub first_so : (xs : List Window) (at n place : ℕ) (w : Window) → NoWindowHas at n (take place xs) → place < length xs
    → w ≡ get_or xs place w → window_has at n w ≡ true → IsFirst at n xs place
first_so [] at n place w none l e h = absurd (omega arith)
first_so (x ∷ xs) at n zero w none l e h = ap (window_has at n) (sym e) ∙ h
first_so (x ∷ xs) at n (suc place) w none l e h = (none.0, first_so xs at n place w none.1 (omega arith) e h)

pub more_so : (xs : List Window) (at n place : ℕ) (w : Window) → NoWindowHas at n (take place xs) → place < length xs
    → w ≡ get_or xs place w → window_has at n w ≡ false → NoWindowHas at n (take (suc place) xs)
more_so [] at n place w none l e h = absurd (omega arith)
more_so (x ∷ xs) at n zero w none l e h = (ap (window_has at n) (sym e) ∙ h, tt)
more_so (x ∷ xs) at n (suc place) w none l e h = (none.0, more_so xs at n place w none.1 (omega arith) e h)

-- It answers a read.
pub read_stands : (xs : List Window) (at n place : ℕ) (d : Window) (answer : Option (List ℕ)) → IsFirst at n xs place
    → answer ≡ bytes_held_at (get_or xs place d).base (get_or xs place d).bytes.now at n → WindowsStand xs (Asked at n answer) xs
read_stands [] at n place d answer first a = absurd first
read_stands (x ∷ xs) at n zero d answer first a =
    let did : AnswersIf true x (Asked at n answer) x xs xs (WindowsStand xs (Asked at n answer) xs) = ((refl, refl, (a, refl)), refl) in
    rw first did
read_stands (x ∷ xs) at n (suc place) d answer first a =
    let did : AnswersIf false x (Asked at n answer) x xs xs (WindowsStand xs (Asked at n answer) xs) =
    (refl, read_stands xs at n place d answer first.1 a) in
    rw first.0 did

-- It takes a write.
pub write_stands : (xs : List Window) (at : ℕ) (bytes : List ℕ) (is_done : Bool) (place : ℕ) (d v : Window)
    → IsFirst at (length bytes) xs place → WindowDoes (get_or xs place d) (Laid at bytes is_done) v
    → WindowsStand xs (Laid at bytes is_done) (slice_set xs place v)
write_stands [] at bytes is_done place d v first does = absurd first
write_stands (x ∷ xs) at bytes is_done zero d v first does =
    let did : AnswersIf true x (Laid at bytes is_done) v xs xs (WindowsStand xs (Laid at bytes is_done) xs) = (does, refl) in
    rw first did
write_stands (x ∷ xs) at bytes is_done (suc place) d v first does =
    let later = slice_set xs place v in
    let did : AnswersIf false x (Laid at bytes is_done) x xs later (WindowsStand xs (Laid at bytes is_done) later) =
    (refl, write_stands xs at bytes is_done place d v first.1 does) in
    rw first.0 did

-- No window has all its bytes.
pub none_stands : (xs : List Window) (access : Access) → NoWindowHas (place_of_access access) (size_of_access access) xs
    → is_refused access ≡ true → WindowsStand xs access xs
none_stands [] access none e = (refl, e)
none_stands (x ∷ xs) access none e =
    let did : AnswersIf false x access x xs xs (WindowsStand xs access xs) = (refl, none_stands xs access none.1 e) in
    rw none.0 did

-- A read leaves all.
abbrev bytes_first : Window → List Window → List (List ℕ)
bytes_first w later = w.bytes.now ∷ all_bytes later

read_one : (b : Bool) (w v : Window) (at n : ℕ) (answer : Option (List ℕ)) (later others : List Window)
    → (WindowsStand later (Asked at n answer) others → all_bytes others ≡ all_bytes later)
    → AnswersIf b w (Asked at n answer) v later others (WindowsStand later (Asked at n answer) others)
    → bytes_first v others ≡ bytes_first w later
read_one true w v at n answer later others rest h =
    ap (λ (x : List ℕ). let y : List (List ℕ) = x ∷ all_bytes others in y) h.0.2.1
    ∙ ap (λ (xs : List Window). bytes_first w xs) h.1
read_one false w v at n answer later others rest h =
    ap (λ (x : Window). bytes_first x others) h.0
    ∙ ap (λ (xs : List (List ℕ)). let y : List (List ℕ) = w.bytes.now ∷ xs in y) (rest h.1)

read_same : (old new : List Window) (at n : ℕ) (answer : Option (List ℕ)) → WindowsStand old (Asked at n answer) new
    → all_bytes new ≡ all_bytes old
read_same [] new at n answer h = ap all_bytes h.0
read_same (w ∷ later) [] at n answer h = absurd h
read_same (w ∷ later) (v ∷ others) at n answer h =
    read_one (window_has at n w) w v at n answer later others (read_same later others at n answer) h

read_if : (b : Bool) (old new : Windows) (at n : ℕ) (answer : Option (List ℕ))
    → IsAccessIf b WindowsDo old (Asked at n answer) new → all_bytes new.windows.now ≡ all_bytes old.windows.now
read_if true old new at n answer h = read_same old.windows.now new.windows.now at n answer h.1
read_if false old new at n answer h = ap (λ (w : Windows). all_bytes w.windows.now) h.1

pub windows_read_law : WindowsReadLaw
windows_read_law width old new [] reads h = ap (λ (w : Windows). all_bytes w.windows.now) h
windows_read_law width old new (Asked at n answer ∷ later) reads h =
    windows_read_law width h.0 new later reads h.2
    ∙ read_if (nat_le (access_end (Asked at n answer)) (address_end width)) old h.0 at n answer h.1
windows_read_law width old new (Laid at bytes is_done ∷ later) reads h = absurd reads

-- One alone.
refused_stands : (w v : Window) (access : Access) → has_all access w ≡ false → v ≡ w → is_refused access ≡ true
    → StandsSo w.base w.bytes.now access v.bytes.now
refused_stands w v (Asked at n None) e same r = (rw e refl, ap (λ (x : Window). x.bytes.now) same)
refused_stands w v (Asked at n (Some bytes)) e same r = absurd (true≢false (sym r))
refused_stands w v (Laid at bytes false) e same r = (sym e, ap (λ (x : Window). x.bytes.now) same ∙ rw e refl)
refused_stands w v (Laid at bytes true) e same r = absurd (true≢false (sym r))

alone_by : (b : Bool) (w v : Window) (access : Access) → has_all access w ≡ b
    → AnswersIf b w access v [] [] (WindowsStand [] access []) → StandsSo w.base w.bytes.now access v.bytes.now
alone_by true w v access e h = h.0.2
alone_by false w v access e h = refused_stands w v access e h.0 h.1.1

pub one_window_law : OneWindowLaw
one_window_law w v access h = alone_by (has_all access w) w v access refl h

-- The others.
same_unless : (access : Access) (xs : List Window) → StaysUnlessHeld xs access xs
same_unless access [] = refl
same_unless access (x ∷ xs) = (λ e. refl, same_unless access xs)

others_by : (b : Bool) (w v : Window) (access : Access) (later others : List Window) → has_all access w ≡ b
    → (WindowsStand later access others → StaysUnlessHeld later access others)
    → AnswersIf b w access v later others (WindowsStand later access others)
    → (has_all access w ≡ false → v ≡ w) × StaysUnlessHeld later access others
others_by true w v access later others e rest h =
    (λ f. absurd (true≢false (sym e ∙ f)), rw h.1 (same_unless access later))
others_by false w v access later others e rest h = (λ f. h.0, rest h.1)

pub others_law : OthersLaw
others_law [] access new h = h.0
others_law (w ∷ later) access [] h = absurd h
others_law (w ∷ later) access (v ∷ others) h =
    others_by (has_all access w) w v access later others refl (others_law later access others) h
