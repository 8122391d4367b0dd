-- What is told of a StartSession is so.
use Rattle.std.proofs.Common.{◌≡◌, ◌∙◌, ℕ, zero, suc, ◌+◌, ◌*◌, ◌==◌, ◌&&◌, nat_lt, nat_le, Bool, true, false, List, [], ◌∷◌, ◌++◌, length, refl, sym, ap, if◌then◌else◌, arith, Option, None, Some}
use Rattle.std.proofs.lemmas.Bool.{ltb-true, leb-true, and_parts}
use Rattle.std.proofs.lemmas.List.{length-append}
use Rattle.sp_cells.specs.Flat.{LookUp}
use Rattle.tcg_tokens.specs.Spelling.{header, number_spelling, bytes_spelling, status_spelling}
use Rattle.reasons.specs.declared.explained.condition.Place.{Place}
use Rattle.reasons.specs.Asked.{meets_place, met_from, bytes_ahead, MetLaw, LongLaw}
use Rattle.std.specs.Prelude.{is_some}
use Rattle.sp_cells.specs.declared.names.Uid.{Uid}
use Rattle.tcg_tokens.specs.Tree.{Tree}
use Rattle.tcg_calls.specs.Asks.{uid_in}
use Rattle.tcg_calls.specs.CellValues.{number_in}
use Rattle.sessions.specs.Starts.{is_host, start_options, opening_named, opening_from, opening_of}
use Rattle.reasons.specs.declared.details.StartFault.{StartFault}
use Rattle.reasons.specs.declared.details.StartFault.TheVariants as faults
use Rattle.reasons.specs.Details.{writes_fault, is_host_number, start_fault, StartFaultLaw}

starts-by : (host : Option ℕ) (spid : Option Uid) (writes : Option ℕ) (named : Option (List (ℕ × Tree))) (fault : StartFault)
    → (if is_host_number host then (if is_some spid then writes_fault writes else Some faults.Spid) else Some faults.HostSession) ≡ Some fault
    → opening_from host spid writes named ≡ None
starts-by None spid writes named fault e = refl
starts-by (Some host) None writes named fault e = refl
starts-by (Some host) (Some spid) None named fault e = refl
starts-by (Some host) (Some spid) (Some writes) named fault e = by_tests (is_host host) (writes == 1) e
  where
    by_tests : (a b : Bool) → (if a then (if b then None else Some faults.Write) else Some faults.HostSession) ≡ Some fault
        → (if a && b then opening_named host spid named else None) ≡ None
    by_tests true true e = absurd cc
    by_tests true false e = refl
    by_tests false b e = refl

pub starts : StartFaultLaw
starts profile [] fault e = refl
starts profile (host ∷ []) fault e = refl
starts profile (host ∷ spid ∷ []) fault e = refl
starts profile (host ∷ spid ∷ writes ∷ rest) fault e =
    starts-by (number_in host) (uid_in spid) (number_in writes)
    (start_options profile rest) fault e

-- the range that is found is met

by-test : (look : LookUp) (range : ℕ) (place : Place) (first other : ℕ) (rest : Option ℕ) (b : Bool)
    → meets_place look range place first ≡ b → (rest ≡ Some other → meets_place look range place other ≡ true)
    → (if b then Some first else rest) ≡ Some other → meets_place look range place other ≡ true
by-test look range place first other rest true is later e = let same : first ≡ other = cc in ap (meets_place look range place) (sym same) ∙ is
by-test look range place first other rest false is later e = later e

found : (look : LookUp) (range : ℕ) (place : Place) (first n other : ℕ) → met_from look range place first n ≡ Some other
    → meets_place look range place other ≡ true
unfolding met_from
found look range place first zero other e = absurd cc
found look range place first (suc n) other e =
    by-test look range place first other (met_from look range place (suc first) n) (meets_place look range place first) refl
    (found look range place (suc first) n other) e

pub met : MetLaw
met look range place other e = found look range place 1 16 other e

-- how long a response is

none-below : (n m : ℕ) (b : Bool) → nat_le m n ≡ true → nat_lt n m ≡ b → b ≡ false
none-below n m true long below = absurd (omega (arith, leb-true m n long, ltb-true n m below))
none-below n m false long below = refl

by-length : (a b : Bool) (w x y p q r s : ℕ) → a ≡ false
    → length (if a then w ∷ [] else (if b then x ∷ y ∷ [] else p ∷ q ∷ r ∷ s ∷ [])) ≡ (if b then 2 else 4)
by-length true b w x y p q r s first = absurd cc
by-length false true w x y p q r s first = refl
by-length false false w x y p q r s first = refl

header-length : (n : ℕ) → nat_le 16 n ≡ true → length (header true n) ≡ bytes_ahead n
header-length n long = by-length (nat_lt n 16) (nat_lt n 2048) _ _ _ _ _ _ _ (none-below n 16 (nat_lt n 16) long refl)

pub long : LongLaw
unfolding bytes_spelling number_spelling
long content h =
    let n = length content in
    let parts = and_parts (nat_le 16 n) (nat_lt n 0x1000000) h in
    let before = bytes_ahead n in
    let its : length (bytes_spelling content) ≡ before + n =
    length-append (header true n) content ∙ ap (λ (k : ℕ). k + n) (header-length n parts.0) in
    let rest : List ℕ = [] in
    let mark : List ℕ = 0xf1 ∷ [] in
    let behind : List ℕ = 0xf9 ∷ status_spelling (0 ∷ 0 ∷ 0 ∷ []) in
    let one : length (((bytes_spelling content ++ rest) ++ mark) ++ behind) ≡ length ((bytes_spelling content ++ rest) ++ mark) + length behind =
    length-append ((bytes_spelling content ++ rest) ++ mark) behind in
    let two : length ((bytes_spelling content ++ rest) ++ mark) ≡ length (bytes_spelling content ++ rest) + length mark =
    length-append (bytes_spelling content ++ rest) mark in
    let three : length (bytes_spelling content ++ rest) ≡ length (bytes_spelling content) + length rest = length-append (bytes_spelling content) rest in
    let marked : length mark ≡ 1 = refl in
    let none : length rest ≡ 0 = refl in
    let six : length behind ≡ 6 = refl in
    omega (arith, its, one, two, three, marked, none, six)
