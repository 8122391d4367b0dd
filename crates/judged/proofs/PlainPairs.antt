-- Sessions whose two numbers are the same: nothing is told or asked otherwise.
use Rattle.std.proofs.Common.{◌≡◌, ◌∙◌, ◌⊎◌, inl, inr, ℕ, ◌==◌, Bool, true, false, cond, List, [], ◌∷◌, ◌++◌, Option, None, Some, unwrap_or, refl, sym, ap, eqb-true, eq-eqb}
use Rattle.std.specs.Prelude.{⊤}
use Rattle.judged.specs.SessionNumbers.{received_line}
use Rattle.judged.specs.SessionPairs.{model_by, models_number, drive_by, still_given, drives_number, named_by_drive, drives_line_by, drives_line, drives_lines, other_number, with_packet, with_number, in_number, in_packet, number_place, packet_place, models_line, as_model, paired, is_of_numbers, number_given, pairs_with}
use Rattle.judged.specs.declared.entry.Entry.{Entry}
use Rattle.judged.specs.declared.freedom.Freedom.{Freedom}
use Rattle.judged.specs.declared.pairs.SessionPair.{SessionPair}
use Rattle.judged.specs.declared.received.Received.{Received}

abbrev pub IsPlain : List SessionPair → Type 0
IsPlain [] = ⊤
IsPlain (pair ∷ pairs) = (pair.drive ≡ pair.model) × IsPlain pairs

same-number : (n : ℕ) → (n == n) ≡ true
same-number n = eq-eqb n n refl

model-kept : (pair : SessionPair) (pairs : List SessionPair) (n : ℕ) (t : Bool) → pair.drive ≡ pair.model → (pair.drive == n) ≡ t
    → model_by n n pairs ≡ n → model_by n (cond t pair.model n) pairs ≡ n
model-kept pair pairs n true same is rest =
    ap (λ found. model_by n found pairs) (sym same ∙ eqb-true pair.drive n is) ∙ rest
model-kept pair pairs n false same is rest = rest

models-plain : (pairs : List SessionPair) (n : ℕ) → IsPlain pairs → model_by n n pairs ≡ n
models-plain [] n plain = refl
models-plain (pair ∷ pairs) n plain =
    model-kept pair pairs n (pair.drive == n) plain.0 refl (models-plain pairs n plain.1)

drive-kept : (pair : SessionPair) (pairs : List SessionPair) (n : ℕ) (t : Bool) → pair.drive ≡ pair.model → (pair.model == n) ≡ t
    → drive_by n n pairs ≡ n → drive_by n (cond t pair.drive n) pairs ≡ n
drive-kept pair pairs n true same is rest =
    ap (λ found. drive_by n found pairs) (same ∙ eqb-true pair.model n is) ∙ rest
drive-kept pair pairs n false same is rest = rest

drives-plain : (pairs : List SessionPair) (n : ℕ) → IsPlain pairs → drive_by n n pairs ≡ n
drives-plain [] n plain = refl
drives-plain (pair ∷ pairs) n plain =
    drive-kept pair pairs n (pair.model == n) plain.0 refl (drives-plain pairs n plain.1)

is-models : (pairs : List SessionPair) (n : ℕ) → IsPlain pairs → (models_number pairs n == n) ≡ true
is-models pairs n plain = ap (λ m. m == n) (models-plain pairs n plain) ∙ same-number n

number-plain : (pairs : List SessionPair) (n : ℕ) → IsPlain pairs → drives_number pairs n ≡ n
number-plain pairs n plain =
    ap (still_given pairs n) (drives-plain pairs n plain) ∙ ap (λ t. cond t n 0) (is-models pairs n plain)

line-plain : (pairs : List SessionPair) (line : List ℕ) (received : Option Received) → IsPlain pairs
    → drives_line_by pairs line received ≡ line
line-plain pairs line None plain = refl
line-plain pairs line (Some received) plain =
    let tsn = received.session.tsn in
    ap (λ t. cond t line (received_line (named_by_drive (drives_number pairs tsn) received)))
    (ap (λ m. m == tsn) (number-plain pairs tsn plain) ∙ same-number tsn)

-- what must be said is what the model says
pub lines-plain : (pairs : List SessionPair) (lines : List (List ℕ)) → IsPlain pairs → drives_lines pairs lines ≡ lines
lines-plain pairs [] plain = refl
lines-plain pairs (line ∷ lines) plain = ap (λ l. l ∷ lines) (line-plain pairs line _ plain)

other-plain : (pairs : List SessionPair) (number : Option ℕ) → IsPlain pairs → other_number pairs number ≡ None
other-plain pairs None plain = refl
other-plain pairs (Some n) plain = ap (λ t. cond t None (Some (models_number pairs n))) (is-models pairs n plain)

by-number : (pairs : List SessionPair) (line : List ℕ) (place : Option ℕ) → IsPlain pairs → in_number pairs line place ≡ line
by-number pairs line None plain = refl
by-number pairs line (Some place) plain = ap (with_number place line) (other-plain pairs _ plain)

by-packet : (pairs : List SessionPair) (line : List ℕ) (place : Option ℕ) → IsPlain pairs → in_packet pairs line place ≡ line
by-packet pairs line None plain = by-number pairs line (number_place line) plain
by-packet pairs line (Some place) plain = ap (with_packet place line) (other-plain pairs _ plain)

-- a line is sent to the model as it stands
pub entry-plain : (pairs : List SessionPair) (entry : Entry) → IsPlain pairs → as_model pairs entry ≡ entry
entry-plain pairs entry plain =
    ap (λ line. record entry { line = line }) (by-packet pairs entry.line (packet_place entry.line) plain)

paired-plain : (pairs : List SessionPair) (n drive : ℕ) → drive ≡ n → IsPlain pairs → IsPlain (paired pairs n drive)
paired-plain [] n drive is plain = (is, tt)
paired-plain (pair ∷ pairs) n drive is plain = (plain.0, paired-plain pairs n drive is plain.1)

given-plain : (freedom : Option Freedom) (heard : Option ℕ) (n : ℕ) → (heard ≡ Some n) ⊎ (freedom ≡ None)
    → number_given freedom heard n ≡ n
given-plain None heard n is = refl
given-plain (Some freedom) heard n (inl is) = at (is_of_numbers freedom)
  where
    at : (t : Bool) → cond t (unwrap_or heard n) n ≡ n
    at true = ap (λ h. unwrap_or h n) is
    at false = refl
given-plain (Some freedom) heard n (inr is) = ap (λ f. number_given f heard n) is

-- a session more has the model's number, where the answer tells what the model tells, or no freedom is taken
pub with-plain : (pairs : List SessionPair) (freedom : Option Freedom) (heard told : Option ℕ) → IsPlain pairs
    → (heard ≡ told) ⊎ (freedom ≡ None) → IsPlain (pairs_with pairs freedom heard told)
with-plain pairs freedom heard None plain is = plain
with-plain pairs freedom heard (Some n) plain is = paired-plain pairs n (number_given freedom heard n) (given-plain freedom heard n is) plain
