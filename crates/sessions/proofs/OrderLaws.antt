-- What comes of an attempt, or of a StartSession, is that of the first rule that applies.
use Rattle.std.proofs.Common.{◌≡◌, ℕ, Bool, true, false, not, ◌&&◌, List, [], ◌∷◌, Option, None, Some, refl, ap, ◌∙◌, if◌then◌else◌}
use Rattle.std.specs.Prelude.{◌==◌, unwrap_or}
use Rattle.sp_cells.specs.declared.names.Sp.{Sp}
use Rattle.sp_cells.specs.Names.{anybody}
use Rattle.sp_cells.specs.ColumnNames.{pin_column}
use Rattle.sp_cells.specs.Flat.{LookUp}
use Rattle.audit.specs.declared.reason.AttemptFailure.{AttemptFailure}
use Rattle.audit.specs.declared.reason.AttemptFailure.TheVariants.{WrongPin, LockedOut, Disabled, Blocked, Unknown}
use Rattle.audit.specs.declared.rules.rule.Rule.TheVariants.{NotInUse, SpBusy, NoNumber}
use Rattle.tcg_calls.specs.Statuses.{sp_busy, no_sessions_available, invalid_parameter}
use Rattle.sessions.specs.declared.opening.Opening.{Opening}
use Rattle.sessions.specs.declared.opening.StartVerdict.{StartVerdict}
use Rattle.sessions.specs.declared.opening.StartVerdict.TheVariants.{Refused, Attempted}
use Rattle.sessions.specs.Attempts.{credential, is_pin}
use Rattle.sessions.specs.Live.{Live, lives_on}
use Rattle.sessions.specs.Starts.{is_in_use, is_full, opening_verdict_on}
use Rattle.sessions.specs.Orders.{first_applying, is_unknown, is_disabled, is_shut, has_no_tries, attempted, AttemptOrder, StartOrder}

attempts : (unknown disabled shut anybody used right : Bool) → (if unknown then Some Unknown else if disabled then Some Disabled else if shut then Some Blocked else if anybody then None else if used then Some LockedOut else if right then None else Some WrongPin) ≡ first_applying ((unknown, Unknown) ∷ (disabled, Disabled) ∷ (shut, Blocked) ∷ (not anybody && used, LockedOut) ∷ (not anybody && not right, WrongPin) ∷ [])
attempts true disabled shut anybody used right = refl
attempts false true shut anybody used right = refl
attempts false false true anybody used right = refl
attempts false false false true used right = refl
attempts false false false false true right = refl
attempts false false false false false true = refl
attempts false false false false false false = refl

pub attempt_order : AttemptOrder
attempt_order block look sp authority proof =
    attempts (is_unknown look sp authority) (is_disabled look sp authority) (is_shut block authority) (authority.0 == anybody.0)
    (has_no_tries look sp (credential look sp authority)) (is_pin proof (look sp (credential look sp authority) pin_column))

starts : (unused busy full : Bool) (sp : Sp) (f g : Option AttemptFailure) → f ≡ g → (if unused then Refused invalid_parameter NotInUse else if busy then Refused sp_busy SpBusy else if full then Refused no_sessions_available NoNumber else Attempted sp f) ≡ unwrap_or (first_applying ((unused, Refused invalid_parameter NotInUse) ∷ (busy, Refused sp_busy SpBusy) ∷ (full, Refused no_sessions_available NoNumber) ∷ [])) (Attempted sp g)
starts true busy full sp f g e = refl
starts false true full sp f g e = refl
starts false false true sp f g e = refl
starts false false false sp f g e = ap (λ it. Attempted sp it) e

pub start_order : StartOrder
start_order look l = record {
  shape = refl;
  unknown_sp = λ o none. ap (opening_verdict_on look l o) none;
  of_sp = λ o sp named. ap (opening_verdict_on look l o) named
      ∙ starts (not (is_in_use look sp)) (lives_on sp l) (is_full l) sp _ _ (attempt_order l.beside.block look sp o.authority o.proof);
}
