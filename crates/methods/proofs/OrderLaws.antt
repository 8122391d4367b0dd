-- A call is refused as the first rule says that applies.
use Rattle.std.proofs.Common.{◌≡◌, ℕ, ◌+◌, ◌-◌, Bool, true, false, not, ◌||◌, nat_lt, List, [], ◌∷◌, Option, None, Some, refl, option_map, if◌then◌else◌}
use Rattle.std.specs.Prelude.{Result, Ok, Err, ◌&&◌, is_none}
use Rattle.std.specs.Option.{option_or}
use Rattle.sp_cells.specs.declared.names.Uid.{Uid}
use Rattle.sp_cells.specs.Numbers.{key_number}
use Rattle.ace_eval.specs.Aces.{acl_at}
use Rattle.audit.specs.declared.reason.Why.{Why}
use Rattle.audit.specs.declared.rules.rule.Rule.{Rule}
use Rattle.audit.specs.declared.rules.rule.Rule.TheVariants.{TooLong, InTransaction, NoKey, GlobalLocked, NoSuchRow, NoAccessLine}
use Rattle.tcg_calls.specs.declared.call_shapes.ask.Ask.{Ask}
use Rattle.tcg_calls.specs.declared.call_shapes.ask.Ask.TheVariants.{GetCells, GetBytes, SetCells, SetBytes, Authenticate, Activate, Revert, GenKey, RevertSp, Next, GetAcl, Random, Other}
use Rattle.tcg_tokens.specs.Tree.{Tree, bytes}
use Rattle.tcg_calls.specs.Statuses.{invalid_parameter, response_overflow, fail}
use Rattle.sessions.specs.Deeds.{Setting}
use Rattle.methods.specs.Erasures.{is_wholly_locked}
use Rattle.methods.specs.Random.{most_random_bytes}
use Rattle.methods.specs.Tables.{uids_tree}
use Rattle.methods.specs.Effects.{ask_at, last_row, sp_of_row}
use Rattle.methods.specs.Judgement.{Standing, Judgement, Denies, Refuses, Gives, Draws, Activates, Reverts, RevertsSp, denial, fits, gives, listing, bytes_between, to_set, makes, unless_open, erases, names_given, rows_told, acl_told, does_ask, unless_denied}
use Rattle.methods.specs.Orders.{refused_if, first_judged, rules_of, order_of, refused_as, fault_of_values, has_no_room, names_listed, next_rows, row_count, are_outside, table_byte, CallOrder}

-- a rule, and then what comes behind it
refused : (b : Bool) (status : ℕ) (rule : Rule) (j : Judgement) (later : Option Judgement) → refused_as j ≡ later → refused_as (if b then Refuses status rule else j) ≡ option_or (refused_if b status rule) later
refused true status rule j later h = refl
refused false status rule j later h = h

alone : (b : Bool) (j : Judgement) (later : Option Judgement) → refused_as j ≡ later → refused_as (unless_open b j) ≡ option_or (refused_if b fail InTransaction) later
alone true j later h = refl
alone false j later h = h

-- a response has room for the results, or has not
given : (b : Bool) (results : List Tree) → refused_as (if b then Gives results else Refuses response_overflow TooLong) ≡ option_or (refused_if (not b) response_overflow TooLong) None
given true results = refl
given false results = refl

drawn : (b : Bool) (count : ℕ) (results : List Tree) → refused_as (if b then Draws count results else Refuses response_overflow TooLong) ≡ option_or (refused_if (not b) response_overflow TooLong) None
drawn true count results = refl
drawn false count results = refl

long : (t b : Bool) (results : List Tree) → refused_as (if t then Refuses response_overflow TooLong else if b then Gives results else Refuses response_overflow TooLong) ≡ option_or (refused_if (t || not b) response_overflow TooLong) None
long true b results = refl
long false true results = refl
long false false results = refl

keyed : (key : Option ℕ) → refused_as (erases key) ≡ option_or (refused_if (is_none key) fail NoKey) None
keyed None = refl
keyed (Some range) = refl

told_rows : (s : Standing) (rows : Option (List Uid)) → refused_as (rows_told s.room rows) ≡ option_or (refused_if (is_none rows) invalid_parameter NoSuchRow) (option_or (refused_if (has_no_room s (names_listed rows)) response_overflow TooLong) None)
told_rows s None = refl
told_rows s (Some rows) = given (fits s.room (uids_tree rows ∷ [])) (uids_tree rows ∷ [])

told_acl : (s : Standing) (acl : Option (List Uid)) → refused_as (acl_told s.room acl) ≡ option_or (refused_if (is_none acl) invalid_parameter NoAccessLine) (option_or (refused_if (has_no_room s (names_listed acl)) response_overflow TooLong) None)
told_acl s None = refl
told_acl s (Some acl) = given (fits s.room (uids_tree acl ∷ [])) (uids_tree acl ∷ [])

made : (set : Result Setting Rule) → refused_as (makes set) ≡ option_or (option_map (Refuses invalid_parameter) (fault_of_values set)) None
made (Ok set) = refl
made (Err rule) = refl

-- what is granted
granted : (s : Standing) (object : Uid) (ask : Ask) → refused_as (does_ask s object ask) ≡ first_judged (rules_of s object ask)
granted s object (GetCells first last) = given (fits s.room (listing s object first last)) (listing s object first last)
granted s object (GetBytes first last) =
    let end = last_row (row_count s object) last in
    let results = bytes_between (table_byte s object) first end in
    refused (are_outside (row_count s object) first end) _ _ _ _ (long (nat_lt s.room (end + 1 - first)) (fits s.room results) results)
granted s object (SetCells values) = made (to_set s object (SetCells values))
granted s object (SetBytes at content) = made (to_set s object (SetBytes at content))
granted s object (Authenticate authority pin) = refl
granted s object Activate = alone s.is_open Activates None refl
granted s object Revert = alone s.is_open (Reverts (sp_of_row object)) None refl
granted s object GenKey = alone s.is_open (erases (key_number object)) _ (keyed (key_number object))
granted s object (RevertSp keep) = alone s.is_open _ _ (refused (keep && is_wholly_locked s.rows) fail GlobalLocked (RevertsSp keep) None refl)
granted s object (Next after count) = told_rows s (next_rows s object after count)
granted s object (GetAcl about method) = told_acl s (acl_at s.profile s.sp about method)
granted s object (Random count) = refused (nat_lt most_random_bytes count) _ _ _ _ (drawn (fits s.room (bytes (s.random count) ∷ [])) count (bytes (s.random count) ∷ []))
granted s object Other = refl

-- and what is denied before
denied_first : (d : Option Why) (j : Judgement) (later : Option Judgement) → refused_as j ≡ later → refused_as (unless_denied d j) ≡ option_or (option_map Denies d) later
denied_first None j later h = h
denied_first (Some why) j later h = refl

pub order_law : CallOrder
order_law s object method = record {
  shape = refl;
  first = λ ask. denied_first (denial s object method ask) _ _ (granted s object (ask_at s.sp object ask));
}
