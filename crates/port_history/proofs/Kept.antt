-- What every lawful list of steps keeps, step by step: the drive's queue holds what the stages say.
use Rattle.std.proofs.Common.{◌≡◌, ◌∙◌, ℕ, ◌+◌, ◌*◌, ◌/◌, ◌%◌, ◌^◌, ◌≤◌, ◌<◌, ◌==◌, ◌&&◌, not, nat_le, nat_lt, Bool, true, false, List, [], ◌∷◌, length, if◌then◌else◌, Option, Some, None, refl, sym, ap, subst, arith, inl, inr, eq-eqb, eqb-true}
use Rattle.std.specs.Prelude.{is_some, unwrap_or, option_map, IfSome}
use Rattle.std.proofs.lemmas.Bool.{cases_eq, ne_eqb}
use Rattle.std.proofs.lemmas.Bool.Decides.{nat_tests}
use Rattle.fis.specs.Tags.{slot_count}
use Rattle.device_data.specs.declared.log_page.Failure.{Failure}
use Rattle.audit.specs.declared.reason.Why.{Why}
use Rattle.locking.specs.declared.ranges.Verdict.{Verdict}
use Rattle.trusted_cmds.specs.declared.command.Command.{Command}
use Rattle.trusted_cmds.specs.declared.command.Command.TheVariants as commands
use Rattle.trusted_cmds.specs.Commands.{lba_of}
use Rattle.history.specs.Resets.{reset_kind_number}
use Rattle.history.specs.declared.reset.ResetKind.{ResetKind}
use Rattle.history.specs.Events.{HeldCommand, Event, WasReset, did, or_else, latest}
use Rattle.history.specs.Decisions.{any_below, completed_by, holds}
use Rattle.history.specs.Readers.{holding, held, failure}
use Rattle.port_history.specs.declared.request.Request.{Request}
use Rattle.port_history.specs.declared.request.Request.TheVariants.{Read, ReadDma, Write, WriteDma, Send, Receive, Identify, Flush}
use Rattle.port_history.specs.declared.stages.Put.{Put}
use Rattle.port_history.specs.declared.stages.Stage.{Stage}
use Rattle.port_history.specs.declared.stages.Stage.TheVariants.{Free, Prepared, Issued, Accepted, Answered}
use Rattle.port_history.specs.declared.step.Step.{Step}
use Rattle.port_history.specs.declared.step.Step.TheVariants as steps
use Rattle.port_history.specs.Requests.{is_sized, is_address, are_blocks, are_whole, request_command, request_payload}
use Rattle.port_history.specs.Stages.{is_queued_command, to, put_at, is_out, accepted_stage, recovered, stage_after_reset, keeps_back, mixes, mixes_put}
use Rattle.port_history.specs.Steps.{Effect, Moment, events, stage, failed, is_tag, put_of, payload}
use Rattle.port_history.proofs.Fises.{brought}
use Rattle.port_history.specs.Laws.{IsSized}
use Rattle.port_history.proofs.Acted.{IsExecuted, held_effect, failed_effect, mended_effect}
use Rattle.port_history.proofs.Tests.{none_passes}
use Rattle.audit.specs.declared.rules.rule.Rule.{Rule}

-- What is held under a tag, by its stage, while the port has not failed.
abbrev pub held_by : Option ℕ → Stage → Option Command
held_by (Some tag) stage = None
held_by None Free = None
held_by None (Prepared put) = None
held_by None (Issued put) = None
held_by None (Accepted put) = Some put.command
held_by None (Answered put) = None

-- The command has a size that the port takes, and its data are there.
pub record IsFit (command : Command) (bytes : List ℕ) : Type 0 where
  pub address : IfSome (lba_of command) (λ lba. lba < 2 ^ 48)
  pub sized : IsSized command
  pub brings : length bytes ≡ brought command

-- What is accepted and not answered is queued.
pub record IsHere (command : Command) (bytes : List ℕ) : Type 0 where
  pub queued : is_queued_command command ≡ true
  pub fit : IsFit command bytes

abbrev pub FitsStage : Stage → List ℕ → Type 0
FitsStage Free bytes = Unit {0}
FitsStage (Prepared put) bytes = IsFit put.command bytes
FitsStage (Issued put) bytes = IsFit put.command bytes
FitsStage (Accepted put) bytes = IsHere put.command bytes
FitsStage (Answered put) bytes = IsFit put.command bytes

-- a command that is issued, and not queued
abbrev pub is_single : Stage → Bool
is_single Free = false
is_single (Prepared put) = false
is_single (Issued put) = not (is_queued_command put.command)
is_single (Accepted put) = false
is_single (Answered put) = false

-- It is out alone.
abbrev pub AreAlone : (ℕ → Stage) → Type 0
AreAlone stages =
    (tag other : ℕ) → tag < 32 → other < 32 → is_single (stages tag) ≡ true → (tag ≡ other → ⊥)
    → is_out (stages other) ≡ false

abbrev pub command_held : Option HeldCommand → Option Command
command_held x = option_map (λ (h : HeldCommand). h.command) x

abbrev pub tag_failed : Option Failure → Option (Option ℕ)
tag_failed x = option_map (λ (f : Failure). f.tag) x

abbrev pub as_tag : Option ℕ → Option (Option ℕ)
as_tag x = option_map (λ (tag : ℕ). Some tag) x

pub record Kept (ms : List Moment) : Type 0 where
  pub queue : (tag : ℕ) → command_held (held (events ms) tag) ≡ held_by (failed ms) (stage ms tag)
  pub failure : tag_failed (failure (events ms)) ≡ as_tag (failed ms)
  pub fit : (tag : ℕ) → FitsStage (stage ms tag) (payload ms tag)
  pub alone : AreAlone (stage ms)
  pub low : (tag : ℕ) → failed ms ≡ Some tag → tag < 32
  pub slots : (tag : ℕ) → is_out (stage ms tag) ≡ true → tag < 32

true_false : true ≡ false → ⊥
true_false e = cc

-- Stages that move.

-- one tag moved between stages under which nothing is held
quiet : (f : Option ℕ) (u t : ℕ) (stages : ℕ → Stage) (s next : Stage) → stages u ≡ s
    → held_by f s ≡ None → held_by f next ≡ None
    → held_by f (stages t) ≡ held_by f (if u == t then next else stages t)
quiet f u t stages s next was none none_next =
    elim (cases_eq u t) [
      | inl same ↦ rw (eq-eqb u t same) (ap (λ (k : ℕ). held_by f (stages k)) (sym same)
          ∙ ap (held_by f) was ∙ none ∙ sym none_next)
      | inr other ↦ rw (ne_eqb u t other) refl
    ]

fit_move : (u t : ℕ) (stages : ℕ → Stage) (bytes : ℕ → List ℕ) (next : Stage)
    → FitsStage next (bytes u) → FitsStage (stages t) (bytes t)
    → FitsStage (if u == t then next else stages t) (bytes t)
fit_move u t stages bytes next new old =
    elim (cases_eq u t) [
      | inl same ↦ rw (eq-eqb u t same) (subst (λ (k : ℕ). FitsStage next (bytes k)) same new)
      | inr other ↦ rw (ne_eqb u t other) old
    ]

-- a stage that moves, told by what it was
pub moves : (g : Stage → Stage) (u t : ℕ) (stages : ℕ → Stage) (next : Stage)
    → g (stages u) ≡ next
    → (if u == t then next else stages t) ≡ (if u == t then g (stages t) else stages t)
moves g u t stages next e =
    elim (cases_eq u t) [
      | inl same ↦ rw (eq-eqb u t same) (sym e ∙ ap (λ (k : ℕ). g (stages k)) same)
      | inr other ↦ rw (ne_eqb u t other) refl
    ]

-- what is out has a slot
out_move : (u t : ℕ) (stages : ℕ → Stage) (next : Stage) → u < 32
    → (is_out (stages t) ≡ true → t < 32)
    → is_out (if u == t then next else stages t) ≡ true → t < 32
out_move u t stages next lu h =
    elim (cases_eq u t) [
      | inl same ↦ λ e. subst (λ (n : ℕ). n < 32) same lu
      | inr other ↦ rw (ne_eqb u t other) h
    ]

-- the one that moves is out only where it was
alone_move : (u : ℕ) (stages : ℕ → Stage) (next : Stage) → u < 32 → is_single next ≡ false
    → (is_out next ≡ true → is_out (stages u) ≡ true) → AreAlone stages
    → AreAlone (λ t. if u == t then next else stages t)
alone_move u stages next lu quiet_next was alone tag other lt lo single apart =
    elim (cases_eq u tag) [
      | inl same ↦
          absurd (true_false (sym single
          ∙ ap (λ (b : Bool). is_single (if b then next else stages tag)) (eq-eqb u tag same)
          ∙ quiet_next))
      | inr differs ↦
          let here : is_single (stages tag) ≡ true =
          sym (ap (λ (b : Bool). is_single (if b then next else stages tag)) (ne_eqb u tag differs))
          ∙ single in
          elim (cases_eq u other) [
            | inl same ↦ rw (eq-eqb u other same)
                (by_out (is_out next) refl (alone tag u lt lu here (λ e. differs (sym e))))
            | inr beside ↦ rw (ne_eqb u other beside) (alone tag other lt lo here apart)
          ]
    ]
  where
    by_out : (b : Bool) → is_out next ≡ b → is_out (stages u) ≡ false → is_out next ≡ false
    by_out true is none = absurd (true_false (sym (was is) ∙ none))
    by_out false is none = is

alone_same : (f g : ℕ → Stage) → ((t : ℕ) → f t ≡ g t) → AreAlone f → AreAlone g
alone_same f g same alone tag other lt lo single apart =
    sym (ap is_out (same other))
    ∙ alone tag other lt lo (ap is_single (same tag) ∙ single) apart

-- under these stages nothing is held
pub free_quiet : (f : Option ℕ) → held_by f Free ≡ None
free_quiet None = refl
free_quiet (Some tag) = refl

pub prepared_quiet : (f : Option ℕ) (put : Put) → held_by f (Prepared put) ≡ None
prepared_quiet None put = refl
prepared_quiet (Some tag) put = refl

pub issued_quiet : (f : Option ℕ) (put : Put) → held_by f (Issued put) ≡ None
issued_quiet None put = refl
issued_quiet (Some tag) put = refl

pub answered_quiet : (f : Option ℕ) (put : Put) → held_by f (Answered put) ≡ None
answered_quiet None put = refl
answered_quiet (Some tag) put = refl

-- Put.

both : (a b : Bool) → (a && b) ≡ true → (a ≡ true) × (b ≡ true)
both true b e = (refl, e)
both false b e = absurd cc

-- a test of blocks
are-blocks : (count : ℕ) → (nat_le 1 count && nat_le count 256) ≡ true → (1 ≤ count) × (count ≤ 256)
are-blocks count e = (grind (arith, nat_tests), grind (arith, nat_tests))

whole-blocks : (size : ℕ) → (size % 512 == 0) ≡ true → size ≡ 512 * (size / 512)
whole-blocks size e = let none : size % 512 ≡ 0 = eqb-true (size % 512) 0 e in omega (arith, none)

an-address : (lba : ℕ) → nat_lt lba (2 ^ 48) ≡ true → lba < 2 ^ 48
an-address lba e = grind (arith, nat_tests)

fit_of : (request : Request) → is_sized request ≡ true
    → IsFit (request_command request) (request_payload request)
fit_of (Read lba count) e =
    let p = both (are_blocks count) (is_address lba) e in
    let n = are-blocks count p.0 in
    record {
      address = an-address lba p.1;
      sized = record {
        counted = (
          omega (arith, n.0),
          omega
              (arith, n.1),
        );
        most = n.1;
        asked = refl;
      };
      brings = refl;
    }
fit_of (ReadDma lba count) e =
    let p = both (are_blocks count) (is_address lba) e in
    let n = are-blocks count p.0 in
    record {
      address = an-address lba p.1;
      sized = record {
        counted = (
          omega (arith, n.0),
          omega
              (arith, n.1),
        );
        most = n.1;
        asked = refl;
      };
      brings = refl;
    }
fit_of (Write lba bytes) e =
    let p = both (are_whole bytes) (is_address lba) e in
    let w = both (length bytes % 512 == 0) (are_blocks (length bytes / 512)) p.0 in
    let n = are-blocks (length bytes / 512) w.1 in
    record {
      address = an-address lba p.1;
      sized = record {
        counted = (
          omega (arith, n.0),
          omega
              (arith, n.1),
        );
        most = n.1;
        asked = refl;
      };
      brings = whole-blocks (length bytes) w.0;
    }
fit_of (WriteDma lba bytes) e =
    let p = both (are_whole bytes) (is_address lba) e in
    let w = both (length bytes % 512 == 0) (are_blocks (length bytes / 512)) p.0 in
    let n = are-blocks (length bytes / 512) w.1 in
    record {
      address = an-address lba p.1;
      sized = record {
        counted = (
          omega (arith, n.0),
          omega
              (arith, n.1),
        );
        most = n.1;
        asked = refl;
      };
      brings = whole-blocks (length bytes) w.0;
    }
fit_of (Send protocol com_id bytes) e =
    let w = both (length bytes % 512 == 0) (are_blocks (length bytes / 512)) e in
    let n = are-blocks (length bytes / 512) w.1 in
    record {
      address = tt;
      sized = record { counted = tt; most = n.1; asked = refl };
      brings = whole-blocks (length bytes) w.0;
    }
fit_of (Receive protocol com_id blocks) e =
    let n = are-blocks blocks e in
    record {
      address = tt;
      sized = record { counted = tt; most = n.1; asked = refl };
      brings = refl;
    }
fit_of Identify e = record {
  address = tt;
  sized = record { counted = tt; most = omega arith; asked = refl };
  brings = refl;
}
fit_of Flush e = record {
  address = tt;
  sized = record { counted = tt; most = omega arith; asked = refl };
  brings = refl;
}

-- a step that does no act
abbrev pub quiet_moment : Step → Option Put → Moment
quiet_moment step served = record { step = step; served = served; effect = None }

pub kept_put : (ms : List Moment) (client u : ℕ) (request : Request) → u < 32 → Kept ms
    → stage ms u ≡ Free → is_sized request ≡ true
    → Kept (quiet_moment (steps.Put client u request) None ∷ ms)
kept_put ms client u request lu k free sized =
    let next : Stage = Prepared (put_of (1 + length ms) client request) in
    record {
      queue = λ t.
          k.queue t
          ∙ quiet (failed ms) u t (stage ms) Free next free (free_quiet (failed ms))
          (prepared_quiet (failed ms) _);
      failure = k.failure;
      fit = λ t. elim (cases_eq u t) [
        | inl same ↦ rw (eq-eqb u t same) (fit_of request sized)
        | inr other ↦ rw (ne_eqb u t other) (k.fit t)
      ];
      alone = alone_move u (stage ms) next lu refl (λ e. absurd (true_false (sym e))) k.alone;
      low = k.low;
      slots = λ t. out_move u t (stage ms) next lu (k.slots t);
    }

-- Issue.

single_keeps : (number : ℕ) (s : Stage) → is_single s ≡ true → keeps_back number s ≡ true
single_keeps number Free e = absurd cc
single_keeps number (Prepared put) e = absurd cc
single_keeps number (Issued put) e = e
single_keeps number (Accepted put) e = absurd cc
single_keeps number (Answered put) e = absurd cc

single_out : (s : Stage) → is_single s ≡ true → is_out s ≡ true
single_out Free e = absurd cc
single_out (Prepared put) e = absurd cc
single_out (Issued put) e = refl
single_out (Accepted put) e = absurd cc
single_out (Answered put) e = absurd cc

alone_queued : (u : ℕ) (stages : ℕ → Stage) (put : Put) → is_queued_command put.command ≡ true
    → any_below (λ tag. keeps_back put.number (stages tag)) slot_count ≡ false → AreAlone stages
    → AreAlone (λ t. if u == t then Issued put else stages t)
alone_queued u stages put queued unmixed alone tag other lt lo single apart =
    elim (cases_eq u tag) [
      | inl same ↦
          absurd (true_false (sym single
          ∙ ap (λ (b : Bool). is_single (if b then Issued put else stages tag))
          (eq-eqb u tag same) ∙ ap not queued))
      | inr differs ↦
          let here : is_single (stages tag) ≡ true =
          sym (ap (λ (b : Bool). is_single (if b then Issued put else stages tag))
          (ne_eqb u tag differs)) ∙ single in
          absurd (true_false (sym (single_keeps put.number (stages tag) here)
          ∙ none_passes (λ t. keeps_back put.number (stages t)) 32 tag unmixed lt))
    ]

alone_single : (u : ℕ) (stages : ℕ → Stage) (put : Put)
    → any_below (λ tag. is_out (stages tag)) slot_count ≡ false
    → AreAlone (λ t. if u == t then Issued put else stages t)
alone_single u stages put unmixed tag other lt lo single apart =
    elim (cases_eq u tag) [
      | inl same ↦
          rw (ne_eqb u other (λ e. apart (sym same ∙ e)))
          (none_passes (λ t. is_out (stages t)) 32 other unmixed lo)
      | inr differs ↦
          let here : is_single (stages tag) ≡ true =
          sym (ap (λ (b : Bool). is_single (if b then Issued put else stages tag))
          (ne_eqb u tag differs)) ∙ single in
          absurd (true_false (sym (single_out (stages tag) here)
          ∙ none_passes (λ t. is_out (stages t)) 32 tag unmixed lt))
    ]

alone_issue : (u : ℕ) (stages : ℕ → Stage) (put : Put) → mixes_put stages (Some put) ≡ false
    → AreAlone stages → AreAlone (λ t. if u == t then Issued put else stages t)
alone_issue u stages put unmixed alone = by_kind (is_queued_command put.command) refl
  where
    by_kind : (b : Bool) → is_queued_command put.command ≡ b
        → AreAlone (λ t. if u == t then Issued put else stages t)
    by_kind true is =
        alone_queued u stages put is
        (sym (ap (λ (b : Bool). if b
        then any_below (λ tag. keeps_back put.number (stages tag)) slot_count
        else any_below (λ tag. is_out (stages tag)) slot_count) is) ∙ unmixed)
        alone
    by_kind false is =
        alone_single u stages put
        (sym (ap (λ (b : Bool). if b
        then any_below (λ tag. keeps_back put.number (stages tag)) slot_count
        else any_below (λ tag. is_out (stages tag)) slot_count) is) ∙ unmixed)

pub kept_issue : (ms : List Moment) (u : ℕ) (put : Put) → u < 32 → Kept ms → stage ms u ≡ Prepared put
    → mixes (stage ms) (stage ms u) ≡ false
    → Kept (quiet_moment (steps.Issue u) (put_at (stage ms u)) ∷ ms)
kept_issue ms u put lu k was unmixed = record {
  queue = λ t.
      k.queue t
      ∙ quiet (failed ms) u t (stage ms) (Prepared put) (Issued put) was
      (prepared_quiet (failed ms) put) (issued_quiet (failed ms) put)
      ∙ ap (held_by (failed ms)) (moved t);
  failure = k.failure;
  fit = λ t.
      subst (λ (s : Stage). FitsStage s (payload ms t)) (moved t)
      (fit_move u t (stage ms) (payload ms) (Issued put)
      (subst (λ (s : Stage). FitsStage s (payload ms u)) was (k.fit u)) (k.fit t));
  alone =
      alone_same (λ t. if u == t then Issued put else stage ms t) (λ t. if u == t
      then to Issued (stage ms t) else stage ms t) moved
      (alone_issue u (stage ms) put (sym (ap (λ (s : Stage). mixes (stage ms) s) was)
      ∙ unmixed) k.alone);
  low = k.low;
  slots = λ t e. out_move u t (stage ms) (Issued put) lu (k.slots t) (ap is_out (moved t) ∙ e);
}
  where
    moved : (t : ℕ) → (if u == t then Issued put else stage ms t)
        ≡ (if u == t then to Issued (stage ms t) else stage ms t)
    moved t = moves (to Issued) u t (stage ms) (Issued put) (ap (to Issued) was)

-- Take.

pub kept_take : (ms : List Moment) (client u : ℕ) (put : Put) → u < 32 → Kept ms
    → stage ms u ≡ Answered put → Kept (quiet_moment (steps.Take client u) None ∷ ms)
kept_take ms client u put lu k was = record {
  queue = λ t.
      k.queue t
      ∙ quiet (failed ms) u t (stage ms) (Answered put) Free was (answered_quiet (failed ms) put)
      (free_quiet (failed ms));
  failure = k.failure;
  fit = λ t. fit_move u t (stage ms) (payload ms) Free tt (k.fit t);
  alone = alone_move u (stage ms) Free lu refl (λ e. absurd (true_false (sym e))) k.alone;
  low = k.low;
  slots = λ t. out_move u t (stage ms) Free lu (k.slots t);
}

-- Accept.

abbrev pub accept_moment : ℕ → Put → Effect → Moment
accept_moment u put e = record { step = steps.Accept u; served = Some put; effect = Some e }

-- the stage of a command that the device has taken
queued_here : (s : Stage) (put : Put) → s ≡ Issued put → is_queued_command put.command ≡ true
    → to accepted_stage s ≡ Accepted put
queued_here s put e queued =
    ap (to accepted_stage) e
    ∙ ap (λ (b : Bool). if b then Accepted put else Answered put) queued

unqueued_here : (s : Stage) (put : Put) → s ≡ Issued put → is_queued_command put.command ≡ false
    → to accepted_stage s ≡ Answered put
unqueued_here s put e unqueued =
    ap (to accepted_stage) e
    ∙ ap (λ (b : Bool). if b then Accepted put else Answered put) unqueued

-- the stages after a queued command is accepted
pub accepted_moves : (ms : List Moment) (u t : ℕ) (put : Put) → stage ms u ≡ Issued put
    → is_queued_command put.command ≡ true
    → (if u == t then Accepted put else stage ms t)
    ≡ (if u == t then to accepted_stage (stage ms t) else stage ms t)
accepted_moves ms u t put was queued =
    moves (to accepted_stage) u t (stage ms) (Accepted put)
    (queued_here (stage ms u) put was queued)

-- and after another one
pub executed_moves : (ms : List Moment) (u t : ℕ) (put : Put) → stage ms u ≡ Issued put
    → is_queued_command put.command ≡ false
    → (if u == t then Answered put else stage ms t)
    ≡ (if u == t then to accepted_stage (stage ms t) else stage ms t)
executed_moves ms u t put was unqueued =
    moves (to accepted_stage) u t (stage ms) (Answered put)
    (unqueued_here (stage ms u) put was unqueued)

fit_here : (ms : List Moment) (u : ℕ) (put : Put) → Kept ms → stage ms u ≡ Issued put
    → IsFit put.command (payload ms u)
fit_here ms u put k was = subst (λ (s : Stage). FitsStage s (payload ms u)) was (k.fit u)

accept_fit : (ms : List Moment) (u : ℕ) (put : Put) → Kept ms → stage ms u ≡ Issued put
    → is_queued_command put.command ≡ true → (t : ℕ)
    → FitsStage (if u == t then to accepted_stage (stage ms t) else stage ms t) (payload ms t)
accept_fit ms u put k was queued t =
    subst (λ (s : Stage). FitsStage s (payload ms t)) (accepted_moves ms u t put was queued)
    (fit_move u t (stage ms) (payload ms) (Accepted put)
    (record { queued = queued; fit = fit_here ms u put k was }) (k.fit t))

accept_alone : (ms : List Moment) (u : ℕ) (put : Put) → u < 32 → Kept ms
    → stage ms u ≡ Issued put → is_queued_command put.command ≡ true
    → AreAlone (λ t. if u == t then to accepted_stage (stage ms t) else stage ms t)
accept_alone ms u put lu k was queued =
    alone_same (λ t. if u == t then Accepted put else stage ms t) (λ t. if u == t
    then to accepted_stage (stage ms t) else stage ms t)
    (λ t. accepted_moves ms u t put was queued)
    (alone_move u (stage ms) (Accepted put) lu refl (λ e. ap is_out was) k.alone)

accept_slots : (ms : List Moment) (u : ℕ) (put : Put) → u < 32 → Kept ms
    → stage ms u ≡ Issued put → is_queued_command put.command ≡ true → (t : ℕ)
    → is_out (if u == t then to accepted_stage (stage ms t) else stage ms t) ≡ true → t < 32
accept_slots ms u put lu k was queued t e =
    out_move u t (stage ms) (Accepted put) lu (k.slots t)
    (ap is_out (accepted_moves ms u t put was queued) ∙ e)

-- what a held command leaves of the queue
held_now : (u t : ℕ) (command : Command) (v : Verdict) (past : List Event)
    → held (holds u command v ∷ past) t
    ≡ (if u == t then Some (record { command = command; verdict = v }) else held past t)
held_now u t command v past =
    elim (cases_eq u t) [
      | inl same ↦ rw (eq-eqb u t same) refl
      | inr other ↦ rw (ne_eqb u t other) refl
    ]

pub failed_held : (ms : List Moment) (u : ℕ) (put : Put) (v : Verdict)
    → failed (accept_moment u put (held_effect u put.command v) ∷ ms) ≡ failed ms
failed_held ms u put v = by_kind (is_queued_command put.command)
  where
    by_kind : (b : Bool) → unwrap_or (if b && false then Some (Some u) else None) (failed ms)
        ≡ failed ms
    by_kind true = refl
    by_kind false = refl

pub failed_failed : (ms : List Moment) (u : ℕ) (put : Put) (error : ℕ) (denied : Option Why × Option Rule)
    → is_queued_command put.command ≡ true
    → failed (accept_moment u put (failed_effect u put.command error denied) ∷ ms) ≡ Some u
failed_failed ms u put error denied queued =
    ap (λ (b : Bool). unwrap_or (if b && true then Some (Some u) else None) (failed ms)) queued

pub failed_executed : (ms : List Moment) (u : ℕ) (put : Put) (e : Effect)
    → is_queued_command put.command ≡ false → failed (accept_moment u put e ∷ ms) ≡ failed ms
failed_executed ms u put e unqueued =
    ap
    (λ (b : Bool). unwrap_or (if b && is_some e.event.failed then Some (Some u) else None)
    (failed ms))
    unqueued

pub kept_held : (ms : List Moment) (u : ℕ) (put : Put) (v : Verdict) → u < 32 → Kept ms
    → failed ms ≡ None → stage ms u ≡ Issued put → is_queued_command put.command ≡ true
    → Kept (accept_moment u put (held_effect u put.command v) ∷ ms)
kept_held ms u put v lu k mended was queued =
    let m : Moment = accept_moment u put (held_effect u put.command v) in
    let same : failed (m ∷ ms) ≡ failed ms = failed_held ms u put v in
    record {
      queue = λ t.
          ap command_held (held_now u t put.command v (events ms))
          ∙ queue_now t
          ∙ ap (held_by (failed ms)) (accepted_moves ms u t put was queued)
          ∙ ap (λ (f : Option ℕ). held_by f (stage (m ∷ ms) t)) (sym same);
      failure = k.failure ∙ ap as_tag (sym same);
      fit = accept_fit ms u put k was queued;
      alone = accept_alone ms u put lu k was queued;
      low = λ t e. k.low t (sym same ∙ e);
      slots = accept_slots ms u put lu k was queued;
    }
  where
    queue_now : (t : ℕ)
        → command_held (if u == t then Some (record { command = put.command; verdict = v })
        else held (events ms) t)
        ≡ held_by (failed ms) (if u == t then Accepted put else stage ms t)
    queue_now t = elim (cases_eq u t) [
      | inl same ↦ rw (eq-eqb u t same, mended) refl
      | inr other ↦ rw (ne_eqb u t other) (k.queue t)
    ]

pub kept_failed : (ms : List Moment) (u : ℕ) (put : Put) (error : ℕ) (denied : Option Why × Option Rule)
    → u < 32 → Kept ms → stage ms u ≡ Issued put → is_queued_command put.command ≡ true
    → Kept (accept_moment u put (failed_effect u put.command error denied) ∷ ms)
kept_failed ms u put error denied lu k was queued =
    let m : Moment = accept_moment u put (failed_effect u put.command error denied) in
    let now : failed (m ∷ ms) ≡ Some u = failed_failed ms u put error denied queued in
    record {
      queue = λ t. sym (ap (λ (f : Option ℕ). held_by f (stage (m ∷ ms) t)) now);
      failure = sym (ap as_tag now);
      fit = accept_fit ms u put k was queued;
      alone = accept_alone ms u put lu k was queued;
      low = λ t e. subst (λ (n : ℕ). n < 32) (same_tag t (sym now ∙ e)) lu;
      slots = accept_slots ms u put lu k was queued;
    }
  where
    same_tag : (t : ℕ) → ◌≡◌ {A = Option ℕ} (Some u) (Some t) → u ≡ t
    same_tag t e = cc

pub kept_executed : (ms : List Moment) (u : ℕ) (put : Put) (e : Effect) → u < 32 → Kept ms
    → stage ms u ≡ Issued put → is_queued_command put.command ≡ false
    → IsExecuted (events ms) put.command e
    → Kept (accept_moment u put e ∷ ms)
kept_executed ms u put e lu k was unqueued done =
    let m : Moment = accept_moment u put e in
    let same : failed (m ∷ ms) ≡ failed ms = failed_executed ms u put e unqueued in
    record {
      queue = λ t.
          ap command_held (done.still_held t)
          ∙ k.queue t
          ∙ quiet (failed ms) u t (stage ms) (Issued put) (Answered put) was
          (issued_quiet (failed ms) put) (answered_quiet (failed ms) put)
          ∙ ap (held_by (failed ms)) (executed_moves ms u t put was unqueued)
          ∙ ap (λ (f : Option ℕ). held_by f (stage (m ∷ ms) t)) (sym same);
      failure =
          ap tag_failed done.still_failing ∙ k.failure ∙ ap as_tag (sym same);
      fit = λ t.
          subst (λ (s : Stage). FitsStage s (payload ms t)) (executed_moves ms u t put was unqueued)
          (fit_move u t (stage ms) (payload ms) (Answered put) (fit_here ms u put k was) (k.fit t));
      alone =
          alone_same (λ t. if u == t then Answered put else stage ms t) (λ t. if u == t
          then to accepted_stage (stage ms t) else stage ms t)
          (λ t. executed_moves ms u t put was unqueued)
          (alone_move u (stage ms) (Answered put) lu refl
          (λ g. absurd (true_false (sym g))) k.alone);
      low = λ t g. k.low t (sym same ∙ g);
      slots = λ t g.
          out_move u t (stage ms) (Answered put) lu (k.slots t)
          (ap is_out (executed_moves ms u t put was unqueued) ∙ g);
    }

-- Complete.

abbrev pub complete_moment : ℕ → Put → Effect → Moment
complete_moment u put e = record { step = steps.Complete u; served = Some put; effect = Some e }

freed_by : (t : ℕ) (past : List Event) (b : Bool)
    → unwrap_or (or_else (if b then Some None else None) (latest (holding t) past)) None
    ≡ (if b then None else held past t)
freed_by t past true = refl
freed_by t past false = refl

-- what a completion leaves of the queue
pub freed : (u t : ℕ) (bytes : List ℕ) (command : Command) (past : List Event)
    → held (completed_by u bytes command ∷ past) t ≡ (if u == t then None else held past t)
freed u t bytes (commands.ReadQueued lba count) past = freed_by t past (u == t)
freed u t bytes (commands.WriteQueued lba count) past = freed_by t past (u == t)
freed u t bytes (commands.ReadDma lba count) past = freed_by t past (u == t)
freed u t bytes (commands.WriteDma lba count) past = freed_by t past (u == t)
freed u t bytes (commands.Send protocol com_id blocks dma) past = freed_by t past (u == t)
freed u t bytes (commands.Receive protocol com_id blocks dma) past = freed_by t past (u == t)
freed u t bytes commands.Identify past = freed_by t past (u == t)
freed u t bytes (commands.ReadLog10 dma) past = freed_by t past (u == t)
freed u t bytes commands.Flush past = freed_by t past (u == t)
freed u t bytes (commands.SetFeatures feature) past = freed_by t past (u == t)
freed u t bytes (commands.ReadLog page dma) past = freed_by t past (u == t)
freed u t bytes (commands.ReadPio lba count) past = freed_by t past (u == t)
freed u t bytes (commands.WritePio lba count) past = freed_by t past (u == t)
freed u t bytes (commands.Verify lba count) past = freed_by t past (u == t)
freed u t bytes (commands.Trim blocks) past = freed_by t past (u == t)
freed u t bytes (commands.Control control) past = freed_by t past (u == t)

pub failure_moved : (u : ℕ) (bytes : List ℕ) (command : Command) (past : List Event)
    → failure (completed_by u bytes command ∷ past) ≡ failure past
failure_moved u bytes (commands.ReadQueued lba count) past = refl
failure_moved u bytes (commands.WriteQueued lba count) past = refl
failure_moved u bytes (commands.ReadDma lba count) past = refl
failure_moved u bytes (commands.WriteDma lba count) past = refl
failure_moved u bytes (commands.Send protocol com_id blocks dma) past = refl
failure_moved u bytes (commands.Receive protocol com_id blocks dma) past = refl
failure_moved u bytes commands.Identify past = refl
failure_moved u bytes (commands.ReadLog10 dma) past = refl
failure_moved u bytes commands.Flush past = refl
failure_moved u bytes (commands.SetFeatures feature) past = refl
failure_moved u bytes (commands.ReadLog page dma) past = refl
failure_moved u bytes (commands.ReadPio lba count) past = refl
failure_moved u bytes (commands.WritePio lba count) past = refl
failure_moved u bytes (commands.Verify lba count) past = refl
failure_moved u bytes (commands.Trim blocks) past = refl
failure_moved u bytes (commands.Control control) past = refl

pub kept_complete : (ms : List Moment) (u : ℕ) (put : Put) (e : Effect) (bytes : List ℕ) → u < 32
    → Kept ms → failed ms ≡ None → stage ms u ≡ Accepted put
    → e.event ≡ completed_by u bytes put.command → Kept (complete_moment u put e ∷ ms)
kept_complete ms u put e bytes lu k mended was is = record {
  queue = λ t.
      ap (λ (x : Event). command_held (held (x ∷ events ms) t)) is
      ∙ ap command_held (freed u t bytes put.command (events ms))
      ∙ queue_now t
      ∙ ap (held_by (failed ms)) (moved t);
  failure =
      ap (λ (x : Event). tag_failed (failure (x ∷ events ms))) is
      ∙ ap tag_failed (failure_moved u bytes put.command (events ms))
      ∙ k.failure;
  fit = λ t.
      subst (λ (s : Stage). FitsStage s (payload ms t)) (moved t)
      (fit_move u t (stage ms) (payload ms) (Answered put) here.fit (k.fit t));
  alone =
      alone_same (λ t. if u == t then Answered put else stage ms t) (λ t. if u == t
      then to Answered (stage ms t) else stage ms t) moved
      (alone_move u (stage ms) (Answered put) lu refl (λ g. absurd (true_false (sym g))) k.alone);
  low = k.low;
  slots = λ t g. out_move u t (stage ms) (Answered put) lu (k.slots t) (ap is_out (moved t) ∙ g);
}
  where
    here : IsHere put.command (payload ms u)
    here = subst (λ (s : Stage). FitsStage s (payload ms u)) was (k.fit u)

    moved : (t : ℕ) → (if u == t then Answered put else stage ms t)
        ≡ (if u == t then to Answered (stage ms t) else stage ms t)
    moved t = moves (to Answered) u t (stage ms) (Answered put) (ap (to Answered) was)

    queue_now : (t : ℕ) → command_held (if u == t then None else held (events ms) t)
        ≡ held_by (failed ms) (if u == t then Answered put else stage ms t)
    queue_now t = elim (cases_eq u t) [
      | inl same ↦ rw (eq-eqb u t same, mended) refl
      | inr other ↦ rw (ne_eqb u t other) (k.queue t)
    ]

-- Recover.

recovered_quiet : (b : Bool) (s : Stage) → held_by None (recovered b s) ≡ None
recovered_quiet b Free = refl
recovered_quiet b (Prepared put) = refl
recovered_quiet true (Issued put) = refl
recovered_quiet false (Issued put) = refl
recovered_quiet true (Accepted put) = refl
recovered_quiet false (Accepted put) = refl
recovered_quiet b (Answered put) = refl

recovered_fit : (b : Bool) (s : Stage) (bytes : List ℕ) → FitsStage s bytes
    → FitsStage (recovered b s) bytes
recovered_fit b Free bytes h = h
recovered_fit b (Prepared put) bytes h = h
recovered_fit true (Issued put) bytes h = h
recovered_fit false (Issued put) bytes h = h
recovered_fit true (Accepted put) bytes h = h.fit
recovered_fit false (Accepted put) bytes h = h.fit
recovered_fit b (Answered put) bytes h = h

-- nothing is out after a recovery
pub recovered_in : (b : Bool) (s : Stage) → is_out (recovered b s) ≡ false
recovered_in b Free = refl
recovered_in b (Prepared put) = refl
recovered_in true (Issued put) = refl
recovered_in false (Issued put) = refl
recovered_in true (Accepted put) = refl
recovered_in false (Accepted put) = refl
recovered_in b (Answered put) = refl

abbrev pub recover_moment : Effect → Moment
recover_moment e = record { step = steps.Recover; served = None; effect = Some e }

pub kept_recover : (ms : List Moment) (f : ℕ) (found : Failure) → Kept ms → failed ms ≡ Some f
    → Kept (recover_moment (mended_effect (Some found)) ∷ ms)
kept_recover ms f found k was = record {
  queue = λ t.
      k.queue t
      ∙ ap (λ (x : Option ℕ). held_by x (stage ms t)) was
      ∙ sym (recovered_quiet (is_tag t (failed ms)) (stage ms t));
  failure = refl;
  fit = λ t. recovered_fit (is_tag t (failed ms)) (stage ms t) (payload ms t) (k.fit t);
  alone = λ tag other lt lo single apart. recovered_in (is_tag other (failed ms)) (stage ms other);
  low = λ t e. absurd (none_some t e);
  slots = λ t e. absurd (true_false (sym e ∙ recovered_in (is_tag t (failed ms)) (stage ms t)));
}
  where
    none_some : (t : ℕ) → ◌≡◌ {A = Option ℕ} None (Some t) → ⊥
    none_some t e = cc

-- Reset.

reset_quiet : (s : Stage) → held_by None (stage_after_reset s) ≡ None
reset_quiet Free = refl
reset_quiet (Prepared put) = refl
reset_quiet (Issued put) = refl
reset_quiet (Accepted put) = refl
reset_quiet (Answered put) = refl

reset_fit : (s : Stage) (bytes : List ℕ) → FitsStage s bytes → FitsStage (stage_after_reset s) bytes
reset_fit Free bytes h = h
reset_fit (Prepared put) bytes h = h
reset_fit (Issued put) bytes h = h
reset_fit (Accepted put) bytes h = h.fit
reset_fit (Answered put) bytes h = h

-- nothing is out after a reset
pub reset_in : (s : Stage) → is_out (stage_after_reset s) ≡ false
reset_in Free = refl
reset_in (Prepared put) = refl
reset_in (Issued put) = refl
reset_in (Accepted put) = refl
reset_in (Answered put) = refl

abbrev pub reset_effect : ResetKind → Effect
reset_effect kind = record { event = did (WasReset (reset_kind_number kind)); fises = []; bytes = [] }

abbrev pub reset_moment : ℕ → ResetKind → Moment
reset_moment client kind = record {
  step = steps.Reset client kind;
  served = None;
  effect = Some (reset_effect kind);
}

pub kept_reset : (ms : List Moment) (client : ℕ) (kind : ResetKind) → Kept ms
    → Kept (reset_moment client kind ∷ ms)
kept_reset ms client kind k = record {
  queue = λ t. sym (reset_quiet (stage ms t));
  failure = refl;
  fit = λ t. reset_fit (stage ms t) (payload ms t) (k.fit t);
  alone = λ tag other lt lo single apart. reset_in (stage ms other);
  low = λ t e. absurd (none_some t e);
  slots = λ t e. absurd (true_false (sym e ∙ reset_in (stage ms t)));
}
  where
    none_some : (t : ℕ) → ◌≡◌ {A = Option ℕ} None (Some t) → ⊥
    none_some t e = cc
