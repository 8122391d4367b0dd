-- Answered transfers are served exactly where they are allowed.
use Rattle.port_history.specs.Laws.{IsForPorts}
use Rattle.std.proofs.Common.{None, ◌≡◌, ◌∙◌, ◌⊎◌, ℕ, zero, suc, ◌+◌, ◌*◌, Bool, true, false, List, Option, Some, refl, sym, ap, subst, inl, inr, arith}
use Rattle.port_history.proofs.AnswerProofs.{answer_law}
use Rattle.port_history.specs.Requests.{no_bytes}
use Rattle.port_history.specs.Stages.{is_answered}
use Rattle.std.specs.Prelude.{◌≢◌, is_some, unwrap_or, IfSome}
use Rattle.std.proofs.lemmas.Bool.{le-leb, leb-true}
use Rattle.locking.specs.Range.{RangeRows}
use Rattle.locking.specs.Verdict.{AreOpen, AreShadowed, IsVerdict, verdict_of}
use Rattle.locking.specs.declared.range.Op.{Op}
use Rattle.locking.specs.declared.range.Op.TheVariants.{Read, Write}
use Rattle.locking.specs.declared.ranges.Verdict.{Verdict}
use Rattle.locking.specs.declared.ranges.Verdict.TheVariants.{Serve, Shadow, Denied}
use Rattle.locking.proofs.Verdicts.{verdict_is}
use Rattle.shadow_mbr.specs.Stored.{sector_size, sectors_from}
use Rattle.transactions.specs.Bytes.{bytes_from}
use Rattle.history.specs.Decisions.{on_drive, ranges_in_force}
use Rattle.history.specs.Items.{Items}
use Rattle.history.specs.Facts.{Facts}
use Rattle.history.specs.Opening.{Origin}
use Rattle.history.specs.Readers.{held, failure}
use Rattle.history.specs.TransferLaws.{is_denied}
use Rattle.history.proofs.TransferProofs.{verdict_law}
use Rattle.port_history.specs.declared.request.Answer.{Answer}
use Rattle.port_history.specs.declared.request.Answer.TheVariants as answers
use Rattle.port_history.specs.declared.stages.Stage.TheVariants.{Answered}
use Rattle.port_history.specs.declared.step.Step.{Step}
use Rattle.port_history.specs.Steps.{payload, Moment, events, failed, answer, trace_of}
use Rattle.port_history.specs.Refusals.{AreLawful}
use Rattle.headline.proofs.Landed.{Lands, Landed, landed_by, landed}
use Rattle.headline.specs.Steps.{past_of, through_move, facts_after, before_acceptance, before_move, own_past}
use Rattle.headline.proofs.Unmoved.{IsWritten, Unmoved, unmoved_by, unmoved}
use Rattle.headline.specs.Transfers.{Transfer, IsAnswered, IsDone, IsOnDrive, IsAllowed, GivesBytes, HaveData, IsDoneWrite, MoveNothing, IsServed, AreServed, TransferLaw, TakenLaw}
use Rattle.headline.proofs.Came.{moved_by, answer_by, answer_at, answer_to}
use Rattle.headline.proofs.Waits.{Comes}
use Rattle.headline.proofs.KeptTransfers.{comes_by, comes}

not_done : {status error : ℕ} {bytes : List ℕ} → answers.Failed status error ≡ answers.Done bytes → ⊥
not_done e = cc

same_bytes : {bytes bytes' : List ℕ} → answers.Done bytes ≡ answers.Done bytes' → bytes ≡ bytes'
same_bytes e = cc

true_false : true ≡ false → ⊥
true_false e = cc

-- the bytes, by the verdict
reads_media : (ranges : RangeRows) (g : Facts) (lba count : ℕ) → AreOpen ranges lba (lba + count)
    → AreShadowed ranges lba (lba + count)
    → sectors_from g.sector lba count ≡ bytes_from g.byte (sector_size * lba) (sector_size * count)
unfolding sectors_from
reads_media ranges g lba zero opened shadowed = refl
reads_media ranges g lba (suc n) opened shadowed =
    absurd (true_false (sym (shadowed lba (omega arith) (omega arith)) ∙ opened lba (omega arith) (omega arith)))

gives_serve : (ranges : RangeRows) (g : Facts) (op : Op) (lba count : ℕ)
    → IsVerdict ranges op lba count Serve
    → GivesBytes ranges g (record { op = op; lba = lba; count = count }) (moved_by g op lba count Serve)
gives_serve ranges g Read lba count is = record {
  media = λ r opened. refl;
  shadow = λ r shadowed. reads_media ranges g lba count is.0 shadowed;
  write = λ w. absurd (no_write w);
}
  where
    no_write : Read ≡ Write → ⊥
    no_write e = cc
gives_serve ranges g Write lba count is = record {
  media = λ r opened. absurd (no_read r);
  shadow = λ r shadowed. absurd (no_read r);
  write = λ w. refl;
}
  where
    no_read : Write ≡ Read → ⊥
    no_read e = cc

gives_shadow : (ranges : RangeRows) (g : Facts) (op : Op) (lba count : ℕ)
    → IsVerdict ranges op lba count Shadow
    → GivesBytes ranges g (record { op = op; lba = lba; count = count }) (moved_by g op lba count Shadow)
gives_shadow ranges g Read lba count is = record {
  media = λ r opened. sym (reads_media ranges g lba count opened is.1);
  shadow = λ r shadowed. refl;
  write = λ w. absurd (no_write w);
}
  where
    no_write : Read ≡ Write → ⊥
    no_write e = cc
gives_shadow ranges g Write lba count is = absurd (no_read is.0)
  where
    no_read : Write ≡ Read → ⊥
    no_read e = cc

-- what an answer by its verdict is
pub record IsByVerdict (ranges : RangeRows) (g : Facts) (op : Op) (lba count : ℕ) (a : Answer) : Type 0 where
  pub served : (is_denied (verdict_of ranges op lba count) ≡ false → IsDone a)
      × (IsDone a → is_denied (verdict_of ranges op lba count) ≡ false)
  pub bytes : (bytes : List ℕ) → a ≡ answers.Done bytes
      → GivesBytes ranges g (record { op = op; lba = lba; count = count }) bytes
  pub denied : (is_denied (verdict_of ranges op lba count) ≡ false → ⊥) → a ≡ answers.Failed 0x51 0x04

by_verdict : (ranges : RangeRows) (g : Facts) (op : Op) (lba count : ℕ)
    → IsByVerdict ranges g op lba count (answer_by g op lba count (verdict_of ranges op lba count))
by_verdict ranges g op lba count =
    at (verdict_of ranges op lba count) refl (verdict_is ranges op lba count)
  where
    at : (v : Verdict) → verdict_of ranges op lba count ≡ v → IsVerdict ranges op lba count v
        → IsByVerdict ranges g op lba count (answer_by g op lba count v)
    at Serve e is = record {
      served = (λ h. (moved_by g op lba count Serve, refl), λ h. ap is_denied e);
      bytes = λ bytes d. subst (GivesBytes ranges g (record { op = op; lba = lba; count = count }))
          (same_bytes d) (gives_serve ranges g op lba count is);
      denied = λ h. absurd (h (ap is_denied e));
    }
    at Shadow e is = record {
      served = (λ h. (moved_by g op lba count Shadow, refl), λ h. ap is_denied e);
      bytes = λ bytes d. subst (GivesBytes ranges g (record { op = op; lba = lba; count = count }))
          (same_bytes d) (gives_shadow ranges g op lba count is);
      denied = λ h. absurd (h (ap is_denied e));
    }
    at (Denied why) e is = record {
      served = (λ h. absurd (true_false (sym (ap is_denied e) ∙ h)), λ h. absurd (not_done h.1));
      bytes = λ bytes d. absurd (not_done d);
      denied = λ h. refl;
    }

-- what an answered transfer was answered
answered_so : (items : Items) (still : IsForPorts items) (o : Origin) (list : List Step) (tag : ℕ) (x : Transfer) (a : Answer)
    → AreLawful items o list → IsAnswered items o list tag x a
    → a ≢ answers.Reset
    → a ≡ answer_to (facts_after items o (before_acceptance list tag)) (facts_after items o (before_move list tag)) x
answered_so items still o list tag x a lawful is no_reset =
    by_settled
    (subst (λ (y : Option Transfer). IfSome y (λ z. ◌⊎◌ (answer ms tag ≡ Some answers.Reset) (answer ms tag ≡ Some (answer_to f g z))))
    is.asks here.it.1)
  where
    ms : List Moment
    ms = trace_of items o list

    f : Facts
    f = facts_after items o (before_acceptance list tag)

    g : Facts
    g = facts_after items o (before_move list tag)

    here : Comes tag (failed ms) (failure (events ms)) (held (events ms) tag) f g (answer ms tag)
        (Answered is.put)
    here = comes_by refl refl refl refl refl refl (sym is.stands) (comes items still o list lawful tag)

    same : {b : Answer} → Some a ≡ Some b → a ≡ b
    same e = cc

    by_settled : ◌⊎◌ (answer ms tag ≡ Some answers.Reset) (answer ms tag ≡ Some (answer_to f g x))
        → a ≡ answer_to f g x
    by_settled (inl r) = absurd (no_reset (same (sym is.answers ∙ r)))
    by_settled (inr r) = same (sym is.answers ∙ r)

served_so : (items : Items) (o : Origin) (list : List Step) (tag : ℕ) (x : Transfer) (a : Answer)
    → a ≡ answer_to (facts_after items o (before_acceptance list tag)) (facts_after items o (before_move list tag)) x
    → (x.op ≡ Write → IsDone a
    → HaveData (past_of items o (through_move list tag)) x (payload (trace_of items o list) tag))
    → IsServed items o list tag x a
served_so items o list tag x a is lands = record {
  served = λ fits. (
    λ d. law.0 (v.served.1 (subst IsDone (within fits) d)),
    λ p. subst IsDone (sym (within fits)) (v.served.0 (law.1 p)),
  );
  bytes = by_place (on_drive f x.lba x.count) refl;
  written = lands;
  denied = λ fits h. within fits ∙ v.denied (λ e. h (law.0 e));
  beyond = λ out. is ∙ ap (λ (b : Bool). answer_at g x.op x.lba x.count b verdict) (outside out);
}
  where
    f : Facts
    f = facts_after items o (before_acceptance list tag)

    g : Facts
    g = facts_after items o (before_move list tag)

    ranges : RangeRows
    ranges = ranges_in_force f

    verdict : Verdict
    verdict = verdict_of ranges x.op x.lba x.count

    law : (is_denied verdict ≡ false → IsAllowed ranges x) × (IsAllowed ranges x → is_denied verdict ≡ false)
    law = (verdict_law ranges x.op x.lba x.count).served

    v : IsByVerdict ranges g x.op x.lba x.count (answer_by g x.op x.lba x.count verdict)
    v = by_verdict ranges g x.op x.lba x.count

    within : IsOnDrive o x → a ≡ answer_by g x.op x.lba x.count verdict
    within fits = is ∙ ap (λ (b : Bool). answer_at g x.op x.lba x.count b verdict) (le-leb (x.lba + x.count) o.tables.config.sectors fits)

    outside : (IsOnDrive o x → ⊥) → on_drive f x.lba x.count ≡ false
    outside out = by_test (on_drive f x.lba x.count) refl
      where
        by_test : (b : Bool) → on_drive f x.lba x.count ≡ b → on_drive f x.lba x.count ≡ false
        by_test true e = absurd (out (leb-true (x.lba + x.count) o.tables.config.sectors e))
        by_test false e = e

    by_place : (b : Bool) → on_drive f x.lba x.count ≡ b → (bytes : List ℕ) → a ≡ answers.Done bytes
        → GivesBytes ranges g x bytes
    by_place true e bytes d =
        v.bytes bytes (sym (is ∙ ap (λ (b : Bool). answer_at g x.op x.lba x.count b verdict) e) ∙ d)
    by_place false e bytes d =
        absurd (not_done (sym (is ∙ ap (λ (b : Bool). answer_at g x.op x.lba x.count b verdict) e) ∙ d))

-- and what it wrote has landed
landed_so : (items : Items) (still : IsForPorts items) (o : Origin) (list : List Step) (tag : ℕ) (x : Transfer) (a : Answer)
    → AreLawful items o list → IsAnswered items o list tag x a
    → x.op ≡ Write → IsDone a
    → HaveData (past_of items o (through_move list tag)) x (payload (trace_of items o list) tag)
landed_so items still o list tag x a lawful is write done =
    (subst (λ (y : Option Transfer). IfSome y (λ z. Lands (past_of items o (through_move list tag)) z (payload ms tag)
    (answer ms tag))) is.asks here.it) write done.0 (is.answers ∙ ap Some done.1)
  where
    ms : List Moment
    ms = trace_of items o list

    here : Landed (past_of items o (through_move list tag)) (payload ms tag) (answer ms tag) (Answered is.put)
    here = landed_by refl refl refl (sym is.stands) (landed items still o list lawful tag)

-- and but for a write that was done nothing moved
unmoved_so : (items : Items) (still : IsForPorts items) (o : Origin) (list : List Step) (tag : ℕ) (x : Transfer) (a : Answer)
    → AreLawful items o list → IsAnswered items o list tag x a
    → (IsDoneWrite x a → ⊥) → MoveNothing (own_past items o list tag)
unmoved_so items still o list tag x a lawful is undone =
    subst (λ (y : Option Transfer). IfSome y (λ z. (IsWritten z (answer ms tag) → ⊥) → MoveNothing (own_past items o list tag)))
    is.asks here.it (λ w. undone (w.0, (w.1.0, same (sym is.answers ∙ w.1.1))))
  where
    ms : List Moment
    ms = trace_of items o list

    same : {b : Answer} → Some a ≡ Some b → a ≡ b
    same e = cc

    here : Unmoved (own_past items o list tag) (answer ms tag) (Answered is.put)
    here = unmoved_by refl refl (sym is.stands) (unmoved items still o list lawful tag)

pub transfer_law : TransferLaw
transfer_law items still o list lawful = record {
  served = λ tag x a is no_reset. served_so items o list tag x a
      (answered_so items still o list tag x a lawful is no_reset)
      (landed_so items still o list tag x a lawful is);
  unmoved = λ tag x a is. unmoved_so items still o list tag x a lawful is;
}

-- what a client takes
there : (x : Option Answer) (d : Answer) → is_some x ≡ true → x ≡ Some (unwrap_or x d)
there None d h = absurd (cc)
there (Some a) d h = refl

pub taken_law : TakenLaw
taken_law items still o list tag lawful put x stands asks = (
  λ no_reset. law.served tag x _ is no_reset,
  λ undone. law.unmoved tag x _ is undone,
)
  where
    law : AreServed items o list
    law = transfer_law items still o list lawful

    is : IsAnswered items o list tag x (unwrap_or (answer (trace_of items o list) tag) no_bytes)
    is = record {
      put = put;
      stands = stands;
      asks = asks;
      answers = there (answer (trace_of items o list) tag) no_bytes
          (answer_law items still o list lawful tag (ap is_answered stands));
    }
