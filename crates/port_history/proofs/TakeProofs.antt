-- A client takes its own answers, and is refused none of them.
use Rattle.std.proofs.Common.{◌≡◌, ◌∙◌, ℕ, ◌==◌, ◌<◌, Bool, true, false, not, nat_lt, List, [], ◌∷◌, length, if◌then◌else◌, Option, Some, None, refl, sym, ap, arith, eqb-true, eq-eqb}
use Rattle.std.specs.Prelude.{unwrap_or, option_map}
use Rattle.std.proofs.lemmas.Bool.Decides.{nat_tests}
use Rattle.fis.specs.Tags.{slot_count}
use Rattle.history.specs.Opening.{Origin}
use Rattle.history.specs.Tcg.{tcg}
use Rattle.port_history.proofs.Acted.{tcg_for_ports}
use Rattle.port_history.specs.declared.error.PortError.TheVariants.{HistoryFull, NotAnswered, NotYours}
use Rattle.port_history.specs.declared.request.Answer.{Answer}
use Rattle.port_history.specs.declared.stages.Put.{Put}
use Rattle.port_history.specs.declared.stages.Stage.{Stage}
use Rattle.port_history.specs.declared.stages.Stage.TheVariants.{Free, Prepared, Issued, Accepted, Answered}
use Rattle.port_history.specs.declared.step.Step.{Step}
use Rattle.port_history.specs.declared.step.Step.TheVariants as steps
use Rattle.port_history.specs.Requests.{no_bytes}
use Rattle.port_history.specs.Stages.{is_queued_command, put_at, to, accepted_stage, recovered, stage_after_reset, is_answered, is_put_by}
use Rattle.port_history.specs.Steps.{trace, stage, failed, is_tag, answer}
use Rattle.port_history.specs.Refusals.{first_refusal, most_steps, refusal}
use Rattle.port_history.specs.Laws.{owner, TakeLaw, OwnLaw}
use Rattle.port_history.proofs.AnswerProofs.{answer_law}
use Rattle.port_history.proofs.Tests.{some_is, was_true, none_holds, tests_of, with_room}

-- The client of a stage's Put.
abbrev client_in : Stage → Option ℕ
client_in s = option_map (λ (put : Put). put.client) (put_at s)

-- a Put and a Take say it anew, of their slot
said_anew : (b : Bool) (next s : Stage) (x : Option ℕ) → client_in s ≡ x
    → client_in (if b then next else s) ≡ unwrap_or (if b then Some (client_in next) else None) x
said_anew true next s x was = refl
said_anew false next s x was = was

-- no other step changes the Put
issued_keeps : (b : Bool) (s : Stage) → client_in (if b then to Issued s else s) ≡ client_in s
issued_keeps false s = refl
issued_keeps true Free = refl
issued_keeps true (Prepared put) = refl
issued_keeps true (Issued put) = refl
issued_keeps true (Accepted put) = refl
issued_keeps true (Answered put) = refl

queued_or_not : (put : Put) (b : Bool)
    → client_in (if b then Accepted put else Answered put) ≡ Some put.client
queued_or_not put true = refl
queued_or_not put false = refl

accepted_keeps : (b : Bool) (s : Stage)
    → client_in (if b then to accepted_stage s else s) ≡ client_in s
accepted_keeps false s = refl
accepted_keeps true Free = refl
accepted_keeps true (Prepared put) = queued_or_not put (is_queued_command put.command)
accepted_keeps true (Issued put) = queued_or_not put (is_queued_command put.command)
accepted_keeps true (Accepted put) = queued_or_not put (is_queued_command put.command)
accepted_keeps true (Answered put) = queued_or_not put (is_queued_command put.command)

completed_keeps : (b : Bool) (s : Stage) → client_in (if b then to Answered s else s) ≡ client_in s
completed_keeps false s = refl
completed_keeps true Free = refl
completed_keeps true (Prepared put) = refl
completed_keeps true (Issued put) = refl
completed_keeps true (Accepted put) = refl
completed_keeps true (Answered put) = refl

recovered_keeps : (fails : Bool) (s : Stage) → client_in (recovered fails s) ≡ client_in s
recovered_keeps fails Free = refl
recovered_keeps fails (Prepared put) = refl
recovered_keeps true (Issued put) = refl
recovered_keeps false (Issued put) = refl
recovered_keeps true (Accepted put) = refl
recovered_keeps false (Accepted put) = refl
recovered_keeps fails (Answered put) = refl

reset_keeps : (s : Stage) → client_in (stage_after_reset s) ≡ client_in s
reset_keeps Free = refl
reset_keeps (Prepared put) = refl
reset_keeps (Issued put) = refl
reset_keeps (Accepted put) = refl
reset_keeps (Answered put) = refl

-- The stage of a tag has the client that the steps say, after any list of steps.
owner_is : (o : Origin) (list : List Step) (tag : ℕ)
    → client_in (stage (trace o list) tag) ≡ owner list tag
owner_is o [] tag = refl
owner_is o (steps.Put client u request ∷ before) tag =
    said_anew (u == tag) (Prepared _) (stage (trace o before) tag) (owner before tag)
    (owner_is o before tag)
owner_is o (steps.Issue u ∷ before) tag =
    issued_keeps (u == tag) (stage (trace o before) tag) ∙ owner_is o before tag
owner_is o (steps.Accept u ∷ before) tag =
    accepted_keeps (u == tag) (stage (trace o before) tag) ∙ owner_is o before tag
owner_is o (steps.Complete u ∷ before) tag =
    completed_keeps (u == tag) (stage (trace o before) tag) ∙ owner_is o before tag
owner_is o (steps.Recover ∷ before) tag =
    recovered_keeps (is_tag tag (failed (trace o before))) (stage (trace o before) tag)
    ∙ owner_is o before tag
owner_is o (steps.Reset client kind ∷ before) tag =
    reset_keeps (stage (trace o before) tag) ∙ owner_is o before tag
owner_is o (steps.Take client u ∷ before) tag =
    said_anew (u == tag) Free (stage (trace o before) tag) (owner before tag)
    (owner_is o before tag)

-- a stage is put by a client where that is its client
put_by_client : (client : ℕ) (s : Stage) → is_put_by client (put_at s) ≡ true
    → client_in s ≡ Some client
put_by_client client Free is = absurd cc
put_by_client client (Prepared put) is = ap Some (eqb-true put.client client is)
put_by_client client (Issued put) is = ap Some (eqb-true put.client client is)
put_by_client client (Accepted put) is = ap Some (eqb-true put.client client is)
put_by_client client (Answered put) is = ap Some (eqb-true put.client client is)

same_client : (a client : ℕ) → Some a ≡ Some client → (a == client) ≡ true
same_client a client is = let e : a ≡ client = cc in eq-eqb a client e

client_put_by : (client : ℕ) (s : Stage) → client_in s ≡ Some client
    → is_put_by client (put_at s) ≡ true
client_put_by client Free is = absurd cc
client_put_by client (Prepared put) is = same_client put.client client is
client_put_by client (Issued put) is = same_client put.client client is
client_put_by client (Accepted put) is = same_client put.client client is
client_put_by client (Answered put) is = same_client put.client client is

pub take_law : TakeLaw
take_law o client tag before h =
    let ms = trace o before in
    let t = none_holds (tests_of ms (steps.Take client tag)) h.1 in
    let answered = was_true (is_answered (stage ms tag)) t.1.0 in
    let mine = was_true (is_put_by client (put_at (stage ms tag))) t.1.1.0 in
    let a = some_is (answer ms tag) (answer_law tcg tcg_for_ports o before h.2 tag answered) in
    record {
      owns = sym (owner_is o before tag) ∙ put_by_client client (stage ms tag) mine;
      answered = answered;
      its_answer = a.0;
      stands = a.1;
      gets = ap (λ (x : Option Answer). unwrap_or x no_bytes) a.1;
    }

-- where no test holds
unrefused : (full unanswered others : Bool) → full ≡ true → unanswered ≡ true → others ≡ true
    → first_refusal ((not full, HistoryFull) ∷ (not unanswered, NotAnswered)
    ∷ (not others, NotYours) ∷ [])
    ≡ None
unrefused full unanswered others a b c = rw (a, b, c) refl

is_below : (n m : ℕ) → n < m → nat_lt n m ≡ true
is_below n m h = grind (arith, nat_tests)

pub own_law : OwnLaw
own_law o client tag before lawful within room owns answered =
    let ms = trace o before in
    let step = steps.Take client tag in
    let goes : refusal ms step ≡ None =
    unrefused (nat_lt (length ms) most_steps) (is_answered (stage ms tag))
    (is_put_by client (put_at (stage ms tag))) (is_below (length ms) most_steps room) answered
    (client_put_by client (stage ms tag) (owner_is o before tag ∙ owns)) in
    (goes, (is_below tag slot_count within, with_room ms step goes, lawful))
