-- What every lawful list keeps of transfers, tag by tag: what is held will be answered as its
-- acceptance says, and what is answered was.
use Rattle.std.proofs.Common.{◌≡◌, ◌∙◌, ◌⊎◌, ℕ, ◌==◌, Bool, true, false, if◌then◌else◌, Option, Some, None, refl, sym, ap, subst, inl, inr}
use Rattle.std.specs.Prelude.{unwrap_or, IfSome}
use Rattle.device_data.specs.declared.log_page.Failure.{Failure}
use Rattle.trusted_cmds.specs.declared.command.Command.{Command}
use Rattle.history.specs.Answers.{held_data}
use Rattle.history.specs.Events.{HeldCommand}
use Rattle.history.specs.Facts.{Facts}
use Rattle.port_history.specs.declared.request.Answer.{Answer}
use Rattle.port_history.specs.declared.request.Answer.TheVariants as answers
use Rattle.port_history.specs.declared.stages.Put.{Put}
use Rattle.port_history.specs.declared.stages.Stage.{Stage}
use Rattle.port_history.specs.declared.stages.Stage.TheVariants.{Free, Prepared, Issued, Accepted, Answered}
use Rattle.port_history.specs.Stages.{to, recovered, stage_after_reset, is_pending}
use Rattle.port_history.specs.Steps.{is_tag, recovered_answer}
use Rattle.headline.specs.Transfers.{Transfer, transfer_of}
use Rattle.headline.proofs.Came.{answer_to}

-- It is held, and will be done with what is moved then.
pub record IsHeldAs (f : Facts) (x : Transfer) (h : Option HeldCommand) : Type 0 where
  pub held : HeldCommand
  pub is : h ≡ Some held
  pub comes : (g : Facts) → answer_to f g x ≡ answers.Done (held_data g held)

-- It failed the queue, with the error of its answer.
pub record IsFailedAs (f : Facts) (x : Transfer) (failing : Option Failure) : Type 0 where
  pub failure : Failure
  pub is : failing ≡ Some failure
  pub comes : (g : Facts) → answer_to f g x ≡ answers.Failed 0x51 failure.error

-- It is answered by a reset, or as it came.
abbrev pub IsSettled : Facts → Facts → Command → Option Answer → Type 0
IsSettled f g command a =
    IfSome (transfer_of command) (λ x. (a ≡ Some answers.Reset) ⊎ (a ≡ Some (answer_to f g x)))

abbrev pub IsWaiting : ℕ → Option ℕ → Option Failure → Option HeldCommand → Facts → Command → Type 0
IsWaiting tag None failing h f command = IfSome (transfer_of command) (λ x. IsHeldAs f x h)
IsWaiting tag (Some u) failing h f command =
    u == tag ≡ true → IfSome (transfer_of command) (λ x. IsFailedAs f x failing)

-- By the stage of a tag; with the tag that failed, the failure of the queue, what is held, the facts
-- at its acceptance and at its move, and its answer.
abbrev pub ComesOf : ℕ → Option ℕ → Option Failure → Option HeldCommand → Facts → Facts → Option Answer → Stage → Type 0
ComesOf tag failed failing h f g a Free = Unit {0}
ComesOf tag failed failing h f g a (Prepared put) = Unit {0}
ComesOf tag failed failing h f g a (Issued put) = is_tag tag failed ≡ false
ComesOf tag failed failing h f g a (Accepted put) = IsWaiting tag failed failing h f put.command
ComesOf tag failed failing h f g a (Answered put) =
    (is_tag tag failed ≡ false) × IsSettled f g put.command a

pub record Comes (tag : ℕ) (failed : Option ℕ) (failing : Option Failure) (h : Option HeldCommand) (f g : Facts) (a : Option Answer) (s : Stage) : Type 0 where
  pub it : ComesOf tag failed failing h f g a s

-- Put and Take.
pub comes_put : (b : Bool) (put : Put) {tag : ℕ} {u : Option ℕ} {failing : Option Failure} {h : Option HeldCommand} {f g : Facts} {a : Option Answer} {s : Stage}
    → Comes tag u failing h f g a s
    → Comes tag u failing h f g (unwrap_or (if b then Some None else None) a) (if b then Prepared put else s)
comes_put true put k = record { it = tt }
comes_put false put k = k

pub comes_take : (b : Bool) {tag : ℕ} {u : Option ℕ} {failing : Option Failure} {h : Option HeldCommand} {f g : Facts} {a : Option Answer} {s : Stage}
    → Comes tag u failing h f g a s
    → Comes tag u failing h f g (unwrap_or (if b then Some None else None) a) (if b then Free else s)
comes_take true k = record { it = tt }
comes_take false k = k

-- Issue, of a port that has not failed.
pub comes_issue : (b : Bool) (tag : ℕ) (u : Option ℕ) (failing : Option Failure) (h : Option HeldCommand) (f g : Facts) (a : Option Answer) (s : Stage)
    → u ≡ None → Comes tag u failing h f g a s
    → Comes tag u failing h f g a (if b then to Issued s else s)
comes_issue true tag u failing h f g a Free none k = record { it = tt }
comes_issue true tag u failing h f g a (Prepared put) none k = record { it = ap (is_tag tag) none }
comes_issue true tag u failing h f g a (Issued put) none k = record { it = ap (is_tag tag) none }
comes_issue true tag u failing h f g a (Accepted put) none k = record { it = ap (is_tag tag) none }
comes_issue true tag u failing h f g a (Answered put) none k = record { it = ap (is_tag tag) none }
comes_issue false tag u failing h f g a s none k = k

-- An act for another tag: what is held stays; or the queue fails by that tag.
pub comes_beside : (tag : ℕ) (failing failing' : Option Failure) (h h' : Option HeldCommand) (f g : Facts) (a : Option Answer) (s : Stage)
    → h' ≡ h → Comes tag None failing h f g a s → Comes tag None failing' h' f g a s
comes_beside tag failing failing' h h' f g a Free same k = record { it = tt }
comes_beside tag failing failing' h h' f g a (Prepared put) same k = record { it = tt }
comes_beside tag failing failing' h h' f g a (Issued put) same k = record { it = refl }
comes_beside tag failing failing' h h' f g a (Accepted put) same k =
    record { it = subst (λ (y : Option HeldCommand). IsWaiting tag None failing y f put.command) (sym same) k.it }
comes_beside tag failing failing' h h' f g a (Answered put) same k = record { it = (refl, k.it.1) }

pub comes_failed : (tag u : ℕ) (failing failing' : Option Failure) (h h' : Option HeldCommand) (f g : Facts) (a : Option Answer) (s : Stage)
    → u == tag ≡ false → Comes tag None failing h f g a s → Comes tag (Some u) failing' h' f g a s
comes_failed tag u failing failing' h h' f g a Free other k = record { it = tt }
comes_failed tag u failing failing' h h' f g a (Prepared put) other k = record { it = tt }
comes_failed tag u failing failing' h h' f g a (Issued put) other k = record { it = other }
comes_failed tag u failing failing' h h' f g a (Accepted put) other k =
    record { it = λ same. absurd (clash (sym other ∙ same)) }
  where
    clash : false ≡ true → ⊥
    clash e = cc
comes_failed tag u failing failing' h h' f g a (Answered put) other k = record { it = (other, k.it.1) }

-- Recover: the tag that failed is answered as the drive keeps its failure.
recovered_now : (f g : Facts) (command : Command) (failing : Option Failure) (a : Option Answer)
    → IfSome (transfer_of command) (λ x. IsFailedAs f x failing)
    → IsSettled f g command (unwrap_or (recovered_answer failing) a)
recovered_now f g command failing a k = by_transfer (transfer_of command) k
  where
    by_transfer : (t : Option Transfer) → IfSome t (λ x. IsFailedAs f x failing)
        → IfSome t (λ x. (unwrap_or (recovered_answer failing) a ≡ Some answers.Reset)
        ⊎ (unwrap_or (recovered_answer failing) a ≡ Some (answer_to f g x)))
    by_transfer None n = tt
    by_transfer (Some x) n =
        inr (ap (λ (y : Option Failure). unwrap_or (recovered_answer y) a) n.is ∙ ap Some (sym (n.comes g)))

pub comes_recover : (b : Bool) (tag u : ℕ) (failing failing' : Option Failure) (h h' : Option HeldCommand) (f g : Facts) (a : Option Answer) (s : Stage)
    → u == tag ≡ b → Comes tag (Some u) failing h f g a s
    → Comes tag None failing' h' f g (unwrap_or (if b then recovered_answer failing else None) a) (recovered b s)
comes_recover b tag u failing failing' h h' f g a Free is k = record { it = tt }
comes_recover b tag u failing failing' h h' f g a (Prepared put) is k = record { it = tt }
comes_recover true tag u failing failing' h h' f g a (Issued put) is k = absurd (clash (sym is ∙ k.it))
  where
    clash : true ≡ false → ⊥
    clash e = cc
comes_recover false tag u failing failing' h h' f g a (Issued put) is k = record { it = tt }
comes_recover true tag u failing failing' h h' f g a (Accepted put) is k =
    record { it = (refl, recovered_now f g put.command failing a (k.it is)) }
comes_recover false tag u failing failing' h h' f g a (Accepted put) is k = record { it = tt }
comes_recover true tag u failing failing' h h' f g a (Answered put) is k = absurd (clash (sym is ∙ k.it.0))
  where
    clash : true ≡ false → ⊥
    clash e = cc
comes_recover false tag u failing failing' h h' f g a (Answered put) is k = record { it = (refl, k.it.1) }

-- Reset: all that wait are answered by it.
stopped : (f g : Facts) (command : Command) → IsSettled f g command (Some answers.Reset)
stopped f g command = by_transfer (transfer_of command)
  where
    by_transfer : (t : Option Transfer)
        → IfSome t (λ x. (Some answers.Reset ≡ Some answers.Reset) ⊎ (Some answers.Reset ≡ Some (answer_to f g x)))
    by_transfer None = tt
    by_transfer (Some x) = inl refl

pub comes_reset : (tag : ℕ) (u : Option ℕ) (failing failing' : Option Failure) (h h' : Option HeldCommand) (f g : Facts) (a : Option Answer) (s : Stage)
    → Comes tag u failing h f g a s
    → Comes tag None failing' h' f g (unwrap_or (if is_pending s then Some (Some answers.Reset) else None) a) (stage_after_reset s)
comes_reset tag u failing failing' h h' f g a Free k = record { it = tt }
comes_reset tag u failing failing' h h' f g a (Prepared put) k = record { it = (refl, stopped f g put.command) }
comes_reset tag u failing failing' h h' f g a (Issued put) k = record { it = (refl, stopped f g put.command) }
comes_reset tag u failing failing' h h' f g a (Accepted put) k = record { it = (refl, stopped f g put.command) }
comes_reset tag u failing failing' h h' f g a (Answered put) k = record { it = (refl, k.it.1) }
