-- What a round tells, by its two transfers.
use Rattle.std.proofs.Common.{◌≡◌, ◌↔◌, ◌⊎◌, inl, inr, ℕ, ◌+◌, ◌<◌, ◌%◌, add-one, Bool, true, false, List, [], ◌∷◌, ◌++◌, length, append_assoc, append-nil, sym, ◌∙◌, ap, subst, refl}
use Rattle.port_history.specs.declared.request.Answer.TheVariants.{Done}
use Rattle.port_history.specs.declared.request.Request.{Request}
use Rattle.port_history.specs.declared.request.Request.TheVariants.{Read, Write}
use Rattle.locked_port.specs.declared.ticket.Receipt.{Receipt}
use Rattle.port_threads.specs.Rounds.{filled, steps_of_round, IsTransfer, TellsRound, AreRounds, Made}

-- what a transfer adds and tells
abbrev pub Tells : ℕ → Request → List ℕ → List Receipt → List Receipt → Bool → Type 0
Tells client request bytes old new is_so =
    (put : Receipt) × (taken : Receipt) × (new ≡ old ++ put ∷ taken ∷ [])
    × IsTransfer client request taken.reply put taken × ((is_so ≡ true) ↔ (taken.reply ≡ Done bytes))

pub round_told : (client byte : ℕ) (old mid new : List Receipt) (is_written is_read right : Bool)
    → Tells client (Write client (filled byte)) [] old mid is_written
    → Tells client (Read client 1) (filled byte) mid new is_read
    → ((right ≡ true) ↔ ((is_written ≡ true) × (is_read ≡ true)))
    → (made : List Receipt) × (new ≡ old ++ made) × TellsRound client byte right made
round_told client byte old mid new is_written is_read right w r both = (
  w.0 ∷ w.1 ∷ r.0 ∷ r.1 ∷ [],
  r.2 ∙ ap (λ (xs : List Receipt). xs ++ r.0 ∷ r.1 ∷ []) w.2 ∙ append_assoc old (w.0 ∷ w.1 ∷ []) (r.0 ∷ r.1 ∷ []),
  record {
    wrote = w.1.reply;
    read = r.1.reply;
    round = record {
      put_write = w.0;
      take_write = w.1;
      put_read = r.0;
      take_read = r.1;
      are = refl;
      writes = w.3;
      reads = r.3;
    };
    right = (
      (λ is. (w.4.0 (both.0 is).0, r.4.0 (both.0 is).1)),
      (λ a. both.1 (w.4.1 a.0, r.4.1 a.1)),
    );
  },
)

-- one right round more
pub one_more : (client k n byte : ℕ) (old new last : List Receipt) → AreRounds client n old → new ≡ old ++ last → TellsRound client byte true last → byte ≡ n % 256 → k ≡ client → AreRounds k (n + 1) new
one_more client k n byte old new last rounds is told b same =
    rw add-one (
      old,
      last,
      is,
      subst (λ (x : ℕ). AreRounds x n old) (sym same) rounds,
      subst (λ (x : ℕ). TellsRound x (n % 256) true last) (sym same) (subst (λ (x : ℕ). TellsRound client x true last) b told),
    )

-- all were made
pub all_made : (client n : ℕ) (receipts : List Receipt) → AreRounds client n receipts → Made client n n receipts
all_made client n receipts rounds =
    record { whole = receipts; rest = []; are = sym (append-nil receipts); rounds = rounds; ends = inl (refl, refl) }

-- the round behind them was cut off, or is not right
pub left_off : (client k asked n byte : ℕ) (old new rest : List Receipt) → AreRounds client n old → n < asked → new ≡ old ++ rest → ((length rest < steps_of_round) ⊎ TellsRound client byte false rest) → byte ≡ n % 256 → client ≡ k → Made k asked n new
left_off client k asked n byte old new rest rounds lt is left b same =
    subst (λ (x : ℕ). Made x asked n new) same record {
      whole = old;
      rest = rest;
      are = is;
      rounds = rounds;
      ends = inr (lt, subst (λ (x : ℕ). (length rest < steps_of_round) ⊎ TellsRound client x false rest) b left);
    }

-- of the same transfer, by other names
pub tells_as : (client k : ℕ) (a b : Request) (xs ys : List ℕ) (old new : List Receipt) (is : Bool) → Tells client a xs old new is → client ≡ k → a ≡ b → xs ≡ ys → Tells k b ys old new is
tells_as client k a b xs ys old new is t e f g =
    subst (λ (x : ℕ). Tells x b ys old new is) e
    (subst (λ (x : Request). Tells client x ys old new is) f
    (subst (λ (x : List ℕ). Tells client a x old new is) g t))
