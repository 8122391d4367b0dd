-- Accesses behind others.
use Rattle.std.proofs.Common.{List, [], ◌∷◌, ◌++◌, subst}
use Rattle.host_memory.specs.Access.{Access, Asked, Laid, Accessed, AreReads, OnlyReads}

pub accessed_append : {M : Type 0} (does : M → Access → M → Type 0) (old middle new : M)
    (xs ys : List Access) → Accessed does old xs middle → Accessed does middle ys new
    → Accessed does old (xs ++ ys) new
accessed_append does old middle new [] ys h g = subst (λ m. Accessed does m ys new) h g
accessed_append does old middle new (x ∷ xs) ys h g =
    (h.0, h.1, accessed_append does h.0 middle new xs ys h.2 g)

pub reads_append : (xs ys : List Access) → AreReads xs → AreReads ys → AreReads (xs ++ ys)
reads_append [] ys h g = g
reads_append (Asked at n answer ∷ xs) ys h g = reads_append xs ys h g
reads_append (Laid at bytes is_done ∷ xs) ys h g = absurd h

-- One read more.
pub only_reads_more : {M : Type 0} (does : M → Access → M → Type 0) (old middle new : M)
    → OnlyReads does old middle → OnlyReads does middle new → OnlyReads does old new
only_reads_more does old middle new h g =
    (h.0 ++ g.0, reads_append h.0 g.0 h.1 g.1, accessed_append does old middle new h.0 g.0 h.2 g.2)
