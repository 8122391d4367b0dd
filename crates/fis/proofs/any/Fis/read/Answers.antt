use Rattle.std.proofs.Common.{sym, subst}
use Rattle.std.specs.Prelude.{List, ℕ}
use Rattle.fis.specs.Fis.{IsWriting}
use Rattle.fis.proofs.Followed.{is_writing_followed}
use Rattle.fis.proofs.any.Fis.read.Goals as goal

pub returns-clause-followed : goal.returns-clause-followed
returns-clause-followed c f written rest h e =
    c.read_front.ensures.only f (subst (λ (bytes : List ℕ). IsWriting bytes f) (sym e) (is_writing_followed written rest f h))
