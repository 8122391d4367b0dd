use Rattle.std.proofs.Common.{rules, ◌≡◌, ℕ, Some, if◌then◌else◌, nat_eq, subst, sym}
use Rattle.std.specs.Map.{lookup}
use Rattle.sessions.specs.Live.{Live, HasNoSession}
use Rattle.sessions.proofs.LiveLemmas.{apart_more}
use Rattle.sessions.proofs.live.Sessions.begin.Goals as goal

pub invariant_of-self-2 : goal.invariant_of-self-2
invariant_of-self-2 c =
    let points : (n : ℕ) → lookup (nat_eq n) c.insert.new.self.entries ≡ (if nat_eq n c.self.inside.next then Some c.args.session else lookup (nat_eq n) c.self.inside.live.entries) = λ n. search rules in
    (λ n le. search rules, apart_more c.self.inside.next c.args.session c.self.inside.live.entries _ points (subst (λ (l : Live). HasNoSession c.args.session.sp l.sessions) (sym c.self.view_is) c.requires.free) c.self.invariant.1)
