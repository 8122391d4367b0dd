-- One list after three appends.
use Rattle.std.proofs.Common.{◌≡◌, ℕ, List, ◌++◌, append_assoc}

pub appended : (o0 o1 o2 o3 a b c : List ℕ) → o1 ≡ o0 ++ a → o2 ≡ o1 ++ b → o3 ≡ o2 ++ c → o3 ≡ o0 ++ (a ++ b ++ c)
appended o0 o1 o2 o3 a b c h1 h2 h3 = rw (h3, h2, h1) (simp append_assoc)
