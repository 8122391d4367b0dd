-- What a drive keeps as the results of a reply.
use Rattle.std.proofs.Common.{◌≡◌, [], ◌∷◌}
use Rattle.tcg_tokens.specs.Tree.{Tree, trees_of}

-- nine values, each of which is said
pub nine : (a b c d e f g h i a' b' c' d' e' f' g' h' i' : Tree) → a ≡ a' → b ≡ b' → c ≡ c' → d ≡ d' → e ≡ e' → f ≡ f' → g ≡ g' → h ≡ h' → i ≡ i'
    → trees_of (a ∷ b ∷ c ∷ d ∷ e ∷ f ∷ g ∷ h ∷ i ∷ []) ≡ trees_of (a' ∷ b' ∷ c' ∷ d' ∷ e' ∷ f' ∷ g' ∷ h' ∷ i' ∷ [])
nine a b c d e f g h i a' b' c' d' e' f' g' h' i' p q r s t u v w x = cc
