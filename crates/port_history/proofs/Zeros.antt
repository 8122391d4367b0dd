-- Bytes that are all zero.
use Rattle.std.proofs.Common.{◌≡◌, ℕ, ◌==◌, ◌&&◌, ◌+◌, ◌<◌, true, ◌≤◌, List, [], ◌∷◌, length, replicate, take, drop, get_or, slice_range, refl, ap, ◌∙◌}
use Rattle.std.proofs.lemmas.Bool.{eqb-true, and_parts}
use Rattle.std.proofs.lemmas.List.Folds.{list_all_more, list_all-append, drop_split}
use Rattle.port_history.specs.Replies.{are_zero}

-- they are so many zeros
pub are_zero-replicate : (bytes : List ℕ) → are_zero bytes ≡ true → bytes ≡ replicate (length bytes) 0
are_zero-replicate [] h = refl
are_zero-replicate (byte ∷ bytes) h =
    let parts : ((byte == 0) ≡ true) × (are_zero bytes ≡ true) = and_parts (byte == 0) (are_zero bytes) h in
    let here : byte ≡ 0 = eqb-true byte 0 parts.0 in
    let rest : bytes ≡ replicate (length bytes) 0 = are_zero-replicate bytes parts.1 in
    cc

-- one byte more
pub are_zero_more : (bytes : List ℕ) (i : ℕ) → i < length bytes
    → are_zero (take (i + 1) bytes) ≡ (are_zero (take i bytes) && (get_or bytes i 0 == 0))
are_zero_more bytes i h = list_all_more (λ (byte : ℕ). byte == 0) bytes i 0 h

-- a block, and what stands behind it
pub are_zero_block : (bytes : List ℕ) (at end : ℕ) → at ≤ end → are_zero (drop at bytes) ≡ (are_zero (slice_range bytes at end) && are_zero (drop end bytes))
are_zero_block bytes at end le =
    ap are_zero (drop_split bytes at end le) ∙ list_all-append (λ (byte : ℕ). byte == 0) (slice_range bytes at end) (drop end bytes)
