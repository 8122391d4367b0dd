-- One piece of a write, by the blocks.
use Rattle.std.proofs.Common.{◌≡◌, Bool, nat_le, nat_lt, ◌&&◌, ℕ, ◌+◌, ◌/◌, ◌%◌, ◌<◌, ◌≤◌, List, ◌++◌, length, take, drop, set, true, refl, sym, ◌∙◌, rules, Option, Some, None}
use Rattle.std.specs.Prelude.{is_some, IfSome, IsTrue, ◌↔◌}
use Rattle.std.proofs.lemmas.List.{places, length-set, get_or-set_same, get_or-set_other}
use Rattle.std.proofs.lemmas.Bool.{cases_eq}
use Rattle.std.proofs.Common.{inl, inr}
use Rattle.shadow_mbr.specs.Stored.{HaveBlocks, has_byte, block_in, kept_byte, byte_after, zeros}
use Rattle.shadow_mbr.specs.Places.{place_at, block_at, blocks_of, blocks_after, AreOwn}
use Rattle.shadow_mbr.proofs.Blocks.{put_bytes, same_none, whole_block}
use Rattle.shadow_mbr.proofs.Touched.{touched, all_touched, between, is_between}
use Rattle.shadow_mbr.proofs.Writes.{sector_written}

put_length : (block bytes : List ℕ) (from : ℕ) → length block ≡ 512 → from + length bytes ≤ 512 → length (take from block ++ bytes ++ drop (from + length bytes) block) ≡ 512
put_length block bytes from whole fits = search (rules, places)

-- One block has other bytes, and no sector another place.
pub own_put : (ps : List (ℕ × ℕ)) (blocks : List (List ℕ)) (q : ℕ) (v : List ℕ) → AreOwn ps blocks → q < length blocks → length v ≡ 512 → AreOwn ps (set blocks q v)
own_put ps blocks q v own below size = record {
  sorted = own.sorted;
  below = λ s p is. rw (length-set blocks q v) (own.below s p is);
  apart = own.apart;
  whole = λ p lt.
      elim (cases_eq p q) [
        | inl same ↦ rw (same, get_or-set_same blocks q v zeros below) size
        | inr apart ↦ rw (get_or-set_other blocks q p v zeros apart) (own.whole p (rw (length-set blocks q v) at lt))
      ];
}

written_one : (ps : List (ℕ × ℕ)) (blocks : List (List ℕ)) (q p : ℕ) (bytes : List ℕ) → AreOwn ps blocks → place_at ps (p / 512) ≡ Some q → p % 512 + length bytes ≤ 512 → AreOwn ps (blocks_after blocks q (p % 512) bytes) × ((place : ℕ) → kept_byte (blocks_of ps (blocks_after blocks q (p % 512) bytes)) place ≡ byte_after p bytes (kept_byte (blocks_of ps blocks) place) place)
written_one ps blocks q p bytes own there fits = (
  own_put ps blocks q _ own (own.below (p / 512) q there) (put_length (block_at blocks q) bytes (p % 512) (own.whole q (own.below (p / 512) q there)) fits),
  sector_written (record { sectors = 0; kept = blocks_of ps blocks }) (record { sectors = 0; kept = blocks_of ps (blocks_after blocks q (p % 512) bytes) }) p bytes fits
      (λ s. whole_block ps blocks s own)
      (put_bytes ps blocks (p / 512) q (p % 512) bytes own there),
)

-- A piece that is written into the block of its sector, which has one.
pub piece_written : (ps : List (ℕ × ℕ)) (first blocks new : List (List ℕ)) (o : Option ℕ) (p : ℕ) (bytes : List ℕ) → AreOwn ps blocks → o ≡ place_at ps (p / 512) → is_some (block_in (blocks_of ps first) (p / 512)) ≡ true → p % 512 + length bytes ≤ 512 → IfSome o (λ q. new ≡ blocks_after blocks q (p % 512) bytes) → AreOwn ps new × ((place : ℕ) → kept_byte (blocks_of ps new) place ≡ byte_after p bytes (kept_byte (blocks_of ps blocks) place) place)
piece_written ps first blocks new None p bytes own at kept fits is = absurd (let no = sym (same_none ps first (p / 512) None at) ∙ kept in cc)
piece_written ps first blocks new (Some q) p bytes own at kept fits is = rw is (written_one ps blocks q p bytes own (sym at) fits)

-- Each sector of some bytes has a block where each of a run has a place.
pub covers_all : (ps : List (ℕ × ℕ)) (blocks : List (List ℕ)) (at len first end : ℕ) (all : Bool) → ((s : ℕ) → has_byte at len s ≡ (nat_le first s && nat_lt s end)) → (IsTrue all ↔ ((s : ℕ) → first ≤ s → s < end → is_some (place_at ps s) ≡ true)) → IsTrue all ↔ HaveBlocks (blocks_of ps blocks) at len
covers_all ps blocks at len first end all touches each = (
  λ is place from below.
      let s : ℕ = place / 512 in
      let inside = between first end s (sym (touches s) ∙ touched at len place from below) in
      same_none ps blocks s (place_at ps s) refl ∙ each.0 is s inside.0 inside.1,
  λ have.
      each.1
      (λ s from below.
      sym (same_none ps blocks s (place_at ps s) refl)
      ∙ all_touched (λ s. is_some (block_in (blocks_of ps blocks) s)) at len have s (touches s ∙ is_between first end s from below)),
)
