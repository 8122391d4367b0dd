-- Where the blocks of sectors stand, by groups of neighbouring sectors.
use Rattle.std.specs.Prelude.{◌≡◌, ℕ, [], ◌∷◌, ◌++◌, ◌+◌, ◌*◌, ◌<◌, List, length, take, drop, set, map, nat_eq, true, false, Option, None, Some, slice_index, slice_index_or, replicate, ◌==◌, if◌then◌else◌}
use Rattle.std.specs.List.{list_any}
use Rattle.std.specs.BTreeMap.{is_at}
use Rattle.std.specs.Map.{lookup, keys_of}
use Rattle.std.specs.List.Sorted.{IsStrictlySortedBy}
use Rattle.std.specs.Ordering.{nat_cmp}
use Rattle.shadow_mbr.specs.Stored.{zeros, sector_size}

-- how many neighbouring sectors are one group
abbrev pub group_size : ℕ
group_size = 16

-- the sectors from one on that have a place, with their places
unfoldable pub placed_from : ℕ → List (Option ℕ) → List (ℕ × ℕ)
placed_from sector [] = []
placed_from sector (None ∷ rest) = placed_from (sector + 1) rest
placed_from sector (Some place ∷ rest) = (sector, place) ∷ placed_from (sector + 1) rest

-- the sectors of all groups that have a place
unfoldable pub placed_in : List (ℕ × List (Option ℕ)) → List (ℕ × ℕ)
placed_in [] = []
placed_in (group ∷ rest) =
    placed_from (group_size * group.0) (take group_size group.1) ++ placed_in rest

-- a group in which no sector has a place
unfoldable pub no_places : List (Option ℕ)
no_places = replicate group_size None

-- the group at an index
abbrev pub group_at : List (List (Option ℕ)) → ℕ → List (Option ℕ)
group_at groups index = slice_index_or groups index []

-- The groups that have a number, with their numbers, where these stand at such indexes.
abbrev pub groups_of : List (ℕ × ℕ) → List (List (Option ℕ)) → List (ℕ × List (Option ℕ))
groups_of indexes groups = map (λ e. (e.0, group_at groups e.1)) indexes

-- the group of a number
abbrev pub group_in : List (ℕ × List (Option ℕ)) → ℕ → Option (List (Option ℕ))
group_in groups number = lookup (is_at (nat_cmp number)) groups

-- the group of one number after that of another became this one
abbrev pub group_after : ℕ → Option (List (Option ℕ)) → Option (List (Option ℕ)) → ℕ
    → Option (List (Option ℕ))
group_after number group before n = if n == number then group else before

-- the place in the group of a sector
abbrev pub in_group : Option (List (Option ℕ)) → ℕ → Option ℕ
in_group None i = None
in_group (Some places) i = slice_index_or places i None

-- how many numbers stand beside the tree of all, each in the one place that it can have
abbrev pub recent_size : ℕ
recent_size = 64

-- where a sector stands
abbrev pub place_at : List (ℕ × ℕ) → ℕ → Option ℕ
place_at places sector = lookup (is_at (nat_cmp sector)) places

-- the block at a place
abbrev pub block_at : List (List ℕ) → ℕ → List ℕ
block_at blocks place = slice_index_or blocks place zeros

-- The blocks after some bytes of one were written, from a byte of it on.
abbrev pub blocks_after : List (List ℕ) → ℕ → ℕ → List ℕ → List (List ℕ)
blocks_after blocks place from bytes =
    let block = block_at blocks place in
    set blocks place (take from block ++ bytes ++ drop (from + length bytes) block)

-- The sectors that have a place, with the blocks that stand there.
abbrev pub blocks_of : List (ℕ × ℕ) → List (List ℕ) → List (ℕ × List ℕ)
blocks_of places blocks = map (λ e. (e.0, block_at blocks e.1)) places

-- The places are sorted by their sectors, and each sector that has one has a block there, which is whole and of no other sector.
pub record AreOwn (places : List (ℕ × ℕ)) (blocks : List (List ℕ)) : Type 0 where
  pub sorted : IsStrictlySortedBy nat_cmp (keys_of places)
  pub below : (sector place : ℕ) → place_at places sector ≡ Some place → place < length blocks
  pub apart : (s t place : ℕ) → place_at places s ≡ Some place → place_at places t ≡ Some place
      → s ≡ t
  pub whole : (place : ℕ) → place < length blocks → length (block_at blocks place) ≡ sector_size

-- The listed sectors stand behind one another, from a place on.
pub record AddsPlaces (old new : List (ℕ × ℕ)) (sectors : List ℕ) (from : ℕ) : Type 0 where
  pub each : (s : ℕ) → list_any (nat_eq s) sectors ≡ true
      → (i : ℕ) × (i < length sectors) × (slice_index sectors i ≡ s)
      × (place_at new s ≡ Some (from + i))
  pub stays : (s : ℕ) → list_any (nat_eq s) sectors ≡ false → place_at new s ≡ place_at old s

-- The groups are sorted by their numbers, and each number has a group, which is of no other number.
pub record AreGrouped (indexes : List (ℕ × ℕ)) (groups : List (List (Option ℕ))) : Type 0 where
  pub sorted : IsStrictlySortedBy nat_cmp (keys_of indexes)
  pub below : (number index : ℕ) → place_at indexes number ≡ Some index → index < length groups
  pub apart : (n m index : ℕ) → place_at indexes n ≡ Some index → place_at indexes m ≡ Some index
      → n ≡ m

-- What stands beside the tree is what the tree says.
abbrev pub AreIndexed : List (ℕ × ℕ) → List (Option (ℕ × ℕ)) → Type 0
AreIndexed indexes recent =
    (i number index : ℕ) → slice_index_or recent i None ≡ Some (number, index)
    → place_at indexes number ≡ Some index
