-- Length by length: the parts meet the lists of the whole.
use Rattle.std.proofs.Common.{◌≡◌, ℕ, zero, suc, ◌<◌, ◌≤◌, ◌+◌, ◌*◌, ◌==◌, Bool, true, false, nat_lt, List, [], ◌∷◌, ◌++◌, cond, length, take, refl, sym, ap, ap₂, ◌∙◌, arith, ◌⊎◌, inl, inr}
use Rattle.std.proofs.lemmas.List.{length-take}
use Rattle.std.specs.List.{fold}
use Rattle.sp_cells.specs.Config.{Config}
use Rattle.runs.specs.Lists.{with_longer, lists_of}
use Rattle.runs.specs.Shares.{own_lists, lists_for_each, divided, next_front, front_of, told_in, told_lists}
use Rattle.runs.specs.declared.explored.front.Front.{Front}
use Rattle.runs.specs.declared.explored.search.Search.{Search}
use Rattle.runs.specs.declared.explored.share.Share.{Share}
use Rattle.runs.proofs.explored.PartLists.{Lists, gathered, gathered_same, share_at, own_whole, first_tells, all_longer, longer_is, all_gathered, none_taken, gathered_free, part_within}

abbrev front_with : Lists → Bool → Front
front_with lists is_divided = record { lists = lists; is_divided = is_divided }

module _ (config : Config) (search : Search) (count : ℕ) where
  -- what a part meets, before lists are divided and after
  abbrev met_by : ℕ → ℕ → Front
  met_by number size = front_of config search (share_at count number) size

  abbrev own_of : ℕ → ℕ → Front
  own_of number size = divided (share_at count number) (met_by number size)

  abbrev Whole : ℕ → Type 0
  Whole size = (k : ℕ) → own_of k size ≡ front_with (lists_of config search size) false

  abbrev Apart : ℕ → Type 0
  Apart size = ((k : ℕ) → (own_of k size).is_divided ≡ true)
      × (gathered count (λ k. (own_of k size).lists) ≡ lists_of config search size)

  abbrev Room : ℕ → Type 0
  Room size = (k : ℕ) → 1 ≤ k → k ≤ count → length (met_by k size).lists < search.limit

  abbrev Stand : ℕ → Type 0
  Stand size = (Whole size ⊎ Apart size) × Room size

  -- every part meets these lists
  all_meet : (size : ℕ) → 1 ≤ count → ((k : ℕ) → met_by k size ≡ front_with (lists_of config search size) false)
      → Whole size ⊎ Apart size
  all_meet size some meet = at (nat_lt (length (lists_of config search size)) (lists_for_each * count)) refl
    where
      F : Lists
      F = lists_of config search size

      at : (t : Bool) → nat_lt (length (lists_of config search size)) (lists_for_each * count) ≡ t → Whole size ⊎ Apart size
      at true is = inl (λ k.
          ap (divided (share_at count k)) (meet k)
          ∙ ap (λ t. cond t (front_with (lists_of config search size) false)
          (front_with (own_lists (share_at count k) (lists_of config search size)) true)) is)
      at false is =
          let own : (k : ℕ) → own_of k size ≡ front_with (own_lists (share_at count k) (lists_of config search size)) true =
          λ k.
          ap (divided (share_at count k)) (meet k)
          ∙ ap (λ t. cond t (front_with (lists_of config search size) false)
          (front_with (own_lists (share_at count k) (lists_of config search size)) true)) is in
          inr (
            λ k. ap (λ (f : Front). f.is_divided) (own k),
            gathered_same count (λ k. (own_of k size).lists) (λ k. own_lists (share_at count k) (lists_of config search size))
                (λ k. ap (λ (f : Front). f.lists) (own k))
                ∙ own_whole count (lists_of config search size) some,
          )

  meets_next : (k size : ℕ) → met_by k (suc size) ≡ next_front config search (own_of k size)
  unfolding front_of
  meets_next k size = refl

  meets_first : (k : ℕ) → met_by k 0 ≡ front_with (lists_of config search 0) false
  unfolding front_of lists_of
  meets_first k = refl

  lists_next : (size : ℕ) → lists_of config search (suc size) ≡ fold (with_longer config search) [] (lists_of config search size)
  unfolding lists_of
  lists_next size = refl

  stand_first : 1 ≤ count → length (lists_of config search 0) < search.limit → Stand 0
  stand_first some room = (
    all_meet 0 some meets_first,
    λ k a b. omega (arith, room, ap (λ (f : Front). length f.lists) (meets_first k)),
  )

  -- lists that were divided stay so
  stays_divided : (k size : ℕ) → (own_of k size).is_divided ≡ true → own_of k (suc size) ≡ next_front config search (own_of k size)
  stays_divided k size is =
      ap (divided (share_at count k)) (meets_next k size)
      ∙ at (own_of k size) is
    where
      at : (f : Front) → f.is_divided ≡ true → divided (share_at count k) (next_front config search f) ≡ next_front config search f
      at f is = rw is refl

  stand_whole : (size : ℕ) → 1 ≤ count → length (lists_of config search (suc size)) < search.limit → Whole size → Stand (suc size)
  stand_whole size some room whole =
      let meet : (k : ℕ) → met_by k (suc size) ≡ front_with (lists_of config search (suc size)) false =
      λ k.
      meets_next k size
      ∙ ap (next_front config search) (whole k)
      ∙ ap (λ l. front_with l false) (sym (lists_next size)) in (
        all_meet (suc size) some meet,
        λ k a b. omega (arith, room, ap (λ (f : Front). length f.lists) (meet k)),
      )

  stand_apart : (size : ℕ) → 1 ≤ count → length (lists_of config search (suc size)) < search.limit → Apart size → Stand (suc size)
  stand_apart size some room apart =
      let part : ℕ → Lists = λ k. (own_of k size).lists in
      let limited : lists_of config search (suc size) ≡ take search.limit (all_longer config search (lists_of config search size)) =
      lists_next size ∙ longer_is config search (lists_of config search size) in
      let whole : lists_of config search (suc size) ≡ all_longer config search (lists_of config search size) =
      limited
      ∙ none_taken search.limit (all_longer config search (lists_of config search size)) (omega (arith, room, ap length limited)) in
      let together : gathered count (λ k. all_longer config search (part k)) ≡ lists_of config search (suc size) =
      sym (all_gathered config search count part)
      ∙ ap (all_longer config search) apart.1
      ∙ sym whole in
      let less : length (gathered count (λ k. all_longer config search (part k))) < search.limit = omega (arith, room, ap length together) in
      let own : (k : ℕ) → own_of k (suc size) ≡ next_front config search (own_of k size) = λ k. stays_divided k size (apart.0 k) in (
        inr (
          λ k. ap (λ (f : Front). f.is_divided) (own k) ∙ apart.0 k,
          gathered_same count (λ k. (own_of k (suc size)).lists) (λ k. take search.limit (all_longer config search (part k)))
              (λ k. ap (λ (f : Front). f.lists) (own k) ∙ longer_is config search (part k))
              ∙ gathered_free count search.limit (λ k. all_longer config search (part k)) less
              ∙ together,
        ),
        λ k a b.
            omega (
              arith,
              less,
              part_within count k (λ k. all_longer config search (part k)) a b,
              length-take search.limit (all_longer config search (part k)),
              ap (λ (f : Front). length f.lists) (meets_next k size),
              ap length (longer_is config search (part k)),
            ),
      )

  pub stands : (size : ℕ) → 1 ≤ count → ((s : ℕ) → s ≤ size → length (lists_of config search s) < search.limit) → Stand size
  stands zero some room = stand_first some (room 0 (omega arith))
  stands (suc size) some room =
      at (stands size some (λ s less. room s (omega (arith, less))))
    where
      at : Stand size → Stand (suc size)
      at (inl whole, _) = stand_whole size some (room (suc size) (omega arith)) whole
      at (inr apart, _) = stand_apart size some (room (suc size) (omega arith)) apart

  -- what the parts tell of is the whole
  pub all_told : (size : ℕ) → 1 ≤ count → Stand size
      → gathered count (λ k. told_lists config search (share_at count k) size) ≡ lists_of config search size
  all_told size some (inl whole, room) =
      gathered_same count (λ k. told_lists config search (share_at count k) size) (λ k. cond (k == 1) (lists_of config search size) [])
      (λ k. ap (told_in (share_at count k)) (whole k))
      ∙ first_tells count (lists_of config search size) some
  all_told size some (inr apart, room) =
      gathered_same count (λ k. told_lists config search (share_at count k) size) (λ k. (own_of k size).lists)
      (λ k. at k (own_of k size) (apart.0 k))
      ∙ apart.1
    where
      at : (k : ℕ) (f : Front) → f.is_divided ≡ true → told_in (share_at count k) f ≡ f.lists
      at k f is = rw is refl
