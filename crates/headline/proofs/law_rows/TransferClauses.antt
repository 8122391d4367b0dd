-- What each clause of the law of transfers says of a list. The clause alone is taken, so each fails where it says less.
use Rattle.std.proofs.Common.{◌≡◌, ◌∙◌, ℕ, ◌+◌, ◌≤◌, arith, false, List, [], replicate, refl, subst, inl, inr}
use Rattle.sp_tables.specs.Factory.{admin_sps, admin_authorities, locking_authorities, admin_pins, locking_pins, locking_ranges, locking_mbr_controls, admin_aces, authority_aces, pin_aces, range_get_aces, range_aces, mbr_aces}
use Rattle.ace_eval.specs.Access.{this_sp_grants, owner_grants, authority_grants, fixed_ace_gets, user_ace_grants, read_locked_ace_grants, write_locked_ace_grants, done_ace_grants, pin_grants, range_get_ace_grants, range_get_grants, range_set_grants, mbr_grants}
use Rattle.locking.specs.Range.{is_shadowed}
use Rattle.locking.specs.Ranges.{ranges_in}
use Rattle.locking.specs.Verdict.{verdict_of, is_permitted, AreOpen}
use Rattle.locking.specs.declared.range.Op.TheVariants as ops
use Rattle.shadow_mbr.specs.Stored.{zeros, sectors_from}
use Rattle.transactions.specs.Resets.{is_range}
use Rattle.trusted_cmds.specs.declared.command.Command.TheVariants as commands
use Rattle.history.specs.Decisions.{any_below}
use Rattle.history.specs.Readers.{sector}
use Rattle.history.specs.Tcg.{tcg}
use Rattle.port_history.specs.declared.request.Answer.{Answer}
use Rattle.port_history.specs.declared.request.Answer.TheVariants as answers
use Rattle.port_history.specs.declared.stages.Put.{Put}
use Rattle.headline.specs.Steps.{past_of, facts_after, before_acceptance, before_move, through_move, ranges_after, own_past}
use Rattle.headline.specs.Transfers.{Transfer, IsServed, IsAllowed, IsServedAnswer, MoveNothing}
use Rattle.headline.proofs.law_rows.Lists.{locked, into_range, beyond, written, not_both}

abbrev read : ℕ → ℕ → Transfer
read lba count = record { op = ops.Read; lba = lba; count = count }

abbrev write : ℕ → ℕ → Transfer
write lba count = record { op = ops.Write; lba = lba; count = count }

-- By its rows sector 109 is locked, and not shadowed; so the read is not allowed.
sector_109 : (is_permitted (ranges_after tcg locked (before_acceptance into_range 0)) ops.Read 109 ≡ false)
    × (is_shadowed (ranges_after tcg locked (before_acceptance into_range 0)) 109 ≡ false)
unfolding admin_sps admin_authorities locking_authorities admin_pins locking_pins locking_ranges locking_mbr_controls admin_aces authority_aces pin_aces range_get_aces range_aces mbr_aces this_sp_grants owner_grants authority_grants fixed_ace_gets user_ace_grants read_locked_ace_grants write_locked_ace_grants done_ace_grants pin_grants range_get_ace_grants range_get_grants range_set_grants mbr_grants any_below ranges_in verdict_of is_range zeros sectors_from
sector_109 = (refl, refl)

not_allowed : IsAllowed (ranges_after tcg locked (before_acceptance into_range 0)) (read 109 2) → ⊥
not_allowed (inl p) = not_both (p.1 109 (omega arith) (omega arith)) sector_109.0
not_allowed (inr p) = not_both (p.1 109 (omega arith) (omega arith)) sector_109.1

-- `denied`: it is answered 51h 04h.
denied_says : (a : Answer) → IsServed tcg locked into_range 0 (read 109 2) a → a ≡ answers.Failed 0x51 0x04
denied_says a served = served.denied on_drive not_allowed
  where
    on_drive : 109 + 2 ≤ 1000
    on_drive = omega arith

-- `served`: it is not done.
served_says : (a : Answer) (bytes : List ℕ) → IsServed tcg locked into_range 0 (read 109 2) a
    → a ≡ answers.Done bytes → ⊥
served_says a bytes served done = not_allowed ((served.served on_drive).0 (bytes, done))
  where
    on_drive : 109 + 2 ≤ 1000
    on_drive = omega arith

-- `beyond`: two sectors from the last one on are answered 51h 10h.
beyond_says : (a : Answer) → IsServed tcg locked beyond 0 (read 999 2) a → a ≡ answers.Failed 0x51 0x10
beyond_says a served = served.beyond not_on_drive
  where
    not_on_drive : 999 + 2 ≤ 1000 → ⊥
    not_on_drive on = omega (arith, on)

-- `bytes`: the read behind the write gives what was written, and the write gives none.
sector_110 : (is_shadowed (ranges_after tcg locked (before_acceptance written 1)) 110 ≡ false)
    × (sectors_from (facts_after tcg locked (before_move written 1)).sector 110 1 ≡ replicate 512 0xaa)
unfolding admin_sps admin_authorities locking_authorities admin_pins locking_pins locking_ranges locking_mbr_controls admin_aces authority_aces pin_aces range_get_aces range_aces mbr_aces this_sp_grants owner_grants authority_grants fixed_ace_gets user_ace_grants read_locked_ace_grants write_locked_ace_grants done_ace_grants pin_grants range_get_ace_grants range_get_grants range_set_grants mbr_grants any_below ranges_in verdict_of is_range zeros sectors_from
sector_110 = (refl, refl)

is_open : AreOpen (ranges_after tcg locked (before_acceptance written 1)) 110 (110 + 1)
is_open k from to =
    let e : 110 ≡ k = omega (arith, from, to) in
    subst (λ (n : ℕ). is_shadowed (ranges_after tcg locked (before_acceptance written 1)) n ≡ false) e sector_110.0

media_says : (bytes : List ℕ) → IsServed tcg locked written 1 (read 110 1) (answers.Done bytes)
    → bytes ≡ replicate 512 0xaa
media_says bytes served = (served.bytes bytes refl).media refl is_open ∙ sector_110.1

write_says : (bytes : List ℕ) → IsServed tcg locked written 0 (write 110 1) (answers.Done bytes) → bytes ≡ []
write_says bytes served = (served.bytes bytes refl).write refl

-- `written`: media have the data behind it.
written_says : (bytes : List ℕ) → IsServed tcg locked written 0 (write 110 1) (answers.Done bytes)
    → sector (past_of tcg locked (through_move written 0)) 110 ≡ replicate 512 0xaa
unfolding admin_sps admin_authorities locking_authorities admin_pins locking_pins locking_ranges locking_mbr_controls admin_aces authority_aces pin_aces range_get_aces range_aces mbr_aces this_sp_grants owner_grants authority_grants fixed_ace_gets user_ace_grants read_locked_ace_grants write_locked_ace_grants done_ace_grants pin_grants range_get_ace_grants range_get_grants range_set_grants mbr_grants any_below ranges_in verdict_of is_range zeros sectors_from
written_says bytes served = served.written refl (bytes, refl) 0 (omega arith)

-- And of what a client takes: the same, and a read moves nothing.
abbrev its_put : Put
its_put = record { client = 1; number = 1; command = commands.ReadDma 109 2 }

taken_says : (a : Answer) → IsServedAnswer tcg locked into_range 0 a → (a ≡ answers.Reset → ⊥)
    → (a ≡ answers.Failed 0x51 0x04) × MoveNothing (own_past tcg locked into_range 0)
unfolding admin_sps admin_authorities locking_authorities admin_pins locking_pins locking_ranges locking_mbr_controls admin_aces authority_aces pin_aces range_get_aces range_aces mbr_aces this_sp_grants owner_grants authority_grants fixed_ace_gets user_ace_grants read_locked_ace_grants write_locked_ace_grants done_ace_grants pin_grants range_get_ace_grants range_get_grants range_set_grants mbr_grants any_below ranges_in verdict_of is_range zeros sectors_from
taken_says a taken answered =
    let law = taken its_put (read 109 2) refl refl in
    (denied_says a (law.0 answered), law.1 (λ done. no_write done.0))
  where
    no_write : ops.Read ≡ ops.Write → ⊥
    no_write e = cc
