-- What each clause of the laws of items and of transfers of `history` says: of the items of this drive, of a transfer that
-- comes to the policy, and of what is held.
use Rattle.std.proofs.Common.{◌≡◌, ℕ, ◌+◌, ◌<◌, true, false, List, [], ◌∷◌, ◌++◌, length, get_or, Option, Some, None, Ok, refl, sym, inl, inr, arith, ap, ◌∙◌}
use Rattle.sp_cells.specs.Config.{Config}
use Rattle.sp_cells.specs.Flat.{LookUp}
use Rattle.audit.specs.declared.reason.Why.{Why}
use Rattle.fis.specs.declared.h2d.RegH2d.{RegH2d}
use Rattle.compacket.specs.Frames.{reading as frame_in}
use Rattle.trusted_cmds.specs.declared.command.Command.{Command}
use Rattle.trusted_cmds.specs.declared.command.Command.TheVariants.{Flush, Trim}
use Rattle.trusted_cmds.specs.declared.trim.Extent.{Extent}
use Rattle.trusted_cmds.specs.Trims.{extents_in}
use Rattle.locking.specs.Range.{RangeRows, row_at, is_shadowed}
use Rattle.locking.specs.Verdict.{AreOpen, ArePermitted, AreShadowed, IsLeastDenied, is_permitted, verdict_of, why_of, shadow_why}
use Rattle.locking.specs.declared.range.Op.{Op}
use Rattle.locking.specs.declared.range.Op.TheVariants.{Read, Write}
use Rattle.locking.specs.declared.ranges.Verdict.TheVariants.{Denied}
use Rattle.history.specs.Decisions.{on_drive, ranges_in_force, verdict_on}
use Rattle.history.specs.DenialLaws.{Reaches, read_queued, write_queued, read_dma, write_dma, read_pio, write_pio, verify, IsFree}
use Rattle.history.specs.Events.{HeldCommand, QueueDeed, Nothing, OfQueue, Wrote, Trimmed, Took}
use Rattle.history.specs.Facts.{Facts, facts}
use Rattle.history.specs.History.{Act, Accept, event_by, event_in, log_of}
use Rattle.history.specs.Items.{Items}
use Rattle.history.specs.Looked.{IsLookedAtBy}
use Rattle.history.specs.NoTrace.{IsByOwnView, AreSameBut, with_views, is_framed_for}
use Rattle.history.specs.Opening.{Origin}
use Rattle.history.specs.Quiet.{IsQuiet, ReadsTags, is_quiet}
use Rattle.history.specs.Readers.{held}
use Rattle.history.specs.Tcg.{tcg}
use Rattle.history.specs.TransferLaws.{VerdictLaw, HeldLaw, TagLaw, ServiceLaw, WriteLaw, UnreachedLaw, TrimLaw, ReachesNone, AreTrimmable, NamesExtent, with_sectors, IsPermitted, IsReason, is_denied}
use Rattle.headline.proofs.law_rows.Lists.{not_both}

-- `quiet`: no send writes sectors, takes a response or changes the queue.
no_send_writes : IsQuiet tcg → (f : Facts) (protocol com_id blocks : ℕ) (payload : List ℕ) (lba : ℕ)
    (bytes : List ℕ) → (tcg.sends f protocol com_id blocks payload).deed ≡ Wrote lba bytes → ⊥
no_send_writes law f protocol com_id blocks payload lba bytes is =
    not_both (law f protocol com_id blocks payload) (ap is_quiet is)

no_send_takes : IsQuiet tcg → (f : Facts) (protocol com_id blocks : ℕ) (payload : List ℕ) (taken : ℕ)
    → (tcg.sends f protocol com_id blocks payload).deed ≡ Took taken → ⊥
no_send_takes law f protocol com_id blocks payload taken is =
    not_both (law f protocol com_id blocks payload) (ap is_quiet is)

no_send_queues : IsQuiet tcg → (f : Facts) (protocol com_id blocks : ℕ) (payload : List ℕ)
    (deed : QueueDeed) → (tcg.sends f protocol com_id blocks payload).deed ≡ OfQueue deed → ⊥
no_send_queues law f protocol com_id blocks payload deed is =
    not_both (law f protocol com_id blocks payload) (ap is_quiet is)

-- `tags`: no FIS is read with tag 32.
no_tag_32 : ReadsTags tcg → (config : Config) (h : RegH2d) (command : Command)
    → tcg.reads config h ≡ Ok (command, Some 32) → ⊥
no_tag_32 law config h command reads = omega (arith, law config h command 32 reads)

-- `views`: a send that names no frame of a session does the same, whatever that session sees.
others_do_the_same : IsByOwnView tcg → (f : Facts) (rows : ℕ → LookUp) (bytes : ℕ → ℕ → ℕ) (number : ℕ)
    → AreSameBut f rows bytes number → (protocol com_id blocks : ℕ) (payload : List ℕ)
    → is_framed_for f number com_id (frame_in payload) ≡ false
    → tcg.sends (with_views f rows bytes) protocol com_id blocks payload
    ≡ tcg.sends f protocol com_id blocks payload
others_do_the_same law f rows bytes number same protocol com_id blocks payload other =
    law f rows bytes number same protocol com_id blocks payload other

-- `verdict`: a read of two sectors whose first is locked, and not shadowed, is denied; one sector that is open and
-- permitted is served, and so are sectors of the shadow.
locked_is_denied : VerdictLaw → (ranges : RangeRows) → is_permitted ranges Read 109 ≡ false
    → is_shadowed ranges 109 ≡ false → is_denied (verdict_of ranges Read 109 2) ≡ false → ⊥
locked_is_denied law ranges locked clear served = refuted ((law ranges Read 109 2).served.0 served)
  where
    refuted : IsPermitted ranges Read 109 2 → ⊥
    refuted (inl p) = not_both (p.1 109 (omega arith) (omega arith)) locked
    refuted (inr p) = not_both (p.1 109 (omega arith) (omega arith)) clear

open_is_served : VerdictLaw → (ranges : RangeRows) → AreOpen ranges 110 (110 + 1)
    → ArePermitted ranges Write 110 (110 + 1) → is_denied (verdict_of ranges Write 110 1) ≡ false
open_is_served law ranges opened permitted = (law ranges Write 110 1).served.1 (inl (opened, permitted))

shadow_is_read : VerdictLaw → (ranges : RangeRows) → AreShadowed ranges 0 (0 + 8)
    → is_denied (verdict_of ranges Read 0 8) ≡ false
shadow_is_read law ranges shadowed = (law ranges Read 0 8).served.1 (inr (refl, shadowed))

-- A denial names the range of the least denied sector where no sector is shadowed, and else the shadow.
range_is_named : VerdictLaw → (ranges : RangeRows) (why : Why) → AreOpen ranges 109 (109 + 2)
    → verdict_of ranges Read 109 2 ≡ Denied why
    → (sector : ℕ) × IsLeastDenied ranges Read 109 2 sector
    × (why ≡ why_of Read 109 2 (row_at ranges sector).range)
range_is_named law ranges why opened denied = told ((law ranges Read 109 2).reason why denied)
  where
    told : IsReason ranges Read 109 2 why → (sector : ℕ) × IsLeastDenied ranges Read 109 2 sector
        × (why ≡ why_of Read 109 2 (row_at ranges sector).range)
    told (inl names) = not_both names.shadowed (opened names.sector names.from names.below)
    told (inr names) = (names.sector, names.least, names.names)

shadow_is_named : VerdictLaw → (ranges : RangeRows) (why : Why) → is_shadowed ranges 7 ≡ true
    → verdict_of ranges Read 7 2 ≡ Denied why → why ≡ shadow_why Read 7 2
shadow_is_named law ranges why shadowed denied = told ((law ranges Read 7 2).reason why denied)
  where
    told : IsReason ranges Read 7 2 why → why ≡ shadow_why Read 7 2
    told (inl names) = names.names
    told (inr names) = not_both shadowed (names.opened 7 (omega arith) (omega arith))

-- `held`: without acts nothing is held; what is held was accepted, on the drive, by that verdict, and permitted.
nothing_is_held : HeldLaw → (items : Items) → IsQuiet items → (o : Origin) (tag : ℕ) (h : HeldCommand)
    → held (log_of items o []) tag ≡ Some h → ⊥
nothing_is_held law items quiet o tag h is =
    let was = law items quiet o [] tag h is in
    no_act (Accept was.fis was.payload) was.before was.later was.place
  where
    no_act : (act : Act) (before later : List Act) → [] ≡ later ++ act ∷ before → ⊥
    no_act act before [] e = cc
    no_act act before (x ∷ later) e = cc

held_says : HeldLaw → (items : Items) → IsQuiet items → (o : Origin) (acts : List Act) (tag : ℕ)
    (h : HeldCommand) → held (log_of items o acts) tag ≡ Some h
    → (before later : List Act) × (fis payload : List ℕ) × (op : Op) × (lba count : ℕ)
    × (acts ≡ later ++ Accept fis payload ∷ before)
    × IsLookedAtBy items (facts o (log_of items o before)) (Accept fis payload) h.command (Some tag)
    × Reaches h.command (Some tag) op lba count
    × (on_drive (facts o (log_of items o before)) lba count ≡ true)
    × (verdict_on (facts o (log_of items o before)) op lba count ≡ h.verdict)
    × IsPermitted (ranges_in_force (facts o (log_of items o before))) op lba count
held_says law items quiet o acts tag h is =
    let was = law items quiet o acts tag h is in (
      was.before,
      was.later,
      was.fis,
      was.payload,
      was.op,
      was.lba,
      was.count,
      was.place,
      was.looked,
      was.moves,
      was.on_drive,
      was.verdict,
      was.permitted,
    )

-- `tags`: nothing is held under tag 32.
none_under_32 : TagLaw → (items : Items) → IsQuiet items → ReadsTags items → (o : Origin)
    (acts : List Act) (h : HeldCommand) → held (log_of items o acts) 32 ≡ Some h → ⊥
none_under_32 law items quiet reads o acts h is = omega (arith, law items quiet reads o acts 32 h is)

-- `served`: what is permitted does not fail, what does not fail is permitted, and all else is aborted.
permitted_is_served : ServiceLaw → (items : Items) (f : Facts) (act : Act) (command : Command)
    (tag : Option ℕ) (op : Op) (lba count : ℕ) → IsLookedAtBy items f act command tag
    → Reaches command tag op lba count → IsFree f tag → on_drive f lba count ≡ true
    → IsPermitted (ranges_in_force f) op lba count → (event_in items f act).failed ≡ None
permitted_is_served law items f act command tag op lba count looked moves free on permitted =
    (law items f act command tag op lba count looked moves free on).served.1 permitted

served_is_permitted : ServiceLaw → (items : Items) (f : Facts) (act : Act) (command : Command)
    (tag : Option ℕ) (op : Op) (lba count : ℕ) → IsLookedAtBy items f act command tag
    → Reaches command tag op lba count → IsFree f tag → on_drive f lba count ≡ true
    → (event_in items f act).failed ≡ None → IsPermitted (ranges_in_force f) op lba count
served_is_permitted law items f act command tag op lba count looked moves free on served =
    (law items f act command tag op lba count looked moves free on).served.0 served

else_aborted : ServiceLaw → (items : Items) (f : Facts) (act : Act) (command : Command)
    (tag : Option ℕ) (op : Op) (lba count : ℕ) → IsLookedAtBy items f act command tag
    → Reaches command tag op lba count → IsFree f tag → on_drive f lba count ≡ true
    → (IsPermitted (ranges_in_force f) op lba count → ⊥) → (event_in items f act).failed ≡ Some 0x04
else_aborted law items f act command tag op lba count looked moves free on missing =
    (law items f act command tag op lba count looked moves free on).denied missing

-- `written`: what moved its data was a write of sectors on the drive, permitted, and of the bytes that came with it.
write_says : WriteLaw → (items : Items) → IsQuiet items → (f : Facts) (act : Act) (lba : ℕ)
    (bytes : List ℕ) → (event_in items f act).deed ≡ Wrote lba bytes
    → (count : ℕ) × (command : Command) × (fis : List ℕ) × (act ≡ Accept fis bytes)
    × IsLookedAtBy items f act command None × Reaches command None Write lba count × (on_drive f lba count ≡ true)
    × IsPermitted (ranges_in_force f) Write lba count
write_says law items quiet f act lba bytes wrote =
    let its = law items quiet f act lba bytes wrote in (
      its.count,
      its.command,
      its.looked.fis,
      its.looked.accepts ∙ ap (λ b. Accept its.looked.fis b) (sym its.payload),
      its.looked,
      its.writes,
      its.on_drive,
      its.permitted,
    )

-- `unreached`: FLUSH CACHE reaches no data. So it writes none, and fails or not whatever media hold.
flush_reaches : (c : Command) (t : Option ℕ) (op : Op) (lba count : ℕ) → Reaches c t op lba count → c ≡ Flush → ⊥
flush_reaches c t op lba count (read_queued {lba = x} {count = y} {tag = z}) is = cc
flush_reaches c t op lba count (write_queued {lba = x} {count = y} {tag = z}) is = cc
flush_reaches c t op lba count (read_dma {lba = x} {count = y}) is = cc
flush_reaches c t op lba count (write_dma {lba = x} {count = y}) is = cc
flush_reaches c t op lba count (read_pio {lba = x} {count = y}) is = cc
flush_reaches c t op lba count (write_pio {lba = x} {count = y}) is = cc
flush_reaches c t op lba count (verify {lba = x} {count = y}) is = cc

flush_apart : ReachesNone Flush None
flush_apart = record {
  reached = λ op lba count reaches. flush_reaches Flush None op lba count reaches refl;
  trims_none = refl;
}

flush_writes_none : UnreachedLaw → (items : Items) → IsQuiet items → (f : Facts) (act : Act) (lba : ℕ)
    (bytes : List ℕ) → IsLookedAtBy items f act Flush None
    → (event_in items f act).deed ≡ Wrote lba bytes → ⊥
flush_writes_none law items quiet f act lba bytes looked =
    (law.0 items quiet f act Flush None looked flush_apart).unwritten lba bytes

flush_trims_none : UnreachedLaw → (items : Items) → IsQuiet items → (f : Facts) (act : Act)
    (extents : List Extent) → IsLookedAtBy items f act Flush None
    → (event_in items f act).deed ≡ Trimmed extents → ⊥
flush_trims_none law items quiet f act extents looked =
    (law.0 items quiet f act Flush None looked flush_apart).untrimmed extents

flush_is_blind : UnreachedLaw → (f : Facts) (act : Act) (sectors : ℕ → List ℕ)
    → IsLookedAtBy tcg f act Flush None
    → event_by (with_sectors f sectors) act ≡ event_by f act
flush_is_blind law f act sectors looked = (law.1 f act Flush None looked flush_apart).done sectors

-- `trimmed`: what is done may be written, entry by entry, and is trimmed whole; what may be written is done; and what fails
-- changes nothing.
trimmed_is_permitted : TrimLaw → (items : Items) (f : Facts) (act : Act) (blocks : ℕ)
    (looked : IsLookedAtBy items f act (Trim blocks) None) → (event_in items f act).failed ≡ None
    → (k : ℕ) (d : Extent) → k < length (extents_in looked.payload)
    → IsPermitted (ranges_in_force f) Write (get_or (extents_in looked.payload) k d).lba
    (get_or (extents_in looked.payload) k d).count
trimmed_is_permitted law items f act blocks looked done k d below =
    ((law items f act blocks looked).done.0 done k d below).1

trimmed_is_on_drive : TrimLaw → (items : Items) (f : Facts) (act : Act) (blocks : ℕ)
    (looked : IsLookedAtBy items f act (Trim blocks) None) → (event_in items f act).failed ≡ None
    → (k : ℕ) (d : Extent) → k < length (extents_in looked.payload)
    → on_drive f (get_or (extents_in looked.payload) k d).lba
    (get_or (extents_in looked.payload) k d).count ≡ true
trimmed_is_on_drive law items f act blocks looked done k d below =
    ((law items f act blocks looked).done.0 done k d below).0

permitted_is_trimmed : TrimLaw → (items : Items) (f : Facts) (act : Act) (blocks : ℕ)
    (looked : IsLookedAtBy items f act (Trim blocks) None) → AreTrimmable f (extents_in looked.payload)
    → (event_in items f act).failed ≡ None
permitted_is_trimmed law items f act blocks looked may = (law items f act blocks looked).done.1 may

trimmed_whole : TrimLaw → (items : Items) (f : Facts) (act : Act) (blocks : ℕ)
    (looked : IsLookedAtBy items f act (Trim blocks) None) → (event_in items f act).failed ≡ None
    → (event_in items f act).deed ≡ Trimmed (extents_in looked.payload)
trimmed_whole law items f act blocks looked = (law items f act blocks looked).whole

failed_trims_none : TrimLaw → (items : Items) (f : Facts) (act : Act) (blocks error : ℕ)
    (looked : IsLookedAtBy items f act (Trim blocks) None) → (event_in items f act).failed ≡ Some error
    → (event_in items f act).deed ≡ Nothing
failed_trims_none law items f act blocks error looked = (law items f act blocks looked).none error

denied_for_an_extent : TrimLaw → (items : Items) (f : Facts) (act : Act) (blocks : ℕ) (why : Why)
    (looked : IsLookedAtBy items f act (Trim blocks) None) → (event_in items f act).denied ≡ Some why
    → NamesExtent (ranges_in_force f) (extents_in looked.payload) why
denied_for_an_extent law items f act blocks why looked = (law items f act blocks looked).reason why
