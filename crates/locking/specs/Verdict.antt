-- The verdict on a transfer, sector by sector (Opal SSC, ReadLocked and WriteLocked; shadowing of the MBR).
use Rattle.std.specs.Prelude.{◌≡◌, ℕ, zero, suc, ◌+◌, ◌≤◌, ◌<◌, ◌⊎◌, Bool, true, false, ◌&&◌, ◌||◌, if◌then◌else◌, Option, Some, None}
use Rattle.locking.specs.declared.range.Op.{Op}
use Rattle.locking.specs.declared.range.Op.TheVariants.{Read, Write}
use Rattle.audit.specs.declared.reason.Why.{Why}
use Rattle.audit.specs.declared.reason.Why.TheVariants.{ReadLocked, WriteLocked, ReadShadow, WriteShadow}
use Rattle.locking.specs.declared.ranges.Verdict.{Verdict}
use Rattle.locking.specs.declared.ranges.Verdict.TheVariants.{Serve, Shadow, Denied}
use Rattle.locking.specs.declared.ranges.Denier.{Denier}
use Rattle.locking.specs.declared.ranges.Denier.TheVariants.{Shadow as ByShadow, Range as ByRange}
use Rattle.locking.specs.declared.ranges.Judgement.{Judgement}
use Rattle.locking.specs.declared.ranges.Judgement.TheVariants.{Serves, GivesShadow, Denies}
use Rattle.locking.specs.Range.{RangeRows, row_at, permits, is_shadowed}

-- The sector's range permits it.
abbrev pub is_permitted : RangeRows → Op → ℕ → Bool
is_permitted rows op sector = permits op (row_at rows sector)

-- The reason of a denial by a range.
abbrev pub why_of : Op → ℕ → ℕ → ℕ → Why
why_of Read lba count range = ReadLocked lba count range
why_of Write lba count range = WriteLocked lba count range

-- The reason of a denial by the shadow.
abbrev pub shadow_why : Op → ℕ → ℕ → Why
shadow_why Read lba count = ReadShadow lba count
shadow_why Write lba count = WriteShadow lba count

-- The same by what denies it, and the verdict that a judgement on a transfer stands for.
abbrev pub denial_why : Op → ℕ → ℕ → Denier → Why
denial_why op lba count ByShadow = shadow_why op lba count
denial_why op lba count (ByRange range) = why_of op lba count range

abbrev pub verdict_by : Op → ℕ → ℕ → Judgement → Verdict
verdict_by op lba count Serves = Serve
verdict_by op lba count GivesShadow = Shadow
verdict_by op lba count (Denies denier) = Denied (denial_why op lba count denier)

-- Each sector from the first to before the end is one.
abbrev pub EachSector : ℕ → ℕ → (ℕ → Type 0) → Type 0
EachSector first end P = (sector : ℕ) → first ≤ sector → sector < end → P sector

-- Each is permitted.
abbrev pub ArePermitted : RangeRows → Op → ℕ → ℕ → Type 0
ArePermitted rows op first end = EachSector first end (λ sector. is_permitted rows op sector ≡ true)

-- None is shadowed; each is.
abbrev pub AreOpen : RangeRows → ℕ → ℕ → Type 0
AreOpen rows first end = EachSector first end (λ sector. is_shadowed rows sector ≡ false)

abbrev pub AreShadowed : RangeRows → ℕ → ℕ → Type 0
AreShadowed rows first end = EachSector first end (λ sector. is_shadowed rows sector ≡ true)

-- The least sector of the transfer that is denied.
pub record IsLeastDenied (rows : RangeRows) (op : Op) (lba count sector : ℕ) : Type 0 where
  pub from : lba ≤ sector
  pub below : sector < lba + count
  pub denied : is_permitted rows op sector ≡ false
  pub before : ArePermitted rows op lba sector

-- A sector of the transfer is shadowed, and it is no read of shadowed sectors alone.
pub record IsShadowDenied (rows : RangeRows) (op : Op) (lba count : ℕ) : Type 0 where
  pub sector : ℕ
  pub from : lba ≤ sector
  pub below : sector < lba + count
  pub shadowed : is_shadowed rows sector ≡ true
  pub no_read_inside : op ≡ Read → AreShadowed rows lba (lba + count) → ⊥

-- Served where no sector is shadowed and each sector's range permits it. A read of shadowed sectors
-- alone gives the shadow's bytes. Else denied: by the shadow where a sector is shadowed, else by the
-- range of the least denied sector.
abbrev pub IsVerdict : RangeRows → Op → ℕ → ℕ → Verdict → Type 0
IsVerdict rows op lba count Serve =
    AreOpen rows lba (lba + count) × ArePermitted rows op lba (lba + count)
IsVerdict rows op lba count Shadow = (op ≡ Read) × AreShadowed rows lba (lba + count)
IsVerdict rows op lba count (Denied why) =
    (IsShadowDenied rows op lba count × (why ≡ shadow_why op lba count))
    ⊎ (AreOpen rows lba (lba + count)
    × ((sector : ℕ) × IsLeastDenied rows op lba count sector
    × (why ≡ why_of op lba count (row_at rows sector).range)))

-- Some of so many sectors from the first on is shadowed; each of them is.
abbrev pub some_shadowed : RangeRows → ℕ → ℕ → Bool
some_shadowed rows first zero = false
some_shadowed rows first (suc n) = is_shadowed rows first || some_shadowed rows (suc first) n

abbrev pub each_shadowed : RangeRows → ℕ → ℕ → Bool
each_shadowed rows first zero = true
each_shadowed rows first (suc n) = is_shadowed rows first && each_shadowed rows (suc first) n

-- The least denied sector among so many from the first on.
abbrev pub first_denied : RangeRows → Op → ℕ → ℕ → Option ℕ
first_denied rows op first zero = None
first_denied rows op first (suc n) =
    if is_permitted rows op first then first_denied rows op (suc first) n else Some first

abbrev pub verdict_at : RangeRows → Op → ℕ → ℕ → Option ℕ → Verdict
verdict_at rows op lba count None = Serve
verdict_at rows op lba count (Some sector) =
    Denied (why_of op lba count (row_at rows sector).range)

-- What a transfer that touches the shadow is answered, by whether it is wholly inside.
abbrev pub verdict_inside : Op → ℕ → ℕ → Bool → Verdict
verdict_inside Read lba count true = Shadow
verdict_inside Read lba count false = Denied (ReadShadow lba count)
verdict_inside Write lba count wholly = Denied (WriteShadow lba count)

-- The same as a function: the verdict is the only one.
unfoldable pub verdict_of : RangeRows → Op → ℕ → ℕ → Verdict
verdict_of rows op lba count =
    if some_shadowed rows lba count then verdict_inside op lba count (each_shadowed rows lba count)
    else verdict_at rows op lba count (first_denied rows op lba count)
