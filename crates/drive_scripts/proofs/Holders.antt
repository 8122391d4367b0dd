-- What a session holds is told alike, in whatever order it is kept.
use Rattle.std.proofs.Common.{◌≡◌, ◌++◌, ℕ, List, Option, None, Some, refl, ap, codes}
use Rattle.std.proofs.Math.Path.{fun_ext}
use Rattle.std.specs.Prelude.{Bool, filter}
use Rattle.sp_cells.specs.declared.names.Uid.{Uid}
use Rattle.sp_cells.specs.declared.names.Sp.{Sp}
use Rattle.sp_cells.specs.Names.{authority_table}
use Rattle.sp_tables.specs.RowNames.{rows_of_table}
use Rattle.audit.specs.declared.reason.Why.{Why}
use Rattle.audit.specs.declared.reason.Why.TheVariants as whys
use Rattle.tper.specs.Seen.{HoldsAlike}
use Rattle.reasons.specs.Details.{session_words}
use Rattle.reasons.specs.Rulings.{because_text}
use Rattle.reasons.specs.Holdings.{names_text, holds_text}
use Rattle.reasons.specs.Within.{holdings_text}

held-told : (sp : Sp) (n : ℕ) (x y : Option (List Uid)) → HoldsAlike x y → holds_text sp n x ≡ holds_text sp n y
held-told sp n None None alike = refl
held-told sp n (Some held) (Some other) alike =
    ap (λ (p : Uid → Bool). because_text (session_words sp n ++ codes " holds " ++ names_text (filter p (rows_of_table sp authority_table)))) (fun_ext alike)
held-told sp n None (Some other) alike = absurd alike
held-told sp n (Some held) None alike = absurd alike

pub holdings_alike : (n : ℕ) (x y : Option (List Uid)) (why : Why) → HoldsAlike x y → holdings_text n x why ≡ holdings_text n y why
holdings_alike n x y (whys.NoEntryHolds sp object method column need) alike = held-told sp n x y alike
holdings_alike n x y (whys.NoAccessRow sp object method) alike = refl
holdings_alike n x y (whys.AttemptFailed sp authority failure) alike = refl
holdings_alike n x y (whys.ReadLocked lba count range) alike = refl
holdings_alike n x y (whys.WriteLocked lba count range) alike = refl
holdings_alike n x y (whys.ReadShadow lba count) alike = refl
holdings_alike n x y (whys.WriteShadow lba count) alike = refl
