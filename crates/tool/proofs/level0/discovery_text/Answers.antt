use Rattle.std.proofs.Common.{◌≡◌, ◌∙◌, ◌⊎◌, inl, inr, ap, sym}
use Rattle.std.proofs.lemmas.Result.{IfOk-weaker}
use Rattle.basics.specs.declared.profile.Profile.{Profile}
use Rattle.basics.specs.declared.profile.Profile.TheVariants.{Field, Opal}
use Rattle.hex.specs.Hex.{encode_lower}
use Rattle.sp_cells.specs.Flat.{LookUp}
use Rattle.sp_tables.specs.Contents.{cells_look_up, factory_contents}
use Rattle.trusted_cmds.specs.declared.block.SidBlock.TheVariants.{Free}
use Rattle.device_data.specs.Discovery.{discovery, field_discovery, discovery_of}
use Rattle.tool.proofs.level0.discovery_text.Goals as goal

-- of both it is the same
each : (p : Profile) (look : LookUp) → (p ≡ Field) ⊎ (p ≡ Opal) → field_discovery look Free ≡ discovery_of p look Free
each p look (inl is) = ap (λ (q : Profile). discovery_of q look Free) (sym is)
each p look (inr is) = ap (λ (q : Profile). discovery_of q look Free) (sym is)

pub returns-in-Base : goal.returns-in-Base
returns-in-Base c =
    IfOk-weaker c.encode.result _ _
    (λ text is. is ∙ ap encode_lower c.discovery.ensures
    ∙ ap (λ t. encode_lower (discovery (cells_look_up t))) c.in_ok-tables.ensures
    ∙ ap (λ (p : Profile). encode_lower (discovery_of p (cells_look_up (factory_contents c.args.config.now)) Free)) (sym c.in-Base.is ∙ c.profile.ensures))
    c.encode.ensures

pub returns : goal.returns
returns c =
    IfOk-weaker c.encode-in-Field.result _ _
    (λ text is. is ∙ ap encode_lower c.field_discovery.ensures
    ∙ ap (λ t. encode_lower (field_discovery (cells_look_up t) Free)) c.in_ok-tables.ensures
    ∙ ap encode_lower (each c.profile.result (cells_look_up (factory_contents c.args.config.now)) c.in-Field.is)
    ∙ ap (λ (p : Profile). encode_lower (discovery_of p (cells_look_up (factory_contents c.args.config.now)) Free)) c.profile.ensures)
    c.encode-in-Field.ensures
