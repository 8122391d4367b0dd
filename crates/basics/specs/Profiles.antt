-- What the profiles of a drive have of one another.
use Rattle.std.specs.Prelude.{Bool, true, false}
use Rattle.basics.specs.declared.profile.Profile.{Profile}
use Rattle.basics.specs.declared.profile.Profile.TheVariants.{Base, Field, Opal}

-- what Field has beside Base
abbrev pub has_field : Profile → Bool
has_field Base = false
has_field Field = true
has_field Opal = true

-- and what Opal has beside Field
abbrev pub has_opal : Profile → Bool
has_opal Base = false
has_opal Field = false
has_opal Opal = true
