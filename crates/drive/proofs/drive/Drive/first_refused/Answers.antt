use Rattle.std.proofs.Common.{◌∙◌, List, sym, refl}
use Rattle.std.proofs.lemmas.List.{at_drop_all}
use Rattle.trusted_cmds.specs.declared.trim.Extent.{Extent}
use Rattle.drive.specs.Trims.{first_refused}
use Rattle.drive.proofs.Trims.{some-later, refused-later, refused-here}
use Rattle.drive.proofs.drive.Drive.first_refused.Goals as goal

pub returns-in-Err : goal.returns-in-Err
returns-in-Err c =
    refused-here c.args.self.now c.args.extents.now c.loop-extent.extent-index (record { lba = 0; count = 0 }) _ c.as_write.result c.policy.result c.in-Err.refusal
    c.loop-extent-test.true refl c.as_write.ensures c.policy.ensures.value c.in-Err.is
    ∙ c.loop-extent.invariant.first

pub loop-extent-preserved : goal.loop-extent-preserved
loop-extent-preserved c = record {
  first =
      refused-later c.args.self.now c.args.extents.now c.loop-extent.extent-index (record { lba = 0; count = 0 }) _ c.as_write.result c.policy.result c.in_default.field-0
      c.loop-extent-test.true refl c.as_write.ensures c.policy.ensures.value c.in_default.is
      ∙ c.loop-extent.invariant.first;
  some = some-later c.args.extents.now c.loop-extent.extent-index (record { lba = 0; count = 0 }) _ c.loop-extent-test.true refl c.loop-extent.invariant.some;
}

pub returns : goal.returns
unfolding first_refused
returns c =
    sym (at_drop_all (λ (rest : List Extent). first_refused c.args.self.now rest) c.args.extents.now c.loop-extent.extent-index c.loop-extent-test.false)
    ∙ c.loop-extent.invariant.first
