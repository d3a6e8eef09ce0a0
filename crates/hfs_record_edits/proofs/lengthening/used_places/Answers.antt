-- There is one place behind which no extent has blocks.
use Rattle.std.proofs.Common.{List, subst, arith}
use Rattle.std.proofs.lemmas.List.{take_all}
use Rattle.hfs_fields.specs.declared.extent.Extent.{Extent}
use Rattle.hfs_record_edits.specs.Lengthened as spec
use Rattle.hfs_record_edits.proofs.AddLemmas.{AreUsedTo, used-same, used_places-used}
use Rattle.hfs_record_edits.proofs.lengthening.used_places.Goals as goal

pub returns : goal.returns
returns c =
    used-same c.args.extents.now c.loop-i.used (spec.used_places c.args.extents.now)
    (subst (λ (es : List Extent). AreUsedTo es c.loop-i.used) (take_all c.loop-i.i c.args.extents.now (omega (arith, c.loop-i-test.false))) c.loop-i.invariant.to)
    (used_places-used c.args.extents.now)
