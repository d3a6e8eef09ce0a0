-- Extent by extent.
use Rattle.std.proofs.Common.{refl, subst, List, arith}
use Rattle.hfs_fields.specs.declared.extent.Extent.{Extent}
use Rattle.hfs_copy.specs.Keeping.{GainsExtents}
use Rattle.hfs_runs.proofs.MadeForks.{next-runs, no-runs, take-all}
use Rattle.hfs_runs.proofs.extents.push_extents.Goals as goal

-- what a list answers behind its end
abbrev none : Extent
none = record { first = 0; count = 0 }

pub loop-extent-init : goal.loop-extent-init
loop-extent-init c = no-runs c.args.mdb.now c.args.runs.now.items c.args.runs.now.items refl

pub loop-extent-preserved : goal.loop-extent-preserved
loop-extent-preserved c =
    next-runs c.args.mdb.now c.args.extents.now c.loop-extent.extent-index none c.extent_run.result c.args.runs.now.items c.loop-extent.runs.items c.push.new.self.items
    c.loop-extent-test.true c.extent_run.ensures.blocks c.extent_run.ensures.inside c.in_ok-push.ensures.items c.loop-extent.invariant

pub returns : goal.returns
returns c =
    subst (λ (es : List Extent). GainsExtents c.args.mdb.now es c.args.runs.now.items c.loop-extent.runs.items)
    (take-all c.args.extents.now c.loop-extent.extent-index (omega (arith, c.loop-extent-test.false))) c.loop-extent.invariant
