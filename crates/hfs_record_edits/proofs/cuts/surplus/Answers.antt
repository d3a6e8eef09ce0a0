-- The pieces of all extents.
use Rattle.std.proofs.Common.{List, ap, ◌∙◌, sym, subst, arith}
use Rattle.hfs_fields.specs.declared.extent.Extent.{Extent}
use Rattle.hfs_space.specs.Extents.{extent_blocks, AreExtentsWithin}
use Rattle.hfs_record_edits.specs.Cuts as spec
use Rattle.hfs_record_edits.proofs.CutLemmas.{blocks-surplus, within-surplus, surplus-end}
use Rattle.hfs_record_edits.proofs.cuts.surplus.Goals as goal

pub returns-clause-blocks : goal.returns-clause-blocks
returns-clause-blocks c =
    ap (λ (es : List Extent). extent_blocks es)
    (surplus-end c.args.extents.now c.loop-i.i c.loop-i.stay c.loop-i.surplus.items (spec.surplus c.args.count c.args.extents.now) c.loop-i.invariant.more (omega (arith, c.loop-i-test.false)))
    ∙ blocks-surplus c.args.count c.args.extents.now

pub returns-clause-within : goal.returns-clause-within
returns-clause-within c = λ n within.
    subst (λ (es : List Extent). AreExtentsWithin n es)
    (sym (surplus-end c.args.extents.now c.loop-i.i c.loop-i.stay c.loop-i.surplus.items (spec.surplus c.args.count c.args.extents.now) c.loop-i.invariant.more (omega (arith, c.loop-i-test.false))))
    (within-surplus n c.args.count c.args.extents.now within)
