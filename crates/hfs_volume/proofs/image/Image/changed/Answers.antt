-- The numbers are those of the changed blocks, which lie within.
use Rattle.std.proofs.Common.{refl, length, nat_eq, ap, ◌∙◌, subst, arith}
use Rattle.std.specs.List.{IsDistinct}
use Rattle.hfs_blocks.specs.Blocks.{block_count}
use Rattle.hfs_blocks.specs.Layers.{changes}
use Rattle.hfs_volume.specs.Laid.{laid_over}
use Rattle.hfs_volume.specs.Image.{IsSameBeside}
use Rattle.hfs_space.proofs.AllBlocks.{few_numbers}
use Rattle.hfs_volume.proofs.Kept.{beside}
use Rattle.hfs_volume.proofs.Viewing.{same_blocks}
use Rattle.hfs_volume.proofs.image.Image.changed.Goals as goal

pub len-requires : goal.len-requires
len-requires c = λ n b found.
    let at = c.self.invariant.within n b found in
    let low = at.0 in
    (omega (arith, low, c.self.invariant.small), at.1)

pub returns-clause-count : goal.returns-clause-count
returns-clause-count c = c.len.ensures.len ∙ ap (λ v. length v.changed) c.self.view_is

pub returns-clause-once : goal.returns-clause-once
returns-clause-once c = subst (λ v. IsDistinct nat_eq v.changed) c.self.view_is c.len.ensures.different

pub returns-clause-others : goal.returns-clause-others
returns-clause-others c = subst IsSameBeside c.self.view_is
    (beside c.self.inside.changed c.self.inside.base (laid_over (changes c.self.inside.changed) c.self.inside.base)
    (same_blocks (changes c.self.inside.changed) c.self.inside.base _ c.self.invariant.within refl))

pub overflow_cast-result : goal.overflow_cast-result
overflow_cast-result c =
    let few = few_numbers c.self.inside.changed (block_count c.self.inside.base) c.len.ensures.different c.self.invariant.within in
    omega (arith, few, c.self.invariant.small, c.len.ensures.len)
