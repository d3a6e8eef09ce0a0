-- The base has as many bytes.
use Rattle.std.proofs.Common.{◌≡◌, ◌/◌, length, ap, ◌∙◌, arith}
use Rattle.hfs_blocks.specs.Layers.{changes}
use Rattle.hfs_volume.proofs.Viewing.{same_count, same_length}
use Rattle.hfs_volume.proofs.image.Image.count.Goals as goal

pub returns-clause-count : goal.returns-clause-count
returns-clause-count c = ap (λ n. n / 512) c.len.ensures.len ∙ same_count (changes c.self.inside.changed) c.self.inside.base c.args.self.now.current c.self.invariant.within (ap (λ v. v.current) c.self.view_is)

pub returns-clause-small : goal.returns-clause-small
returns-clause-small c =
    let same : length c.self.inside.base ≡ length c.args.self.now.current = same_length (changes c.self.inside.changed) c.self.inside.base c.args.self.now.current c.self.invariant.within (ap (λ v. v.current) c.self.view_is) in
    omega (arith, same, c.self.invariant.small)
