-- The blocks lie among those of the image.
use Rattle.std.proofs.Common.{◌/◌, sym, ap, subst, arith}
use Rattle.hfs_blocks.specs.Layers.{Numbered, changes, AreWithin}
use Rattle.hfs_volume.proofs.CopyLemmas.{length-copy}
use Rattle.hfs_volume.proofs.base.Base.of_read.Goals as goal

pub invariant_of-result : goal.invariant_of-result
invariant_of-result c =
    let within : AreWithin (changes c.in_ok-read.read.value) (c.args.len / 512) =
    subst (λ (r : Numbered). AreWithin (changes r) (c.args.len / 512)) (sym c.in_ok-read.ensures.ok) c.requires.within in
    record {
      small = omega (arith, length-copy c.in_ok-read.read.value c.args.len within, c.requires.small);
      within = within;
    }
