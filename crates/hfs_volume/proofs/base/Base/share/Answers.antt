-- The same blocks are shared.
use Rattle.std.proofs.Common.{◌≡◌, ◌/◌, ◌≤◌, length, sym, subst, rules}
use Rattle.hfs_blocks.specs.Layers.{Numbered, changes, AreWithin}
use Rattle.hfs_volume.specs.BaseBytes.{IsBase}
use Rattle.hfs_volume.specs.Image.{copy_of}
use Rattle.hfs_volume.proofs.base.Base.share.Goals as goal

pub invariant_of-result-in-Read : goal.invariant_of-result-in-Read
invariant_of-result-in-Read c =
    let same : c.in_ok-read-in-Read.read.value ≡ c.in-Read.read.value = search rules in
    let old = subst IsBase c.in-Read.is c.self.invariant in
    record {
      small = subst (λ (r : Numbered). length (copy_of r c.in-Read.len) ≤ 2147483648) (sym same) old.small;
      within = subst (λ (r : Numbered). AreWithin (changes r) (c.in-Read.len / 512)) (sym same) old.within;
    }
