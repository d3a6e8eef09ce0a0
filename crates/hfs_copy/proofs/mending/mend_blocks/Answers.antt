-- The wrong numbers of what was read, and with their blocks the fault that is left.
use Rattle.std.proofs.Common.{◌≡◌, List, ap, subst, ◌∙◌}
use Rattle.hfs_blocks.specs.Layers.{changes, over}
use Rattle.hfs_source.specs.declared.volume.SparseVolume.{SparseVolume}
use Rattle.hfs_source.specs.Sparse.{sparse}
use Rattle.hfs_source.proofs.Seen.{sees_on}
use Rattle.hfs_image.proofs.SeenStart.{seen-start}
use Rattle.hfs_repair.specs.Fields.{PlacedNumber}
use Rattle.hfs_repair.specs.Fixes.{AreFixes}
use Rattle.hfs_repair.specs.Puts.{puts_of}
use Rattle.hfs_repair.specs.Wrong.{wrong_in_blocks}
use Rattle.hfs_copy.specs.Mended.{laid_over_read}
use Rattle.hfs_copy.proofs.ReadParts.{seen-is}
use Rattle.hfs_copy.proofs.Mendings.{blocks-mended}
use Rattle.hfs_copy.proofs.mending.mend_blocks.Goals as goal

pub returns-clause-mended : goal.returns-clause-mended
returns-clause-mended g c =
    let seen = over (changes c.over.result.patch.now) (sparse c.over.result.below.now.read.now) in
    let is = seen-is c.over.result.patch.now c.new-none.result c.over.result.below.now.read.now c.gather_mending.new.read c.over.ensures.patch
    (ap (λ (v : SparseVolume). v.read.now) c.over.ensures.below ∙ c.volume.ensures.read) in
    let many : c.over.result.below.now.count ≡ c.args.count = ap (λ (v : SparseVolume). v.count) c.over.ensures.below ∙ c.volume.ensures.count in
    let same : wrong_in_blocks c.over.result.below.now.count seen ≡ wrong_in_blocks c.args.count (laid_over_read c.new-none.result c.gather_mending.new.read) =
    λ i. wrong_in_blocks (many i) (is i) in
    let all = sees_on c.in_ok-gather_mending.ensures.sees (sees_on c.in_ok-patch.ensures.sees c.in_ok-fault.ensures.sees) in
    λ image held.
    blocks-mended c.args.count c.new-none.result c.gather_mending.new.read c.lay_puts.new.read c.fault_over.new.read c.deref.result.now c.in_ok-patch.patch
    c.in-Ok.mending.fixes.items c.in_ok-fault.fault c.new-none.ensures c.in_ok-patch.ensures.reads.grown c.in_ok-fault.ensures.reads.grown
    c.in_ok-gather_mending.ensures.decides (c.deref.ensures.value ∙ c.in-Ok.ensures.written ∙ ap puts_of same)
    (subst (λ (ns : List PlacedNumber). AreFixes ns c.in-Ok.mending.fixes.items) same c.in-Ok.ensures.told)
    c.in_ok-patch.ensures.puts c.in_ok-fault.ensures.fault image (seen-start c.new-read.ensures all image held)
