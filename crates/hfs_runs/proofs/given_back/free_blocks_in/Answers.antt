-- The free runs of the bitmap, as the volume is now.
use Rattle.std.proofs.Common.{◌∙◌, ℕ, ◌+◌, ◌≤◌, refl, sym, ap, subst, List}
use Rattle.hfs_fields.specs.declared.extent.Extent.{Extent}
use Rattle.hfs_fields.specs.declared.mdb.Mdb.{Mdb}
use Rattle.hfs_blocks.specs.Blocks.{block_at, block_count}
use Rattle.hfs_blocks.specs.Layers.{Numbered}
use Rattle.hfs_space.specs.Bitmap.{bitmap_len}
use Rattle.hfs_space.specs.Extents.{AreExtentsWithin}
use Rattle.hfs_space.specs.Forks.{HasArea}
use Rattle.hfs_check.specs.Parts.{mdb_in}
use Rattle.hfs_volume.specs.declared.base.BaseBlocks.{BaseBlocks}
use Rattle.hfs_volume.specs.Image.{patched}
use Rattle.hfs_copy.specs.Keeping.{GainsExtents}
use Rattle.hfs_runs.proofs.FreeBlocks.{bitmap-fits, extents-within, free-in}
use Rattle.hfs_runs.proofs.MadeForks.{area-few}
use Rattle.hfs_runs.proofs.given_back.free_blocks_in.Goals as goal

pub free_extents-requires : goal.free_extents-requires
free_extents-requires c =
    subst (λ (mdb : Mdb). mdb.bitmap_start + bitmap_len mdb.allocation_blocks ≤ block_count c.over-now.result.below.now.base.now) (sym c.directory-mdb.ensures)
    (subst (λ (base : List ℕ). (mdb_in (block_at c.args.volume.now.current)).bitmap_start + bitmap_len (mdb_in (block_at c.args.volume.now.current)).allocation_blocks ≤ block_count base)
    (sym (ap (λ (b : BaseBlocks). b.base.now) c.over-now.ensures.below ∙ c.blocks-below.ensures ∙ c.in_ok-base.ensures.base))
    (bitmap-fits c.args.volume.now.base c.args.volume.now.current c.args.volume.now.written c.in_ok-base.ensures.agrees))

pub push_extents-requires-clause-area : goal.push_extents-requires-clause-area
push_extents-requires-clause-area c =
    subst (λ (mdb : Mdb). HasArea mdb 4294967295) (sym c.directory-mdb.ensures)
    (area-few (mdb_in (block_at c.args.volume.now.current)) c.args.volume.now.current c.in_ok-base.ensures.agrees.sound.len c.in_ok-base.ensures.agrees.sound.blocks.mdb.area)

pub push_extents-requires-clause-extents : goal.push_extents-requires-clause-extents
push_extents-requires-clause-extents c =
    subst (AreExtentsWithin c.directory-mdb.result.allocation_blocks) (sym c.deref.ensures.value)
    (extents-within _ c.directory-mdb.result.allocation_blocks c.in_ok-free.free.items c.in_ok-free.ensures.whole)

pub returns : goal.returns
returns c =
    let current = c.args.volume.now.current in
    let base = c.args.volume.now.base in
    free-in c.over-now.result.changed.now base c.over-now.result.below.now.base.now current c.args.volume.now.written c.directory-mdb.result c.directory-mdb.result.allocation_blocks
    c.directory-mdb.result.bitmap_start c.in_ok-free.free.items c.new-runs.result.items c.push_extents.new.runs.items c.in_ok-base.ensures.agrees
    (c.changes.ensures.current ∙ ap (λ (n : Numbered). patched n base) (sym c.over-now.ensures.changed))
    (ap (λ (b : BaseBlocks). b.base.now) c.over-now.ensures.below ∙ c.blocks-below.ensures ∙ c.in_ok-base.ensures.base) c.over-now.result.whole c.directory-mdb.ensures refl refl
    c.in_ok-free.ensures c.new-runs.ensures.items
    (subst (λ (es : List Extent). GainsExtents c.directory-mdb.result es c.new-runs.result.items c.push_extents.new.runs.items) c.deref.ensures.value c.in_ok-push_extents.ensures)
