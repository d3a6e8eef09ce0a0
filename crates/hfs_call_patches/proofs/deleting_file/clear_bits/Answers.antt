-- The bits were cleared in a patch that had no block.
use Rattle.std.proofs.Common.{sym, subst}
use Rattle.hfs_blocks.specs.Layers.{Numbered, changes, over, AreWithin}
use Rattle.hfs_blocks.proofs.LayerLemmas.{AreWithin-nothing}
use Rattle.hfs_check.specs.Parts.{mdb_in}
use Rattle.hfs_call_patches.proofs.EditedNodes.{released_from}
use Rattle.hfs_call_patches.proofs.deleting_file.clear_bits.Goals as goal

pub returns-clause-released : goal.returns-clause-released
returns-clause-released g c =
    let old = g.B.Blocks.blocks c.args.below.now in
    released_from old (over (changes c.release_extents.new.patch) old) (mdb_in old) c.args.mdb.now c.requires.mdb _ c.new-patch.result c.new-patch.ensures c.in_ok-release_extents.ensures.released

pub returns-clause-within : goal.returns-clause-within
returns-clause-within g c =
    let total = g.B.Blocks.total c.args.below.now in
    c.in_ok-release_extents.ensures.within (subst (λ (l : Numbered). AreWithin (changes l) total) (sym c.new-patch.ensures) (AreWithin-nothing total))
