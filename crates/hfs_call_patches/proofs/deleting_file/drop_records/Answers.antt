-- The extents tree's nodes are different blocks, and the edit kept what lies below them.
use Rattle.std.proofs.Common.{sym, subst}
use Rattle.hfs_blocks.specs.Layers.{changes}
use Rattle.hfs_btree.specs.Sound.{IsDistinct}
use Rattle.hfs_call_patches.proofs.EditedNodes.{edited_within}
use Rattle.hfs_call_patches.proofs.FileParts.{extents_different}
use Rattle.hfs_call_patches.proofs.deleting_file.drop_records.Goals as goal

pub invariant_of-nodes : goal.invariant_of-nodes
invariant_of-nodes g c =
    let below = c.args.below.now in
    record {
      within = c.requires.file.within;
      different = subst IsDistinct (sym c.requires.file.numbers) (extents_different (g.B.Blocks.total below) (g.B.Blocks.blocks below) c.requires.sound);
      inside = c.requires.inside;
    }

pub returns-clause-within : goal.returns-clause-within
returns-clause-within g c =
    edited_within g.B.Blocks.blocks g.B.Blocks.total c.args.below.now c.drop_overflow.new.nodes.below.now c.args.runs.now c.drop_overflow.new.nodes.runs.now
    (changes c.args.patch) (changes c.drop_overflow.new.nodes.patch) c.in_ok-drop_overflow.ensures.kept c.drop_overflow.new.nodes.inside
