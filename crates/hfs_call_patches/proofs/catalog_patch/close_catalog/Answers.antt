-- The patch was closed with the counts.
use Rattle.std.proofs.Common.{arith}
use Rattle.hfs_blocks.specs.Layers.{changes}
use Rattle.hfs_call_patches.proofs.Closed.{closed, all_within}
use Rattle.hfs_record_edits.proofs.LawsProved.{catalog_file_stays}
use Rattle.hfs_call_patches.proofs.catalog_patch.close_catalog.Goals as goal

pub returns-clause-catalog : goal.returns-clause-catalog
returns-clause-catalog g c =
    closed g.B.Blocks.blocks g.B.Blocks.total c.args.below.now c.args.nodes.below.now c.args.runs.now c.args.nodes.runs.now
    (changes c.args.nodes.patch) (changes c.put_counts.new.patch) c.args.counts.now
    c.requires.sound c.requires.file catalog_file_stays c.requires.over c.requires.keeps c.in_ok-put_counts.ensures

pub returns-clause-within : goal.returns-clause-within
returns-clause-within g c =
    all_within g.B.Blocks.blocks g.B.Blocks.total c.args.below.now c.args.nodes.below.now c.args.runs.now c.args.nodes.runs.now
    (changes c.args.nodes.patch) (changes c.put_counts.new.patch) c.args.counts.now
    c.requires.sound c.requires.file catalog_file_stays c.requires.over c.requires.keeps c.in_ok-put_counts.ensures
    c.args.nodes.inside (let area = c.requires.sound.mdb.area in let some = c.requires.sound.mdb.some in omega (arith, c.requires.sound.mdb.bitmap_behind, c.requires.sound.mdb.bitmap_before, area))
