-- One more block of the file is in the patch.
use Rattle.hfs_blocks.specs.Layers.{changes, over}
use Rattle.hfs_btree_edits.proofs.WrittenLemmas.{written_node, kept_beside, node_within, stays_within}
use Rattle.hfs_btree_edits.proofs.patch_nodes.PatchNodesNodesMut.write.Goals as goal

pub block_of-block-requires-clause-within : goal.block_of-block-requires-clause-within
block_of-block-requires-clause-within g c =
    let self = c.args.self.now in
    node_within (over (changes self.patch) (g.B.Blocks.blocks self.below.now)) self.runs.now c.args.n c.requires

pub invariant_of-self : goal.invariant_of-self
invariant_of-self g c =
    let self = c.args.self.now in
    record {
      within = self.within;
      different = self.different;
      inside = stays_within c.put.result self.patch c.put.new.self _ _ (g.B.Blocks.total self.below.now) c.put.ensures.written c.put.ensures.kept
          (c.block_of-block.ensures.inside (g.B.Blocks.total self.below.now) self.within) c.told-from self.inside;
    }

pub returns-clause-written : goal.returns-clause-written
returns-clause-written g c =
    let self = c.args.self.now in
    written_node self.runs.now (g.B.Blocks.blocks self.below.now) (changes self.patch) (changes c.put.new.self) c.args.n _ c.args.from.now self.different
    (node_within (over (changes self.patch) (g.B.Blocks.blocks self.below.now)) self.runs.now c.args.n c.requires) c.block_of-block.ensures.number c.in_ok-put.ensures.written

pub returns-clause-kept : goal.returns-clause-kept
returns-clause-kept g c = λ i.
    let self = c.args.self.now in (
      self.below.now,
      self.runs.now,
      kept_beside self.runs.now (g.B.Blocks.blocks self.below.now) (changes self.patch) (changes c.put.new.self) c.args.n _ c.args.from.now self.different
          (node_within (over (changes self.patch) (g.B.Blocks.blocks self.below.now)) self.runs.now c.args.n c.requires) c.block_of-block.ensures.number c.in_ok-put.ensures.written i,
    )
