-- One more record.
use Rattle.std.proofs.Common.{List, ◌∙◌, refl, subst}
use Rattle.hfs_fields.specs.declared.extent.Extent.{Extent}
use Rattle.hfs_space.specs.Extents.{fork_byte}
use Rattle.hfs_record_edits.specs.Whole.{HasRecordBehind}
use Rattle.hfs_record_edits.proofs.AddedRecords.{added-before, added-within, added-one, added-next}
use Rattle.hfs_record_edits.proofs.TreeEdits.{edits-none}
use Rattle.hfs_record_edits.proofs.adding_fork_extents.add_records.Goals as goal

pub loop-at-init : goal.loop-at-init
loop-at-init g c = record {
  added = record {
    some = c.requires.some;
    within = c.requires.within;
    threes = c.requires.threes;
    counted = c.blocks_at-block.ensures;
    edits = edits-none c.args.file (fork_byte c.args.fork) (g.S.Nodes.nodes c.args.nodes.now) c.requires.tree;
    has = c.requires.has;
    enough = c.requires.room;
  };
  kept = refl;
}

pub three_at-three-requires : goal.three_at-three-requires
three_at-three-requires g c =
    added-within c.args.file (fork_byte c.args.fork) c.args.extents.now (g.S.Nodes.nodes c.args.nodes.now) c.requires.few c.requires.small c.requires.file c.loop-at.at c.loop-at.block (g.S.Nodes.nodes c.loop-at.nodes)
    c.loop-at.invariant.added c.loop-at-test.true

pub add_record-requires-clause-last : goal.add_record-requires-clause-last
add_record-requires-clause-last g c =
    added-before c.args.file (fork_byte c.args.fork) c.args.extents.now (g.S.Nodes.nodes c.args.nodes.now) c.requires.few c.requires.small c.requires.file c.loop-at.at c.loop-at.block (g.S.Nodes.nodes c.loop-at.nodes)
    c.loop-at.invariant.added

pub add_record-requires-clause-room : goal.add_record-requires-clause-room
add_record-requires-clause-room g c =
    added-one c.args.file (fork_byte c.args.fork) c.args.extents.now (g.S.Nodes.nodes c.args.nodes.now) c.requires.few c.requires.small c.requires.file c.loop-at.at c.loop-at.block (g.S.Nodes.nodes c.loop-at.nodes)
    c.loop-at.invariant.added c.loop-at-test.true

pub loop-at-preserved : goal.loop-at-preserved
loop-at-preserved g c =
    let now = g.S.Nodes.nodes c.loop-at.nodes in
    let new = g.S.Nodes.nodes c.add_record.new.nodes in
    record {
      added = added-next c.args.file (fork_byte c.args.fork) c.args.extents.now (g.S.Nodes.nodes c.args.nodes.now) c.requires.few c.requires.small c.requires.file c.loop-at.at c.loop-at.block now
          c.loop-at.invariant.added c.loop-at-test.true c.blocks_at-block-in-loop-at.result new c.in_ok-add_record.ensures.edits
          (subst (λ (l : List Extent). HasRecordBehind c.args.file (fork_byte c.args.fork) c.loop-at.block l now new) c.three_at-three.ensures c.in_ok-add_record.ensures.added)
          c.in_ok-add_record.ensures.enough c.blocks_at-block-in-loop-at.ensures;
      kept = c.in_ok-add_record.ensures.kept ∙ c.loop-at.invariant.kept;
    }
