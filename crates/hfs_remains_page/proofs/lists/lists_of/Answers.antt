-- one thing more
use Rattle.std.proofs.Common.{◌∙◌}
use Rattle.hfs_remains_page.specs.Trees as spec
use Rattle.hfs_remains_page.proofs.TreeLemmas.{lists_more}
use Rattle.hfs_remains_page.proofs.lists.lists_of.Goals as goal

pub loop-i-preserved : goal.loop-i-preserved
loop-i-preserved c = record {
  long = c.in_ok-note.ensures.0 ∙ c.loop-i.invariant.long;
  below =
      lists_more (spec.up c.args.things.now) c.loop-i.i c.in_ok-node.node c.loop-i.lists.items c.note.new.lists.items c.in_ok-node.ensures c.in_ok-note.ensures c.loop-i.invariant.below;
}
