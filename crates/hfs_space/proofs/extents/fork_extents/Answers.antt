-- Extents are added as long as some go on.
use Rattle.std.proofs.Common.{subst, arith}
use Rattle.hfs_space.specs.Extents.{fork_byte, GoesOnWith}
use Rattle.hfs_btree.proofs.FoundLemmas.{none-read}
use Rattle.hfs_space.specs.TreeKeys.{ext_keys, overflow_of}
use Rattle.hfs_space.proofs.GoingOn.{extents-start, extents-more, extents-end}
use Rattle.hfs_space.proofs.extents.fork_extents.Goals as goal

pub loop-extents-init : goal.loop-extents-init
loop-extents-init g c = record {
  few = omega (arith, c.block_total-blocks.ensures.bound);
  all = extents-start (overflow_of (g.N.Nodes.nodes c.args.tree.now)) c.args.file (fork_byte c.args.fork) c.args.first.now c.in_ok-extents.extents.items c.block_total-blocks.result
      c.in_ok-extents.ensures.items c.block_total-blocks.ensures.total;
  last = none-read ext_keys (g.N.Nodes.nodes c.args.tree.now) c.none-last.result c.none-last.ensures;
}

pub loop-extents-preserved : goal.loop-extents-preserved
loop-extents-preserved g c =
    let goes_on = subst (GoesOnWith (overflow_of (g.N.Nodes.nodes c.args.tree.now)) c.args.file (fork_byte c.args.fork) c.loop-extents.blocks) c.in-Some.is c.in_ok-more.ensures.found in
    record {
      few = omega (arith, goes_on.0, c.block_total-count.ensures.bound);
      all = extents-more (overflow_of (g.N.Nodes.nodes c.args.tree.now)) c.args.file (fork_byte c.args.fork) c.args.first.now c.loop-extents.extents.items c.in-Some.more c.extend_from_slice.new.self.items
          c.loop-extents.blocks c.block_total-count.result c.loop-extents.invariant.all goes_on.2 c.in_ok-extend_from_slice.ensures.items c.block_total-count.ensures.total;
      last = c.in_ok-more.ensures.last;
    }

pub returns : goal.returns
returns g c =
    extents-end (overflow_of (g.N.Nodes.nodes c.args.tree.now)) c.args.file (fork_byte c.args.fork) c.args.first.now c.loop-extents.extents.items c.loop-extents.blocks c.loop-extents.invariant.all
    (subst (GoesOnWith (overflow_of (g.N.Nodes.nodes c.args.tree.now)) c.args.file (fork_byte c.args.fork) c.loop-extents.blocks) c.in_default.is c.in_ok-more.ensures.found)
