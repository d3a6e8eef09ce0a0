-- One more block of the walk.
use Rattle.std.proofs.Common.{[], ◌∷◌, ◌++◌, ◌+◌, ◌<◌, length, sym, ap, ◌∙◌, arith}
use Rattle.std.proofs.lemmas.List.FromFn.{length-map-range_with_len, map-range_with_len_more}
use Rattle.hfs_space.specs.declared.owners.Edge.TheVariants.{First, Behind}
use Rattle.hfs_space.specs.Edges.{edge_count}
use Rattle.hfs_space.specs.Owners.{owners}
use Rattle.hfs_space.specs.Extents.{extent_blocks}
use Rattle.hfs_space.proofs.EdgeCounts.{open-sum, open-after, open-owners, before-few, edge-read, edges-more}
use Rattle.hfs_space.proofs.owners.owner_counts.Goals as goal

pub index-requires : goal.index-requires
index-requires c = omega (arith, ap length c.in_ok-first.ensures, length-map-range_with_len (edge_count First c.args.extents.now) 0 c.args.blocks)

pub overflow_add-count : goal.overflow_add-count
overflow_add-count c =
    let lt : c.loop-block.block < c.args.blocks = omega arith in
    let first = edge-read First c.args.extents.now c.args.blocks c.loop-block.block c.in_ok-first.first.items c.index.result.now lt c.in_ok-first.ensures c.index.ensures in
    record { fits = omega (arith, first, c.loop-block.invariant.opened, edges-more First c.args.extents.now c.loop-block.block, before-few First c.args.extents.now (c.loop-block.block + 1)) }

pub index-requires-in-loop-block : goal.index-requires-in-loop-block
index-requires-in-loop-block c = omega (arith, ap length c.in_ok-behind.ensures, length-map-range_with_len (edge_count Behind c.args.extents.now) 0 c.args.blocks)

pub overflow_sub-count : goal.overflow_sub-count
overflow_sub-count c =
    let lt : c.loop-block.block < c.args.blocks = omega arith in
    let first = edge-read First c.args.extents.now c.args.blocks c.loop-block.block c.in_ok-first.first.items c.index.result.now lt c.in_ok-first.ensures c.index.ensures in
    let behind = edge-read Behind c.args.extents.now c.args.blocks c.loop-block.block c.in_ok-behind.behind.items c.index-in-loop-block.result.now lt c.in_ok-behind.ensures c.index-in-loop-block.ensures in
    omega (arith, open-sum c.args.extents.now c.loop-block.block c.loop-block.count c.index.result.now c.index-in-loop-block.result.now c.loop-block.invariant.opened first behind)

pub loop-block-preserved : goal.loop-block-preserved
loop-block-preserved c =
    let lt : c.loop-block.block < c.args.blocks = omega arith in
    let first = edge-read First c.args.extents.now c.args.blocks c.loop-block.block c.in_ok-first.first.items c.index.result.now lt c.in_ok-first.ensures c.index.ensures in
    let behind = edge-read Behind c.args.extents.now c.args.blocks c.loop-block.block c.in_ok-behind.behind.items c.index-in-loop-block.result.now lt c.in_ok-behind.ensures c.index-in-loop-block.ensures in
    let owns = open-owners c.args.extents.now c.loop-block.block c.loop-block.count c.index.result.now c.index-in-loop-block.result.now c.loop-block.invariant.opened first behind in
    record {
      opened = open-after c.args.extents.now c.loop-block.block c.loop-block.count c.index.result.now c.index-in-loop-block.result.now c.loop-block.invariant.opened first behind;
      counted = c.in_ok-push.ensures.items ∙ (λ i. c.loop-block.invariant.counted i ++ owns i ∷ [])
          ∙ sym (map-range_with_len_more (owners (extent_blocks c.args.extents.now)) 0 c.loop-block.block c.loop-block.block (omega arith));
    }
