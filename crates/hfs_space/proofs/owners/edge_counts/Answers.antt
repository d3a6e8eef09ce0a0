-- One more extent has its edge at one block.
use Rattle.std.proofs.Common.{ℕ, ◌+◌, ◌<◌, ◌≤◌, ap, ◌∙◌, arith, length, get_or, Vec, Global}
use Rattle.hfs_fields.specs.declared.extent.Extent.{Extent}
use Rattle.std.proofs.lemmas.List.{length-set}
use Rattle.hfs_space.proofs.EdgeCounts.{edge-few, edge-set, edge-kept, edges-all}
use Rattle.hfs_space.proofs.owners.edge_counts.Goals as goal
use Rattle.hfs_space.proofs.owners.edge_counts.Goals.{then-block-len, else-block-len}

-- what a list answers behind its end
abbrev none : Extent
none = record { first = 0; count = 0 }

pub overflow_add-index_mut : goal.overflow_add-index_mut
overflow_add-index_mut c =
    let within : c.block_at-block.result < c.args.blocks = omega (arith, c.loop-extent.invariant.long) in
    let le : c.loop-extent.extent-index ≤ length c.args.extents.now = omega arith in
    record { fits = omega (arith, c.index_mut.ensures.value, c.loop-extent.invariant.counted c.block_at-block.result c.index_mut.result.now within, edge-few c.args.edge c.args.extents.now c.loop-extent.extent-index c.block_at-block.result le) }

pub loop-extent-preserved : goal.loop-extent-preserved
loop-extent-preserved c =
    elim c.if-block-len.branch [
      | then-block-len w ↦
          let items = ap (λ (v : Vec ℕ Global). v.items) w.counts-is in
          let within : c.block_at-block.result < c.args.blocks = omega (arith, w.if-block-len.true, c.loop-extent.invariant.long) in
          record {
            long = ap length items ∙ length-set c.loop-extent.counts.items c.block_at-block.result (w.index_mut.result.now + 1) ∙ c.loop-extent.invariant.long;
            counted = λ k y lt. ap (λ l. get_or l k y) items
                ∙ edge-set c.args.edge c.args.extents.now c.loop-extent.extent-index c.args.blocks c.loop-extent.counts.items none c.loop-extent-test.true c.loop-extent.invariant.long c.loop-extent.invariant.counted
                c.block_at-block.result (w.index_mut.result.now + 1) w.index_mut.result.now c.block_at-block.ensures within (ap (λ n. n + 1) w.index_mut.ensures.value) k y lt;
          }
      | else-block-len w ↦
          let items = ap (λ (v : Vec ℕ Global). v.items) w.counts-is in
          let past : c.args.blocks ≤ c.block_at-block.result = omega (arith, w.if-block-len.false, c.loop-extent.invariant.long) in
          record {
            long = ap length items ∙ c.loop-extent.invariant.long;
            counted = λ k y lt. ap (λ l. get_or l k y) items
                ∙ edge-kept c.args.edge c.args.extents.now c.loop-extent.extent-index c.args.blocks c.loop-extent.counts.items none c.loop-extent-test.true c.loop-extent.invariant.long c.loop-extent.invariant.counted
                c.block_at-block.result c.block_at-block.ensures past k y lt;
          }
    ]

pub returns : goal.returns
returns c = edges-all c.args.edge c.args.extents.now c.loop-extent.extent-index c.args.blocks c.loop-extent.counts.items c.loop-extent-test.false c.loop-extent.invariant.long c.loop-extent.invariant.counted
