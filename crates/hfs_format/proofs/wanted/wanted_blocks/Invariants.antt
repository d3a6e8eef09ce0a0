use Rattle.std.proofs.Common.{◌≡◌, ◌+◌, ◌*◌, ◌^◌, ◌≤◌, take}
use Rattle.std.specs.List.{sum_by}
use Rattle.hfs_format.specs.Wanted.{fork_blocks, tree_blocks}
use Rattle.hfs_format.proofs.wanted.wanted_blocks.Given as goal

abbrev pub invariant-loop-item : goal.invariant-loop-item
invariant-loop-item l = record {
  blocks : l.blocks ≡ tree_blocks l.factor l.nodes + sum_by (fork_blocks l.factor) (take l.item-index l.items);
  few : l.blocks ≤ 2 ^ 34 + 2 ^ 56 * l.item-index;
}
