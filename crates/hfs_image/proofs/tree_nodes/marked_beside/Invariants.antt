-- Those that were looked at lie side by side.
use Rattle.std.specs.Prelude.{◌≡◌, ℕ, ◌+◌, ◌-◌, ◌≤◌, ◌<◌}
use Rattle.hfs_blocks.specs.Blocks.{AreRunsWithin}
use Rattle.hfs_image.specs.TreeReads.{LieBeside, block_for}
use Rattle.hfs_image.proofs.tree_nodes.marked_beside.Given as goal

abbrev pub invariant-loop-m : goal.invariant-loop-m
invariant-loop-m l = record {
  first : l.first ≡ block_for l.tree.runs.now l.n;
  some : l.n < l.m;
  beside : LieBeside l.tree.runs.now l.n (l.m - l.n);
  inside : (total : ℕ) → AreRunsWithin l.tree.runs.now total → block_for l.tree.runs.now l.n + (l.m - l.n) ≤ total;
}
