use Rattle.std.proofs.Common.{◌+◌, arith, sym}
use Rattle.hfs_btree_checks.proofs.ShapeTurn.{next-is, next-none}
use Rattle.hfs_btree_checks.proofs.shape_levels.node_after.Goals as goal

pub returns-then-i-level : goal.returns-then-i-level
returns-then-i-level c = sym (next-is c.args.level.now (c.args.i + 1) (omega arith))

pub returns-else-i-level : goal.returns-else-i-level
returns-else-i-level c = sym (next-none c.args.level.now (c.args.i + 1) (omega arith))
