use Rattle.std.proofs.Common.{arith, sym}
use Rattle.std.proofs.lemmas.Bool.Decides.{nat_tests}
use Rattle.hfs_btree_checks.proofs.ShapeTurn.{last_of-end}
use Rattle.hfs_btree_checks.proofs.shape_levels.last_node.Goals as goal

pub returns-else-is_empty : goal.returns-else-is_empty
returns-else-is_empty c = sym (last_of-end c.args.level.now (grind (arith, nat_tests)))
