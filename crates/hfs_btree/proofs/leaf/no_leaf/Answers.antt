use Rattle.std.proofs.Common.{◌≡◌, refl, ap, replicate}
use Rattle.std.specs.Prelude.{Err}
use Rattle.hfs_fields.specs.Numbers.{number_at}
use Rattle.hfs_btree.specs.declared.fault.NodeFault.TheVariants.{Outside}
use Rattle.hfs_btree.specs.Kind.{kind_of}
use Rattle.hfs_btree.specs.Node.{node_of, node_of_kind, are_inside, count_of, offset_of}
use Rattle.hfs_btree.specs.Tree.{records_of, forward_of}
use Rattle.hfs_btree.proofs.leaf.no_leaf.Goals as goal

zeros : node_of (replicate 512 0) ≡ Err Outside
unfolding node_of node_of_kind kind_of are_inside count_of offset_of number_at
zeros = refl

pub returns-clause-records : goal.returns-clause-records
returns-clause-records c = ap records_of zeros

pub returns-clause-forward : goal.returns-clause-forward
returns-clause-forward c = ap forward_of zeros
