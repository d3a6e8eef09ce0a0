-- The numbers of faults.
use Rattle.std.specs.Prelude.{ℕ, Option, Some, None}
use Rattle.hfs_btree.specs.declared.fault.NodeFault.{NodeFault}
use Rattle.hfs_btree.specs.declared.fault.NodeFault.TheVariants.{Kind, Outside, NotRising, Memory}

-- the number of a fault of the bytes
abbrev pub number_of : NodeFault → Option ℕ
number_of Kind = Some 3
number_of Outside = Some 2
number_of NotRising = Some 1
number_of Memory = None
