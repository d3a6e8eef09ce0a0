-- What the faults of others mean where an image's rows are given.
use Rattle.std.specs.Prelude.{⊤}
use Rattle.hfs_database.specs.declared.row_fault.TakerFault.{TakerFault}
use Rattle.hfs_database.specs.declared.row_fault.TakerFault.TheVariants as taker
use Rattle.hfs_source.specs.declared.fetching.SparseFault.{SparseFault}
use Rattle.hfs_source.specs.declared.fetching.SparseFault.TheVariants as sparse
use Rattle.hfs_word_collect.specs.declared.fault.CollectFault.{CollectFault}
use Rattle.hfs_word_collect.specs.declared.fault.CollectFault.TheVariants as collect

-- a fault of a read
abbrev pub reading_fault : SparseFault → CollectFault
reading_fault sparse.ReadFailed = collect.ReadFailed
reading_fault sparse.Memory = collect.NoMemory

-- a fault of the taker
abbrev pub giving_fault : TakerFault → CollectFault
giving_fault taker.CannotWrite = collect.CannotWrite
giving_fault taker.NoMemory = collect.NoMemory

-- where the fault is that of a read, this holds
abbrev pub IsFaultOf : Type 0 → CollectFault → Type 0
IsFaultOf Unread collect.ReadFailed = Unread
IsFaultOf Unread collect.CannotWrite = ⊤
IsFaultOf Unread collect.NoMemory = ⊤
