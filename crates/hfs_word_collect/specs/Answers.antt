-- What faults mean for the run.
use Rattle.std.specs.Prelude.{⊤, Option, Some, None}
use Rattle.hfs_database.specs.declared.row_fault.TakerFault.{TakerFault}
use Rattle.hfs_database.specs.declared.row_fault.TakerFault.TheVariants as taker
use Rattle.hfs_database.specs.declared.fault.DatabaseFault.{DatabaseFault}
use Rattle.hfs_database.specs.declared.fault.DatabaseFault.TheVariants as database
use Rattle.hfs_word_collect.specs.declared.fault.CollectFault.{CollectFault}
use Rattle.hfs_word_collect.specs.declared.fault.CollectFault.TheVariants as collect
use Rattle.hfs_word_collect.specs.declared.collect_fault.RunFault.{RunFault}
use Rattle.hfs_word_collect.specs.declared.collect_fault.RunFault.TheVariants as run

-- something can't be written, and this is why, or memory is refused; the database was opened
abbrev pub IsUnwritten : Type 0 → RunFault → Type 0
IsUnwritten Why (run.CannotOpen obstacle) = ⊥
IsUnwritten Why run.CannotWrite = Why
IsUnwritten Why run.NoMemory = ⊤

-- where only the image can't be read, the run goes on
abbrev pub image_fault : CollectFault → Option RunFault
image_fault collect.ReadFailed = None
image_fault collect.CannotWrite = Some run.CannotWrite
image_fault collect.NoMemory = Some run.NoMemory

-- what a fault of the database means for the run
abbrev pub database_fault : DatabaseFault → RunFault
database_fault (database.CannotOpen obstacle) = run.CannotOpen obstacle
database_fault database.CannotWrite = run.CannotWrite
database_fault database.NoMemory = run.NoMemory

-- what a fault of the taker means for the run
abbrev pub taker_fault : TakerFault → RunFault
taker_fault taker.CannotWrite = run.CannotWrite
taker_fault taker.NoMemory = run.NoMemory
