-- Why no new volume is planned, as it is told.
use Rattle.hfs_commands.specs.declared.fault.Fault.{Fault}
use Rattle.hfs_commands.specs.declared.fault.Fault.TheVariants as why
use Rattle.hfs_format.specs.declared.make_fault.MakeFault.{MakeFault}
use Rattle.hfs_format.specs.declared.make_fault.MakeFault.TheVariants as make
use Rattle.hfs_word_put.specs.declared.fault.PutFault.{PutFault}
use Rattle.hfs_word_put.specs.declared.fault.PutFault.TheVariants.{Image}

abbrev pub fault_of : MakeFault → Fault
fault_of make.BadName = why.BadName
fault_of make.BadSize = why.BadSize
fault_of make.NoRoom = why.NoRoom
fault_of make.Memory = why.NoMemory

abbrev pub told_of : MakeFault → PutFault
told_of fault = Image (fault_of fault)
