-- What a fault of a script's run means for the program.
use Rattle.hfs_commands.specs.declared.fault.Fault.{Fault}
use Rattle.hfs_commands.specs.declared.fault.Fault.TheVariants as fault
use Rattle.hfs_runs.specs.declared.script_fault.ScriptFault.{ScriptFault}
use Rattle.hfs_runs.specs.declared.script_fault.ScriptFault.TheVariants as run

abbrev pub fault_of_run : ScriptFault → Fault
fault_of_run run.TooLarge = fault.ScriptTooLarge
fault_of_run (run.Line line) = fault.ScriptLine line
fault_of_run (run.Refused why) = fault.Refused why
fault_of_run run.NoPlace = fault.NoPlace
fault_of_run run.Memory = fault.NoMemory
