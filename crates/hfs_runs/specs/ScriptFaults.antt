-- Why a script was not run.
use Rattle.hfs_scripts.specs.declared.fault.ScriptFault.{ScriptFault as ReadFault}
use Rattle.hfs_scripts.specs.declared.fault.ScriptFault.TheVariants as read
use Rattle.hfs_runs.specs.declared.script_fault.ScriptFault.{ScriptFault}
use Rattle.hfs_runs.specs.declared.script_fault.ScriptFault.TheVariants as run

-- what a fault of reading a script means for its run
abbrev pub fault_of_script : ReadFault → ScriptFault
fault_of_script read.TooLarge = run.TooLarge
fault_of_script (read.Line place) = run.Line place
fault_of_script read.Memory = run.Memory
