-- What more there is to a fault.
use Rattle.std.specs.Prelude.{ℕ, List, codes, Option, None, Some}
use Rattle.hfs_commands.specs.declared.fault.Fault.{Fault}
use Rattle.hfs_commands.specs.declared.fault.Fault.TheVariants as fault

-- what a new volume's plan may say in place of what was refused of it, and which word goes on where no volume is found; none of other faults
unfoldable pub more_text : Fault → Option (List ℕ)
more_text fault.BadName = Some (codes "NAME has 1 to 27 printable characters, without colon and grave accent")
more_text fault.BadSize = Some (codes "BLOCKS are blocks of 512 bytes, from 8 to 4194304; SIZE is 64K to 2G in whole blocks")
more_text fault.BadNodeCount = Some (codes "NODES are at least 2, EXTENTS at least 1")
more_text fault.WordsNotText = None
more_text (fault.Refused why) = None
more_text (fault.NoVolume n) = None
more_text fault.NoVolumes = Some (codes "hfs_tool rescue looks for what remains of a volume whose first blocks are lost")
more_text (fault.SeveralVolumes count) = None
more_text fault.NotWritten = None
more_text fault.SumWrong = None
more_text fault.NoRoom = None
more_text (fault.ScriptLine line) = None
more_text fault.ScriptTooLarge = None
more_text fault.NoPlace = None
more_text (fault.CannotRead file) = None
more_text (fault.BrokenOff file) = None
more_text (fault.CannotWrite file) = None
more_text (fault.IsThere file) = None
more_text fault.OutputFailed = None
more_text fault.NoMemory = None
