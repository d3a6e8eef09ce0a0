-- Which faults an opened image gives as the source of a bag.
use Rattle.std.specs.Prelude.{◌≡◌, ◌≤◌}
use Rattle.hfs_bag.specs.declared.source.SourceFault.{SourceFault}
use Rattle.hfs_bag.specs.declared.source.SourceFault.TheVariants.{Memory}
use Rattle.hfs_word_take.specs.declared.reading.Reading.{Reading}
use Rattle.hfs_word_take.specs.declared.reading.Reading.TheVariants as reading

-- memory was refused
abbrev pub WantsMemory : SourceFault → Type 0
WantsMemory fault = fault ≡ Memory

-- a fork fails only where bytes of it are left; for the table memory was refused
abbrev pub FailsToRead : Reading → SourceFault → Type 0
FailsToRead (reading.Fork fork) fault = 1 ≤ fork.left
FailsToRead (reading.Table table) fault = WantsMemory fault
