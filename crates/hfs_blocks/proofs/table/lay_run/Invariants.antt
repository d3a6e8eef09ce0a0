-- So many blocks are laid.
use Rattle.std.specs.Prelude.{zip}
use Rattle.hfs_blocks.specs.Layers.{changes}
use Rattle.hfs_blocks.specs.Places.{KeepsRows}
use Rattle.hfs_blocks.specs.Tables.{IsTable, HasLaid, UsesRoom}
use Rattle.hfs_blocks.proofs.table.lay_run.Given as goal

abbrev pub invariant-loop-i : goal.invariant-loop-i
invariant-loop-i l = record {
  table : IsTable l.numbers.items l.blocks.items l.places.entries;
  laid : HasLaid l.first l.i l.run (changes (zip l.initial.numbers.items l.initial.blocks.items)) (changes (zip l.numbers.items l.blocks.items));
  rows : KeepsRows l.initial.places.entries l.places.entries;
  room : UsesRoom l.initial.numbers l.initial.blocks l.i l.numbers l.blocks;
}
