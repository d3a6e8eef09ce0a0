-- The blocks of the numbers before this one are laid, and what the other table lacks is as it was.
use Rattle.std.proofs.Common.{◌≡◌, ℕ, ◌<◌, ◌≤◌, ◌-◌, length, get_or}
use Rattle.std.specs.Prelude.{zip}
use Rattle.std.specs.Option.{option_or}
use Rattle.hfs_blocks.specs.Layers.{changes}
use Rattle.hfs_blocks.specs.Places.{KeepsRows}
use Rattle.hfs_blocks.specs.Tables.{IsTable, UsesRoom}
use Rattle.hfs_blocks.proofs.table.lay_all.Given as goal

abbrev pub invariant-loop-done : goal.invariant-loop-done
invariant-loop-done l = record {
  few : l.done ≤ length l.other_numbers;
  table : IsTable l.numbers.items l.blocks.items l.places.entries;
  rest : (k : ℕ) → option_or (changes (zip l.other_numbers l.other_blocks) k) (changes (zip l.numbers.items l.blocks.items) k)
      ≡ option_or (changes (zip l.other_numbers l.other_blocks) k) (changes (zip l.initial.numbers.items l.initial.blocks.items) k);
  laid : (i : ℕ) → i < l.done → changes (zip l.numbers.items l.blocks.items) (get_or l.other_numbers i 0) ≡ changes (zip l.other_numbers l.other_blocks) (get_or l.other_numbers i 0);
  rows : KeepsRows l.initial.places.entries l.places.entries;
  room : UsesRoom l.initial.numbers l.initial.blocks l.done l.numbers l.blocks;
}

abbrev pub decreases-loop-done : goal.decreases-loop-done
decreases-loop-done l = length l.other_numbers - l.done
