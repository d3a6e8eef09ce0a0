-- The bytes so far are written, and nothing else has changed.
use Rattle.std.proofs.Common.{◌≡◌, ◌-◌, ◌<◌, ◌≤◌, length, take}
use Rattle.std.specs.List.{flat_map}
use Rattle.hfs_blocks.specs.Blocks.{run_of}
use Rattle.hfs_blocks.specs.Layers.{changes, AreWithin}
use Rattle.hfs_space.specs.Written.{HasPartOver, KeepsBesideOver, AreBothWhole}
use Rattle.hfs_space.proofs.fork_runs.write_runs.Given as goal

abbrev pub invariant-loop-done : goal.invariant-loop-done
invariant-loop-done g l = record {
  few : l.done ≤ length l.bytes;
  part : HasPartOver (g.B.Blocks.blocks l.below) (flat_map run_of l.runs) l.offset (take l.done l.bytes) l.initial.patch l.patch;
  beside : KeepsBesideOver (g.B.Blocks.blocks l.below) (flat_map run_of l.runs) l.offset (length l.bytes) l.initial.patch l.patch;
  begins : l.done ≡ 0 → l.patch ≡ l.initial.patch;
  whole : 0 < l.done → AreBothWhole l.initial.patch l.patch;
  within : AreWithin (changes l.initial.patch) (g.B.Blocks.total l.below) → AreWithin (changes l.patch) (g.B.Blocks.total l.below);
}

abbrev pub decreases-loop-done : goal.decreases-loop-done
decreases-loop-done g l = length l.bytes - l.done
