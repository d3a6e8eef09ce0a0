use Rattle.std.proofs.Common.{◌≡◌, ◌*◌, length, take}
use Rattle.std.specs.List.{flat_map, range_with_len}
use Rattle.hfs_format.specs.Image.{new_block}
use Rattle.hfs_format.proofs.made_blocks.make_blocks.Given as goal

abbrev pub invariant-loop-k : goal.invariant-loop-k
invariant-loop-k l = record {
  made : take (512 * l.k) l.into ≡ flat_map (new_block l.volume) (range_with_len l.first l.k);
  long : length l.into ≡ length l.initial.into;
}
