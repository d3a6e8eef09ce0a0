use Rattle.std.proofs.Common.{◌≡◌, ◌*◌, vec_len}
use Rattle.std.specs.List.{flat_map, range_with_len}
use Rattle.hfs_format.specs.Image.{new_block}
use Rattle.hfs_format.proofs.formatting.volume_image.Given as goal

abbrev pub invariant-loop-k : goal.invariant-loop-k
invariant-loop-k l = record { bytes : l.image.items ≡ flat_map (new_block l.volume) (range_with_len 0 l.k); len : vec_len l.image ≡ 512 * l.k }
