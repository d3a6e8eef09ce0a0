-- One more byte is counted.
use Rattle.std.proofs.Common.{◌*◌, ◌+◌, arith}
use Rattle.hfs_space.proofs.Marks.{clear-byte}
use Rattle.hfs_space.proofs.bits.clear_in_bytes.Goals as goal

pub loop-byte-preserved : goal.loop-byte-preserved
loop-byte-preserved c =
    let byte = clear-byte c.args.bytes.now c.loop-byte.byte-index (8 * (c.loop-byte.byte-index + 1)) (omega arith) ((c.type_inv.bytes c.loop-byte.byte-index).fits) in
    record {
      counted = omega (arith, byte, c.loop-byte.invariant.counted, c.count_zeros-clear.ensures.value);
      few = omega arith;
    }
