use Rattle.std.proofs.Common.{arith}
use Rattle.std.proofs.lemmas.List.{length-take}
use Rattle.hfs_encodings.proofs.macbinary.begins_macbinary.Goals as goal

pub slice_bounds-crc16-end : goal.slice_bounds-crc16-end
slice_bounds-crc16-end c = omega (arith, length-take 124 c.args.file.now, c.if-file-lt-LENGTH.false)
