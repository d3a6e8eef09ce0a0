use Rattle.std.proofs.Common.{arith}
use Rattle.std.proofs.lemmas.List.{length-take}
use Rattle.hfs_encodings.proofs.apple_double.AppleDoubleHead.read.Goals as goal

pub slice_bounds-ne-end : goal.slice_bounds-ne-end
slice_bounds-ne-end c = omega (arith, length-take 46 c.args.file.now, c.if-file-lt-LENGTH.false)
