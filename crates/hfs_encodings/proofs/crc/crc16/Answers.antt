-- The check of all bytes is that of all their bits.
use Rattle.std.proofs.Common.{◌∙◌, ap}
use Rattle.std.proofs.lemmas.List.{take_all}
use Rattle.std.specs.List.{fold}
use Rattle.hfs_encodings.specs.Crc.{crc16, crc_with_byte}
use Rattle.hfs_encodings.proofs.Table.{crc16-bytes}
use Rattle.hfs_encodings.proofs.crc.crc16.Goals as goal

pub returns : goal.returns
unfolding crc16
returns c =
    c.loop-byte.invariant ∙ ap (fold crc_with_byte 0) (take_all c.loop-byte.byte-index c.args.bytes.now c.loop-byte-test.false) ∙ crc16-bytes 0 c.args.bytes.now
