-- so far the check of the bytes that were read
use Rattle.std.proofs.Common.{◌≡◌, take}
use Rattle.std.specs.List.{fold}
use Rattle.hfs_encodings.specs.Crc.{crc_with_byte}
use Rattle.hfs_encodings.proofs.crc.crc16.Given as goal

abbrev pub invariant-loop-byte : goal.invariant-loop-byte
invariant-loop-byte l = l.crc ≡ fold crc_with_byte 0 (take l.byte-index l.bytes)
