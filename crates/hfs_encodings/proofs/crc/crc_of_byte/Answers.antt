-- The table has the check of each byte at its place: all 256 were computed from the definition.
use Rattle.std.proofs.Common.{rules, refl}
use Rattle.hfs_encodings.specs.Crc.{crc_with_bit, crc_with_byte}
use Rattle.hfs_encodings.specs.declared.crc.TheConstants.{CHECK_OF_BYTE}
use Rattle.hfs_fields.proofs.CommonLemmas.{each_below}
use Rattle.hfs_encodings.proofs.Table.{row-test, crc_with_byte-table}
use Rattle.hfs_encodings.proofs.crc.crc_of_byte.Goals as goal

pub returns : goal.returns
unfolding each_below row-test crc_with_byte crc_with_bit
returns c = crc_with_byte-table CHECK_OF_BYTE refl c.args.byte (search rules)
