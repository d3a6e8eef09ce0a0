-- A byte changes the check by its row of the table.
use Rattle.std.proofs.Common.{rules, sym, ◌∙◌, bit_xor}
use Rattle.hfs_encodings.proofs.Table.{crc_with_byte-by_row, low-kept}
use Rattle.hfs_encodings.proofs.crc.crc_with_byte.Goals as goal

pub returns : goal.returns
returns c =
    (λ i. bit_xor (low-kept c.args.crc i) (c.crc_of_byte.ensures i)) ∙ sym (crc_with_byte-by_row c.args.crc c.args.byte (search rules))
