-- Bytes are read again.
use Rattle.hfs_scripts.proofs.Written.{bytes_of-encode_lower, few_bytes_of-encode_lower}
use Rattle.hfs_scripts.proofs.argument_lists.hex_field.Goals as goal

pub returns-clause-reads : goal.returns-clause-reads
returns-clause-reads c = bytes_of-encode_lower c.args.bytes.now (λ i. (c.type_inv.bytes i).fits)

pub returns-clause-few : goal.returns-clause-few
returns-clause-few c = few_bytes_of-encode_lower c.args.bytes.now (λ i. (c.type_inv.bytes i).fits)
