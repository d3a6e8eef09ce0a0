-- Where there is no letter.
use Rattle.std.proofs.Common.{arith}
use Rattle.hfs_encodings.proofs.Given.{renamed_none}
use Rattle.hfs_encodings.proofs.names.renamed.Goals as goal

pub returns-in-empty : goal.returns-in-empty
returns-in-empty c =
    renamed_none c.args.letters.now c.named_letters.result c.name_of.result (omega (arith, c.in-empty.len_below)) c.named_letters.ensures c.name_of.ensures
