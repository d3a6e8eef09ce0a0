use Rattle.std.proofs.Common.{◌++◌, length}
use Rattle.std.proofs.lemmas.List.{drop-replicate}
use Rattle.hfs_format.proofs.mdb_block.characters.Goals as goal

pub returns : goal.returns
returns c = λ i. c.copy_from_slice.ensures.after i ++ drop-replicate (length c.args.name.now) 27 0 i
