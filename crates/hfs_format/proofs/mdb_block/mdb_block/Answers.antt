use Rattle.std.proofs.Common.{◌++◌, ◌∙◌}
use Rattle.std.proofs.lemmas.List.{drop-replicate}
use Rattle.hfs_fields.specs.MdbForm.{mdb_bytes}
use Rattle.hfs_format.specs.NewMdb.{new_mdb_block}
use Rattle.hfs_format.proofs.mdb_block.mdb_block.Goals as goal

pub returns-clause-bytes : goal.returns-clause-bytes
unfolding new_mdb_block
returns-clause-bytes c = c.write.ensures.written ∙ (λ i. mdb_bytes (c.new_mdb.ensures i) ++ drop-replicate 162 512 0 i)
