-- The directory is that of the list's places.
use Rattle.std.proofs.Common.{List, subst}
use Rattle.hfs_blocks.specs.Blocks.{block_at}
use Rattle.hfs_check.specs.Parts.{mdb_in}
use Rattle.hfs_put.specs.PutImages.{HasDirectory}
use Rattle.hfs_put_plan.specs.declared.items.PutItem.{PutItem}
use Rattle.hfs_word_put.proofs.laying.lay_all.Goals as goal

pub returns-in-Ok-clause-directory : goal.returns-in-Ok-clause-directory
returns-in-Ok-clause-directory c =
    subst (λ (items : List PutItem). HasDirectory c.args.volume.now.base items c.in-Ok.put.patch c.in-Ok.put.runs.items (mdb_in (block_at c.put_items.new.volume.current)))
    c.deref-2.ensures.value c.in-Ok.ensures.directory
