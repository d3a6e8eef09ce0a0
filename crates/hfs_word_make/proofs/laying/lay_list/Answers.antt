-- The list with the directory that is saved.
use Rattle.std.proofs.Common.{List, subst, rules}
use Rattle.hfs_blocks.specs.Blocks.{block_at}
use Rattle.hfs_check.specs.Parts.{mdb_in}
use Rattle.hfs_put.specs.PutImages.{HasDirectory}
use Rattle.hfs_put_plan.specs.declared.items.PutItem.{PutItem}
use Rattle.hfs_word_make.proofs.laying.lay_list.Goals as goal

pub returns-in-Ok-clause-laid : goal.returns-in-Ok-clause-laid
returns-in-Ok-clause-laid c =
    let directory = subst (λ (items : List PutItem). HasDirectory c.args.volume.now.base items c.in-Ok.blocks.patch c.in-Ok.blocks.runs.items
    (mdb_in (block_at c.put_items.new.volume.current))) c.deref-2.ensures.value c.in-Ok.ensures.directory in
    record { over = search rules; directory = directory; sums_are = search rules }
