use Rattle.std.proofs.Common.{refl, ◌++◌, drop}
use Rattle.hfs_model.specs.declared.item.Item.{Item}
use Rattle.hfs_store.proofs.Kept.{becomes_read_edited}
use Rattle.hfs_store.proofs.changes.set_finder.Goals as goal

pub returns : goal.returns
returns c d = rw c.copy_from_slice.ensures.after (becomes_read_edited c.args.items.now.items c.args.at c.index_mut.result.now d (λ (x : Item). record x { finder = c.args.info.now ++ drop 16 x.finder }) c.index_mut.ensures.value c.requires (λ x. refl))
