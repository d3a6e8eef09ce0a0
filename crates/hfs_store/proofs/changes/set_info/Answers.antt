use Rattle.std.proofs.Common.{refl}
use Rattle.hfs_model.specs.declared.item.Item.{Item}
use Rattle.hfs_store.proofs.Kept.{becomes_read_edited}
use Rattle.hfs_store.proofs.changes.set_info.Goals as goal

pub returns : goal.returns
returns c d = becomes_read_edited c.args.items.now.items c.args.at c.index_mut.result.now d (λ (x : Item). record x { created = c.args.created; modified = c.args.modified; backup = c.args.backup; finder = c.args.info }) c.index_mut.ensures.value c.requires (λ x. refl)
