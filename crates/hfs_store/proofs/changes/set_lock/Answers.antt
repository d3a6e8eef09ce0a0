use Rattle.std.proofs.Common.{sym, ap, ◌∙◌}
use Rattle.hfs_model.specs.Changes.{with_lock}
use Rattle.hfs_store.proofs.Kept.{becomes_read_locked}
use Rattle.hfs_store.proofs.changes.set_lock.Goals as goal

pub returns-in-File : goal.returns-in-File
returns-in-File c d = becomes_read_locked c.args.items.now.items c.args.at c.index_mut.result.now d c.args.locked _ (sym (ap (with_lock c.args.locked) c.in-File.is)) c.index_mut.ensures.value c.requires

pub returns-in_default : goal.returns-in_default
returns-in_default c d = becomes_read_locked c.args.items.now.items c.args.at c.index_mut.result.now d c.args.locked _ (c.in_default.is ∙ sym (ap (with_lock c.args.locked) c.in_default.is)) c.index_mut.ensures.value c.requires
