use Rattle.std.proofs.Common.{sym, ap, ◌∙◌}
use Rattle.hfs_model.specs.FileIds.{with_thread}
use Rattle.hfs_store.proofs.Kept.{becomes_read_thread}
use Rattle.hfs_store.proofs.changes.set_thread.Goals as goal

pub returns-in-File : goal.returns-in-File
returns-in-File c d = rw c.set_thread_bit.ensures (becomes_read_thread c.args.items.now.items c.args.at c.index_mut.result.now d c.args.there _ (sym (ap (with_thread c.args.there) c.in-File.is)) c.index_mut.ensures.value c.requires)

pub returns-in_default : goal.returns-in_default
returns-in_default c d = becomes_read_thread c.args.items.now.items c.args.at c.index_mut.result.now d c.args.there _ (c.in_default.is ∙ sym (ap (with_thread c.args.there) c.in_default.is)) c.index_mut.ensures.value c.requires
