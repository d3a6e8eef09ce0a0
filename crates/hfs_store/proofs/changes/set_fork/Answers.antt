use Rattle.std.proofs.Common.{sym, ap, ◌∙◌}
use Rattle.hfs_model.specs.Forks.{kind_with_fork}
use Rattle.hfs_store.proofs.ForkOutcomes.{becomes_read_fork}
use Rattle.hfs_store.proofs.changes.set_fork.Goals as goal

pub returns-in-File : goal.returns-in-File
returns-in-File c d =
    rw c.set_bytes.ensures
    (becomes_read_fork c.args.items.now.items c.args.at c.index_mut.result.now d c.args.block_size c.args.fork c.args.bytes.items c.args.now _ (sym (ap (kind_with_fork c.args.block_size c.args.fork c.args.bytes.items) c.in-File.is)) c.index_mut.ensures.value c.requires.within)

pub returns-in_default : goal.returns-in_default
returns-in_default c d =
    becomes_read_fork c.args.items.now.items c.args.at c.index_mut.result.now d c.args.block_size c.args.fork c.args.bytes.items c.args.now _
    (c.in_default.is ∙ sym (ap (kind_with_fork c.args.block_size c.args.fork c.args.bytes.items) c.in_default.is)) c.index_mut.ensures.value c.requires.within
