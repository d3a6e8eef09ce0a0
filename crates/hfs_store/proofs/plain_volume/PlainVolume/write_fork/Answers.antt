use Rattle.hfs_model.specs.Forks.{written}
use Rattle.hfs_model.specs.ForkCalls.{write_fork}
use Rattle.hfs_model.proofs.KeepsForks.{write_fork_keeps}
use Rattle.hfs_store.proofs.Outcomes.{within}
use Rattle.hfs_store.proofs.ForkOutcomes.{fork_entries, fork_changes, kept_lawful}
use Rattle.hfs_store.proofs.plain_volume.PlainVolume.write_fork.Goals as goal

pub set_fork-requires-clause-within : goal.set_fork-requires-clause-within
set_fork-requires-clause-within c = within c.self.inside c.args.self.now c.self.view_is c.self.invariant _ c.in-Ok.at c.in-Ok.ensures.place

pub set_fork-requires-clause-short : goal.set_fork-requires-clause-short
set_fork-requires-clause-short c = c.in_ok-made-in-Ok.ensures.short

pub invariant_of-self : goal.invariant_of-self
invariant_of-self c =
    fork_entries c.self.inside c.args.self.now c.self.view_is c.self.invariant _ c.in-Ok.at c.in-Ok.ensures.place
    c.args.fork c.in_ok-made-in-Ok.made.items c.args.now c.set_fork.new.items.items c.set_fork.ensures

pub returns-in_ok-made-in-Ok-clause-ok : goal.returns-in_ok-made-in-Ok-clause-ok
unfolding write_fork
returns-in_ok-made-in-Ok-clause-ok c =
    fork_changes c.self.inside c.args.self.now c.self.view_is c.self.invariant _ c.in-Ok.at c.in-Ok.ensures.place
    c.args.fork (written c.args.offset c.args.bytes.now) c.args.now c.entries.result.now c.index-entries-at.result c.fork_bytes-old.result.now c.in_ok-made-in-Ok.made.items c.set_fork.new.items.items c.success.result
    c.entries.ensures.entries c.index-entries-at.is c.fork_bytes-old.ensures.bytes c.in_ok-made-in-Ok.ensures.bytes c.set_fork.ensures c.success.ensures

pub returns-in_ok-made-in-Ok-clause-lawful : goal.returns-in_ok-made-in-Ok-clause-lawful
returns-in_ok-made-in-Ok-clause-lawful c =
    kept_lawful c.args.self.now _ _ (write_fork c.args.self.now.block_size c.args.self.now c.args.dir c.args.name.now c.args.fork c.args.offset c.args.bytes.now c.args.now) (returns-in_ok-made-in-Ok-clause-ok c) (write_fork_keeps c.args.self.now.block_size c.args.self.now c.args.dir c.args.name.now c.args.fork c.args.offset c.args.bytes.now c.args.now)
