-- What is written of a fork that is found is what is taken of it.
use Rattle.std.proofs.Common.{rules, ◌≡◌, Some, None}
use Rattle.hfs_fields.proofs.OutcomeLemmas.{on_err, on_err_then}
use Rattle.hfs_rescue_items.proofs.WrittenForkLemmas.{fork_front, fork_written, none_written}
use Rattle.hfs_rescue_items.proofs.forks.write_item_fork.Goals as goal

pub returns-in_default-part-clause-written : goal.returns-in_default-part-clause-written
returns-in_default-part-clause-written g c =
    let none : c.in-Ok.part ≡ None = search rules in
    none_written c.args.found.now c.args.kind c.args.i (g.S.BlockSource.Holds c.args.source.now) (g.W.Write.contents c.args.writer.now) c.in-Ok.part none c.in-Ok.ensures.bytes

pub returns-in_err-write_fork-clause-part : goal.returns-in_err-write_fork-clause-part
returns-in_err-write_fork-clause-part g c =
    on_err _ _ (fork_front c.args.found.now c.args.kind c.args.i (g.S.BlockSource.Holds c.write_fork.new.source) (g.W.Write.contents c.args.writer.now)
    (g.W.Write.contents c.write_fork.new.writer) c.in-Ok.part c.in-Some.fork c.in-Some.is c.in-Ok.ensures.bytes c.in_err-write_fork.ensures.part)

pub returns-clause-written : goal.returns-clause-written
returns-clause-written g c =
    fork_written c.args.found.now c.args.kind c.args.i (g.S.BlockSource.Holds c.write_fork.new.source) (g.W.Write.contents c.args.writer.now)
    (g.W.Write.contents c.write_fork.new.writer) c.in-Ok.part c.in-Some.fork c.in-Some.is c.in-Ok.ensures.bytes c.in_ok-write_fork.ensures.written
