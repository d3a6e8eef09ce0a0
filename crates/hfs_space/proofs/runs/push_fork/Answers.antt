-- The walk through the fork's records adds their extents.
use Rattle.std.proofs.Common.{◌++◌, sym, ap, ◌∙◌, drop, arith}
use Rattle.std.proofs.lemmas.List.{get_or_default}
use Rattle.hfs_space.specs.Extents.{block_total, fork_extents}
use Rattle.hfs_space.specs.Runs.{is_of_fork}
use Rattle.hfs_space.proofs.RunSteps.{Record, run-begins, run-over}
use Rattle.hfs_space.proofs.ForkOrder.{away_behind}
use Rattle.hfs_space.proofs.GoingOn.{pushed-start, pushed-end}
use Rattle.hfs_space.proofs.runs.push_fork.Goals as goal

pub loop-i-init : goal.loop-i-init
loop-i-init c =
    let xs = c.args.overflow.now in
    let fork = c.fork_byte-fork.result in
    let first = c.args.first.now in
    pushed-start c.args.extents.now.items xs (drop c.first_of_fork-i.result xs) c.args.file fork first c.extend_from_slice.new.self.items c.block_total-block.result
    c.in_ok-extend_from_slice.ensures.items c.block_total-block.ensures.total
    (run-begins xs c.requires c.args.file fork (block_total first) c.first_of_fork-i.result c.first_of_fork-i.ensures.bound c.first_of_fork-i.ensures.before)

pub returns-then-not-is_of_fork : goal.returns-then-not-is_of_fork
returns-then-not-is_of_fork c =
    let xs = c.args.overflow.now in
    let fork = c.fork_byte-fork.result in
    let first = c.args.first.now in
    let away = λ (d : Record). ap (is_of_fork c.args.file fork) (get_or_default xs c.loop-i.i d c.index-overflow-i.result c.loop-i-test.true ∙ sym c.index-overflow-i.is) ∙ sym c.is_of_fork.ensures ∙ c.if-not-is_of_fork.true in
    let none = run-over xs c.requires c.args.file fork (block_total first) c.loop-i.i c.loop-i.block
    (λ k d le lt. away_behind xs c.requires c.args.file fork c.loop-i.i k d le lt (c.first_of_fork-i.ensures.behind c.loop-i.i d (omega arith) c.loop-i-test.true) (away d)) in
    pushed-end c.args.extents.now.items xs (drop c.loop-i.i xs) c.args.file fork first c.loop-i.extents.items c.loop-i.block c.loop-i.invariant none
    ∙ ap (λ n. c.args.extents.now.items ++ fork_extents xs c.args.file n first) c.fork_byte-fork.ensures
