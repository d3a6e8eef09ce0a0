-- The records that stand before the fork's are the first ones.
use Rattle.std.proofs.Common.{rules, of_calls, arith, get_or}
use Rattle.std.proofs.lemmas.Fn.{always_returns_same}
use Rattle.hfs_space.specs.Runs.{is_before_fork}
use Rattle.hfs_space.proofs.ForkOrder.{parted, away_before}
use Rattle.hfs_space.proofs.runs.first_of_fork.Goals as goal

pub returns-clause-before : goal.returns-clause-before
returns-clause-before c =
    let point = c.partition_point.ensures.partitioned (is_before_fork c.args.file c.args.fork) (always_returns_same _ _ _ (λ a r f k. search (rules, of_calls))) (parted c.args.overflow.now c.requires c.args.file c.args.fork) in
    λ k d lt. away_before c.args.overflow.now c.requires c.args.file c.args.fork (get_or c.args.overflow.now k d) (point.0 k d (omega arith) lt)

pub returns-clause-behind : goal.returns-clause-behind
returns-clause-behind c =
    let point = c.partition_point.ensures.partitioned (is_before_fork c.args.file c.args.fork) (always_returns_same _ _ _ (λ a r f k. search (rules, of_calls))) (parted c.args.overflow.now c.requires c.args.file c.args.fork) in
    λ k d le lt. point.1 k d le lt
