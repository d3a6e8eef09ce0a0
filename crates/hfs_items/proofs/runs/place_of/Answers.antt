use Rattle.std.proofs.Common.{rules, of_calls}
use Rattle.std.proofs.lemmas.Fn.{always_returns_same}
use Rattle.hfs_items.proofs.RunLemmas.{is_before, parted, from_point}
use Rattle.hfs_items.proofs.runs.place_of.Goals as goal

pub returns-clause-all : goal.returns-clause-all
returns-clause-all c =
    from_point c.args.id c.args.records.now c.partition_point.result c.requires c.partition_point.ensures.bound
    (c.partition_point.ensures.partitioned (is_before c.args.id) (always_returns_same _ _ _ (λ a r f k. search (rules, of_calls))) (parted c.args.records.now c.args.id c.requires))
