-- By the places of the entries that were looked at.
use Rattle.hfs_put_plan.proofs.ItemLemmas.{first_at, last_at, pair_at}
use Rattle.hfs_put_plan.proofs.entries.first_item.Goals as goal

pub returns-in-len1-clause-item : goal.returns-in-len1-clause-item
returns-in-len1-clause-item c =
    last_at c.args.place c.args.entries.now _ c.alone.result c.in-len1.len_at_least c.in-len1.len_below c.alone.ensures

pub returns-then-is_pair-clause-item : goal.returns-then-is_pair-clause-item
returns-then-is_pair-clause-item c =
    pair_at c.args.place c.args.entries.now _ _ c.is_pair.result c.both.result c.in-len2-up.len_at_least c.is_pair.ensures c.if-is_pair.true c.both.ensures

pub returns-else-is_pair-clause-item : goal.returns-else-is_pair-clause-item
returns-else-is_pair-clause-item c =
    first_at c.args.place c.args.entries.now _ _ c.is_pair.result c.alone-else-is_pair.result c.in-len2-up.len_at_least c.is_pair.ensures c.if-is_pair.false
    c.alone-else-is_pair.ensures
