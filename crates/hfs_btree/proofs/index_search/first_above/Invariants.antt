use Rattle.std.proofs.Common.{◌≡◌, ◌≤◌, ◌<◌, ◌-◌, ℕ, [], length, get_or}
use Rattle.std.specs.Prelude.{true, false}
use Rattle.hfs_btree.specs.Search.{is_not_above}
use Rattle.hfs_btree.proofs.index_search.first_above.Given as goal

abbrev pub invariant-loop-from : goal.invariant-loop-from
invariant-loop-from g l = record {
  order : l.from ≤ l.to;
  within : l.to ≤ length l.node.records;
  low : (j : ℕ) → j < l.from → is_not_above g.K.Key l.key (get_or l.node.records j []) ≡ true;
  high : l.to < length l.node.records → is_not_above g.K.Key l.key (get_or l.node.records l.to []) ≡ false;
}

abbrev pub decreases-loop-from : goal.decreases-loop-from
decreases-loop-from g l = l.to - l.from
