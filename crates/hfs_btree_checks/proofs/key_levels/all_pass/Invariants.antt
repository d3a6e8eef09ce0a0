use Rattle.std.proofs.Common.{◌≡◌, drop}
use Rattle.std.specs.List.{list_all}
use Rattle.hfs_btree.specs.Tree.{key_at}
use Rattle.hfs_btree_checks.proofs.key_levels.all_pass.Given as goal

abbrev pub invariant-loop-i : goal.invariant-loop-i
invariant-loop-i g l =
    list_all (λ entry. g.T.KeyTest.passes l.test (key_at g.K.Key l.above entry)) l.node.records ≡ list_all (λ entry. g.T.KeyTest.passes l.test (key_at g.K.Key l.above entry)) (drop l.i l.node.records)
