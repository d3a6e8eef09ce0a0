use Rattle.std.specs.BTreeMap as tree
use Rattle.std.proofs.lemmas.Result.{IfOk-weaker}
use Rattle.std.proofs.lemmas.Iterator.Adapters.{fact_from_collect}
use Rattle.std.proofs.lemmas.Iterator.Consumers.{YieldsList-from_rest}
use Rattle.hfs_viewers.proofs.Packed.{packed_same}
use Rattle.hfs_viewers.proofs.opening.packed.Goals as goal

pub returns : goal.returns
returns g c =
    IfOk-weaker c.collect.result (tree.IsFromIterResult g.K.Ord.cmp c.args.map.entries) _ (λ made is. packed_same g.met.K.Ord.total c.args.map made c.into_iter.ensures.into_iter_gives.5 is)
    (fact_from_collect (tree.IsFromIterResult g.K.Ord.cmp) c.collect.result c.collect.ensures.ran (YieldsList-from_rest c.args.map.entries c.into_iter.ensures.into_iter_gives.0))
