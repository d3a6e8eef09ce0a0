-- As many first bytes as there are, up to some.
use Rattle.std.proofs.Common.{◌≡◌, ◌∙◌, min, rules}
use Rattle.hfs_bag.proofs.HeadLemmas.{head_all}
use Rattle.hfs_bag.proofs.head.head_of.Goals as goal

pub returns-clause-head : goal.returns-clause-head
returns-clause-head g c = λ file h long.
    let size : c.min-len.result ≡ min c.args.all 131072 = search rules in
    head_all c.args.all c.in_ok-head.head.items file long (c.in_ok-head.ensures.size ∙ size) (c.in_ok-head.ensures.bytes file h)
