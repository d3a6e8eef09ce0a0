use Rattle.std.proofs.Common.{◌≤◌, ◌*◌, ◌^◌, arith}
use Rattle.hfs_remains.proofs.RangeLemmas.{few-product}
use Rattle.hfs_remains.proofs.nodes.FileNodes.first_of.Goals as goal

pub returns-clause-few : goal.returns-clause-few
returns-clause-few g c =
    let small : c.args.place * c.from.result ≤ 2 ^ 63 = few-product c.args.place c.from.result (omega (arith, c.args.self.now.few)) (omega (arith, c.from.ensures)) in
    small
