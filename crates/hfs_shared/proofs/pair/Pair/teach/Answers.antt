use Rattle.std.proofs.Common.{◌≤◌, length, ap, ◌∙◌, arith}
use Rattle.hfs_shared.specs.Histories.{Known}
use Rattle.hfs_shared.specs.Tolds.{ToldState}
use Rattle.hfs_shared.proofs.Prefixes.{told_whole}
use Rattle.hfs_shared.proofs.pair.Pair.teach.Goals as goal

pub returns-clause-list : goal.returns-clause-list
returns-clause-list g c =
    let new_is = ap (λ (t : ToldState). t.list) c.new.ensures in
    let le : length c.args.viewer.now.list ≤ length c.new.result.list = omega (arith, ap length new_is, c.changes.ensures, c.changes-2.ensures, c.if-changes.false) in
    told_whole c.args.viewer.now.list c.new.result.list c.learn-2.new.self.list c.learn-2.ensures.longer c.learn-2.ensures.told le
    ∙ new_is
    ∙ ap (λ (k : Known). k.list) c.again-front.ensures
    ∙ ap (λ (k : Known). k.list) c.published.ensures
