use Rattle.std.proofs.Common.{Option, Some, subst}
use Rattle.hfs_btree_checks.specs.declared.key_range.KeyRange.{KeyRange}
use Rattle.hfs_btree_checks.specs.Subtree.{HasRange}
use Rattle.hfs_btree_checks.proofs.KeyRanges.{joined-none-first, joined-none-second, joined-some}
use Rattle.hfs_btree_checks.proofs.key_range.joined.Goals as goal

pub returns-in_default : goal.returns-in_default
returns-in_default g c = λ ps qs h k.
    let P : Option (KeyRange _) → Type 0 = λ r. HasRange g.K.Key.compare r ps in
    joined-none-first g.K.Key.compare c.args.second ps qs (subst P c.in_default.is h) k

pub returns-in_default-second : goal.returns-in_default-second
returns-in_default-second g c = λ ps qs h k.
    let P : Option (KeyRange _) → Type 0 = λ r. HasRange g.K.Key.compare r ps in
    let Q : Option (KeyRange _) → Type 0 = λ r. HasRange g.K.Key.compare r qs in
    joined-none-second g.K.Key.compare (Some c.in-Some.one) ps qs (subst P c.in-Some.is h) (subst Q c.in_default-second.is k)

pub returns : goal.returns
returns g c = λ ps qs h k.
    let P : Option (KeyRange _) → Type 0 = λ r. HasRange g.K.Key.compare r ps in
    let Q : Option (KeyRange _) → Type 0 = λ r. HasRange g.K.Key.compare r qs in
    joined-some g.K.Key.compare g.met.K.Key.total c.in-Some.one c.in-Some-second.other c.lesser.result c.greater.result c.lesser.ensures c.greater.ensures ps qs (subst P c.in-Some.is h) (subst Q c.in-Some-second.is k)
