use Rattle.std.proofs.Common.{◌≡◌, ◌&&◌, Bool, false, if◌then◌else◌, [], sym, ap, ◌∙◌}
use Rattle.hfs_remains_forks.specs.Verdicts.{share_used, file_used, item_used}
use Rattle.hfs_remains_forks.proofs.OwnerLemmas.{add-both, add-same}
use Rattle.hfs_remains_forks.proofs.salvage.own_item.Goals as goal

pub returns : goal.returns
returns c =
    let a = c.args in
    let file = c.in-Some.file in
    let owned = share_used a.trees.now.total a.chains.now a.trees.now.mdb.now in
    let kept : (a.young && file.old) ≡ false = sym c.is_passed.ensures ∙ c.if-is_passed.false in
    let used : item_used a.trees.now.total a.chains.now a.trees.now.mdb.now a.young a.item.now ≡ file_used a.trees.now.total a.chains.now a.trees.now.mdb.now file =
    ap (item_used a.trees.now.total a.chains.now a.trees.now.mdb.now a.young) c.in-Some.is ∙ ap (λ (b : Bool). if b then [] else file_used a.trees.now.total a.chains.now a.trees.now.mdb.now file) kept in
    add-same _ _ a.owners.now c.own_share-2.new.owners (sym used)
    (add-both (owned file.«data») (owned file.resource) a.owners.now c.own_share.new.owners c.own_share-2.new.owners c.in_ok-own_share.ensures c.in_ok-own_share-2.ensures)
