use Rattle.std.proofs.Common.{◌++◌, ap}
use Rattle.hfs_space.specs.Extents.{Overflow}
use Rattle.hfs_remains_forks.specs.Verdicts.{tree_used, items_used, all_used}
use Rattle.hfs_remains_forks.proofs.OwnerLemmas.{add-both, add-same}
use Rattle.hfs_remains_forks.proofs.salvage.own_all.Goals as goal

pub returns : goal.returns
unfolding all_used
returns c =
    let t = c.args.trees.now in
    let first = tree_used t.mdb.now t.extents_file.now t.mdb.now.extents_file_size in
    let second = tree_used t.mdb.now t.catalog_file.now t.mdb.now.catalog_file_size in
    let items = λ (records : Overflow). items_used t.total records t.mdb.now c.args.young c.args.shares.now in
    let old = c.args.owners.now in
    let mid = c.own_tree-2.new.owners in
    let new = c.own_items.new.owners in
    add-both (first ++ second) (items t.overflow.now) old mid new
    (add-both first second old c.own_tree.new.owners mid c.own_tree.ensures c.own_tree-2.ensures)
    (add-same (items c.args.chains.now) (items t.overflow.now) mid new (ap items c.requires.chains) c.in_ok-own_items.ensures)
