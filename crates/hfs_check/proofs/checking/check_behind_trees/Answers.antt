use Rattle.std.proofs.Common.{◌≡◌, ◌∙◌, sym, ap, subst, ℕ, List, Option, None}
use Rattle.std.specs.Prelude.{MatchResult, IfOk}
use Rattle.hfs_btree.specs.Sound.{HasStructure, HasCounts}
use Rattle.hfs_blocks.specs.Blocks.{nodes_in}
use Rattle.hfs_btree.specs.Tree.{Store}
use Rattle.hfs_space.specs.Extents.{extent_blocks}
use Rattle.hfs_space.specs.TreeKeys.{IsExtentsTree}
use Rattle.hfs_catalog.specs.Tree.{cat_keys}
use Rattle.hfs_check.specs.declared.mount_fault.MountFault.{MountFault}
use Rattle.hfs_check.specs.Answers.{IsFaultOf}
use Rattle.hfs_check.proofs.Opened.{contents-are, owned-are, catalog_tree_shaped, extents_tree_whole}
use Rattle.hfs_check.proofs.LawsProved.{no_extents_fault, no_catalog_fault}
use Rattle.hfs_check.proofs.checking.check_behind_trees.Goals as goal

pub check_contents-requires-clause-extents : goal.check_contents-requires-clause-extents
check_contents-requires-clause-extents g c =
    let blocks = g.B.Blocks.blocks c.args.blocks.now in
    subst (λ (nodes : Store). IsExtentsTree nodes) (sym (ap (nodes_in blocks) c.deref.ensures.value ∙ c.requires.trees.extents.same)) (extents_tree_whole no_extents_fault blocks c.requires.right)

pub check_contents-requires-clause-structure : goal.check_contents-requires-clause-structure
check_contents-requires-clause-structure g c =
    let blocks = g.B.Blocks.blocks c.args.blocks.now in
    subst (λ (nodes : Store). HasStructure cat_keys nodes) (sym (ap (nodes_in blocks) c.deref-2.ensures.value ∙ c.requires.trees.catalog.same)) (catalog_tree_shaped no_catalog_fault blocks c.requires.right).structure

pub check_contents-requires-clause-counts : goal.check_contents-requires-clause-counts
check_contents-requires-clause-counts g c =
    let blocks = g.B.Blocks.blocks c.args.blocks.now in
    subst (λ (nodes : Store). HasCounts cat_keys nodes) (sym (ap (nodes_in blocks) c.deref-2.ensures.value ∙ c.requires.trees.catalog.same)) (catalog_tree_shaped no_catalog_fault blocks c.requires.right).counts

pub returns-clause-fault : goal.returns-clause-fault
returns-clause-fault g c =
    let blocks = g.B.Blocks.blocks c.args.blocks.now in
    subst (λ (fault : Option MountFault). MatchResult c.check_contents.result (λ _. fault ≡ None) (IsFaultOf fault))
    (contents-are blocks c.args.mdb.now _ _ c.requires.is
    (ap (nodes_in blocks) c.deref.ensures.value ∙ c.requires.trees.extents.same) (ap (nodes_in blocks) c.deref-2.ensures.value ∙ c.requires.trees.catalog.same)) c.check_contents.ensures.fault

pub returns-clause-owned : goal.returns-clause-owned
returns-clause-owned g c =
    let blocks = g.B.Blocks.blocks c.args.blocks.now in
    subst (λ (ns : List ℕ). IfOk c.check_contents.result (λ owned. extent_blocks owned.items ≡ ns))
    (owned-are blocks c.args.mdb.now _ _ c.requires.is
    (ap (nodes_in blocks) c.deref.ensures.value ∙ c.requires.trees.extents.same) (ap (nodes_in blocks) c.deref-2.ensures.value ∙ c.requires.trees.catalog.same)) c.check_contents.ensures.owned
