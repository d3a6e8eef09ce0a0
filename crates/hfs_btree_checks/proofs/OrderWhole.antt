-- The first fault of a tree's order, and of a whole tree.
use Rattle.std.proofs.Common.{◌≡◌, ℕ, Option, Some, None, Result, Ok, Err, ap, ◌∙◌}
use Rattle.std.specs.Result.{MatchResult}
use Rattle.hfs_btree_checks.specs.declared.fault.TreeFault.{TreeFault}
use Rattle.hfs_btree_checks.specs.declared.fault.TreeFault.TheVariants.{At, Memory}
use Rattle.hfs_btree.specs.declared.key.Key.{Ghosts}
use Rattle.hfs_btree.specs.Tree.{Store}
use Rattle.hfs_btree_checks.specs.Shape.{◌or_else◌, shape_fault}
use Rattle.hfs_btree_checks.specs.ShapeSteps.{IsFault, IsPlace}
use Rattle.hfs_btree_checks.specs.Order.{index_order_fault, leaf_order_fault, order_fault, tree_fault}
use Rattle.hfs_btree_checks.proofs.ShapeWhole.{fault-first}

module _ {K : Type 0} (g : Ghosts K) (nodes : Store) where
  pub order-first : (n : ℕ) → index_order_fault g nodes ≡ Some n → order_fault g nodes ≡ Some n
  unfolding order_fault
  order-first n is = ap (λ (o : Option ℕ). o or_else leaf_order_fault g nodes) is

  pub order-second : (fault : Option ℕ) → index_order_fault g nodes ≡ None → leaf_order_fault g nodes ≡ fault → order_fault g nodes ≡ fault
  unfolding order_fault
  order-second fault none is = ap (λ (o : Option ℕ). o or_else leaf_order_fault g nodes) none ∙ is

  pub tree-first : (size : ℕ) (e : TreeFault) → IsFault (shape_fault g size nodes) e → IsFault (tree_fault g size nodes) e
  unfolding tree_fault
  tree-first size e is = fault-first (shape_fault g size nodes) (order_fault g nodes) e is

  pub tree-second : (size : ℕ) → shape_fault g size nodes ≡ None → tree_fault g size nodes ≡ order_fault g nodes
  unfolding tree_fault
  tree-second size none = ap (λ (o : Option ℕ). o or_else order_fault g nodes) none

pub as-fault : {A : Type 0} (r : Result A TreeFault) (part whole : Option ℕ) → whole ≡ part → MatchResult r (λ _. part ≡ None) (IsPlace part) → MatchResult r (λ _. whole ≡ None) (IsFault whole)
as-fault (Ok a) part whole same is = same ∙ is
as-fault (Err (At n)) part whole same is = same ∙ is
as-fault (Err Memory) part whole same is = absurd is
