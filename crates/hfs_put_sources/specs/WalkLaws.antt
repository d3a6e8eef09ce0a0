-- What lies in an item follows it directly.
use Rattle.std.specs.Prelude.{◌≡◌, ℕ, ◌+◌, List, ◌++◌, length}
use Rattle.hfs_put_sources.specs.declared.plan.PutOptions.{PutOptions}
use Rattle.hfs_put_sources.specs.Items.{PlannedItem, Told}
use Rattle.hfs_put_sources.specs.Trees.{Tree}
use Rattle.hfs_put_sources.specs.Walks.{IsWalk}

-- the list is the walk of the first items, and after it that of the others
pub record IsInParts (host : Tree) (told : Told) (how : PutOptions) (place : ℕ) (firsts others items : List PlannedItem) : Type 0 where
  pub front : List PlannedItem
  pub back : List PlannedItem
  pub whole : items ≡ front ++ back
  pub first_walked : IsWalk host told how place firsts front
  pub others_walked : IsWalk host told how (place + length front) others back

-- so the walk of an item and of those after it is the item, the walk of what lies in it, and the walk of the others
abbrev pub AreWalksParted : Type 0
AreWalksParted =
    (host : Tree) (told : Told) (how : PutOptions) (place : ℕ) (firsts others items : List PlannedItem)
    → IsWalk host told how place (firsts ++ others) items → IsInParts host told how place firsts others items
