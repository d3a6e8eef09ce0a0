-- What it says about a tree that it has no fault.
use Rattle.std.specs.Prelude.{◌≡◌, ℕ, ◌↔◌, None}
use Rattle.hfs_btree.specs.declared.key.Key.{Ghosts}
use Rattle.hfs_btree.specs.Tree.{Store}
use Rattle.hfs_btree.specs.Sound.{IsShaped, IsOrdered, IsSound, IsWithinFile}
use Rattle.hfs_btree_checks.specs.Shape.{shape_fault}
use Rattle.hfs_btree_checks.specs.Order.{order_fault, tree_fault}

-- a tree has its shape exactly where it has no fault of its shape
abbrev pub ShapedIffFaultless : {K : Type 0} → Ghosts K → ℕ → Store → Type 0
ShapedIffFaultless g size nodes = (shape_fault g size nodes ≡ None) ↔ IsShaped g size nodes

-- a tree is in order exactly where it has no fault of its order
abbrev pub OrderedIffFaultless : {K : Type 0} → Ghosts K → Store → Type 0
OrderedIffFaultless g nodes = (order_fault g nodes ≡ None) ↔ IsOrdered g nodes

-- a tree is sound and within its file exactly where it has no fault
abbrev pub SoundIffFaultless : {K : Type 0} → Ghosts K → ℕ → Store → Type 0
SoundIffFaultless g size nodes = (tree_fault g size nodes ≡ None) ↔ (IsSound g nodes × IsWithinFile size nodes)
