-- The refusal of a call that needs more free nodes of the catalog than there are.
use Rattle.std.specs.Prelude.{ℕ, nat_lt, if◌then◌else◌, Option, Some, None}
use Rattle.hfs_btree.specs.Tree.{Store}
use Rattle.hfs_btree.specs.Header.{depth_of, free_nodes}
use Rattle.hfs_model.specs.declared.journal.Want.TheVariants as want
use Rattle.hfs_call_edits.specs.declared.editing.Refusal.{Refusal}
use Rattle.hfs_call_edits.specs.declared.editing.Refusal.TheVariants as refusal

-- where a call needs so many nodes at each depth, and the tree has fewer free ones: their number and its depth
abbrev pub lacking : (ℕ → ℕ) → Store → Option Refusal
lacking need nodes = if nat_lt (free_nodes nodes) (need (depth_of nodes)) then Some (refusal.Want (want.Nodes (free_nodes nodes) (depth_of nodes))) else None
