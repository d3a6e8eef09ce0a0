-- The nodes of a new volume's catalog.
use Rattle.std.proofs.Common.{◌≡◌, ◌∙◌, sym, ap, ℕ, zero, suc, ◌+◌, ◌-◌, ◌/◌, ◌<◌, ◌≤◌, List, refl, arith, le-leb}
use Rattle.std.proofs.lemmas.Bool.{cond-true, cond-false, lt-leb}
use Rattle.std.specs.Prelude.{nat_le}
use Rattle.hfs_format.specs.NewTrees.{map_node_count}
use Rattle.hfs_format.specs.Least.{IsLeastFrom}
use Rattle.std.proofs.lemmas.Nat.{mul-le}
use Rattle.hfs_format.specs.declared.items.NewItem.{NewItem}
use Rattle.hfs_format.specs.Catalogs.{catalog_nodes, folder_bytes, has_left, index_nodes, leaves, record_nodes, records_bytes, with_map_nodes}

pub index-stop : (levels below : ℕ) → below ≤ 1 → 0 ≡ index_nodes levels below
unfolding index_nodes
index-stop zero below few = refl
index-stop (suc levels) below few = sym (cond-true (nat_le below 1) 0 ((below + 4) / 5 + index_nodes levels ((below + 4) / 5)) (le-leb below 1 few))

pub index-none : (below : ℕ) → 0 ≡ index_nodes 0 below
unfolding index_nodes
index-none below = refl

index-suc : (levels below : ℕ) → 1 < below → (below + 4) / 5 + index_nodes levels ((below + 4) / 5) ≡ index_nodes (suc levels) below
unfolding index_nodes
index-suc levels below many = sym (cond-false (nat_le below 1) 0 ((below + 4) / 5 + index_nodes levels ((below + 4) / 5)) (lt-leb below 1 many))

pub index-more : (levels below : ℕ) → 0 < levels → 1 < below → (below + 4) / 5 + index_nodes (levels - 1) ((below + 4) / 5) ≡ index_nodes levels below
index-more levels below some many =
    let up : suc (levels - 1) ≡ levels = omega arith in
    index-suc (levels - 1) below many ∙ ap (λ n. index_nodes n below) up

pub with_map_nodes-least : (left : ℕ) → IsLeastFrom 0 (has_left left) (with_map_nodes left)
unfolding with_map_nodes map_node_count
with_map_nodes-least left = record {
  reached = omega arith;
  passed = le-leb (1 + left + map_node_count (with_map_nodes left)) (with_map_nodes left) (omega arith);
  below = λ n _ fewer. lt-leb (1 + left + map_node_count n) n (omega arith);
}

-- ---- some nodes

pub leaves-some : (bytes : ℕ) → 1 ≤ bytes → 1 ≤ leaves bytes
unfolding leaves
leaves-some bytes some = omega arith

record_nodes-some : (bytes : ℕ) → 1 ≤ bytes → 1 ≤ record_nodes bytes
unfolding record_nodes
record_nodes-some bytes some = let l = leaves-some bytes some in omega arith

folder_bytes-some : (name_len : ℕ) → 1 ≤ folder_bytes name_len
unfolding folder_bytes
folder_bytes-some name_len = omega arith

with_map_nodes-some : (left : ℕ) → 1 ≤ left → 2 ≤ with_map_nodes left
unfolding with_map_nodes
with_map_nodes-some left some = omega arith

pub catalog_nodes-some : (name_len : ℕ) (items : List NewItem) (times : ℕ) → 1 ≤ times → 2 ≤ catalog_nodes name_len items times
catalog_nodes-some name_len items times once =
    let root = folder_bytes-some name_len in
    let two = with_map_nodes-some (record_nodes (records_bytes name_len items)) (record_nodes-some (records_bytes name_len items) (omega arith)) in
    mul-le 2 1 (with_map_nodes (record_nodes (records_bytes name_len items))) times two once
