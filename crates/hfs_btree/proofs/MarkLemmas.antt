-- Nodes that a map marks.
use Rattle.hfs_btree.specs.Tree.{Store}
use Rattle.std.proofs.Common.{ℕ, ◌<◌, ◌≡◌, false, arith, ◌≤◌, map}
use Rattle.hfs_btree.specs.Header.{header_in, is_marked, bit_of, map_bytes, marks}
use Rattle.std.proofs.lemmas.List.FromFn.{get_or-map-range_with_len, length-map-range_with_len}
use Rattle.std.proofs.lemmas.List.{get_or_past}
use Rattle.std.specs.List.{range_with_len}

pub marked-here : (nodes : Store) (n : ℕ) → n < (header_in nodes).nodes → is_marked nodes n ≡ bit_of (map_bytes nodes) n
unfolding marks
marked-here nodes n lt = get_or-map-range_with_len (bit_of (map_bytes nodes)) 0 (header_in nodes).nodes n n false lt (omega arith)

pub marked-past : (nodes : Store) (n : ℕ) → (header_in nodes).nodes ≤ n → is_marked nodes n ≡ false
unfolding marks
marked-past nodes n le =
    get_or_past (map (bit_of (map_bytes nodes)) (range_with_len 0 (header_in nodes).nodes)) n false (omega (arith, length-map-range_with_len (bit_of (map_bytes nodes)) 0 (header_in nodes).nodes))
