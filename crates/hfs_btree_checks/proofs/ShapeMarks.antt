-- The marks of the node map.
use Rattle.std.proofs.Common.{◌≡◌, ℕ, ◌+◌, true, false, List, map, arith, ◌∙◌, ap, refl}
use Rattle.std.specs.List.{range_with_len, count_by}
use Rattle.std.specs.Prelude.{not, Bool, cond}
use Rattle.std.proofs.lemmas.List.FromFn.{sum_by-map-range_with_len_more}
use Rattle.hfs_btree.specs.Tree.{Store}
use Rattle.hfs_btree.specs.Header.{header_in, map_bytes, bit_of, marks, free_nodes}

pub clear-more : (bytes : List ℕ) (n : ℕ) → count_by not (map (bit_of bytes) (range_with_len 0 (n + 1))) ≡ count_by not (map (bit_of bytes) (range_with_len 0 n)) + cond (not (bit_of bytes n)) 1 0
clear-more bytes n = sum_by-map-range_with_len_more (λ (b : Bool). cond (not b) 1 0) (bit_of bytes) 0 n n (omega arith)

pub free_nodes-here : (nodes : Store) → free_nodes nodes ≡ count_by not (map (bit_of (map_bytes nodes)) (range_with_len 0 (header_in nodes).nodes))
unfolding free_nodes marks
free_nodes-here nodes = refl

-- as many clear bits as one more place has
pub clear-yes : (bytes : List ℕ) (n : ℕ) → bit_of bytes n ≡ false → count_by not (map (bit_of bytes) (range_with_len 0 (n + 1))) ≡ count_by not (map (bit_of bytes) (range_with_len 0 n)) + 1
clear-yes bytes n h = clear-more bytes n ∙ ap (λ (b : Bool). count_by not (map (bit_of bytes) (range_with_len 0 n)) + cond (not b) 1 0) h

pub clear-no : (bytes : List ℕ) (n : ℕ) → bit_of bytes n ≡ true → count_by not (map (bit_of bytes) (range_with_len 0 (n + 1))) ≡ count_by not (map (bit_of bytes) (range_with_len 0 n))
clear-no bytes n h = let more = clear-more bytes n ∙ ap (λ (b : Bool). count_by not (map (bit_of bytes) (range_with_len 0 n)) + cond (not b) 1 0) h in omega (arith, more)
