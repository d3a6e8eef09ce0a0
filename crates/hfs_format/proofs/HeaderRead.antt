-- A tree by the header node of a new volume: its header record, its map, and its marks.
use Rattle.std.proofs.Common.{◌≡◌, ℕ, zero, suc, ◌+◌, ◌-◌, ◌*◌, ◌^◌, ◌<◌, ◌≤◌, Bool, true, false, not, cond, List, [], ◌∷◌, ◌++◌, Ok, length, map, replicate, refl, sym, ap, subst, ◌∙◌, arith}
use Rattle.std.specs.Prelude.{◌==◌, nat_lt, slice_index_or, count_by}
use Rattle.std.specs.List.{flat_map, range_with_len}
use Rattle.std.proofs.lemmas.List.Sums.{sum_by-cons}
use Rattle.std.proofs.lemmas.List.FromFn.{get_or-map-range_with_len}
use Rattle.std.proofs.lemmas.Bool.{lt-ltb, ne_eqb, cond-false}
use Rattle.hfs_fields.proofs.LaidLemmas.{number-read}
use Rattle.hfs_btree.specs.declared.header.Header.{Header}
use Rattle.hfs_btree.specs.declared.key.Key.{Ghosts}
use Rattle.hfs_btree.specs.Tree.{Store, node_in, records_of, forward_of}
use Rattle.hfs_btree.specs.Header.{header_of, header_in, record_in, chain_from, map_nodes, map_bytes, bit_of, marks, free_nodes, is_marked}
use Rattle.hfs_fields.specs.Each.{Each}
use Rattle.hfs_btree.specs.Sound.{HasHeader, HasMap, IsDistinct, IsMapNode, IsMarked}
use Rattle.hfs_space.proofs.OwnedOnce.{each-range, distinct-range}
use Rattle.hfs_format.specs.BitRow.{bit_row}
use Rattle.hfs_format.proofs.BitRowLemmas.{length-bit_row, bit_row-append}
use Rattle.hfs_format.proofs.BitsRead.{bit_of-bit_row, count_below-clear}
use Rattle.hfs_format.specs.NewTrees.{map_node_count, header_record, node_map, next_map_node, header_node, map_node, IsNewTree}
use Rattle.hfs_format.proofs.MapNodes.{long-map, next_map_node-last, next_map_node-before}
use Rattle.hfs_format.proofs.NewBlocks.{length-header_record}

-- what the header record of a new tree keeps
pub record IsHeaderValue (tree : Header) : Type 0 where
  pub depth : tree.depth ≤ 16
  pub root : tree.root < 2 ^ 32
  pub records : tree.records < 2 ^ 32
  pub first_leaf : tree.first_leaf < 2 ^ 32
  pub last_leaf : tree.last_leaf < 2 ^ 32
  pub node_size : tree.node_size ≡ 512
  pub key_len : tree.key_len < 2 ^ 16
  pub new : IsNewTree tree

-- the nodes of a file begin with the header node of a tree, and its map nodes
pub record HoldsMap (tree : Header) (nodes : Store) : Type 0 where
  pub header : node_in nodes 0 ≡ Ok (header_node tree)
  pub maps : (j : ℕ) → 1 ≤ j → j ≤ map_node_count tree.nodes → node_in nodes j ≡ Ok (map_node tree j)

-- the record is read back
header_of-record : (tree : Header) → IsHeaderValue tree → header_of (header_record tree) ≡ tree
unfolding header_of header_record
header_of-record tree ok =
    let new = ok.new in
    let few = new.few in
    let free = new.free in
    let w : List ℕ = header_record tree in
    let depth = number-read 0 2 tree.depth w _ refl (omega arith) in
    let root = number-read 2 4 tree.root w _ refl ok.root in
    let records = number-read 6 4 tree.records w _ refl ok.records in
    let first_leaf = number-read 10 4 tree.first_leaf w _ refl ok.first_leaf in
    let last_leaf = number-read 14 4 tree.last_leaf w _ refl ok.last_leaf in
    let node_size = number-read 18 2 tree.node_size w _ refl (omega arith) in
    let key_len = number-read 20 2 tree.key_len w _ refl ok.key_len in
    let nodes = number-read 22 4 tree.nodes w _ refl (omega arith) in
    let free_nodes = number-read 26 4 tree.free_nodes w (replicate 76 0) refl (omega arith) in
    λ i. record {
      depth = depth i;
      root = root i;
      records = records i;
      first_leaf = first_leaf i;
      last_leaf = last_leaf i;
      node_size = node_size i;
      key_len = key_len i;
      nodes = nodes i;
      free_nodes = free_nodes i;
    }

chain-none : (nodes : Store) (most : ℕ) → chain_from nodes most 0 ≡ []
chain-none nodes zero = refl
chain-none nodes (suc most) = refl

chain-more : (nodes : Store) (most n : ℕ) → 1 ≤ n → chain_from nodes (suc most) n ≡ n ∷ chain_from nodes most (forward_of (node_in nodes n))
chain-more nodes most n some = cond-false (n == 0) _ _ (ne_eqb n 0 (λ e. omega arith))

count_by-map : (f : ℕ → Bool) (xs : List ℕ) → count_by not (map f xs) ≡ count_by (λ x. not (f x)) xs
count_by-map f [] = refl
count_by-map f (x ∷ xs) =
    sum_by-cons (λ b. cond (not b) 1 0) (f x) (map f xs)
    ∙ ap (λ n. cond (not (f x)) 1 0 + n) (count_by-map f xs)
    ∙ sym (sum_by-cons (λ y. cond (not (f y)) 1 0) x xs)

module _ (nodes : Store) (tree : Header) (ok : IsHeaderValue tree) (holds : HoldsMap tree nodes) where
  abbrev maps : ℕ
  maps = map_node_count tree.nodes

  abbrev used : ℕ
  used = tree.nodes - tree.free_nodes

  record_in-header : record_in nodes 0 0 ≡ header_record tree
  unfolding header_node
  record_in-header = ap (λ r. slice_index_or (records_of r) 0 []) holds.header

  record_in-first : record_in nodes 0 2 ≡ node_map tree 0 256
  unfolding header_node
  record_in-first = ap (λ r. slice_index_or (records_of r) 2 []) holds.header

  record_in-map : (i : ℕ) → i < maps → record_in nodes (i + 1) 0 ≡ node_map tree (256 + 492 * i) 492
  unfolding map_node
  record_in-map i lt =
      let same : i + 1 - 1 ≡ i = omega arith in
      ap (λ r. slice_index_or (records_of r) 0 []) (holds.maps (i + 1) (omega arith) (omega arith)) ∙ ap (λ n. node_map tree (256 + 492 * n) 492) same

  pub header_in-new : header_in nodes ≡ tree
  header_in-new = ap header_of record_in-header ∙ header_of-record tree ok

  -- ---- the chain of map nodes

  forward_of-map : (j : ℕ) → 1 ≤ j → j ≤ maps → forward_of (node_in nodes j) ≡ next_map_node tree j
  unfolding map_node
  forward_of-map j some few = ap forward_of (holds.maps j some few)

  -- from the one behind node i on, so many
  chain-maps : (m most i : ℕ) → m ≤ most → i + m ≡ maps → chain_from nodes most (next_map_node tree i) ≡ range_with_len (i + 1) m
  chain-maps zero most i le e =
      let last : i ≡ maps = omega arith in
      ap (chain_from nodes most) (ap (next_map_node tree) last ∙ next_map_node-last tree) ∙ chain-none nodes most
  chain-maps (suc m) zero i le e = absurd (omega arith)
  chain-maps (suc m) (suc most) i le e =
      let behind = chain-maps m most (i + 1) (omega arith) (omega arith) in
      ap (chain_from nodes (suc most)) (next_map_node-before tree i (omega arith))
      ∙ chain-more nodes most (i + 1) (omega arith)
      ∙ ap (λ (ns : List ℕ). (i + 1) ∷ ns) (ap (chain_from nodes most) (forward_of-map (i + 1) (omega arith) (omega arith)) ∙ behind)

  pub map_nodes-new : map_nodes nodes ≡ range_with_len 1 maps
  unfolding map_nodes header_node
  map_nodes-new =
      let new = ok.new in
      let free = new.free in
      (λ i. chain_from nodes (header_in-new i).nodes (forward_of (holds.header i))) ∙ chain-maps maps tree.nodes 0 (omega arith) (omega arith)

  -- ---- the map

  map_bytes-behind : (m i : ℕ) → i + m ≤ maps
      → flat_map (λ n. record_in nodes n 0) (range_with_len (i + 1) m) ≡ node_map tree (256 + 492 * i) (492 * m)
  unfolding bit_row
  map_bytes-behind zero i le = refl
  map_bytes-behind (suc m) i le =
      let place : 256 + 492 * (i + 1) ≡ 256 + 492 * i + 492 = omega arith in
      let all : 492 + 492 * m ≡ 492 * suc m = omega arith in
      let behind = map_bytes-behind m (i + 1) (omega arith) ∙ ap (λ n. node_map tree n (492 * m)) place in
      (λ k. record_in-map i (omega arith) k ++ behind k) ∙ bit_row-append used (256 + 492 * i) 492 (492 * m) ∙ ap (node_map tree (256 + 492 * i)) all

  abbrev whole_map : List ℕ
  whole_map = node_map tree 0 (256 + 492 * maps)

  map_bytes-new : map_bytes nodes ≡ whole_map
  map_bytes-new =
      (λ i. record_in-first i ++ flat_map (λ n. record_in nodes n 0) (map_nodes-new i))
      ∙ ap (λ (bytes : List ℕ). node_map tree 0 256 ++ bytes) (map_bytes-behind maps 0 (omega arith))
      ∙ bit_row-append used 0 256 (492 * maps)

  marks-new : marks nodes ≡ map (bit_of whole_map) (range_with_len 0 tree.nodes)
  unfolding marks
  marks-new = λ i. map (bit_of (map_bytes-new i)) (range_with_len 0 (header_in-new i).nodes)

  bit-new : (n : ℕ) → n < tree.nodes → bit_of whole_map n ≡ nat_lt n used
  bit-new n lt = bit_of-bit_row used (256 + 492 * maps) n (omega (arith, long-map tree.nodes))

  -- the first nodes are marked
  pub is_marked-new : (n : ℕ) → n < used → is_marked nodes n ≡ true
  is_marked-new n lt =
      let within : n < tree.nodes = omega arith in
      ap (λ bits. slice_index_or bits n false) marks-new
      ∙ get_or-map-range_with_len (bit_of whole_map) 0 tree.nodes n n false within (omega arith)
      ∙ bit-new n within ∙ lt-ltb _ _ lt

  -- and the others are free
  pub free_nodes-new : free_nodes nodes ≡ tree.free_nodes
  unfolding free_nodes
  free_nodes-new =
      let clear = count_below-clear (bit_of whole_map) used tree.nodes bit-new in
      let new = ok.new in
      let free = new.free in
      ap (count_by not) marks-new ∙ count_by-map (bit_of whole_map) (range_with_len 0 tree.nodes) ∙ omega (arith, clear)

  pub has_header-new : {K : Type 0} (g : Ghosts K) → tree.key_len ≡ g.INDEX_KEY_LEN → HasHeader g nodes
  unfolding header_node
  has_header-new g len =
      let is = header_in-new in
      let nodes_is = ap (λ (h : Header). h.nodes) is in
      let depth_is = ap (λ (h : Header). h.depth) is in
      let long = ap length record_in-header in
      let new = ok.new in
      record {
        value = header_node tree;
        decodes = holds.header;
        kind = refl;
        three = refl;
        long = omega (arith, long, length-header_record tree);
        node_size = ap (λ (h : Header). h.node_size) is ∙ ok.node_size;
        key_len = ap (λ (h : Header). h.key_len) is ∙ len;
        some = omega (arith, nodes_is, new.free);
        shallow = omega (arith, depth_is, ok.depth);
      }

  is_map_node-new : (j : ℕ) → 1 ≤ j → j < 1 + maps → IsMapNode nodes j
  unfolding map_node
  is_map_node-new j some lt =
      let nodes_is = ap (λ (h : Header). h.nodes) header_in-new in
      let new = ok.new in
      record {
        within = (some, omega (arith, nodes_is, new.free));
        value = map_node tree j;
        decodes = holds.maps j some (omega arith);
        kind = refl;
        some = omega arith;
      }

  pub has_map-new : HasMap nodes
  has_map-new =
      let nodes_is = ap (λ (h : Header). h.nodes) header_in-new in
      let bytes_are = ap length map_bytes-new in
      let new = ok.new in
      let free = new.free in
      let first = is_marked-new 0 (omega arith) in
      record {
        chain = subst (Each (IsMapNode nodes)) (sym map_nodes-new) (each-range (IsMapNode nodes) 1 maps is_map_node-new);
        different = subst IsDistinct (sym map_nodes-new) (distinct-range 1 maps);
        long = omega (arith, nodes_is, bytes_are, length-bit_row used 0 (256 + 492 * maps), long-map tree.nodes);
        marked = (
          first,
          subst (Each (IsMarked nodes)) (sym map_nodes-new) (each-range (IsMarked nodes) 1 maps (λ j some lt. is_marked-new j (omega arith))),
        );
      }
