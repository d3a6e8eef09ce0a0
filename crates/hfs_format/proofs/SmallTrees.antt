-- The trees of a new volume are sound: a tree without a leaf, and a tree of one leaf.
use Rattle.std.proofs.Common.{◌≡◌, ℕ, suc, ◌+◌, ◌*◌, ◌^◌, ◌<◌, ◌≤◌, true, List, [], ◌∷◌, ◌++◌, Ok, length, map, refl, sym, ap, subst, ◌∙◌, arith}
use Rattle.std.specs.List.{flat_map, range_with_len}
use Rattle.std.proofs.lemmas.List.{append-nil, length-map}
use Rattle.hfs_btree.specs.declared.header.Header.{Header}
use Rattle.hfs_btree.specs.declared.key.Key.{Ghosts}
use Rattle.hfs_fields.specs.Each.{Each}
use Rattle.hfs_btree.specs.Pairs.{Rises}
use Rattle.hfs_btree.specs.Tree.{Store, Spot, node_in, records_of, pair_of, pairs, turn, last_level, first_of, last_of}
use Rattle.hfs_btree.specs.Header.{header_in, own_nodes, leaves, tree_content, tree_turn, tree_nodes}
use Rattle.hfs_btree.specs.Sound.{IsOther, IsDistinct, IsRight, HasLevels, HasEnds, HasStructure, HasCounts, IsWithinFile, IsShaped, AreKeysInOrder, IsOrdered}
use Rattle.hfs_btree.proofs.DistinctLemmas.{distinct-append}
use Rattle.hfs_space.proofs.OwnedOnce.{each-range, distinct-range}
use Rattle.hfs_format.specs.NewTrees.{map_node_count, empty_tree, one_leaf_tree, lone_leaf}
use Rattle.hfs_format.proofs.MapNodes.{few-map_nodes, room-map_nodes, is_new_tree-empty, is_new_tree-one_leaf}
use Rattle.hfs_format.proofs.HeaderRead.{IsHeaderValue, HoldsMap, header_in-new, map_nodes-new, is_marked-new, free_nodes-new, has_header-new, has_map-new}

-- ---- a tree without a leaf

-- the nodes of a file of so many begin with the header node of an empty tree, and its map nodes
pub record HoldsNoLeaf {K : Type 0} (g : Ghosts K) (count : ℕ) (nodes : Store) : Type 0 where
  pub some : 1 ≤ count
  pub few : count ≤ 4194304
  pub key_len : g.INDEX_KEY_LEN < 2 ^ 16
  pub map : HoldsMap (empty_tree g.INDEX_KEY_LEN count) nodes

module _ {K : Type 0} (g : Ghosts K) (count : ℕ) (nodes : Store) (holds : HoldsNoLeaf g count nodes) where
  abbrev no_leaf : Header
  no_leaf = empty_tree g.INDEX_KEY_LEN count

  no_leaf-value : IsHeaderValue no_leaf
  unfolding empty_tree
  no_leaf-value =
      record {
        depth = omega arith;
        root = omega arith;
        records = omega arith;
        first_leaf = omega arith;
        last_leaf = omega arith;
        node_size = refl;
        key_len = holds.key_len;
        new = is_new_tree-empty g.INDEX_KEY_LEN count holds.some holds.few;
      }

  no_leaf-header : header_in nodes ≡ no_leaf
  no_leaf-header = header_in-new nodes no_leaf no_leaf-value holds.map

  pub no_leaf-turn : tree_turn g nodes ≡ []
  unfolding empty_tree
  no_leaf-turn = λ i. turn g nodes (no_leaf-header i).depth ((no_leaf-header i).root ∷ [])

  no_leaf-leaves : leaves g nodes ≡ []
  unfolding empty_tree
  no_leaf-leaves = λ i. last_level g nodes (no_leaf-header i).depth ((no_leaf-header i).root ∷ [])

  pub no_leaf-content : tree_content g nodes ≡ []
  no_leaf-content = ap (flat_map (pairs g nodes)) no_leaf-leaves

  no_leaf-levels : HasLevels g nodes
  unfolding empty_tree
  no_leaf-levels =
      let maps : ℕ = map_node_count count in
      let all : own_nodes nodes ++ tree_nodes g nodes ≡ range_with_len 0 (suc maps) =
      (λ i. (0 ∷ map_nodes-new nodes no_leaf no_leaf-value holds.map i) ++ map (λ (spot : Spot). spot.n) (no_leaf-turn i))
      ∙ append-nil (range_with_len 0 (suc maps)) in
      record { each = subst (Each (IsRight g nodes)) (sym no_leaf-turn) tt; different = subst IsDistinct (sym all) (distinct-range 0 (suc maps)) }

  no_leaf-ends : HasEnds g nodes
  unfolding empty_tree
  no_leaf-ends = record {
    first = ap (λ (h : Header). h.first_leaf) no_leaf-header ∙ sym (ap first_of no_leaf-leaves);
    last = ap (λ (h : Header). h.last_leaf) no_leaf-header ∙ sym (ap last_of no_leaf-leaves);
    empty = λ none. ap (λ (h : Header). h.root) no_leaf-header;
  }

  no_leaf-counts : HasCounts g nodes
  unfolding empty_tree
  no_leaf-counts = record {
    records = ap (λ (h : Header). h.records) no_leaf-header ∙ sym (ap length no_leaf-content);
    free = ap (λ (h : Header). h.free_nodes) no_leaf-header ∙ sym (free_nodes-new nodes no_leaf no_leaf-value holds.map);
  }

  no_leaf-structure : HasStructure g nodes
  unfolding empty_tree
  no_leaf-structure = record {
    header = has_header-new nodes no_leaf no_leaf-value holds.map g refl;
    map = has_map-new nodes no_leaf no_leaf-value holds.map;
    levels = no_leaf-levels;
    ends = no_leaf-ends;
  }

  no_leaf-within : IsWithinFile (512 * count) nodes
  unfolding empty_tree
  no_leaf-within = omega (arith, ap (λ (h : Header). h.nodes) no_leaf-header)

  -- in a file of exactly its nodes the tree has its shape
  pub no_leaf-shaped : IsShaped g (512 * count) nodes
  no_leaf-shaped = record { structure = no_leaf-structure; counts = no_leaf-counts; within = no_leaf-within }

  pub no_leaf-ordered : IsOrdered g nodes
  no_leaf-ordered = record {
    rises = subst (Rises g.compare) (sym no_leaf-content) tt;
    keys = subst (Each (λ spot. AreKeysInOrder g nodes spot.above spot.n)) (sym no_leaf-turn) tt;
  }

-- ---- a tree of one leaf

-- the nodes of a file of so many begin with the header node of a tree of one leaf, its map nodes, and that leaf, whose records are in order
pub record HoldsOneLeaf {K : Type 0} (g : Ghosts K) (count : ℕ) (records : List (List ℕ)) (nodes : Store) : Type 0 where
  pub two : 2 ≤ count
  pub few : count ≤ 4194304
  pub key_len : g.INDEX_KEY_LEN < 2 ^ 16
  pub some : 1 ≤ length records
  pub short : length records < 2 ^ 32
  pub whole : Each (λ entry. g.is_leaf entry ≡ true) records
  pub rises : Rises g.compare (map (pair_of g) records)
  pub map : HoldsMap (one_leaf_tree g.INDEX_KEY_LEN count (length records)) nodes
  pub leaf : node_in nodes (1 + map_node_count count) ≡ Ok (lone_leaf records)

module _ {K : Type 0} (g : Ghosts K) (count : ℕ) (records : List (List ℕ)) (nodes : Store) (holds : HoldsOneLeaf g count records nodes) where
  abbrev one_leaf : Header
  one_leaf = one_leaf_tree g.INDEX_KEY_LEN count (length records)

  one_leaf-value : IsHeaderValue one_leaf
  unfolding one_leaf_tree
  one_leaf-value =
      let few = few-map_nodes count holds.few in
      record {
        depth = omega arith;
        root = omega arith;
        records = holds.short;
        first_leaf = omega arith;
        last_leaf = omega arith;
        node_size = refl;
        key_len = holds.key_len;
        new = is_new_tree-one_leaf g.INDEX_KEY_LEN count (length records) holds.two holds.few;
      }

  abbrev pub the_leaf : ℕ
  the_leaf = 1 + map_node_count count

  one_leaf-header : header_in nodes ≡ one_leaf
  one_leaf-header = header_in-new nodes one_leaf one_leaf-value holds.map

  abbrev pub the_spot : Spot
  the_spot = record { left = 0; n = the_leaf; right = 0; above = 0 }

  pub one_leaf-turn : tree_turn g nodes ≡ the_spot ∷ []
  unfolding one_leaf_tree
  one_leaf-turn = λ i. turn g nodes (one_leaf-header i).depth ((one_leaf-header i).root ∷ [])

  one_leaf-leaves : leaves g nodes ≡ the_leaf ∷ []
  unfolding one_leaf_tree
  one_leaf-leaves = λ i. last_level g nodes (one_leaf-header i).depth ((one_leaf-header i).root ∷ [])

  pub one_leaf-content : tree_content g nodes ≡ map (pair_of g) records
  one_leaf-content =
      ap (flat_map (pairs g nodes)) one_leaf-leaves ∙ append-nil (pairs g nodes the_leaf) ∙ ap (λ r. map (pair_of g) (records_of r)) holds.leaf

  one_leaf-right : IsRight g nodes the_spot
  unfolding one_leaf_tree
  one_leaf-right =
      let nodes_are = ap (λ (h : Header). h.nodes) one_leaf-header in
      let room = room-map_nodes count holds.two in
      record {
        within = (omega arith, omega arith);
        value = lone_leaf records;
        decodes = holds.leaf;
        kind = refl;
        height = refl;
        some = holds.some;
        left = refl;
        right = refl;
        whole = holds.whole;
        marked = is_marked-new nodes one_leaf one_leaf-value holds.map the_leaf (omega arith);
      }

  one_leaf-levels : HasLevels g nodes
  unfolding one_leaf_tree
  one_leaf-levels =
      let own : List ℕ = range_with_len 0 (suc (map_node_count count)) in
      let all : own_nodes nodes ++ tree_nodes g nodes ≡ own ++ the_leaf ∷ [] =
      λ i. (0 ∷ map_nodes-new nodes one_leaf one_leaf-value holds.map i) ++ map (λ (spot : Spot). spot.n) (one_leaf-turn i) in
      let apart = each-range (λ x. Each (IsOther x) (the_leaf ∷ [])) 0 (suc (map_node_count count)) (λ x low high. (λ e. omega arith, tt)) in
      record {
        each = subst (Each (IsRight g nodes)) (sym one_leaf-turn) (one_leaf-right, tt);
        different = subst IsDistinct (sym all) (distinct-append own (the_leaf ∷ []) (distinct-range 0 (suc (map_node_count count))) (tt, tt) apart);
      }

  one_leaf-ends : HasEnds g nodes
  unfolding one_leaf_tree
  one_leaf-ends =
      let depth = ap (λ (h : Header). h.depth) one_leaf-header in
      record {
        first = ap (λ (h : Header). h.first_leaf) one_leaf-header ∙ sym (ap first_of one_leaf-leaves);
        last = ap (λ (h : Header). h.last_leaf) one_leaf-header ∙ sym (ap last_of one_leaf-leaves);
        empty = λ none. absurd (omega arith);
      }

  one_leaf-counts : HasCounts g nodes
  unfolding one_leaf_tree
  one_leaf-counts = record {
    records = ap (λ (h : Header). h.records) one_leaf-header ∙ sym (ap length one_leaf-content ∙ length-map records (pair_of g));
    free = ap (λ (h : Header). h.free_nodes) one_leaf-header ∙ sym (free_nodes-new nodes one_leaf one_leaf-value holds.map);
  }

  one_leaf-structure : HasStructure g nodes
  unfolding one_leaf_tree
  one_leaf-structure = record {
    header = has_header-new nodes one_leaf one_leaf-value holds.map g refl;
    map = has_map-new nodes one_leaf one_leaf-value holds.map;
    levels = one_leaf-levels;
    ends = one_leaf-ends;
  }

  one_leaf-within : IsWithinFile (512 * count) nodes
  unfolding one_leaf_tree
  one_leaf-within = omega (arith, ap (λ (h : Header). h.nodes) one_leaf-header)

  -- in a file of exactly its nodes the tree has its shape
  pub one_leaf-shaped : IsShaped g (512 * count) nodes
  one_leaf-shaped = record { structure = one_leaf-structure; counts = one_leaf-counts; within = one_leaf-within }

  pub one_leaf-ordered : IsOrdered g nodes
  one_leaf-ordered = record {
    rises = subst (Rises g.compare) (sym one_leaf-content) holds.rises;
    keys = subst (Each (λ spot. AreKeysInOrder g nodes spot.above spot.n)) (sym one_leaf-turn) (tt, tt);
  }
