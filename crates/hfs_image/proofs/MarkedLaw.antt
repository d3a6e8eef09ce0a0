-- A node that its tree's map does not mark never decides: trees that agree on the others answer the same.
use Rattle.std.proofs.Common.{◌≡◌, ℕ, zero, suc, Bool, true, false, List, [], ◌∷◌, ◌++◌, length, map, get_or, replicate, Option, Some, None, Result, refl, sym, ap, subst, ◌∙◌, true≢false}
use Rattle.std.specs.Prelude.{◌&&◌, ◌||◌, ◌==◌, nat_lt, nat_le, not, if◌then◌else◌, ◌*◌}
use Rattle.std.specs.List.{flat_map, list_all, list_any, count_by, range_with_len}
use Rattle.std.specs.Option.{is_none, option_map}
use Rattle.std.proofs.lemmas.Bool.{and_parts, and_left, and_right}
use Rattle.std.proofs.lemmas.Option.{none-some}
use Rattle.hfs_btree.specs.declared.fault.NodeFault.{NodeFault}
use Rattle.hfs_btree.specs.declared.node.Node.{Node}
use Rattle.hfs_fields.specs.Each.{Each}
use Rattle.hfs_fields.proofs.ElementLemmas.{each-left, each-right, each-append, each-mono}
use Rattle.hfs_btree.specs.declared.header.Header as header
use Rattle.hfs_btree.specs.declared.key.Key.{Ghosts}
use Rattle.hfs_btree.proofs.LevelLemmas.{each-spots}
use Rattle.hfs_btree.specs.Tree.{Store, Spot, node_in, records_of, records_in, forward_of, pair_of, pairs, children, level_below, last_level, first_of, last_of, spots, turn, under, key_at}
use Rattle.hfs_btree.specs.Header.{header_of, header_in, record_in, chain_from, map_nodes, map_bytes, bit_of, marks, is_marked, free_nodes, depth_of, root_level, leaves, tree_content, tree_turn}
use Rattle.hfs_btree.specs.Sound.{part_of}
use Rattle.hfs_btree_checks.specs.Shape.{unless, ◌or_else◌, first_fault, is_header_node, is_header_record, has_header, is_within, is_map_result, is_map_node, chain_fault, has_map, is_result_at, is_right, is_own, turn_fault, levels_fault, names_ends, has_ends, has_counts, structure_fault}
use Rattle.hfs_btree_checks.specs.Order.{first_node, rise_fault, pair_leaves, leaf_order_fault, are_parts_in_order, are_keys_in_order, is_keyed, index_order_fault, has_keys, key_fault, index_keys_at, index_keys}
use Rattle.hfs_image.specs.Marked.{where_right, chain_of, map_chain, marked_of, needed_of_map, needed_of_tree, IsSameNode, AgreeOnMarked, HoldSameTree, TreesAnswerSame}
use Rattle.hfs_btree_checks.proofs.ShapeLawLemmas.{first-none, unless-none}
use Rattle.hfs_fields.proofs.PartLemmas.{flat_map-same}

first_node-same : (p q : Spot → Bool) (ss : List Spot) → Each (λ s. p s ≡ q s) ss → first_node p ss ≡ first_node q ss
first_node-same p q [] each = refl
first_node-same p q (s ∷ ss) each = λ i. if each.0 i then first_node-same p q ss each.1 i else Some s.n

pub or-same : (a b c d : Option ℕ) → b ≡ a → (a ≡ None → d ≡ c) → (b or_else d) ≡ (a or_else c)
or-same None b c d e f = ap (λ (o : Option ℕ). o or_else d) e ∙ f refl
or-same (Some x) b c d e f = ap (λ (o : Option ℕ). o or_else d) e

-- without a fault each element passes
module _ {X : Type 0} (test : X → Bool) (number : X → ℕ) where
  each-passes : (met : ℕ → Bool) (xs : List X) → first_fault test number met xs ≡ None → Each (λ x. test x ≡ true) xs
  each-passes met [] h = tt
  each-passes met (x ∷ xs) h =
      elim (test x && not (met (number x)))
      as (λ (t : Bool). (test x && not (met (number x))) ≡ t
      → (if t then first_fault test number (λ n. (n == number x) || met n) xs else Some (number x)) ≡ None → Each (λ x. test x ≡ true) (x ∷ xs)) [
        | true ↦ λ e k. ((and_parts (test x) (not (met (number x))) e).0, each-passes (λ n. (n == number x) || met n) xs k)
        | false ↦ λ e k. absurd (none-some (number x) (sym k))
      ]
      refl h

  -- elements before two rows that have the same first fault where these pass
  behind-same : (xs a b : List X) (met : ℕ → Bool)
      → (Each (λ x. test x ≡ true) xs → (now : ℕ → Bool) → first_fault test number now a ≡ first_fault test number now b)
      → first_fault test number met (xs ++ a) ≡ first_fault test number met (xs ++ b)
  behind-same [] a b met k = k tt met
  behind-same (x ∷ xs) a b met k =
      elim (test x && not (met (number x)))
      as (λ (t : Bool). (test x && not (met (number x))) ≡ t
      → (if t then first_fault test number (λ n. (n == number x) || met n) (xs ++ a) else Some (number x))
      ≡ (if t then first_fault test number (λ n. (n == number x) || met n) (xs ++ b) else Some (number x))) [
        | true ↦ λ e. behind-same xs a b (λ n. (n == number x) || met n) (λ each. k ((and_parts (test x) (not (met (number x))) e).0, each))
        | false ↦ λ e. refl
      ]
      refl

-- ---- the header node and the chain of map nodes

module _ (old new : Store) (head : IsSameNode old new 0) where
  pub header-same : header_in new ≡ header_in old
  header-same = ap (λ (r : Result Node NodeFault). header_of (get_or (records_of r) 0 [])) head

  has_header-same : {K : Type 0} (g : Ghosts K) (size : ℕ) → has_header g size new ≡ has_header g size old
  has_header-same g size = λ i. is_header_node (head i) && is_header_record g size (header-same i)

  within-same : (n : ℕ) → is_within new n ≡ is_within old n
  within-same n = ap (λ (h : header.Header). nat_le 1 n && nat_lt n h.nodes) header-same

  -- rows of nodes that begin with the same chain of map nodes
  record HaveSameChain (met : ℕ → Bool) (ns ms : List ℕ) : Type 0 where
    chain : chain_of new met ms ≡ chain_of old met ns
    fault : first_fault (is_map_node new) (λ n. n) met ms ≡ first_fault (is_map_node old) (λ n. n) met ns
    whole : first_fault (is_map_node old) (λ n. n) met ns ≡ None → (ms ≡ ns) × Each (IsSameNode old new) ns

  module _ (n : ℕ) (rest later : List ℕ) (met : ℕ → Bool) where
    abbrev more : ℕ → Bool
    more m = (m == n) || met m

    abbrev link : Store → Bool → Bool → Bool → List ℕ → List ℕ
    link nodes within again right ns = if within && not again then n ∷ (if within && right then chain_of nodes more ns else []) else []

    abbrev link_fault : Store → Bool → Bool → Bool → List ℕ → Option ℕ
    link_fault nodes within again right ns = if (within && right) && not again then first_fault (is_map_node nodes) (λ m. m) more ns else Some n

    record HaveSameLink (within again right now : Bool) : Type 0 where
      chain : link new within again now later ≡ link old within again right rest
      fault : link_fault new within again now later ≡ link_fault old within again right rest
      whole : link_fault old within again right rest ≡ None → (n ∷ later ≡ n ∷ rest) × Each (IsSameNode old new) (n ∷ rest)

    module _ (on : IsSameNode old new n → Each (IsSameNode old new) (chain_of old more rest) → HaveSameChain more rest later) where
      first-link : (right : Bool) → Each (IsSameNode old new) (link old true false right rest) → HaveSameLink true false right right
      first-link true h =
          let behind = on h.0 h.1 in
          record {
            chain = ap (λ (ms : List ℕ). n ∷ ms) behind.chain;
            fault = behind.fault;
            whole = λ none. (ap (λ (ms : List ℕ). n ∷ ms) (behind.whole none).0, (h.0, (behind.whole none).1));
          }
      first-link false h = record { chain = refl; fault = refl; whole = λ none. absurd (none-some n (sym none)) }

      link-same : (within again right now : Bool) → (IsSameNode old new n → now ≡ right) → Each (IsSameNode old new) (link old within again right rest)
          → HaveSameLink within again right now
      link-same false again right now is h = record { chain = refl; fault = refl; whole = λ none. absurd (none-some n (sym none)) }
      link-same true true true true is h = record { chain = refl; fault = refl; whole = λ none. absurd (none-some n (sym none)) }
      link-same true true true false is h = record { chain = refl; fault = refl; whole = λ none. absurd (none-some n (sym none)) }
      link-same true true false true is h = record { chain = refl; fault = refl; whole = λ none. absurd (none-some n (sym none)) }
      link-same true true false false is h = record { chain = refl; fault = refl; whole = λ none. absurd (none-some n (sym none)) }
      link-same true false true now is h = subst (λ (b : Bool). HaveSameLink true false true b) (sym (is h.0)) (first-link true h)
      link-same true false false now is h = subst (λ (b : Bool). HaveSameLink true false false b) (sym (is h.0)) (first-link false h)

      link-by : (within : Bool) → within ≡ is_within old n → is_within new n ≡ within → Each (IsSameNode old new) (link old within (met n) (is_map_result (node_in old n)) rest)
          → HaveSameChain met (n ∷ rest) (n ∷ later)
      unfolding is_map_node
      link-by within is now h =
          let same = link-same within (met n) (is_map_result (node_in old n)) (is_map_result (node_in new n)) (λ e. ap is_map_result e) h in
          record {
            chain = ap (λ (w : Bool). link new w (met n) (is_map_result (node_in new n)) later) now ∙ same.chain
                ∙ ap (λ (w : Bool). link old w (met n) (is_map_result (node_in old n)) rest) is;
            fault = ap (λ (w : Bool). link_fault new w (met n) (is_map_result (node_in new n)) later) now ∙ same.fault
                ∙ ap (λ (w : Bool). link_fault old w (met n) (is_map_result (node_in old n)) rest) is;
            whole = λ none. same.whole (ap (λ (w : Bool). link_fault old w (met n) (is_map_result (node_in old n)) rest) is ∙ none);
          }

      linked : Each (IsSameNode old new) (chain_of old met (n ∷ rest)) → HaveSameChain met (n ∷ rest) (n ∷ later)
      unfolding is_map_node
      linked h = link-by (is_within old n) refl (within-same n) h

  no-chain : (met : ℕ → Bool) → HaveSameChain met [] []
  no-chain met = record { chain = refl; fault = refl; whole = λ none. (refl, tt) }

  chain-same : (most n : ℕ) (met : ℕ → Bool) → Each (IsSameNode old new) (chain_of old met (chain_from old most n))
      → HaveSameChain met (chain_from old most n) (chain_from new most n)
  chain-same zero n met h = no-chain met
  chain-same (suc most) n met h =
      elim (n == 0)
      as (λ (t : Bool). Each (IsSameNode old new) (chain_of old met (if t then [] else n ∷ chain_from old most (forward_of (node_in old n))))
      → HaveSameChain met (if t then [] else n ∷ chain_from old most (forward_of (node_in old n))) (if t then [] else n ∷ chain_from new most (forward_of (node_in new n)))) [
        | true ↦ λ k. no-chain met
        | false ↦ λ k.
            linked n (chain_from old most (forward_of (node_in old n))) (chain_from new most (forward_of (node_in new n))) met
            (λ e each.
            subst (λ (next : ℕ). HaveSameChain (λ m. (m == n) || met m) (chain_from old most (forward_of (node_in old n))) (chain_from new most next))
            (sym (ap forward_of e))
            (chain-same most (forward_of (node_in old n)) (λ m. (m == n) || met m) each))
            k
      ]
      h

  module _ (chain : Each (IsSameNode old new) (map_chain old)) where
    map_chains : HaveSameChain (λ n. false) (map_nodes old) (map_nodes new)
    unfolding map_nodes map_chain
    map_chains =
        subst (λ (count : ℕ). HaveSameChain (λ n. false) (map_nodes old) (chain_from new count (forward_of (node_in new 0))))
        (sym (ap (λ (h : header.Header). h.nodes) header-same))
        (subst (λ (next : ℕ). HaveSameChain (λ n. false) (map_nodes old) (chain_from new (header_in old).nodes next)) (sym (ap forward_of head))
        (chain-same (header_in old).nodes (forward_of (node_in old 0)) (λ n. false) chain))

    pub map_chain-same : map_chain new ≡ map_chain old
    unfolding map_chain
    map_chain-same = map_chains.chain

    module _ (whole : chain_fault old (map_nodes old) ≡ None) where
      map_nodes-same : map_nodes new ≡ map_nodes old
      map_nodes-same = (map_chains.whole whole).0

      map_bytes-same : map_bytes new ≡ map_bytes old
      map_bytes-same =
          (λ i. get_or (records_of (head i)) 2 [] ++ flat_map (λ n. record_in new n 0) (map_nodes-same i))
          ∙ ap (λ (bytes : List ℕ). record_in old 0 2 ++ bytes)
          (flat_map-same (λ n. record_in new n 0) (λ n. record_in old n 0) (map_nodes old)
          (each-mono (IsSameNode old new) (λ n. record_in new n 0 ≡ record_in old n 0) (map_nodes old)
          (λ n e. ap (λ (r : Result Node NodeFault). get_or (records_of r) 0 []) e) (map_chains.whole whole).1))

      pub marks-same : marks new ≡ marks old
      unfolding marks
      marks-same = λ i. map (bit_of (map_bytes-same i)) (range_with_len 0 (header-same i).nodes)

      has_map-whole : has_map new ≡ has_map old
      unfolding has_map
      has_map-whole =
          λ i. is_none (map_chains.fault i) && nat_le (header-same i).nodes (8 * length (map_bytes-same i))
          && list_all (λ n. get_or (marks-same i) n false) (0 ∷ map_nodes-same i)

    wrong-map : (nodes : Store) (n : ℕ) → chain_fault nodes (map_nodes nodes) ≡ Some n → has_map nodes ≡ false
    unfolding has_map
    wrong-map nodes n e = and_left _ _ (and_left _ _ (ap is_none e))

    pub has_map-same : has_map new ≡ has_map old
    has_map-same =
        elim (chain_fault old (map_nodes old)) as (λ (o : Option ℕ). chain_fault old (map_nodes old) ≡ o → has_map new ≡ has_map old) [
          | None ↦ λ e. has_map-whole e
          | Some n ↦ λ e. wrong-map new n (map_chains.fault ∙ e) ∙ sym (wrong-map old n e)
        ]
        refl

    pub chain-whole : has_map old ≡ true → chain_fault old (map_nodes old) ≡ None
    chain-whole right =
        elim (chain_fault old (map_nodes old)) as (λ (o : Option ℕ). chain_fault old (map_nodes old) ≡ o → chain_fault old (map_nodes old) ≡ None) [
          | None ↦ λ e. e
          | Some n ↦ λ e. absurd (true≢false (sym right ∙ wrong-map old n e))
        ]
        refl

-- ---- what is read off nodes that are the same

module _ {K : Type 0} (g : Ghosts K) (old new : Store) where
  abbrev SpotSame : Spot → Type 0
  SpotSame spot = IsSameNode old new spot.n

  children-same : (ns : List ℕ) → Each (IsSameNode old new) ns → flat_map (children g new) ns ≡ flat_map (children g old) ns
  children-same ns each = flat_map-same (children g new) (children g old) ns
      (each-mono (IsSameNode old new) (λ n. children g new n ≡ children g old n) ns (λ n e. ap (λ (r : Result Node NodeFault). map g.child (records_of r)) e) each)

  pairs-same : (n : ℕ) → IsSameNode old new n → pairs g new n ≡ pairs g old n
  pairs-same n e = ap (λ (r : Result Node NodeFault). map (pair_of g) (records_of r)) e

  module _ (k : ℕ) (ns : List ℕ) (h : Each SpotSame (turn g old (suc k) ns)) where
    level-same : Each (IsSameNode old new) ns
    level-same = each-spots SpotSame (IsSameNode old new) k (λ left n right e. e) 0 ns
        (each-left SpotSame (spots k 0 ns) (turn g old k (flat_map (children g old) ns)) h)

    below-same : Each SpotSame (turn g old k (flat_map (children g old) ns))
    below-same = each-right SpotSame (spots k 0 ns) (turn g old k (flat_map (children g old) ns)) h

  turn-same : (k : ℕ) (ns : List ℕ) → Each SpotSame (turn g old k ns) → turn g new k ns ≡ turn g old k ns
  turn-same zero ns h = refl
  turn-same (suc k) ns h =
      ap (λ (ms : List ℕ). spots k 0 ns ++ turn g new k ms) (children-same ns (level-same k ns h))
      ∙ ap (λ (ss : List Spot). spots k 0 ns ++ ss) (turn-same k (flat_map (children g old) ns) (below-same k ns h))

  level_below-same : (k : ℕ) (ns : List ℕ) → Each SpotSame (turn g old (suc k) ns)
      → (level_below g new k ns ≡ level_below g old k ns) × Each (IsSameNode old new) (level_below g old k ns)
  level_below-same zero ns h = (refl, level-same zero ns h)
  level_below-same (suc k) ns h =
      let below = level_below-same k (flat_map (children g old) ns) (below-same (suc k) ns h) in
      (ap (level_below g new k) (children-same ns (level-same (suc k) ns h)) ∙ below.0, below.1)

  last_level-same : (k : ℕ) (ns : List ℕ) → Each SpotSame (turn g old k ns)
      → (last_level g new k ns ≡ last_level g old k ns) × Each (IsSameNode old new) (last_level g old k ns)
  last_level-same zero ns h = (refl, tt)
  last_level-same (suc k) ns h = level_below-same k ns h

  -- ---- pairs under nodes

  abbrev UnderSame : ℕ → ℕ → Type 0
  UnderSame k n = under g new k n ≡ under g old k n

  each-under : (k : ℕ) (ns : List ℕ) → Each (IsSameNode old new) ns → Each (UnderSame k) (flat_map (children g old) ns) → Each (UnderSame (suc k)) ns
  each-under k [] each h = tt
  each-under k (n ∷ ns) each h = (
    ap (λ (r : Result Node NodeFault). flat_map (under g new k) (map g.child (records_of r))) each.0
        ∙ flat_map-same (under g new k) (under g old k) (children g old n) (each-left (UnderSame k) (children g old n) (flat_map (children g old) ns) h),
    each-under k ns each.1 (each-right (UnderSame k) (children g old n) (flat_map (children g old) ns) h),
  )

  under-same : (k : ℕ) (ns : List ℕ) → Each SpotSame (turn g old (suc k) ns) → Each (UnderSame k) ns
  under-same zero ns h = each-mono (IsSameNode old new) (UnderSame zero) ns pairs-same (level-same zero ns h)
  under-same (suc k) ns h = each-under k ns (level-same (suc k) ns h) (under-same k (flat_map (children g old) ns) (below-same (suc k) ns h))

  -- ---- index keys in order

  abbrev KeyedSame : Spot → Type 0
  KeyedSame spot = is_keyed g new spot ≡ is_keyed g old spot

  parts-same : (k : ℕ) (entries : List (List ℕ)) → Each (UnderSame k) (map g.child entries)
      → map (part_of g (under g new k)) entries ≡ map (part_of g (under g old k)) entries
  parts-same k [] h = refl
  parts-same k (entry ∷ entries) h = λ i. (g.index_key entry, h.0 i) ∷ parts-same k entries h.1 i

  keys-same : (k n : ℕ) → IsSameNode old new n → Each (UnderSame k) (children g old n) → are_keys_in_order g new (suc k) n ≡ are_keys_in_order g old (suc k) n
  keys-same k n e h =
      ap (λ (r : Result Node NodeFault). are_parts_in_order g.compare [] (map (part_of g (under g new k)) (records_of r))) e
      ∙ ap (are_parts_in_order g.compare []) (parts-same k (records_in old n) h)

  spots-keyed : (k left : ℕ) (ns : List ℕ) → Each (IsSameNode old new) ns → Each (UnderSame k) (flat_map (children g old) ns) → Each KeyedSame (spots (suc k) left ns)
  unfolding is_keyed
  spots-keyed k left [] each h = tt
  spots-keyed k left (n ∷ ns) each h = (
    keys-same k n each.0 (each-left (UnderSame k) (children g old n) (flat_map (children g old) ns) h),
    spots-keyed k n ns each.1 (each-right (UnderSame k) (children g old n) (flat_map (children g old) ns) h),
  )

  leaves-keyed : (left : ℕ) (ns : List ℕ) → Each KeyedSame (spots 0 left ns)
  unfolding is_keyed
  leaves-keyed left [] = tt
  leaves-keyed left (n ∷ ns) = (refl, leaves-keyed n ns)

  turn-keyed : (k : ℕ) (ns : List ℕ) → Each SpotSame (turn g old k ns) → Each KeyedSame (turn g old k ns)
  turn-keyed zero ns h = tt
  turn-keyed (suc zero) ns h = each-append KeyedSame (spots zero 0 ns) [] (leaves-keyed 0 ns) tt
  turn-keyed (suc (suc k)) ns h =
      each-append KeyedSame (spots (suc k) 0 ns) (turn g old (suc k) (flat_map (children g old) ns))
      (spots-keyed k 0 ns (level-same (suc k) ns h) (under-same k (flat_map (children g old) ns) (below-same (suc k) ns h)))
      (turn-keyed (suc k) (flat_map (children g old) ns) (below-same (suc k) ns h))

  -- ---- the whole tree

  module _ (head : IsSameNode old new 0) (each : Each SpotSame (tree_turn g old)) where
    tree_turn-same : tree_turn g new ≡ tree_turn g old
    tree_turn-same =
        ap (λ (h : header.Header). turn g new h.depth (h.root ∷ [])) (header-same old new head) ∙ turn-same (depth_of old) (root_level old) each

    leaves-same : leaves g new ≡ leaves g old
    leaves-same =
        ap (λ (h : header.Header). last_level g new h.depth (h.root ∷ [])) (header-same old new head) ∙ (last_level-same (depth_of old) (root_level old) each).0

    each-leaf : Each (IsSameNode old new) (leaves g old)
    each-leaf = (last_level-same (depth_of old) (root_level old) each).1

    content-same : tree_content g new ≡ tree_content g old
    content-same =
        ap (flat_map (pairs g new)) leaves-same
        ∙ flat_map-same (pairs g new) (pairs g old) (leaves g old) (each-mono (IsSameNode old new) (λ n. pairs g new n ≡ pairs g old n) (leaves g old) pairs-same each-leaf)

    pair_leaves-same : pair_leaves g new ≡ pair_leaves g old
    unfolding pair_leaves
    pair_leaves-same =
        let of : Store → ℕ → List ℕ = λ nodes n. replicate (length (records_in nodes n)) n in
        ap (flat_map (of new)) leaves-same
        ∙ flat_map-same (of new) (of old) (leaves g old)
        (each-mono (IsSameNode old new) (λ n. of new n ≡ of old n) (leaves g old)
        (λ n e. ap (λ (r : Result Node NodeFault). replicate (length (records_of r)) n) e) each-leaf)

    leaf_order-same : leaf_order_fault g new ≡ leaf_order_fault g old
    unfolding leaf_order_fault
    leaf_order-same = λ i. option_map (λ k. get_or (pair_leaves-same i) k 0) (rise_fault g.compare (content-same i))

    index_order-same : index_order_fault g new ≡ index_order_fault g old
    unfolding index_order_fault
    index_order-same =
        ap (first_node (is_keyed g new)) tree_turn-same
        ∙ first_node-same (is_keyed g new) (is_keyed g old) (tree_turn g old) (turn-keyed (depth_of old) (root_level old) each)

    key_fault-same : (test : K → Bool) → key_fault g new test ≡ key_fault g old test
    unfolding key_fault has_keys
    key_fault-same test =
        ap (first_node (has_keys g new test)) tree_turn-same
        ∙ first_node-same (has_keys g new test) (has_keys g old test) (tree_turn g old)
        (each-mono SpotSame (λ s. has_keys g new test s ≡ has_keys g old test s) (tree_turn g old)
        (λ s e. ap (λ (r : Result Node NodeFault). list_all (λ entry. test (key_at g s.above entry)) (records_of r)) e) each)

    index_keys-same : index_keys g new ≡ index_keys g old
    unfolding index_keys
    index_keys-same =
        ap (flat_map (index_keys_at g new)) tree_turn-same
        ∙ flat_map-same (index_keys_at g new) (index_keys_at g old) (tree_turn g old)
        (each-mono SpotSame (λ s. index_keys_at g new s ≡ index_keys_at g old s) (tree_turn g old)
        (λ s e. ap (λ (r : Result Node NodeFault). if s.above == 0 then [] else map g.index_key (records_of r)) e) each)

    has_ends-same : has_ends g new ≡ has_ends g old
    unfolding has_ends
    has_ends-same = λ i. names_ends (header-same old new head i) (first_of (leaves-same i)) (last_of (leaves-same i))

    has_counts-same : marks new ≡ marks old → has_counts g new ≡ has_counts g old
    unfolding has_counts free_nodes
    has_counts-same m = λ i.
        ((header-same old new head i).records == length (content-same i)) && ((header-same old new head i).free_nodes == count_by not (m i))

    hold-same : marks new ≡ marks old → HoldSameTree g old new
    hold-same m = record {
      counts = has_counts-same m;
      content = content-same;
      index_keys = index_keys-same;
      key_faults = key_fault-same;
      index_order = index_order-same;
      leaf_order = leaf_order-same;
    }

-- ---- the levels, and the whole

module _ {K : Type 0} (g : Ghosts K) (size : ℕ) (old new : Store) (agree : AgreeOnMarked g size old new) where
  module _ (right : has_header g size old ≡ true) (mapped : has_map old ≡ true) where
    whole : chain_fault old (map_nodes old) ≡ None
    whole = chain-whole old new agree.header (agree.chain right) mapped

    m : marks new ≡ marks old
    m = marks-same old new agree.header (agree.chain right) whole

    mark-same : (n : ℕ) → is_marked new n ≡ is_marked old n
    mark-same n = ap (λ (ms : List Bool). get_or ms n false) m

    is_right-same : (spot : Spot) → is_right g new spot ≡ is_right g old spot
    unfolding is_right
    is_right-same spot =
        elim (is_marked old spot.n) as (λ (t : Bool). is_marked old spot.n ≡ t → is_right g new spot ≡ is_right g old spot) [
          | true ↦ λ e. λ i. within-same old new agree.header spot.n i && is_result_at g spot (agree.marked right mapped spot.n e i) && mark-same spot.n i
          | false ↦ λ e. and_right _ _ (mark-same spot.n ∙ e) ∙ sym (and_right _ _ e)
        ]
        refl

    spot-same : (spot : Spot) → is_right g old spot ≡ true → IsSameNode old new spot.n
    unfolding is_right
    spot-same spot h = agree.marked right mapped spot.n (and_parts (is_within old spot.n && is_result_at g spot (node_in old spot.n)) (is_marked old spot.n) h).1

    turns-fail-same : (k : ℕ) (ns : List ℕ) (met : ℕ → Bool) → turn_fault g old met (turn g new k ns) ≡ turn_fault g old met (turn g old k ns)
    turns-fail-same zero ns met = refl
    turns-fail-same (suc k) ns met =
        behind-same (is_right g old) (λ spot. spot.n) (spots k 0 ns) (turn g new k (flat_map (children g new) ns)) (turn g old k (flat_map (children g old) ns)) met
        (λ each now.
        ap (λ (ms : List ℕ). turn_fault g old now (turn g new k ms))
        (children-same g old new ns
        (each-spots (λ spot. is_right g old spot ≡ true) (IsSameNode old new) k (λ left n next h. spot-same (record { left = left; n = n; right = next; above = k }) h) 0 ns each))
        ∙ turns-fail-same k (flat_map (children g old) ns) now)

    levels_fault-same : levels_fault g new ≡ levels_fault g old
    unfolding levels_fault
    levels_fault-same =
        (λ i. first_fault (λ spot. is_right-same spot i) (λ spot. spot.n) (λ n. list_any (λ k. n == k) (0 ∷ map_nodes-same old new agree.header (agree.chain right) whole i))
        (turn g new (header-same old new agree.header i).depth ((header-same old new agree.header i).root ∷ [])))
        ∙ turns-fail-same (depth_of old) (root_level old) (is_own old)

    module _ (none : levels_fault g old ≡ None) where
      each-same : Each (λ spot. IsSameNode old new spot.n) (tree_turn g old)
      unfolding levels_fault
      each-same = each-mono (λ spot. is_right g old spot ≡ true) (λ spot. IsSameNode old new spot.n) (tree_turn g old) spot-same
          (each-passes (is_right g old) (λ spot. spot.n) (is_own old) (tree_turn g old) none)

  structure-same : structure_fault g size new ≡ structure_fault g size old
  unfolding structure_fault
  structure-same =
      or-same (unless (has_header g size old)) (unless (has_header g size new))
      (unless (has_map old) or_else levels_fault g old or_else unless (has_ends g old)) (unless (has_map new) or_else levels_fault g new or_else unless (has_ends g new))
      (ap unless (has_header-same old new agree.header g size))
      (λ first.
      let right = unless-none (has_header g size old) first in
      or-same (unless (has_map old)) (unless (has_map new)) (levels_fault g old or_else unless (has_ends g old)) (levels_fault g new or_else unless (has_ends g new))
      (ap unless (has_map-same old new agree.header (agree.chain right)))
      (λ second.
      let mapped = unless-none (has_map old) second in
      or-same (levels_fault g old) (levels_fault g new) (unless (has_ends g old)) (unless (has_ends g new)) (levels_fault-same right mapped)
      (λ third. ap unless (has_ends-same g old new agree.header (each-same right mapped third)))))

  held : structure_fault g size old ≡ None → HoldSameTree g old new
  unfolding structure_fault
  held none =
      let first = first-none (unless (has_header g size old)) (unless (has_map old) or_else levels_fault g old or_else unless (has_ends g old)) none in
      let right = unless-none (has_header g size old) first.0 in
      let second = first-none (unless (has_map old)) (levels_fault g old or_else unless (has_ends g old)) first.1 in
      let mapped = unless-none (has_map old) second.0 in
      let third = first-none (levels_fault g old) (unless (has_ends g old)) second.1 in
      hold-same g old new agree.header (each-same right mapped third.0) (m right mapped)

  module _ (numbers : List ℕ) where
    marked-needed : has_header g size old ≡ true → where_right (has_map new) (marked_of (marks new) numbers) ≡ where_right (has_map old) (marked_of (marks old) numbers)
    marked-needed right =
        elim (has_map old)
        as (λ (t : Bool). has_map old ≡ t → where_right (has_map new) (marked_of (marks new) numbers) ≡ where_right (has_map old) (marked_of (marks old) numbers)) [
          | true ↦ λ e. λ i. where_right (has_map-same old new agree.header (agree.chain right) i) (marked_of (m right e i) numbers)
          | false ↦ λ e.
              ap (λ (t : Bool). where_right t (marked_of (marks new) numbers)) (has_map-same old new agree.header (agree.chain right) ∙ e)
              ∙ sym (ap (λ (t : Bool). where_right t (marked_of (marks old) numbers)) e)
        ]
        refl

    needed_of_map-same : has_header g size old ≡ true → needed_of_map new numbers ≡ needed_of_map old numbers
    unfolding needed_of_map
    needed_of_map-same right = λ i.
        map (λ n. get_or numbers n 0) (map_chain-same old new agree.header (agree.chain right) i) ++ marked-needed right i

    needed-same : needed_of_tree g size new numbers ≡ needed_of_tree g size old numbers
    unfolding needed_of_tree
    needed-same =
        elim (has_header g size old)
        as (λ (t : Bool). has_header g size old ≡ t → needed_of_tree g size new numbers ≡ needed_of_tree g size old numbers) [
          | true ↦ λ e. λ i. get_or numbers 0 0 ∷ where_right (has_header-same old new agree.header g size i) (needed_of_map-same e i)
          | false ↦ λ e.
              ap (λ (t : Bool). get_or numbers 0 0 ∷ where_right t (needed_of_map new numbers)) (has_header-same old new agree.header g size ∙ e)
              ∙ sym (ap (λ (t : Bool). get_or numbers 0 0 ∷ where_right t (needed_of_map old numbers)) e)
        ]
        refl

  pub trees-same : TreesAnswerSame g size old new
  trees-same = record { needed = needed-same; fault = structure-same; held = held }
