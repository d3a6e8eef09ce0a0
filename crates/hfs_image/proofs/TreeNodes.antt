-- What was read of a tree tells as much of it whatever else is read.
use Rattle.std.proofs.Common.{◌≡◌, ℕ, zero, suc, ◌+◌, ◌*◌, ◌<◌, ◌≤◌, Bool, true, false, List, [], ◌∷◌, ◌++◌, length, map, get_or, set, replicate, Option, Some, IsSome, Result, Ok, Err, refl, sym, ap, subst, ◌∙◌, arith, append_assoc, append-nil}
use Rattle.std.specs.Prelude.{◌&&◌, ◌||◌, ◌==◌, nat_le, not, if◌then◌else◌, OnOk}
use Rattle.std.specs.List.{flat_map, range_with_len}
use Rattle.std.specs.Option.{is_none}
use Rattle.std.proofs.lemmas.Bool.{and_parts, and_from, and_left, and_right, leb-true, le-leb, le-ltb, lt-ltb, eq-eqb, cond-true}
use Rattle.hfs_btree.specs.declared.node.Node.{Node}
use Rattle.hfs_btree.specs.Node.{node_of}
use Rattle.hfs_fields.specs.Each.{Each}
use Rattle.hfs_fields.proofs.ElementLemmas.{each-append, each-mono, each-unmap}
use Rattle.hfs_blocks.specs.declared.run.Run.{Run}
use Rattle.hfs_blocks.specs.Blocks.{run_of, nodes_in}
use Rattle.hfs_blocks.specs.Layers.{Numbered, changes}
use Rattle.hfs_btree.specs.declared.header.Header as header
use Rattle.hfs_btree.specs.declared.key.Key.{Ghosts}
use Rattle.hfs_btree.specs.Tree.{Store, node_in, forward_of}
use Rattle.hfs_btree.specs.Header.{header_in, chain_from, map_nodes, map_bytes, marks, bit_of}
use Rattle.hfs_btree_checks.specs.Shape.{first_fault, is_header_value, is_header_record, is_header_with, own_header, has_header, is_within, is_map_result, is_map_node, has_map}
use Rattle.hfs_btree_checks.specs.ShapeSteps.{is_met, map_part}
use Rattle.hfs_btree_checks.proofs.ShapeTurn.{met-more}
use Rattle.hfs_btree.proofs.ChainLemmas.{chain-step}
use Rattle.hfs_btree_checks.proofs.ShapeChain.{chain-goes-on}
use Rattle.hfs_btree_checks.proofs.ShapeMaps.{unmet, chain-fault-is, wrong-chain, no-bits}
use Rattle.hfs_source.specs.Sparse.{sparse, HasEach, HasGrown}
use Rattle.hfs_source.proofs.SparseLemmas.{each-grown, each-same, has-grown}
use Rattle.hfs_image.specs.Marked.{where_right, chain_of, map_chain, marked_of, needed_of_map, needed_of_tree, IsSameNode}
use Rattle.hfs_image.specs.TreeReads.{nodes_of, block_for, HasNode, IsHeadOf, HasChain, IsMapOf, HasMapChain, HasMarked}
use Rattle.hfs_image.specs.declared.tree_header.TreeHead.{TreeHead}
use Rattle.hfs_image.proofs.MarkedLaw.{header-same, map_chain-same, has_map-same, marks-same, chain-whole}
use Rattle.hfs_image.proofs.SameTrees.{node-at}

-- ---- the header node

-- a right header record tells of no more nodes than the file has room for
pub header-small : {K : Type 0} (g : Ghosts K) (size : ℕ) (v : Node) (h : header.Header) → is_header_with g size v ≡ true → h ≡ own_header v → 512 * h.nodes ≤ size
unfolding is_header_record
header-small g size v h right is =
    let own = own_header v in
    let record_right = (and_parts (is_header_value v) (is_header_record g size own) right).1 in
    let five = and_parts ((own.node_size == 512) && (own.key_len == g.INDEX_KEY_LEN) && nat_le 1 own.nodes && nat_le (512 * own.nodes) size) (nat_le own.depth 16) record_right in
    let four = and_parts ((own.node_size == 512) && (own.key_len == g.INDEX_KEY_LEN) && nat_le 1 own.nodes) (nat_le (512 * own.nodes) size) five.0 in
    let small = leb-true _ _ four.1 in
    let same = ap (λ (k : header.Header). k.nodes) is in
    omega (arith, small, same)

-- ---- one node

at-number : (f : ℕ → List ℕ) (numbers : List ℕ) (n : ℕ) → n < length numbers → get_or (map f numbers) n [] ≡ f (get_or numbers n 0)
at-number f [] n lt = absurd (omega (arith, lt))
at-number f (x ∷ xs) zero lt = refl
at-number f (x ∷ xs) (suc n) lt = at-number f xs n (omega (arith, lt))

-- a copy of the block of a node
pub node-bytes : (read : Numbered) (runs : List Run) (n : ℕ) (block : List ℕ) → n < length (flat_map run_of runs) → block ≡ sparse read (block_for runs n)
    → block ≡ get_or (nodes_of read runs) n []
unfolding nodes_in
node-bytes read runs n block lt e = e ∙ sym (at-number (sparse read) (flat_map run_of runs) n lt)

module _ (old new : Numbered) (grown : HasGrown old new) (runs : List Run) where
  -- it reads the same whatever else is read
  pub node-stays : (n : ℕ) → HasNode old runs n → IsSameNode (nodes_of old runs) (nodes_of new runs) n
  unfolding nodes_in node_in
  node-stays n has = ap node_of (node-at (sparse old) (sparse new) (flat_map run_of runs) n (each-same old new grown (block_for runs n ∷ []) (has, tt)).0)

  nodes-stay : (ns : List ℕ) → HasEach old (map (block_for runs) ns) → Each (IsSameNode (nodes_of old runs) (nodes_of new runs)) ns
  nodes-stay ns h =
      each-mono (λ n. IsSome (changes old (block_for runs n))) (IsSameNode (nodes_of old runs) (nodes_of new runs)) ns node-stays
      (each-unmap (λ n. IsSome (changes old n)) (block_for runs) ns h)

  pub head-stays : (head : TreeHead) → HasNode old runs 0 → IsHeadOf (node_in (nodes_of old runs) 0) head → IsHeadOf (node_in (nodes_of new runs) 0) head
  head-stays head has is = subst (λ (r : _). IsHeadOf r head) (sym (node-stays 0 has)) is

  pub count-stays : (count : ℕ) → HasNode old runs 0 → count ≡ (header_in (nodes_of old runs)).nodes → count ≡ (header_in (nodes_of new runs)).nodes
  count-stays count has e = e ∙ sym (ap (λ (h : header.Header). h.nodes) (header-same (nodes_of old runs) (nodes_of new runs) (node-stays 0 has)))

-- ---- the chain of map nodes

module _ (fin : Numbered) (runs : List Run) where
  abbrev nodes : Store
  nodes = nodes_of fin runs

  abbrev part : ℕ → List ℕ
  part n = map_part nodes n

  abbrev fault : List Bool → List ℕ → Option ℕ
  fault met ns = first_fault (is_map_node nodes) (λ n. n) (is_met met) ns

  module _ (count first : ℕ) (met0 : List Bool) (map0 : List ℕ) where
    -- what the whole chain is, by the part of it that is still to come
    pub record GoesOn (most n : ℕ) (met : List Bool) (bits : List ℕ) : Type 0 where
      pub same : fault met0 (chain_from nodes count first) ≡ fault met (chain_from nodes most n)
      pub parts : map0 ++ flat_map part (chain_from nodes count first) ≡ bits ++ flat_map part (chain_from nodes most n)
      pub has : HasChain fin runs most n met → HasChain fin runs count first met0

    pub goes-on-first : GoesOn count first met0 map0
    goes-on-first = record { same = refl; parts = refl; has = λ h. h }

    module _ (most n : ℕ) (met : List Bool) (bits : List ℕ) (before : GoesOn most n met bits) where
      module _ (less next : ℕ) (later : List Bool) (more : List ℕ) (steps : most ≡ suc less) (some : n ≡ 0 → ⊥) (low : n < count)
          (counted : count ≡ (header_in nodes).nodes) (new : is_met met n ≡ false) (long : length met ≡ count) (has : HasNode fin runs n)
          (right : is_map_result (node_in nodes n) ≡ true) (forward : next ≡ forward_of (node_in nodes n)) (gains : more ≡ bits ++ part n) (meets : later ≡ set met n true) where
        rest : List ℕ
        rest = chain_from nodes less next

        here : chain_from nodes most n ≡ n ∷ chain_from nodes less next
        here = chain-step nodes most less n steps some ∙ ap (λ (m : ℕ). n ∷ chain_from nodes less m) (sym forward)

        is-within : is_within nodes n ≡ true
        is-within =
            let above : 1 ≤ n = omega (arith, some) in
            let below : n < (header_in nodes).nodes = omega (arith, low, counted) in
            and_from _ _ (le-leb 1 n above) (lt-ltb n (header_in nodes).nodes below)

        is-map : is_map_node nodes n ≡ true
        unfolding is_map_node
        is-map = and_from _ _ is-within right

        goes-chain : chain_of nodes (is_met met) (n ∷ chain_from nodes less next) ≡ n ∷ chain_of nodes (is_met later) (chain_from nodes less next)
        goes-chain =
            let ms = chain_from nodes less next in
            let on : List ℕ = chain_of nodes (λ m. (m == n) || is_met met m) ms in
            let within : n < length met = omega (arith, low, long) in
            let one : chain_of nodes (is_met met) (n ∷ ms) ≡ n ∷ (if is_map_node nodes n then on else []) = cond-true _ _ _ (and_from _ _ is-within (ap not new)) in
            let two : (if is_map_node nodes n then on else []) ≡ on = cond-true _ _ _ is-map in
            one ∙ ap (λ (ns : List ℕ). n ∷ ns) two ∙ ap (λ (f : ℕ → Bool). n ∷ chain_of nodes f ms) (met-more met n within ∙ ap is_met (sym meets))

        pub goes-on : GoesOn less next later more
        goes-on = record {
          same =
              before.same ∙ ap (fault met) here
              ∙ chain-goes-on nodes met n (chain_from nodes less next) (and_from _ _ is-map (ap not new)) (let within : n < length met = omega (arith, low, long) in within)
              ∙ ap (λ (ms : List Bool). fault ms (chain_from nodes less next)) (sym meets);
          parts =
              before.parts ∙ ap (λ (ns : List ℕ). bits ++ flat_map part ns) here
              ∙ sym (append_assoc bits (part n) (flat_map part (chain_from nodes less next)))
              ∙ ap (λ (bytes : List ℕ). bytes ++ flat_map part (chain_from nodes less next)) (sym gains);
          has = λ h.
              before.has (subst (λ (ns : List ℕ). HasEach fin (map (block_for runs) (chain_of nodes (is_met met) ns))) (sym here)
              (subst (λ (ns : List ℕ). HasEach fin (map (block_for runs) ns)) (sym goes-chain) (has, h)));
        }

      -- nothing is still to come
      module _ (nil : chain_from nodes most n ≡ []) where
        pub done-has : HasChain fin runs count first met0
        done-has = before.has (subst (λ (ns : List ℕ). HasEach fin (map (block_for runs) (chain_of nodes (is_met met) ns))) (sym nil) tt)

        pub done-is : true ≡ is_none (fault met0 (chain_from nodes count first))
        done-is = sym (ap is_none (before.same ∙ ap (fault met) nil))

        pub done-parts : bits ≡ map0 ++ flat_map part (chain_from nodes count first)
        done-parts = sym (before.parts ∙ ap (λ (ns : List ℕ). bits ++ flat_map part ns) nil ∙ append-nil bits)

      -- or what is still to come begins with a node that ends the chain
      module _ (less : ℕ) (steps : most ≡ suc less) (some : n ≡ 0 → ⊥) where
        last : chain_from nodes most n ≡ n ∷ chain_from nodes less (forward_of (node_in nodes n))
        last = chain-step nodes most less n steps some

        broken-is : (is_map_node nodes n && not (is_met met n)) ≡ false → false ≡ is_none (fault met0 (chain_from nodes count first))
        broken-is wrong =
            sym (ap is_none (before.same ∙ ap (fault met) last
            ∙ ap (λ (t : Bool). if t then first_fault (is_map_node nodes) (λ m. m) (λ m. (m == n) || is_met met m) (chain_from nodes less (forward_of (node_in nodes n))) else Some n) wrong))

        broken-has : HasEach fin (map (block_for runs) (chain_of nodes (is_met met) (n ∷ chain_from nodes less (forward_of (node_in nodes n))))) → HasChain fin runs count first met0
        broken-has h = before.has (subst (λ (ns : List ℕ). HasEach fin (map (block_for runs) (chain_of nodes (is_met met) ns))) (sym last) h)

        -- none of the tree's, or met before
        module _ (out : (is_within nodes n && not (is_met met n)) ≡ false) where
          pub outside-has : HasChain fin runs count first met0
          outside-has = broken-has
              (subst (λ (t : Bool). HasEach fin (map (block_for runs) (if t then n ∷ (if is_map_node nodes n then
              chain_of nodes (λ m. (m == n) || is_met met m) (chain_from nodes less (forward_of (node_in nodes n))) else []) else []))) (sym out) tt)

          out-too : (w m q : Bool) → (w && not q) ≡ false → ((w && m) && not q) ≡ false
          out-too false m q e = refl
          out-too true true q e = e
          out-too true false q e = refl

          pub outside-is : false ≡ is_none (fault met0 (chain_from nodes count first))
          unfolding is_map_node
          outside-is = broken-is (out-too (is_within nodes n) (is_map_result (node_in nodes n)) (is_met met n) out)

        -- no map node
        module _ (has : HasNode fin runs n) (wrong : is_map_result (node_in nodes n) ≡ false) where
          no-map : is_map_node nodes n ≡ false
          unfolding is_map_node
          no-map = no (is_within nodes n) (is_map_result (node_in nodes n)) wrong
            where
              no : (w m : Bool) → m ≡ false → (w && m) ≡ false
              no true m e = e
              no false m e = refl

          pub wrong-has : HasChain fin runs count first met0
          wrong-has = broken-has
              (subst (λ (t : Bool). HasEach fin (map (block_for runs) (if is_within nodes n && not (is_met met n) then n ∷ (if t then
              chain_of nodes (λ m. (m == n) || is_met met m) (chain_from nodes less (forward_of (node_in nodes n))) else []) else []))) (sym no-map)
              (either (is_within nodes n && not (is_met met n))))
            where
              either : (t : Bool) → HasEach fin (map (block_for runs) (if t then n ∷ [] else []))
              either true = (has, tt)
              either false = tt

          pub wrong-is : false ≡ is_none (fault met0 (chain_from nodes count first))
          wrong-is = broken-is (and_left _ _ no-map)

  pub out-past : (count n : ℕ) (again : Bool) → count ≡ (header_in nodes).nodes → count ≤ n → (is_within nodes n && not again) ≡ false
  out-past count n again counted past =
      let none : (header_in nodes).nodes ≤ n = omega (arith, counted, past) in
      and_left _ _ (and_right _ _ (le-ltb n (header_in nodes).nodes none))

  pub out-again : (n : ℕ) (again : Bool) → again ≡ true → (is_within nodes n && not again) ≡ false
  out-again n again e = and_right _ _ (ap not e)

  pub no-chain-from : (most n : ℕ) → n ≡ 0 → chain_from nodes most n ≡ []
  no-chain-from zero n e = refl
  no-chain-from (suc most) n e = cond-true _ _ _ (eq-eqb n 0 e)

  -- ---- the map

  module _ (head : TreeHead) (is : IsHeadOf (node_in nodes 0) head) (met : List Bool) (unmarked : met ≡ replicate head.nodes false) where
    chain-is : chain_from nodes head.nodes head.first ≡ map_nodes nodes
    unfolding map_nodes
    chain-is = λ i. chain_from nodes (is.nodes i) (is.first i)

    pub has-map-chain : HasChain fin runs head.nodes head.first met → HasMapChain fin runs
    unfolding map_chain
    has-map-chain h =
        let none : is_met met ≡ (λ (k : ℕ). false) = (λ j k. unmet met head.nodes unmarked k j) in
        subst (λ (ns : List ℕ). HasEach fin (map (block_for runs) ns)) (λ i. chain_of nodes (none i) (chain-is i)) h

    pub chain-wrong : false ≡ is_none (fault met (chain_from nodes head.nodes head.first)) → has_map nodes ≡ false
    chain-wrong e = wrong-chain nodes (fault met (chain_from nodes head.nodes head.first))
        (chain-fault-is nodes met head.nodes (chain_from nodes head.nodes head.first) unmarked chain-is) (sym e)

    module _ (bits : List ℕ) (parts : bits ≡ head.map.items ++ flat_map part (chain_from nodes head.nodes head.first)) where
      pub map-is : bits ≡ map_bytes nodes
      map-is = parts ∙ (λ i. is.map i ++ flat_map part (chain-is i))

      pub map-short : 8 * length bits < head.nodes → has_map nodes ≡ false
      map-short lt = no-bits nodes (let same = is.nodes in let long = ap (λ (xs : List ℕ). length xs) map-is in omega (arith, lt, same, long))

-- ---- the marked nodes

-- what follows from an answer
pub on-ok : {A E : Type 0} {P Q : Type 0} (r : Result A E) → (P → Q) → OnOk r P → OnOk r Q
on-ok (Ok a) so h = so h
on-ok (Err e) so h = tt

module _ (read : Numbered) (bit : ℕ → Bool) where
  marked-from : (a count : ℕ) (numbers : List ℕ) → ((k : ℕ) → k < count → bit (a + k) ≡ true → IsSome (changes read (get_or numbers k 0)))
      → HasEach read (marked_of (map bit (range_with_len a count)) numbers)
  marked-from a zero numbers f = tt
  marked-from a (suc count) [] f = tt
  marked-from a (suc count) (x ∷ xs) f =
      let behind : HasEach read (marked_of (map bit (range_with_len (a + 1) count)) xs) =
      marked-from (a + 1) count xs (λ k lt e.
      let one : suc k < suc count = omega (arith, lt) in
      let same : a + 1 + k ≡ a + suc k = omega arith in
      f (suc k) one (subst (λ n. bit n ≡ true) same e)) in
      elim (bit a) as (λ (t : Bool). bit a ≡ t
      → HasEach read (if t then x ∷ marked_of (map bit (range_with_len (a + 1) count)) xs else marked_of (map bit (range_with_len (a + 1) count)) xs)) [
        | true ↦ λ e. (f 0 (let some : 0 < suc count = omega arith in some) (subst (λ n. bit n ≡ true) (let same : a ≡ a + 0 = omega arith in same) e), behind)
        | false ↦ λ e. behind
      ]
      refl

pub marked-all : (read : Numbered) (runs : List Run) (bits : List ℕ) (count : ℕ) → ((k : ℕ) → k < count → bit_of bits k ≡ true → HasNode read runs k)
    → HasMarked read runs bits count
marked-all read runs bits count f =
    marked-from read (bit_of bits) 0 count (flat_map run_of runs)
    (λ k lt e. f k lt (subst (λ n. bit_of bits n ≡ true) (let same : 0 + k ≡ k = omega arith in same) e))

-- ---- the tree

pub has-where : (read : Numbered) (test : Bool) (numbers : List ℕ) → HasEach read numbers → HasEach read (where_right test numbers)
has-where read true numbers h = h
has-where read false numbers h = tt

module _ {K : Type 0} (g : Ghosts K) (size : ℕ) (runs : List Run) where
  -- where the header node is wrong
  pub needs-head : (read : Numbered) → HasNode read runs 0 → has_header g size (nodes_of read runs) ≡ false
      → HasEach read (needed_of_tree g size (nodes_of read runs) (flat_map run_of runs))
  unfolding needed_of_tree
  needs-head read has wrong = (
    has,
    subst (λ (t : Bool). HasEach read (where_right t (needed_of_map (nodes_of read runs) (flat_map run_of runs)))) (sym wrong) tt,
  )

  needs-of-map : (read : Numbered) → HasNode read runs 0 → HasMapChain read runs
      → HasEach read (where_right (has_map (nodes_of read runs)) (marked_of (marks (nodes_of read runs)) (flat_map run_of runs)))
      → HasEach read (needed_of_tree g size (nodes_of read runs) (flat_map run_of runs))
  unfolding needed_of_tree needed_of_map
  needs-of-map read has chain marked = (
    has,
    has-where read (has_header g size (nodes_of read runs)) (needed_of_map (nodes_of read runs) (flat_map run_of runs))
        (each-append (λ n. IsSome (changes read n)) (map (block_for runs) (map_chain (nodes_of read runs)))
        (where_right (has_map (nodes_of read runs)) (marked_of (marks (nodes_of read runs)) (flat_map run_of runs))) chain marked),
  )

  -- where the map is wrong
  pub needs-chain : (read : Numbered) → HasNode read runs 0 → HasMapChain read runs → has_map (nodes_of read runs) ≡ false
      → HasEach read (needed_of_tree g size (nodes_of read runs) (flat_map run_of runs))
  needs-chain read has chain wrong = needs-of-map read has chain
      (subst (λ (t : Bool). HasEach read (where_right t (marked_of (marks (nodes_of read runs)) (flat_map run_of runs)))) (sym wrong) tt)

  -- and else
  module _ (old new : Numbered) (grown : HasGrown old new) (has : HasNode old runs 0) (chain : HasMapChain old runs) (bits : List ℕ) (count : ℕ)
      (is : IsMapOf (nodes_of old runs) count bits) (counted : count ≡ (header_in (nodes_of old runs)).nodes) (marked : HasMarked new runs bits count) where
    same-head : IsSameNode (nodes_of old runs) (nodes_of new runs) 0
    same-head = node-stays old new grown runs 0 has

    same-chain : Each (IsSameNode (nodes_of old runs) (nodes_of new runs)) (map_chain (nodes_of old runs))
    same-chain = nodes-stay old new grown runs (map_chain (nodes_of old runs)) chain

    chain-later : HasMapChain new runs
    chain-later =
        subst (λ (ns : List ℕ). HasEach new (map (block_for runs) ns)) (sym (map_chain-same (nodes_of old runs) (nodes_of new runs) same-head same-chain))
        (each-grown old new grown (map (block_for runs) (map_chain (nodes_of old runs))) chain)

    marks-are : has_map (nodes_of new runs) ≡ true → marks (nodes_of new runs) ≡ map (bit_of bits) (range_with_len 0 count)
    unfolding marks
    marks-are right =
        let mapped : has_map (nodes_of old runs) ≡ true = sym (has_map-same (nodes_of old runs) (nodes_of new runs) same-head same-chain) ∙ right in
        let same = marks-same (nodes_of old runs) (nodes_of new runs) same-head same-chain (chain-whole (nodes_of old runs) (nodes_of new runs) same-head same-chain mapped) in
        same ∙ (λ i. map (bit_of (sym is.bytes i)) (range_with_len 0 (sym counted i)))

    pub needs-marked : HasEach new (needed_of_tree g size (nodes_of new runs) (flat_map run_of runs))
    needs-marked = needs-of-map new (has-grown old new grown (block_for runs 0) has) chain-later
        (elim (has_map (nodes_of new runs))
        as (λ (t : Bool). has_map (nodes_of new runs) ≡ t → HasEach new (where_right t (marked_of (marks (nodes_of new runs)) (flat_map run_of runs)))) [
          | true ↦ λ e. subst (λ (ms : List Bool). HasEach new (marked_of ms (flat_map run_of runs))) (sym (marks-are e)) marked
          | false ↦ λ e. tt
        ]
        refl)
