-- The leaves of a tree, read in turn for the order of their keys.
use Rattle.std.proofs.Common.{◌≡◌, ℕ, ◌+◌, ◌<◌, ◌≤◌, List, [], ◌∷◌, ◌++◌, length, map, get_or, drop, replicate, Option, Some, None, refl, sym, ap, ◌∙◌, subst, arith, append_assoc, length-append}
use Rattle.std.specs.Prelude.{true}
use Rattle.std.specs.List.{flat_map}
use Rattle.std.specs.Option.{option_map}
use Rattle.std.specs.Cmp.{IsTotalOrder}
use Rattle.std.proofs.lemmas.List.{length-map, get_or-replicate, get_or-append-add, get_or_append_left, length-replicate}
use Rattle.std.proofs.lemmas.List.Concat.{flat_map-append}
use Rattle.hfs_btree.specs.Node.{node_of}
use Rattle.hfs_btree.specs.declared.header.Header.{Header}
use Rattle.hfs_btree.specs.declared.key.Key.{Ghosts}
use Rattle.hfs_btree.specs.Pairs.{Pairs}
use Rattle.hfs_fields.specs.Each.{Each}
use Rattle.hfs_btree.specs.Tree.{Store, first_of, forward_of, pair_of, pairs, records_in, records_of}
use Rattle.hfs_btree.specs.Header.{header_in, leaves, tree_content}
use Rattle.hfs_btree.specs.Sound.{HasStructure, HasCounts, IsRight}
use Rattle.hfs_btree_checks.specs.Order.{rise_fault, leaf_order_fault, pair_leaves}
use Rattle.hfs_btree_checks.specs.Rises.{fall_from, last_key}
use Rattle.hfs_btree.proofs.DecodedLemmas.{records-read, read-in, decoded-within}
use Rattle.hfs_btree.proofs.DescentLemmas.{leaf-node, leaf-entries}
use Rattle.hfs_btree.proofs.FoundLemmas.{behind-is}
use Rattle.hfs_btree_checks.proofs.Rising.{rise-is, fall-append, fall-left, fall-shift, fall-within}

-- the leaves before node n were read, which have so many pairs, and their keys rise; `last` is the last of them
pub record IsRising {K : Type 0} (g : Ghosts K) (nodes : Store) (n before : ℕ) (last : Option K) : Type 0 where
  pub done : List ℕ
  pub rest : List ℕ
  pub split : leaves g nodes ≡ done ++ rest
  pub at : n ≡ first_of rest
  pub count : before ≡ length (flat_map (pairs g nodes) done)
  pub same : rise_fault g.compare (tree_content g nodes) ≡ fall_from g.compare last before (flat_map (pairs g nodes) rest)

module _ {K : Type 0} (g : Ghosts K) (nodes : Store) where
  -- each pair has its leaf
  length-leaves : (ns : List ℕ) → length (flat_map (λ n. replicate (length (records_in nodes n)) n) ns) ≡ length (flat_map (pairs g nodes) ns)
  length-leaves [] = refl
  length-leaves (n ∷ ns) =
      let rest = length-leaves ns in
      omega (
        arith,
        length-append (replicate (length (records_in nodes n)) n) (flat_map (λ m. replicate (length (records_in nodes m)) m) ns),
        length-append (pairs g nodes n) (flat_map (pairs g nodes) ns),
        length-map (records_in nodes n) (pair_of g),
        length-replicate (length (records_in nodes n)) n,
      )

  leaf-at : (done : List ℕ) (n : ℕ) (rest : List ℕ) (place : ℕ) → leaves g nodes ≡ done ++ n ∷ rest → place < length (records_in nodes n)
      → get_or (pair_leaves g nodes) (length (flat_map (pairs g nodes) done) + place) 0 ≡ n
  unfolding pair_leaves
  leaf-at done n rest place split lt =
      let own : ℕ → List ℕ = λ m. replicate (length (records_in nodes m)) m in
      let at : length (flat_map (pairs g nodes) done) + place ≡ length (flat_map own done) + place = omega (arith, length-leaves done) in
      ap (λ (ns : List ℕ). get_or (flat_map own ns) (length (flat_map (pairs g nodes) done) + place) 0) split
      ∙ ap (λ (ns : List ℕ). get_or ns (length (flat_map (pairs g nodes) done) + place) 0) (flat_map-append own done (n ∷ rest))
      ∙ ap (λ (i : ℕ). get_or (flat_map own done ++ (own n ++ flat_map own rest)) i 0) at
      ∙ get_or-append-add (flat_map own done) (own n ++ flat_map own rest) place 0
      ∙ get_or_append_left (own n) (flat_map own rest) 0 place (omega (arith, length-replicate (length (records_in nodes n)) n))
      ∙ get_or-replicate (length (records_in nodes n)) place n 0 lt

  module _ (structure : HasStructure g nodes) where
    pub rising-none : IsTotalOrder g.compare → (h : Header) → h ≡ header_in nodes → IsRising g nodes h.first_leaf 0 None
    rising-none total h h-is = record {
      done = [];
      rest = leaves g nodes;
      split = refl;
      at = ap (λ (x : Header). x.first_leaf) h-is ∙ structure.ends.first;
      count = refl;
      same = rise-is g.compare total (tree_content g nodes);
    }

    no-rest : (done rest : List ℕ) → leaves g nodes ≡ done ++ rest → first_of rest ≡ 0 → rest ≡ []
    no-rest done [] split none = refl
    no-rest done (n ∷ rest) split none = absurd (let some = (leaf-node g nodes structure done n rest split).1.within.0 in omega arith)

    module _ (n before : ℕ) (last : Option K) (state : IsRising g nodes n before last) where
      abbrev fault : Option ℕ
      fault = rise_fault g.compare (tree_content g nodes)

      pub rising-end : n ≡ 0 → fault ≡ None
      rising-end none =
          state.same ∙ ap (λ (ns : List ℕ). fall_from g.compare last before (flat_map (pairs g nodes) ns)) (no-rest state.done state.rest state.split (sym state.at ∙ none))

      pub leaves-end : n ≡ 0 → leaf_order_fault g nodes ≡ None
      unfolding leaf_order_fault
      leaves-end none = ap (λ (o : Option ℕ). option_map (λ i. get_or (pair_leaves g nodes) i 0) o) (rising-end none)

      module _ (some : n ≡ 0 → ⊥) where
        cut : state.rest ≡ n ∷ drop 1 state.rest
        cut = behind-is g nodes structure state.rest (λ none. some (state.at ∙ none)) ∙ ap (λ (m : ℕ). m ∷ drop 1 state.rest) (sym state.at)

        split : leaves g nodes ≡ state.done ++ n ∷ drop 1 state.rest
        split = state.split ∙ ap (λ (ns : List ℕ). state.done ++ ns) cut

        node : (l : ℕ) × IsRight g nodes (record { left = l; n = n; right = first_of (drop 1 state.rest); above = 0 })
        node = leaf-node g nodes structure state.done n (drop 1 state.rest) split

        pub rising-within : n < length nodes
        rising-within = decoded-within nodes n node.1.value node.1.decodes

        module _ (bytes : List ℕ) (read : bytes ≡ get_or nodes n []) where
          abbrev own : Pairs K
          own = map (pair_of g) (records_of (node_of bytes))

          abbrev behind : Pairs K
          behind = flat_map (pairs g nodes) (drop 1 state.rest)

          pub rising-entries : Each (λ e. g.is_leaf e ≡ true) (records_of (node_of bytes))
          rising-entries = let P : List (List ℕ) → Type 0 = λ es. Each (λ e. g.is_leaf e ≡ true) es in
              subst P (sym (records-read nodes n bytes read)) (leaf-entries g nodes node.0 n (first_of (drop 1 state.rest)) node.1)

          own-is : own ≡ pairs g nodes n
          own-is = ap (map (pair_of g)) (records-read nodes n bytes read)

          same : fault ≡ fall_from g.compare last before (own ++ behind)
          same =
              state.same
              ∙ ap (λ (ns : List ℕ). fall_from g.compare last before (flat_map (pairs g nodes) ns)) cut
              ∙ ap (λ (ps : Pairs K). fall_from g.compare last before (ps ++ behind)) (sym own-is)

          -- ---- a key that doesn't rise

          module _ (place : ℕ) (falls : Some place ≡ fall_from g.compare last 0 own) where
            pub rising-found : Some (before + place) ≡ fault
            rising-found =
                let number : before + place ≡ place + before = omega arith in
                let here : fall_from g.compare last before own ≡ Some (place + before) = fall-shift g.compare last 0 before before own (omega arith) ∙ ap (λ (o : Option ℕ). option_map (λ j. j + before) o) (sym falls) in
                ap Some number ∙ sym (same ∙ fall-left g.compare last before (place + before) own behind here)

            pub place-within : place < length (records_of (node_of bytes))
            place-within = omega (arith, fall-within g.compare last 0 place own (sym falls), length-map (records_of (node_of bytes)) (pair_of g))

            pub leaf-found : Some n ≡ leaf_order_fault g nodes
            unfolding leaf_order_fault
            leaf-found =
                let lt : place < length (records_in nodes n) = omega (arith, place-within, ap (λ (es : List (List ℕ)). length es) (records-read nodes n bytes read)) in
                let at : length (flat_map (pairs g nodes) state.done) + place ≡ before + place = ap (λ (i : ℕ). i + place) (sym state.count) in
                ap Some (sym (leaf-at state.done n (drop 1 state.rest) place split lt) ∙ ap (λ (i : ℕ). get_or (pair_leaves g nodes) i 0) at)
                ∙ ap (λ (o : Option ℕ). option_map (λ i. get_or (pair_leaves g nodes) i 0) o) rising-found

          -- ---- none

          pub rising-some : 1 ≤ length (records_of (node_of bytes))
          rising-some =
              let counted = ap (λ (es : List (List ℕ)). length es) (records-read nodes n bytes read ∙ ap records_of node.1.decodes) in
              let few = node.1.some in
              omega arith

          pub rising-few : HasCounts g nodes → before + length (records_of (node_of bytes)) ≤ (header_in nodes).records
          rising-few counts =
              let all = ap (λ (ps : Pairs K). length ps) (ap (flat_map (pairs g nodes)) split ∙ flat_map-append (pairs g nodes) state.done (n ∷ drop 1 state.rest)) in
              let counted = counts.records in
              let done = state.count in
              let here = ap (λ (ps : Pairs K). length ps) own-is in
              omega (arith, length-append (flat_map (pairs g nodes) state.done) (pairs g nodes n ++ behind), length-append (pairs g nodes n) behind, length-map (records_of (node_of bytes)) (pair_of g))

          pub rising-next : None ≡ fall_from g.compare last 0 own → IsRising g nodes (forward_of (node_of bytes)) (before + length (records_of (node_of bytes))) (last_key last own)
          rising-next none =
              let here : fall_from g.compare last before own ≡ None = fall-shift g.compare last 0 before before own (omega arith) ∙ ap (λ (o : Option ℕ). option_map (λ j. j + before) o) (sym none) in
              let number : length own + before ≡ before + length (records_of (node_of bytes)) = omega (arith, length-map (records_of (node_of bytes)) (pair_of g)) in
              let counted = ap (λ (ps : Pairs K). length ps) (flat_map-append (pairs g nodes) state.done (n ∷ [])) in
              let done = state.count in
              let read-count = ap (λ (ps : Pairs K). length ps) own-is in
              record {
                done = state.done ++ n ∷ [];
                rest = drop 1 state.rest;
                split = split ∙ sym (append_assoc state.done (n ∷ []) (drop 1 state.rest));
                at = ap forward_of (read-in nodes n bytes (node_of bytes) read refl ∙ node.1.decodes) ∙ node.1.right;
                count =
                    omega (arith, length-append (flat_map (pairs g nodes) state.done) (pairs g nodes n ++ []), length-append (pairs g nodes n) [], length-map (records_of (node_of bytes)) (pair_of g));
                same = same ∙ fall-append g.compare last before own behind here ∙ ap (λ (i : ℕ). fall_from g.compare (last_key last own) i behind) number;
              }
