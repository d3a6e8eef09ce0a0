-- The leaves of a catalog, read in turn for the valences of their folders.
use Rattle.std.proofs.Common.{◌≡◌, ℕ, ◌+◌, ◌*◌, ◌<◌, ◌≤◌, List, [], ◌∷◌, ◌++◌, length, map, filter, get_or, drop, refl, sym, ap, ◌∙◌, subst, arith, append_assoc, length-append}
use Rattle.std.specs.Prelude.{true}
use Rattle.std.specs.List.{flat_map}
use Rattle.std.proofs.lemmas.List.{length-map}
use Rattle.std.proofs.lemmas.List.Concat.{flat_map-append}
use Rattle.std.proofs.lemmas.List.Elements.{filter-append}
use Rattle.hfs_fields.specs.declared.key.CatKey.{CatKey}
use Rattle.hfs_fields.specs.Keys.{is_cat_leaf}
use Rattle.hfs_btree.specs.Node.{node_of, offset_of}
use Rattle.hfs_btree.specs.declared.header.Header.{Header}
use Rattle.hfs_btree.specs.Pairs.{Pairs}
use Rattle.hfs_fields.specs.Each.{Each}
use Rattle.hfs_btree.specs.Tree.{Store, first_of, forward_of, pair_of, pairs, records_of}
use Rattle.hfs_btree.specs.Header.{header_in, leaves, tree_content}
use Rattle.hfs_btree.specs.Sound.{HasStructure, IsRight}
use Rattle.hfs_btree.proofs.DecodedLemmas.{records-read, read-in, decoded-within}
use Rattle.hfs_btree.proofs.DescentLemmas.{leaf-node, leaf-entries}
use Rattle.hfs_btree.proofs.FoundLemmas.{behind-is}
use Rattle.hfs_catalog.specs.Tree.{cat_keys}
use Rattle.hfs_repair.specs.Fields.{PlacedNumber}
use Rattle.hfs_repair.specs.Placed.{is_wrong, placed_from, placed_in_leaf, placed_valences}
use Rattle.hfs_repair.proofs.Pushed.{chained}

-- the leaves before node n were read, which have so many pairs, and their wrong valences are added
pub record IsReading (children : ℕ → ℕ) (numbers : List ℕ) (nodes : Store) (n before : ℕ) (initial wrong : List PlacedNumber) : Type 0 where
  pub done : List ℕ
  pub rest : List ℕ
  pub split : leaves cat_keys nodes ≡ done ++ rest
  pub at : n ≡ first_of rest
  pub count : before ≡ length (flat_map (pairs cat_keys nodes) done)
  pub same : wrong ≡ initial ++ filter is_wrong (flat_map (placed_in_leaf children numbers nodes) done)

module _ (children : ℕ → ℕ) (numbers : List ℕ) (nodes : Store) (structure : HasStructure cat_keys nodes) where
  empty-behind : (xs : List PlacedNumber) → xs ≡ xs ++ []
  empty-behind [] = refl
  empty-behind (x ∷ xs) = ap (λ (ys : List PlacedNumber). x ∷ ys) (empty-behind xs)

  pub reading-none : (h : Header) (initial : List PlacedNumber) → h ≡ header_in nodes → IsReading children numbers nodes h.first_leaf 0 initial initial
  reading-none h initial is = record {
    done = [];
    rest = leaves cat_keys nodes;
    split = refl;
    at = ap (λ (x : Header). x.first_leaf) is ∙ structure.ends.first;
    count = refl;
    same = empty-behind initial;
  }

  no-rest : (done rest : List ℕ) → leaves cat_keys nodes ≡ done ++ rest → first_of rest ≡ 0 → rest ≡ []
  no-rest done [] split none = refl
  no-rest done (n ∷ rest) split none = absurd (let some = (leaf-node cat_keys nodes structure done n rest split).1.within.0 in omega arith)

  all-done : (done : List ℕ) → done ++ [] ≡ done
  all-done [] = refl
  all-done (n ∷ done) = ap (λ (ns : List ℕ). n ∷ ns) (all-done done)

  module _ (n before : ℕ) (initial wrong : List PlacedNumber) (state : IsReading children numbers nodes n before initial wrong) where
    pub reading-end : n ≡ 0 → wrong ≡ initial ++ filter is_wrong (placed_valences children numbers nodes)
    unfolding placed_valences
    reading-end none =
        let whole = state.split ∙ ap (λ (ns : List ℕ). state.done ++ ns) (no-rest state.done state.rest state.split (sym state.at ∙ none)) ∙ all-done state.done in
        state.same ∙ ap (λ (ns : List ℕ). initial ++ filter is_wrong (flat_map (placed_in_leaf children numbers nodes) ns)) (sym whole)

    module _ (some : n ≡ 0 → ⊥) where
      cut : state.rest ≡ n ∷ drop 1 state.rest
      cut = behind-is cat_keys nodes structure state.rest (λ none. some (state.at ∙ none)) ∙ ap (λ (m : ℕ). m ∷ drop 1 state.rest) (sym state.at)

      split : leaves cat_keys nodes ≡ state.done ++ n ∷ drop 1 state.rest
      split = state.split ∙ ap (λ (ns : List ℕ). state.done ++ ns) cut

      node : (l : ℕ) × IsRight cat_keys nodes (record { left = l; n = n; right = first_of (drop 1 state.rest); above = 0 })
      node = leaf-node cat_keys nodes structure state.done n (drop 1 state.rest) split

      pub reading-within : n < length nodes
      reading-within = decoded-within nodes n node.1.value node.1.decodes

      module _ (bytes : List ℕ) (read : bytes ≡ get_or nodes n []) where
        pub reading-entries : Each (λ e. is_cat_leaf e ≡ true) (records_of (node_of bytes))
        reading-entries = let P : List (List ℕ) → Type 0 = λ es. Each (λ e. is_cat_leaf e ≡ true) es in
            subst P (sym (records-read nodes n bytes read)) (leaf-entries cat_keys nodes node.0 n (first_of (drop 1 state.rest)) node.1)

        own-is : map (pair_of cat_keys) (records_of (node_of bytes)) ≡ pairs cat_keys nodes n
        own-is = ap (map (pair_of cat_keys)) (records-read nodes n bytes read)

        pub reading-some : 1 ≤ length (records_of (node_of bytes))
        reading-some =
            let counted = ap (λ (es : List (List ℕ)). length es) (records-read nodes n bytes read ∙ ap records_of node.1.decodes) in
            let few = node.1.some in
            omega arith

        pub reading-few : before + length (records_of (node_of bytes)) ≤ length (tree_content cat_keys nodes)
        reading-few =
            let behind = flat_map (pairs cat_keys nodes) (drop 1 state.rest) in
            let all = ap (λ (ps : Pairs CatKey). length ps) (ap (flat_map (pairs cat_keys nodes)) split ∙ flat_map-append (pairs cat_keys nodes) state.done (n ∷ drop 1 state.rest)) in
            let done = state.count in
            let here = ap (λ (ps : Pairs CatKey). length ps) own-is in
            omega (
              arith,
              length-append (flat_map (pairs cat_keys nodes) state.done) (pairs cat_keys nodes n ++ behind),
              length-append (pairs cat_keys nodes n) behind,
              length-map (records_of (node_of bytes)) (pair_of cat_keys),
            )

        pub reading-next : (block : ℕ) (more : List PlacedNumber) → block ≡ get_or numbers n 0
            → more ≡ wrong ++ filter is_wrong (placed_from children (λ k. 512 * block + offset_of bytes k) 0 (records_of (node_of bytes)))
            → IsReading children numbers nodes (forward_of (node_of bytes)) (before + length (records_of (node_of bytes))) initial more
        reading-next block more is pushed =
            let leaf : ℕ → List PlacedNumber = placed_in_leaf children numbers nodes in
            let counted = ap (λ (ps : Pairs CatKey). length ps) (flat_map-append (pairs cat_keys nodes) state.done (n ∷ [])) in
            let done = state.count in
            let read-count = ap (λ (ps : Pairs CatKey). length ps) own-is in
            let here : filter is_wrong (placed_from children (λ k. 512 * block + offset_of bytes k) 0 (records_of (node_of bytes))) ≡ filter is_wrong (leaf n) =
            (λ i. filter is_wrong (placed_from children (λ k. 512 * is i + offset_of (read i) k) 0 (records-read nodes n bytes read i))) in
            let joined : filter is_wrong (flat_map leaf (state.done ++ n ∷ [])) ≡ filter is_wrong (flat_map leaf state.done) ++ filter is_wrong (leaf n) =
            ap (filter is_wrong) (flat_map-append leaf state.done (n ∷ []) ∙ ap (λ (xs : List PlacedNumber). flat_map leaf state.done ++ xs) (sym (empty-behind (leaf n))))
            ∙ filter-append is_wrong (flat_map leaf state.done) (leaf n) in
            record {
              done = state.done ++ n ∷ [];
              rest = drop 1 state.rest;
              split = split ∙ sym (append_assoc state.done (n ∷ []) (drop 1 state.rest));
              at = ap forward_of (read-in nodes n bytes (node_of bytes) read refl ∙ node.1.decodes) ∙ node.1.right;
              count =
                  omega (
                    arith,
                    length-append (flat_map (pairs cat_keys nodes) state.done) (pairs cat_keys nodes n ++ []),
                    length-append (pairs cat_keys nodes n) [],
                    length-map (records_of (node_of bytes)) (pair_of cat_keys),
                  );
              same = chained initial wrong more (filter is_wrong (flat_map leaf state.done)) (filter is_wrong (leaf n)) (filter is_wrong (flat_map leaf (state.done ++ n ∷ [])))
                  (pushed ∙ ap (λ (xs : List PlacedNumber). wrong ++ xs) here) state.same joined;
            }
