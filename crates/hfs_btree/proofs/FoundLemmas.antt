-- What the leaf where a search ends says of the whole content.
use Rattle.std.proofs.Common.{◌≡◌, ℕ, ◌<◌, List, [], ◌∷◌, ◌++◌, length, map, get_or, drop, refl, sym, ap, ◌∙◌, subst, arith, append_assoc, Some, None, true≢false}
use Rattle.std.specs.Prelude.{true, false, Option}
use Rattle.std.specs.Option.{option_or}
use Rattle.std.specs.List.{flat_map}
use Rattle.std.specs.Cmp.{IsTotalOrder}
use Rattle.std.proofs.lemmas.List.{length-map}
use Rattle.hfs_btree.specs.Node.{node_of}
use Rattle.hfs_btree.specs.declared.header.Header.{Header}
use Rattle.hfs_btree.specs.declared.key.Key.{Ghosts}
use Rattle.hfs_btree.specs.Pairs.{Pairs, Rises, lookup, after}
use Rattle.hfs_fields.specs.Each.{Each}
use Rattle.hfs_btree.specs.Tree.{Store, first_of, forward_of, pair_of, pairs, records_of}
use Rattle.hfs_btree.specs.Header.{header_in, depth_of, leaves, tree_content}
use Rattle.hfs_btree.specs.Lookups.{first_pair}
use Rattle.hfs_btree.proofs.LookupLemmas.{lookup-between, lookup-part, after-between}
use Rattle.hfs_btree.specs.Search.{leaf_for}
use Rattle.hfs_btree.specs.Near.{IsLastLeaf}
use Rattle.hfs_btree.specs.declared.near.LastLeaf.{LastLeaf}
use Rattle.hfs_btree.proofs.SearchLemmas.{IsLeafFor}
use Rattle.hfs_btree.specs.Sound.{HasStructure, IsSound, IsRight}
use Rattle.hfs_btree.proofs.DecodedLemmas.{records-read, read-in, decoded-within}
use Rattle.hfs_btree.proofs.DescentLemmas.{leaf-found, leaf-node, leaf-entries, content-about}

-- a header record that was read tells whether there is a level
pub some-levels : (h : Header) (nodes : Store) → h ≡ header_in nodes → (h.depth ≡ 0 → ⊥) → 0 < depth_of nodes
some-levels h nodes is some = let same = ap (λ (x : Header). x.depth) is in omega arith

-- where no leaf was read, none is asked about
pub none-read : {K : Type 0} (g : Ghosts K) (nodes : Store) (last : LastLeaf) → last.is_read ≡ false → IsLastLeaf g nodes last
none-read g nodes last none = record { some = λ read. absurd (true≢false (sym read ∙ none)); other = λ read. absurd (true≢false (sym read ∙ none)) }

module _ {K : Type 0} (g : Ghosts K) (total : IsTotalOrder g.compare) (nodes : Store) (t : K) (sound : IsSound g nodes) (some : 0 < depth_of nodes) (n : ℕ) (is : n ≡ leaf_for g nodes t)
    (bytes : List ℕ) (read : bytes ≡ get_or nodes n []) where
  pub found : IsLeafFor g nodes t n
  found = let P : ℕ → Type 0 = λ m. IsLeafFor g nodes t m in subst P (sym is) (leaf-found g nodes sound total t some)

  node : (l : ℕ) × IsRight g nodes (record { left = l; n = n; right = first_of found.behind; above = 0 })
  node = leaf-node g nodes sound.structure found.before n found.behind found.split

  pub found-entries : Each (λ e. g.is_leaf e ≡ true) (records_of (node_of bytes))
  found-entries = let P : List (List ℕ) → Type 0 = λ es. Each (λ e. g.is_leaf e ≡ true) es in
      subst P (sym (records-read nodes n bytes read)) (leaf-entries g nodes node.0 n (first_of found.behind) node.1)

  pub about : tree_content g nodes ≡ flat_map (pairs g nodes) found.before ++ (map (pair_of g) (records_of (node_of bytes)) ++ flat_map (pairs g nodes) found.behind)
  about =
      content-about g nodes found.before n found.behind found.split
      ∙ ap (λ (es : List (List ℕ)). flat_map (pairs g nodes) found.before ++ (map (pair_of g) es ++ flat_map (pairs g nodes) found.behind)) (sym (records-read nodes n bytes read))

  pub found-body : lookup g.compare t (map (pair_of g) (records_of (node_of bytes))) ≡ lookup g.compare t (tree_content g nodes)
  found-body =
      sym (ap (lookup g.compare t) about
      ∙ lookup-between g.compare total t (flat_map (pairs g nodes) found.before) (map (pair_of g) (records_of (node_of bytes))) (flat_map (pairs g nodes) found.behind) found.below found.above)

  -- what the leaf has under another key, the tree has
  pub near-body : (key : K) (b : List ℕ) → Some b ≡ lookup g.compare key (map (pair_of g) (records_of (node_of bytes))) → Some b ≡ lookup g.compare key (tree_content g nodes)
  near-body key b is =
      sym (ap (lookup g.compare key) about
      ∙ lookup-part g.compare total key (flat_map (pairs g nodes) found.before) (map (pair_of g) (records_of (node_of bytes))) (flat_map (pairs g nodes) found.behind) b
      (subst (λ (ps : Pairs K). Rises g.compare ps) about sound.ordered.rises) (sym is))

  -- ---- what follows the leaf

  pub next-pair : after g.compare t (tree_content g nodes) ≡ option_or (after g.compare t (map (pair_of g) (records_of (node_of bytes)))) (first_pair (flat_map (pairs g nodes) found.behind))
  next-pair =
      ap (after g.compare t) about
      ∙ after-between g.compare total t (flat_map (pairs g nodes) found.before) (map (pair_of g) (records_of (node_of bytes))) (flat_map (pairs g nodes) found.behind) found.below found.above

  pub forward-is : forward_of (node_of bytes) ≡ first_of found.behind
  forward-is = ap forward_of (read-in nodes n bytes (node_of bytes) read refl ∙ node.1.decodes) ∙ node.1.right

  -- where the leaf has a pair above the key
  pub next-here : (p : K × List ℕ) → Some p ≡ after g.compare t (map (pair_of g) (records_of (node_of bytes))) → Some p ≡ after g.compare t (tree_content g nodes)
  next-here p is' = ap (λ (o : Option (K × List ℕ)). option_or o (first_pair (flat_map (pairs g nodes) found.behind))) is' ∙ sym next-pair

  -- where it has none, the first pair behind it
  pub next-behind : None ≡ after g.compare t (map (pair_of g) (records_of (node_of bytes))) → first_pair (flat_map (pairs g nodes) found.behind) ≡ after g.compare t (tree_content g nodes)
  next-behind none = ap (λ (o : Option (K × List ℕ)). option_or o (first_pair (flat_map (pairs g nodes) found.behind))) none ∙ sym next-pair

-- the leaves behind a leaf
module _ {K : Type 0} (g : Ghosts K) (nodes : Store) (structure : HasStructure g nodes) where
  -- where there is none, the link is 0
  pub none-behind : (before : List ℕ) (n : ℕ) (behind : List ℕ) → leaves g nodes ≡ before ++ n ∷ behind → first_of behind ≡ 0 → behind ≡ []
  none-behind before n [] split zero' = refl
  none-behind before n (m ∷ behind) split zero' =
      let shift : before ++ n ∷ m ∷ behind ≡ (before ++ n ∷ []) ++ m ∷ behind = simp append_assoc in
      let node = leaf-node g nodes structure (before ++ n ∷ []) m behind (split ∙ shift) in
      absurd (let some = node.1.within.0 in omega arith)

  pub one-behind : (before : List ℕ) (n : ℕ) (behind : List ℕ) → leaves g nodes ≡ before ++ n ∷ behind → (first_of behind ≡ 0 → ⊥) → leaves g nodes ≡ (before ++ n ∷ []) ++ first_of behind ∷ drop 1 behind
  one-behind before n [] split some = absurd (some refl)
  one-behind before n (m ∷ behind) split some = let shift : before ++ n ∷ m ∷ behind ≡ (before ++ n ∷ []) ++ m ∷ behind = simp append_assoc in split ∙ shift

  pub behind-is : (behind : List ℕ) → (first_of behind ≡ 0 → ⊥) → behind ≡ first_of behind ∷ drop 1 behind
  behind-is [] some = absurd (some refl)
  behind-is (m ∷ behind) some = refl

  first-append : (ps qs : Pairs K) → 0 < length ps → first_pair (ps ++ qs) ≡ first_pair ps
  first-append [] qs some = absurd (omega arith)
  first-append (p ∷ ps) qs some = refl

  -- the next leaf
  module _ (before : List ℕ) (n : ℕ) (behind : List ℕ) (split : leaves g nodes ≡ before ++ n ∷ behind) (some : first_of behind ≡ 0 → ⊥) where
    pub next-node : (l : ℕ) × IsRight g nodes (record { left = l; n = first_of behind; right = first_of (drop 1 behind); above = 0 })
    next-node = leaf-node g nodes structure (before ++ n ∷ []) (first_of behind) (drop 1 behind) (one-behind before n behind split some)

    pub next-within : first_of behind < length nodes
    next-within = decoded-within nodes (first_of behind) next-node.1.value next-node.1.decodes

    pub next-entries : (bytes : List ℕ) → bytes ≡ get_or nodes (first_of behind) [] → Each (λ e. g.is_leaf e ≡ true) (records_of (node_of bytes))
    next-entries bytes read = let P : List (List ℕ) → Type 0 = λ es. Each (λ e. g.is_leaf e ≡ true) es in
        subst P (sym (records-read nodes (first_of behind) bytes read)) (leaf-entries g nodes next-node.0 (first_of behind) (first_of (drop 1 behind)) next-node.1)

    pub next-some : (bytes : List ℕ) → bytes ≡ get_or nodes (first_of behind) [] → 0 < length (map (pair_of g) (records_of (node_of bytes)))
    next-some bytes read =
        let same = ap (λ (es : List (List ℕ)). length es) (records-read nodes (first_of behind) bytes read ∙ ap records_of next-node.1.decodes) in
        let few = next-node.1.some in
        omega (arith, length-map (records_of (node_of bytes)) (pair_of g))

    pub next-first : (bytes : List ℕ) → bytes ≡ get_or nodes (first_of behind) [] → first_pair (flat_map (pairs g nodes) behind) ≡ first_pair (map (pair_of g) (records_of (node_of bytes)))
    next-first bytes read =
        ap (λ (ns : List ℕ). first_pair (flat_map (pairs g nodes) ns)) (behind-is behind some)
        ∙ ap (λ (es : List (List ℕ)). first_pair (map (pair_of g) es ++ flat_map (pairs g nodes) (drop 1 behind))) (sym (records-read nodes (first_of behind) bytes read))
        ∙ first-append (map (pair_of g) (records_of (node_of bytes))) (flat_map (pairs g nodes) (drop 1 behind)) (next-some bytes read)
