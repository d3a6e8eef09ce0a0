-- Going from leaf to leaf.
use Rattle.std.proofs.Common.{◌≡◌, ℕ, zero, suc, ◌+◌, ◌-◌, ◌<◌, ◌≤◌, List, [], ◌∷◌, ◌++◌, length, map, get_or, drop, refl, sym, ap, ◌∙◌, subst, arith, append_assoc, inl, inr, length-append}
use Rattle.std.specs.Prelude.{true, ◌==◌}
use Rattle.std.specs.List.{flat_map}
use Rattle.std.specs.Cmp.{IsTotalOrder}
use Rattle.std.proofs.lemmas.Bool.{cond-true, cond-false, ne_eqb, eq-eqb}
use Rattle.std.proofs.lemmas.List.{length-map, drop_more, drop_all, get_or-map}
use Rattle.hfs_btree.specs.Node.{node_of}
use Rattle.hfs_btree.specs.declared.header.Header.{Header}
use Rattle.hfs_btree.specs.declared.key.Key.{Ghosts}
use Rattle.hfs_btree.specs.Pairs.{Pairs, pairs_from}
use Rattle.hfs_fields.specs.Each.{Each}
use Rattle.hfs_fields.proofs.ElementLemmas.{each-at}
use Rattle.hfs_btree.specs.Tree.{Store, node_in, first_of, forward_of, pair_of, pairs, records_in, records_of}
use Rattle.hfs_btree.specs.Header.{header_in, depth_of, leaves, tree_content}
use Rattle.hfs_btree.proofs.LookupLemmas.{from-between}
use Rattle.hfs_btree.specs.Search.{leaf_for}
use Rattle.hfs_btree.specs.Sound.{HasStructure, HasCounts, IsSound, IsRight}
use Rattle.hfs_btree.specs.Walk.{pairs_along, rest_at, IsAtLeaf, IsWalk}
use Rattle.hfs_btree.proofs.DecodedLemmas.{records-read, read-in, decoded-within}
use Rattle.hfs_btree.proofs.DescentLemmas.{leaf-node, leaf-entries, content-about}
use Rattle.hfs_btree.proofs.FoundLemmas.{found, about, one-behind, behind-is, next-within, next-some}

module _ {K : Type 0} (g : Ghosts K) (nodes : Store) (structure : HasStructure g nodes) where
  pub along-none : (most n : ℕ) → n ≡ 0 → pairs_along g nodes most n ≡ []
  along-none zero n none = refl
  along-none (suc most) n none = cond-true (n == 0) [] _ (eq-eqb n 0 none)

  -- the pairs along the links are those of the leaves behind
  along-behind : (most : ℕ) (before : List ℕ) (n : ℕ) (behind : List ℕ) → leaves g nodes ≡ before ++ n ∷ behind → length behind ≤ most
      → pairs_along g nodes most (first_of behind) ≡ flat_map (pairs g nodes) behind
  along-behind most before n [] split few = along-none most 0 refl
  along-behind zero before n (m ∷ behind) split few = absurd (omega arith)
  along-behind (suc most) before n (m ∷ behind) split few =
      let shift : before ++ n ∷ m ∷ behind ≡ (before ++ n ∷ []) ++ m ∷ behind = simp append_assoc in
      let node = leaf-node g nodes structure (before ++ n ∷ []) m behind (split ∙ shift) in
      let within = node.1.within.0 in
      let some : m ≡ 0 → ⊥ = λ z. omega arith in
      let link : forward_of (node_in nodes m) ≡ first_of behind = ap forward_of node.1.decodes ∙ node.1.right in
      cond-false (m == 0) [] _ (ne_eqb m 0 some)
      ∙ ap (λ (ps : Pairs K). pairs g nodes m ++ ps) (ap (pairs_along g nodes most) link ∙ along-behind most (before ++ n ∷ []) m behind (split ∙ shift) (omega arith))

  module _ (bytes : List ℕ) (place most : ℕ) (at : IsAtLeaf g nodes bytes place most) where
    node : (l : ℕ) × IsRight g nodes (record { left = l; n = at.n; right = first_of at.behind; above = 0 })
    node = leaf-node g nodes structure at.before at.n at.behind at.split

    pub link : forward_of (node_of bytes) ≡ first_of at.behind
    link = ap forward_of (read-in nodes at.n bytes (node_of bytes) at.read refl ∙ node.1.decodes) ∙ node.1.right

    pub at-entries : Each (λ e. g.is_leaf e ≡ true) (records_of (node_of bytes))
    at-entries = let P : List (List ℕ) → Type 0 = λ es. Each (λ e. g.is_leaf e ≡ true) es in
        subst P (sym (records-read nodes at.n bytes at.read)) (leaf-entries g nodes node.0 at.n (first_of at.behind) node.1)

    pub rest-is : rest_at g nodes bytes place most ≡ drop place (map (pair_of g) (records_of (node_of bytes))) ++ flat_map (pairs g nodes) at.behind
    rest-is = ap (λ (ps : Pairs K). drop place (map (pair_of g) (records_of (node_of bytes))) ++ ps) (ap (pairs_along g nodes most) link ∙ along-behind most at.before at.n at.behind at.split at.few)

    -- ---- behind the last record

    module _ (past : length (records_of (node_of bytes)) ≤ place) where
      none-left : drop place (map (pair_of g) (records_of (node_of bytes))) ≡ []
      none-left = drop_all place (map (pair_of g) (records_of (node_of bytes))) (omega (arith, length-map (records_of (node_of bytes)) (pair_of g)))

      module _ (m : ℕ) (is : m ≡ forward_of (node_of bytes)) (more : m ≡ 0 → ⊥) where
        first-is : first_of at.behind ≡ 0 → ⊥
        first-is z = more (is ∙ link ∙ z)

        pub settle-within : m < length nodes
        settle-within = rw (is ∙ link) (next-within g nodes structure at.before at.n at.behind at.split first-is)

        cut : at.behind ≡ m ∷ drop 1 at.behind
        cut = behind-is g nodes structure at.behind first-is ∙ ap (λ (x : ℕ). x ∷ drop 1 at.behind) (sym (is ∙ link))

        one-more : length at.behind ≡ suc (length (drop 1 at.behind))
        one-more = ap (λ (ns : List ℕ). length ns) cut

        pub settle-room : 1 ≤ most
        settle-room = let few = at.few in omega (arith, one-more)

        module _ (next : List ℕ) (read : next ≡ get_or nodes m []) where
          moved : next ≡ get_or nodes (first_of at.behind) []
          moved = read ∙ ap (λ (x : ℕ). get_or nodes x []) (is ∙ link)

          next-at : IsAtLeaf g nodes next 0 (most - 1)
          next-at = record {
            n = m;
            before = at.before ++ at.n ∷ [];
            behind = drop 1 at.behind;
            read = read;
            split = one-behind g nodes structure at.before at.n at.behind at.split first-is ∙ ap (λ (x : ℕ). (at.before ++ at.n ∷ []) ++ x ∷ drop 1 at.behind) (sym (is ∙ link));
            within = omega arith;
            few = let few = at.few in omega (arith, one-more);
          }

          some-next : 0 < length (records_of (node_of next))
          some-next = let some = next-some g nodes structure at.before at.n at.behind at.split first-is next moved in omega (arith, length-map (records_of (node_of next)) (pair_of g))

          pub settle-walk : IsWalk g nodes next 0 (most - 1)
          settle-walk = record { structure = structure; at = inl (next-at, some-next) }

  pub settle-same : (bytes next : List ℕ) (place most m : ℕ) (at : IsAtLeaf g nodes bytes place most) (past : length (records_of (node_of bytes)) ≤ place) (is : m ≡ forward_of (node_of bytes)) (more : m ≡ 0 → ⊥)
      (read : next ≡ get_or nodes m []) → rest_at g nodes next 0 (most - 1) ≡ rest_at g nodes bytes place most
  unfolding next-at
  settle-same bytes next place most m at past is more read =
      rest-is next 0 (most - 1) (next-at bytes place most at past m is more next read)
      ∙ ap (λ (es : List (List ℕ)). map (pair_of g) es ++ flat_map (pairs g nodes) (drop 1 at.behind)) (records-read nodes m next read)
      ∙ sym (ap (flat_map (pairs g nodes)) (cut bytes place most at past m is more))
      ∙ sym (ap (λ (ps : Pairs K). ps ++ flat_map (pairs g nodes) at.behind) (none-left bytes place most at past))
      ∙ sym (rest-is bytes place most at)

  -- ---- the pair at a place

  module _ (bytes : List ℕ) (place most : ℕ) where
    pub walk-at : IsWalk g nodes bytes place most → place < length (records_of (node_of bytes)) → IsAtLeaf g nodes bytes place most
    walk-at walk lt = elim walk.at [ inl h ↦ h.0 | inr h ↦ absurd (let past = h.past in omega arith) ]

    pub walk-end : IsWalk g nodes bytes place most → length (records_of (node_of bytes)) ≤ place → rest_at g nodes bytes place most ≡ []
    walk-end walk past =
        elim walk.at [
          | inl h ↦ absurd (let lt = h.1 in omega arith)
          | inr h ↦
              ap (λ (ps : Pairs K). ps ++ pairs_along g nodes most (forward_of (node_of bytes))) (drop_all place (map (pair_of g) (records_of (node_of bytes))) (omega (arith, length-map (records_of (node_of bytes)) (pair_of g))))
              ∙ along-none most (forward_of (node_of bytes)) h.last
        ]

    pub walk-leaf : IsWalk g nodes bytes place most → place < length (records_of (node_of bytes)) → g.is_leaf (get_or (records_of (node_of bytes)) place []) ≡ true
    walk-leaf walk lt = each-at (λ e. g.is_leaf e ≡ true) (records_of (node_of bytes)) place [] (at-entries bytes place most (walk-at walk lt)) lt

    pub walk-cons : place < length (records_of (node_of bytes)) → rest_at g nodes bytes place most ≡ pair_of g (get_or (records_of (node_of bytes)) place []) ∷ rest_at g nodes bytes (place + 1) most
    walk-cons lt =
        let es = records_of (node_of bytes) in
        let lt' : place < length (map (pair_of g) es) = omega (arith, length-map es (pair_of g)) in
        ap (λ (ps : Pairs K). ps ++ pairs_along g nodes most (forward_of (node_of bytes)))
        (drop_more (map (pair_of g) es) place (pair_of g []) lt' ∙ ap (λ (p : K × List ℕ). p ∷ drop (place + 1) (map (pair_of g) es)) (get_or-map (pair_of g) es place [] (pair_of g []) lt))

    pub step-at : IsAtLeaf g nodes bytes place most → place < length (records_of (node_of bytes)) → IsAtLeaf g nodes bytes (place + 1) most
    step-at at lt = record { n = at.n; before = at.before; behind = at.behind; read = at.read; split = at.split; within = omega arith; few = at.few }

  -- ---- the start

  length-behind : (before : List ℕ) (n : ℕ) (behind : List ℕ) → leaves g nodes ≡ before ++ n ∷ behind → length behind ≤ length (flat_map (pairs g nodes) behind)
  length-behind before n [] split = omega arith
  length-behind before n (m ∷ behind) split =
      let shift : before ++ n ∷ m ∷ behind ≡ (before ++ n ∷ []) ++ m ∷ behind = simp append_assoc in
      let node = (leaf-node g nodes structure (before ++ n ∷ []) m behind (split ∙ shift)).1 in
      let same = ap (λ r. length (records_of r)) node.decodes in
      let some = node.some in
      let rest = length-behind (before ++ n ∷ []) m behind (split ∙ shift) in
      omega (arith, length-append (pairs g nodes m) (flat_map (pairs g nodes) behind), length-map (records_in nodes m) (pair_of g))

  few-behind : HasCounts g nodes → (before : List ℕ) (n : ℕ) (behind : List ℕ) → leaves g nodes ≡ before ++ n ∷ behind → length behind ≤ (header_in nodes).records
  few-behind counts before n behind split =
      let all = ap (λ (ps : Pairs K). length ps) (content-about g nodes before n behind split) in
      let own = length-behind before n behind split in
      let counted = counts.records in
      omega (arith, length-append (flat_map (pairs g nodes) before) (pairs g nodes n ++ flat_map (pairs g nodes) behind), length-append (pairs g nodes n) (flat_map (pairs g nodes) behind))

  none-leaves : (ns : List ℕ) → leaves g nodes ≡ ns → first_of ns ≡ 0 → ns ≡ []
  none-leaves [] split none = refl
  none-leaves (n ∷ ns) split none = absurd (let some = (leaf-node g nodes structure [] n ns split).1.within.0 in omega arith)

  module _ (h : Header) (h-is : h ≡ header_in nodes) where
    first-leaf : h.first_leaf ≡ first_of (leaves g nodes)
    first-leaf = ap (λ (x : Header). x.first_leaf) h-is ∙ structure.ends.first

    pub whole-none : h.first_leaf ≡ 0 → tree_content g nodes ≡ []
    whole-none none = ap (flat_map (pairs g nodes)) (none-leaves (leaves g nodes) refl (sym first-leaf ∙ none))

    module _ (more : h.first_leaf ≡ 0 → ⊥) where
      whole-split : leaves g nodes ≡ h.first_leaf ∷ drop 1 (leaves g nodes)
      whole-split =
          behind-is g nodes structure (leaves g nodes) (λ none. more (first-leaf ∙ none))
          ∙ ap (λ (n : ℕ). n ∷ drop 1 (leaves g nodes)) (sym first-leaf)

      first-node : (l : ℕ) × IsRight g nodes (record { left = l; n = h.first_leaf; right = first_of (drop 1 (leaves g nodes)); above = 0 })
      first-node = leaf-node g nodes structure [] h.first_leaf (drop 1 (leaves g nodes)) whole-split

      pub whole-within : h.first_leaf < length nodes
      whole-within = decoded-within nodes h.first_leaf first-node.1.value first-node.1.decodes

      module _ (counts : HasCounts g nodes) (bytes : List ℕ) (read : bytes ≡ get_or nodes h.first_leaf []) where
        whole-at : IsAtLeaf g nodes bytes 0 h.records
        whole-at =
            let same = ap (λ (x : Header). x.records) h-is in
            let few = few-behind counts [] h.first_leaf (drop 1 (leaves g nodes)) whole-split in
            record { n = h.first_leaf; before = []; behind = drop 1 (leaves g nodes); read = read; split = whole-split; within = omega arith; few = omega arith }

        pub whole-walk : IsWalk g nodes bytes 0 h.records
        whole-walk =
            let same = ap (λ (es : List (List ℕ)). length es) (records-read nodes h.first_leaf bytes read ∙ ap records_of first-node.1.decodes) in
            let some = first-node.1.some in
            record { structure = structure; at = inl (whole-at, omega arith) }

        pub whole-same : rest_at g nodes bytes 0 h.records ≡ tree_content g nodes
        unfolding whole-at
        whole-same =
            rest-is bytes 0 h.records whole-at
            ∙ ap (λ (es : List (List ℕ)). map (pair_of g) es ++ flat_map (pairs g nodes) (drop 1 (leaves g nodes))) (records-read nodes h.first_leaf bytes read)
            ∙ sym (ap (flat_map (pairs g nodes)) whole-split)

-- the start of a walk from a key on
module _ {K : Type 0} (g : Ghosts K) (nodes : Store) (sound : IsSound g nodes) (total : IsTotalOrder g.compare) (t : K) (some : 0 < depth_of nodes) (n : ℕ) (is : n ≡ leaf_for g nodes t) (bytes : List ℕ) (read : bytes ≡ get_or nodes n []) (h : Header) (h-is : h ≡ header_in nodes)
    (place : ℕ) (within : place ≤ length (records_of (node_of bytes))) where
  pub start-at : IsAtLeaf g nodes bytes place h.records
  start-at =
      let at = found g total nodes t sound some n is bytes read in
      let same = ap (λ (x : Header). x.records) h-is in
      let few = few-behind g nodes sound.structure sound.counts at.before n at.behind at.split in
      record { n = n; before = at.before; behind = at.behind; read = read; split = at.split; within = within; few = omega arith }

  pub start-same : drop place (map (pair_of g) (records_of (node_of bytes))) ≡ pairs_from g.compare t (map (pair_of g) (records_of (node_of bytes)))
      → rest_at g nodes bytes place h.records ≡ pairs_from g.compare t (tree_content g nodes)
  unfolding start-at
  start-same from =
      let at = found g total nodes t sound some n is bytes read in
      rest-is g nodes sound.structure bytes place h.records start-at
      ∙ ap (λ (ps : Pairs K). ps ++ flat_map (pairs g nodes) at.behind) from
      ∙ sym (ap (pairs_from g.compare t) (about g total nodes t sound some n is bytes read)
      ∙ from-between g.compare total t (flat_map (pairs g nodes) at.before) (map (pair_of g) (records_of (node_of bytes))) (flat_map (pairs g nodes) at.behind) at.below at.above)
