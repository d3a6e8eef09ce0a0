-- The way down to a level, as a loop goes it, and how many levels on it are full.
use Rattle.std.proofs.Common.{◌≡◌, ℕ, zero, suc, ◌+◌, ◌-◌, ◌<◌, ◌≤◌, List, [], length, get_or, refl, sym, ap, ◌∙◌, subst, arith, inl, inr}
use Rattle.std.specs.Prelude.{true}
use Rattle.std.proofs.lemmas.Bool.{cases_lt}
use Rattle.hfs_btree.specs.Node.{size_of, node_of}
use Rattle.hfs_btree.specs.declared.key.Key.{Ghosts}
use Rattle.hfs_fields.specs.Each.{Each}
use Rattle.hfs_btree.specs.Tree.{Store, records_in, records_of}
use Rattle.hfs_btree.specs.Header.{header_in, depth_of}
use Rattle.hfs_btree.specs.Sound.{HasStructure}
use Rattle.hfs_btree.specs.Search.{child_for, leaf_under}
use Rattle.hfs_btree.proofs.DecodedLemmas.{records-read}
use Rattle.hfs_btree.proofs.DescentLemmas.{IsOnWay, root-way, way-within, way-for, way-some, index-entries}
use Rattle.hfs_btree_edits.specs.Edits.{node_for, IsFullFor}
use Rattle.hfs_btree_insertion.specs.Growth.{len_at, HasRoom, AreFull}

module _ {K : Type 0} (g : Ghosts K) (nodes : Store) (t : K) where
  -- one level further down
  pub leaf-next : (j n : ℕ) → leaf_under g nodes t (suc j) n ≡ child_for g t (records_in nodes (leaf_under g nodes t j n))
  leaf-next zero n = refl
  leaf-next (suc j) n = leaf-next j (child_for g t (records_in nodes n))

  -- a node on the way, so many levels above the leaves
  pub record IsAt (here n : ℕ) : Type 0 where
    pub within : here < depth_of nodes
    pub way : IsOnWay g nodes here n
    pub is : n ≡ node_for g nodes t here

  pub at-root : HasStructure g nodes → 0 < depth_of nodes → IsAt (depth_of nodes - 1) (header_in nodes).root
  at-root structure some =
      let none : 0 ≡ depth_of nodes - 1 - (depth_of nodes - 1) = omega arith in
      record {
        within = omega (arith, some);
        way = root-way g nodes structure some;
        is = ap (λ (j : ℕ). leaf_under g nodes t j (header_in nodes).root) none;
      }

  pub at-next : (here n : ℕ) → 0 < here → IsAt here n → IsAt (here - 1) (child_for g t (records_in nodes n))
  at-next here n some at =
      let less = at.within in
      let one : suc (depth_of nodes - 1 - here) ≡ depth_of nodes - 1 - (here - 1) = omega (arith, less, some) in
      record {
        within = omega (arith, less);
        way = way-for g nodes t here n some at.way;
        is =
            ap (λ (x : ℕ). child_for g t (records_in nodes x)) at.is
            ∙ sym (leaf-next (depth_of nodes - 1 - here) (header_in nodes).root)
            ∙ ap (λ (j : ℕ). leaf_under g nodes t j (header_in nodes).root) one;
      }

  -- there is such a node on each level
  pub at-down : (j : ℕ) → HasStructure g nodes → j < depth_of nodes → IsAt (depth_of nodes - 1 - j) (leaf_under g nodes t j (header_in nodes).root)
  at-down zero structure some =
      let all : depth_of nodes - 1 ≡ depth_of nodes - 1 - 0 = omega arith in
      let P : ℕ → Type 0 = λ x. IsAt x (header_in nodes).root in
      subst P all (at-root structure (omega (arith, some)))
  at-down (suc j) structure less =
      let above : IsAt (depth_of nodes - 1 - j) (leaf_under g nodes t j (header_in nodes).root) = at-down j structure (omega (arith, less)) in
      let one : depth_of nodes - 1 - j - 1 ≡ depth_of nodes - 1 - suc j = omega (arith, less) in
      let P : ℕ → Type 0 = λ x. IsAt x (leaf_under g nodes t (suc j) (header_in nodes).root) in
      let Q : ℕ → Type 0 = λ x. IsAt (depth_of nodes - 1 - j - 1) x in
      subst P one (subst Q (sym (leaf-next j (header_in nodes).root)) (at-next (depth_of nodes - 1 - j) (leaf_under g nodes t j (header_in nodes).root) (omega (arith, less)) above))

  pub at-level : (k : ℕ) → HasStructure g nodes → k < depth_of nodes → IsAt k (node_for g nodes t k)
  at-level k structure less =
      let same : depth_of nodes - 1 - (depth_of nodes - 1 - k) ≡ k = omega (arith, less) in
      let P : ℕ → Type 0 = λ x. IsAt x (node_for g nodes t k) in
      subst P same (at-down (depth_of nodes - 1 - k) structure (omega (arith, less)))

  -- ---- what was read of it

  pub read-some : (here n : ℕ) (bytes : List ℕ) → IsAt here n → bytes ≡ get_or nodes n [] → 0 < length (records_of (node_of bytes))
  read-some here n bytes at read =
      let P : List (List ℕ) → Type 0 = λ es. 0 < length es in
      subst P (sym (records-read nodes n bytes read)) (way-some g nodes here n at.way)

  pub read-index : (here n : ℕ) (bytes : List ℕ) → 0 < here → IsAt here n → bytes ≡ get_or nodes n [] → Each (λ e. g.is_index e ≡ true) (records_of (node_of bytes))
  read-index here n bytes some at read =
      let P : List (List ℕ) → Type 0 = λ es. Each (λ e. g.is_index e ≡ true) es in
      subst P (sym (records-read nodes n bytes read)) (index-entries g nodes here n some at.way)

  pub read-next : (here n m : ℕ) (bytes : List ℕ) → 0 < here → IsAt here n → bytes ≡ get_or nodes n [] → m ≡ child_for g t (records_of (node_of bytes)) → IsAt (here - 1) m
  read-next here n m bytes some at read is =
      let P : ℕ → Type 0 = λ x. IsAt (here - 1) x in
      subst P (sym (is ∙ ap (child_for g t) (records-read nodes n bytes read))) (at-next here n some at)

  pub at-within : (here n : ℕ) → IsAt here n → n < length nodes
  at-within here n at = way-within g nodes here n at.way

  -- ---- full levels

  -- the levels above this one have been seen: so many from it on upwards are full, and the one above these isn't
  pub record IsCounted (here full : ℕ) : Type 0 where
    pub within : here + full < depth_of nodes
    pub each : (k : ℕ) → here < k → k ≤ here + full → IsFullFor nodes (g.INDEX_KEY_LEN + 5) (node_for g nodes t k)
    pub room : here + full + 1 < depth_of nodes → HasRoom nodes (g.INDEX_KEY_LEN + 5) (node_for g nodes t (here + full + 1))

  pub counted-init : 0 < depth_of nodes → IsCounted (depth_of nodes - 1) 0
  counted-init some = record {
    within = omega (arith, some);
    each = λ k lt le. absurd (omega (arith, lt, le));
    room = λ lt. absurd (omega (arith, lt));
  }

  abbrev size-at : ℕ → ℕ
  size-at k = size_of (records_in nodes (node_for g nodes t k))

  pub counted-full : (here full : ℕ) → 0 < here → IsFullFor nodes (g.INDEX_KEY_LEN + 5) (node_for g nodes t here) → IsCounted here full → IsCounted (here - 1) (full + 1)
  counted-full here full some big c =
      let less = c.within in
      let next : here + full + 1 ≡ here - 1 + (full + 1) + 1 = omega (arith, some) in
      let P : ℕ → Type 0 = λ k. HasRoom nodes (g.INDEX_KEY_LEN + 5) (node_for g nodes t k) in
      let Q : ℕ → Type 0 = λ k. IsFullFor nodes (g.INDEX_KEY_LEN + 5) (node_for g nodes t k) in
      record {
        within = omega (arith, less, some);
        each = λ k lt le. elim (cases_lt here k) [
          | inl more ↦ c.each k more (omega (arith, le, some))
          | inr no-more ↦ (let is : here ≡ k = omega (arith, lt, no-more, some) in subst Q is big)
        ];
        room = λ lt. subst P next (c.room (omega (arith, lt, some)));
      }

  pub counted-room : (here full : ℕ) → 0 < here → HasRoom nodes (g.INDEX_KEY_LEN + 5) (node_for g nodes t here) → IsCounted here full → IsCounted (here - 1) 0
  counted-room here full some small c =
      let less = c.within in
      let next : here ≡ here - 1 + 0 + 1 = omega (arith, some) in
      let P : ℕ → Type 0 = λ k. HasRoom nodes (g.INDEX_KEY_LEN + 5) (node_for g nodes t k) in
      record {
        within = omega (arith, less, some);
        each = λ k lt le. absurd (omega (arith, lt, le));
        room = λ lt. subst P next small;
      }

  -- one level more, by what a count of it answers
  pub counted-next : (here n full more len : ℕ) (bytes : List ℕ) → len ≡ g.INDEX_KEY_LEN → 0 < here → IsAt here n → bytes ≡ get_or nodes n []
      → (496 < size_of (records_of (node_of bytes)) + (len + 5 + 2) → more ≡ full + 1) → (size_of (records_of (node_of bytes)) + (len + 5 + 2) ≤ 496 → more ≡ 0)
      → IsCounted here full → IsCounted (here - 1) more
  counted-next here n full more len bytes same some at read if-full if-room c =
      let size : size_of (records_of (node_of bytes)) ≡ size-at here = ap size_of (records-read nodes n bytes read) ∙ ap (λ (x : ℕ). size_of (records_in nodes x)) at.is in
      let P : ℕ → Type 0 = λ m. IsCounted (here - 1) m in
      elim (cases_lt 496 (size_of (records_of (node_of bytes)) + (len + 5 + 2))) [
        | inl big ↦ subst P (sym (if-full big)) (counted-full here full some (omega (arith, big, size, same)) c)
        | inr small ↦ subst P (sym (if-room (omega (arith, small)))) (counted-room here full some (omega (arith, small, size, same)) c)
      ]

  all-full : (len full : ℕ) → IsFullFor nodes len (node_for g nodes t 0) → IsCounted 0 full → (k : ℕ) → k < suc full → IsFullFor nodes (len_at g len k) (node_for g nodes t k)
  all-full len full big c zero lt = big
  all-full len full big c (suc k) lt = c.each (suc k) (omega arith) (omega (arith, lt))

  pub counted-leaf : (here n full more len : ℕ) (bytes : List ℕ) → here ≤ 0 → IsAt here n → bytes ≡ get_or nodes n []
      → (496 < size_of (records_of (node_of bytes)) + (len + 2) → more ≡ full + 1) → (size_of (records_of (node_of bytes)) + (len + 2) ≤ 496 → more ≡ 0)
      → IsCounted here full → AreFull g nodes t len more
  counted-leaf here n full more len bytes none at read if-full if-room c =
      let z : here ≡ 0 = omega (arith, none) in
      let C : ℕ → Type 0 = λ x. IsCounted x full in
      let c0 : IsCounted 0 full = subst C z c in
      let size : size_of (records_of (node_of bytes)) ≡ size-at 0 =
      ap size_of (records-read nodes n bytes read) ∙ ap (λ (x : ℕ). size_of (records_in nodes x)) (at.is ∙ ap (node_for g nodes t) z) in
      let P : ℕ → Type 0 = λ m. AreFull g nodes t len m in
      let R : ℕ → Type 0 = λ k. HasRoom nodes (g.INDEX_KEY_LEN + 5) (node_for g nodes t k) in
      let less = c0.within in
      elim (cases_lt 496 (size_of (records_of (node_of bytes)) + (len + 2))) [
        | inl big ↦
            (let is : more ≡ suc full = if-full big ∙ (let e : full + 1 ≡ suc full = omega arith in e) in
            let next : 0 + full + 1 ≡ suc full = omega arith in
            subst P (sym is) (record {
              most = omega (arith, less);
              each = all-full len full (omega (arith, big, size)) c0;
              room = λ lt. subst R next (c0.room (omega (arith, lt)));
            }))
        | inr small ↦
            subst P (sym (if-room (omega (arith, small)))) (record {
              most = omega arith;
              each = λ k lt. absurd (omega (arith, lt));
              room = λ lt. omega (arith, small, size);
            })
      ]
