-- A leaf on a way on which no index key is to be lowered: an insertion that lowers no key, and where the leaf has room cuts no node.
use Rattle.std.proofs.Common.{◌≡◌, ℕ, ◌+◌, ◌-◌, ◌<◌, ◌≤◌, List, [], get_or, ap, ◌∙◌, subst, arith, inl, inr, refl}
use Rattle.std.proofs.lemmas.Bool.{cases_lt}
use Rattle.std.specs.Cmp.{IsTotalOrder}
use Rattle.std.specs.List.{prefix_len}
use Rattle.hfs_btree.specs.Node.{node_of, size_of}
use Rattle.hfs_btree.specs.declared.key.Key.{Ghosts}
use Rattle.hfs_btree.specs.Tree.{Store, records_in, records_of}
use Rattle.hfs_btree.specs.Header.{header_in, depth_of, tree_content}
use Rattle.hfs_btree.specs.Sound.{IsSound}
use Rattle.hfs_btree.specs.Search.{is_not_above, leaf_for, leaf_under, IsLowWay}
use Rattle.hfs_btree.proofs.DecodedLemmas.{records-read}
use Rattle.hfs_btree_edits.specs.Edits.{IsAboveFirst, node_for}
use Rattle.hfs_btree_insertion.specs.Growth.{HasRoom, AreFull, IsLow}
use Rattle.hfs_btree_insertion.specs.Lowering.{HasLowered}
use Rattle.hfs_btree_insertion.specs.Room.{HasMadeRoom, IsLowAbove, IsLowLeaf}
use Rattle.hfs_btree_insertion.proofs.Inserted.{lower-low}
use Rattle.hfs_btree_insertion.proofs.LowerSteps.{lowered-none, some-levels_above}
use Rattle.hfs_btree_insertion.proofs.MadeRoom.{low-whole, made-cut}
use Rattle.hfs_btree_insertion.proofs.Steps.{down-init}
use Rattle.hfs_btree_insertion.proofs.WayTo.{IsAt}

module _ {K : Type 0} (g : Ghosts K) (nodes : Store) (t : K) where
  -- ---- the loop

  pub low-none : (above : ℕ) → depth_of nodes ≤ above + 1 → IsLowAbove g nodes t above
  low-none above le k lt less = absurd (omega (arith, le, lt, less))

  pub low-next : (here n : ℕ) (bytes : List ℕ) → IsAt g nodes t here n → bytes ≡ get_or nodes n [] → 0 < prefix_len (is_not_above g t) (records_of (node_of bytes)) → IsLowAbove g nodes t here
      → IsLowAbove g nodes t (here - 1)
  low-next here n bytes at read some low k lt less =
      let P : List (List ℕ) → Type 0 = λ es. 0 < prefix_len (is_not_above g t) es in
      let Q : ℕ → Type 0 = λ x. 0 < prefix_len (is_not_above g t) (records_in nodes x) in
      let R : ℕ → Type 0 = λ j. 0 < prefix_len (is_not_above g t) (records_in nodes (node_for g nodes t j)) in
      elim (cases_lt here k) [
        | inl more ↦ low k more less
        | inr no-more ↦ (let is : here ≡ k = omega (arith, lt, no-more) in subst R is (subst Q at.is (subst P (records-read nodes n bytes read) some)))
      ]

  pub low-at : (here n : ℕ) → here ≤ 0 → IsAt g nodes t here n → IsLowAbove g nodes t here → IsLowLeaf g nodes t n
  low-at here n none at low =
      let z : here ≡ 0 = omega (arith, none) in
      let L : ℕ → Type 0 = λ x. IsLowAbove g nodes t x in
      record { at = at.is ∙ ap (node_for g nodes t) z; low = subst L z low }

  pub room-read : (len n : ℕ) (bytes : List ℕ) → bytes ≡ get_or nodes n [] → size_of (records_of (node_of bytes)) + (len + 2) ≤ 496 → HasRoom nodes len n
  room-read len n bytes read room =
      let size : size_of (records_of (node_of bytes)) ≡ size_of (records_in nodes n) = ap size_of (records-read nodes n bytes read) in
      omega (arith, room, size)

  pub leaf-found : (n : ℕ) → IsLowLeaf g nodes t n → n ≡ leaf_for g nodes t
  leaf-found n r =
      let none : depth_of nodes - 1 - 0 ≡ depth_of nodes - 1 = omega arith in
      r.at ∙ ap (λ (j : ℕ). leaf_under g nodes t j (header_in nodes).root) none

  -- ---- what an insertion asks for

  module _ (sound : IsSound g nodes) (n : ℕ) (r : IsLowLeaf g nodes t n) where
    -- no key was lowered
    pub low-lowered : HasLowered g t 0 nodes nodes
    low-lowered =
        let none = lowered-none g t nodes (depth_of nodes) sound (omega arith) in
        record {
          keeps = none.keeps;
          content = refl;
          keys = none.keys;
          header = refl;
          turn = refl;
          levels = λ k. refl;
          way = λ k. refl;
          size = λ m. refl;
          low = r.low;
        }

    module _ (first : IsAboveFirst g.compare t (tree_content g nodes)) where
      pub low-is_low : IsLow g nodes t
      low-is_low = lower-low g t nodes nodes sound first low-lowered

      pub low-way : IsLowWay g nodes t (depth_of nodes - 1) (header_in nodes).root
      low-way = low-whole g nodes t low-is_low

      none-full : (len : ℕ) → HasRoom nodes len n → AreFull g nodes t len 0
      none-full len has_room =
          let R : ℕ → Type 0 = λ x. HasRoom nodes len x in
          record { most = omega arith; each = λ k lt. absurd (omega (arith, lt)); room = λ lt. subst R r.at has_room }

      -- and no node was cut
      pub roomy-made : (len : ℕ) → HasRoom nodes len n → IsTotalOrder g.compare → len ≤ 140 → HasMadeRoom g t len 0 nodes nodes
      roomy-made len has_room total short =
          made-cut g total t len nodes sound first short low-is_low 0 (none-full len has_room) (some-levels_above g t nodes first) 0 (omega arith) nodes (down-init g t len 0 nodes sound low-is_low)
