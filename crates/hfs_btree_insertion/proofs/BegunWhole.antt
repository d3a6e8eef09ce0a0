-- A pair in a leaf that is new: a node was claimed, and put behind the leaf where the search for the key ended.
use Rattle.std.proofs.Common.{◌≡◌, ℕ, suc, ◌+◌, ◌-◌, ◌<◌, List, [], ◌∷◌, length, map, drop, get_or, None, sym, ap, ◌∙◌, subst, arith}
use Rattle.std.specs.Cmp.{IsTotalOrder}
use Rattle.std.specs.List.{prefix_len}
use Rattle.hfs_btree.specs.Node.{node_of}
use Rattle.hfs_btree.specs.declared.header.Header.{Header}
use Rattle.hfs_btree.specs.declared.key.Key.{Ghosts}
use Rattle.hfs_btree.specs.Pairs.{IsAbove, lookup}
use Rattle.hfs_btree.specs.Tree.{Store, records_in, records_of, pair_of, pairs, level_below}
use Rattle.hfs_btree.specs.Header.{header_in, depth_of, root_level, tree_content}
use Rattle.hfs_btree.specs.Search.{is_not_above, leaf_under, IsLowWay}
use Rattle.hfs_btree.specs.Sound.{IsSound}
use Rattle.hfs_btree_edits.specs.LevelParts.{lift}
use Rattle.hfs_btree_edits.specs.Edits.{level_above, node_for, with_pair}
use Rattle.hfs_btree_edits.specs.KeptKeys.{EachKey}
use Rattle.hfs_btree_edits.specs.Stored.{HasClaimed}
use Rattle.hfs_btree_edits.proofs.KeptKeyLemmas.{hold-keys_with}
use Rattle.hfs_btree_edits.proofs.LevelPartLemmas.{lift-is}
use Rattle.hfs_btree_insertion.specs.Begun.{IsAboveLeaf, HasBegunAt, HasLeafBegun}
use Rattle.hfs_btree_insertion.specs.Cut.{IsParted, child_at}
use Rattle.hfs_btree_insertion.specs.Growth.{IsLow}
use Rattle.hfs_btree_insertion.proofs.Begins.{begun-content, begun-sound, begun-exact, begun-hold}
use Rattle.hfs_btree_insertion.proofs.CutKeys.{claimed-stay, claimed-hold, stay-then}
use Rattle.hfs_btree_insertion.proofs.CutWhole.{child-is, claimed-low, as-found}
use Rattle.hfs_btree_insertion.proofs.MadeRoom.{low-way}
use Rattle.hfs_btree_insertion.proofs.Parted.{stray-gone, stray-same, one-more, bytes-same, nodes-stay, levels-above, level-grown}
use Rattle.hfs_btree_insertion.proofs.Taken.{HasTaken, taken-keeps, claimed-levels, claimed-depth}

-- ---- from the tree in which the node was claimed

module _ {K : Type 0} (g : Ghosts K) (total : IsTotalOrder g.compare) (key : K) (entry : List ℕ) (m : ℕ) (old new : Store) (sound : IsSound g old) (deep : 1 < depth_of old) (low : IsLow g old key)
    (keyed : g.leaf_key entry ≡ key) (above : IsAboveLeaf g old key) (absent : lookup g.compare key (tree_content g old) ≡ None)
    (h : HasBegunAt g key entry (node_for g old key 1) (prefix_len (is_not_above g key) (records_in old (node_for g old key 1)) - 1) m old new) where
  abbrev body : List ℕ
  body = drop (g.body_start entry) entry

  abbrev pp : ℕ
  pp = node_for g old key 1

  abbrev qq : ℕ
  qq = prefix_len (is_not_above g key) (records_in old pp) - 1

  abbrev nn : ℕ
  nn = child_at g old pp qq

  abbrev us : List (List ℕ)
  us = records_in old nn

  abbrev ws : List (List ℕ)
  ws = entry ∷ []

  abbrev s : IsParted g old new h.i 0 pp nn m qq us ws
  s = h.parts

  abbrev root : ℕ
  root = (header_in old).root

  height : depth_of old ≡ suc (suc h.i)
  height = let d = s.cut.deep in let e = lift-is h.i 1 in omega (arith, d, e)

  way : leaf_under g old key h.i root ≡ pp
  way = let d = height in let e : h.i ≡ depth_of old - 1 - 1 = omega (arith, d) in ap (λ (j : ℕ). leaf_under g old key j root) e

  some-low : prefix_len (is_not_above g key) (records_in old pp) ≡ suc qq
  some-low =
      let d = height in
      let P : ℕ → Type 0 = λ x. 0 < prefix_len (is_not_above g key) (records_in old x) in
      let few : 0 < prefix_len (is_not_above g key) (records_in old pp) = subst P way (low h.i (omega (arith, d))) in
      omega (arith, few)

  low-ways : IsLowWay g old key h.i root
  low-ways = let d = height in low-way g old key h.i root (λ j lt. low j (omega (arith, d, lt)))

  pair : pair_of g entry ≡ (key, drop (g.body_start entry) entry)
  pair = ap (λ (k : K). (k, drop (g.body_start entry) entry)) keyed

  above-child : IsAbove g.compare key (pairs g old nn)
  above-child = let P : ℕ → Type 0 = λ x. IsAbove g.compare key (pairs g old x) in subst P (sym (child-is g old key 0 sound deep)) above

  pub at-content : tree_content g new ≡ with_pair g.compare key (drop (g.body_start entry) entry) (tree_content g old)
  at-content = begun-content g total old new key body h.i pp nn m qq entry s sound.structure sound.ordered h.keyed pair some-low way low-ways above-child

  at-sound : IsSound g new
  at-sound = begun-sound g total old new key body h.i pp nn m qq entry s sound.structure sound.ordered h.keyed pair some-low way low-ways above-child absent sound.counts h.counted h.header h.map

  pub at-taken : HasTaken g m old new
  at-taken = record {
    sound = at-sound;
    exact = begun-exact g total old new key body h.i pp nn m qq entry s sound.structure sound.ordered h.keyed pair some-low way low-ways above-child;
    head = s.head;
    gone = stray-gone g old new h.i 0 pp nn m qq us ws s sound.structure;
    same = λ x ne. stray-same g old new h.i 0 pp nn m qq us ws s sound.structure x ne;
    rest = bytes-same g old new h.i 0 pp nn m qq us ws s sound.structure;
    more = one-more g old new h.i 0 pp nn m qq us ws s sound.structure;
  }

  pub at-hold : (P : K → Type 0) → EachKey g P old → P key → EachKey g P new
  at-hold = begun-hold g total old new key body h.i pp nn m qq entry s sound.structure sound.ordered h.keyed pair some-low way low-ways above-child

  pub at-levels : (k : ℕ) → 0 < k → k < depth_of old → level_above g new k ≡ level_above g old k
  at-levels k some lt =
      let d = height in
      ap (λ (x : ℕ). level_below g new (x - 1 - k) (root_level new)) s.depth
      ∙ levels-above g old new h.i 0 pp nn m qq us ws s sound.structure (depth_of old - 1 - k) (omega (arith, d, some, lt))

  pub at-grown : length (level_above g new 0) ≡ length (level_above g old 0) + 1
  at-grown =
      let d = height in
      let e = lift-is h.i 1 in
      let place : depth_of old - 1 - 0 ≡ lift h.i 1 = omega (arith, d, e) in
      ap (λ (x : ℕ). length (level_below g new (x - 1 - 0) (root_level new))) s.depth
      ∙ ap (λ (j : ℕ). length (level_below g new j (root_level new))) place
      ∙ level-grown g old new h.i 0 pp nn m qq us ws s sound.structure
      ∙ sym (ap (λ (j : ℕ). length (level_below g old j (root_level old)) + 1) place)

-- ---- with the claim

module _ {K : Type 0} (g : Ghosts K) (total : IsTotalOrder g.compare) (key : K) (entry : List ℕ) (m : ℕ) (old mid : Store) (sound : IsSound g old) (c : HasClaimed g m old mid) (deep : 1 < depth_of old)
    (low : IsLow g old key) where
  deep-mid : 1 < depth_of mid
  deep-mid = let same = claimed-depth g m old mid mid c in omega (arith, deep, same)

  -- the leaf where the search for the key ends has the same pairs
  above-mid : IsAboveLeaf g old key → IsAboveLeaf g mid key
  above-mid above =
      let kept = claimed-levels g m old mid mid c sound in
      let lt : 0 < depth_of old = omega (arith, deep) in
      let P : List (List ℕ) → Type 0 = λ xs. IsAbove g.compare key (map (pair_of g) xs) in
      let same = ap (records_in mid) (kept.way key 0 lt) ∙ kept.records key 0 lt in
      subst P (sym same) above

  absent-mid : lookup g.compare key (tree_content g old) ≡ None → lookup g.compare key (tree_content g mid) ≡ None
  absent-mid absent = ap (lookup g.compare key) c.content ∙ absent

  pub few-mid : (header_in old).records + 1 < 4294967296 → (header_in mid).records + 1 < 4294967296
  few-mid few = let same = ap (λ (h : Header). h.records) c.header in omega (arith, few, same)

  module _ (p q : ℕ) (bytes : List ℕ) (at : p ≡ node_for g mid key 1) (read : bytes ≡ get_or mid p []) (place : q ≡ prefix_len (is_not_above g key) (records_of (node_of bytes)) - 1) where
    pub begun-whole : (new : Store) → g.leaf_key entry ≡ key → IsAboveLeaf g old key → lookup g.compare key (tree_content g old) ≡ None → HasBegunAt g key entry p q m mid new
        → HasLeafBegun g key (drop (g.body_start entry) entry) old new
    begun-whole new keyed above absent h' =
        let low' = claimed-low g key m old mid sound c low in
        let above' = above-mid above in
        let absent' = absent-mid absent in
        let h = as-found g key 0 m old mid sound c deep p q bytes at read place (λ x y. HasBegunAt g key entry x y m mid new) h' in
        let t = at-taken g total key entry m mid new c.sound deep-mid low' keyed above' absent' h in
        let kept = claimed-levels g m old mid mid c sound in
        let same = claimed-depth g m old mid mid c in
        record {
          keeps = taken-keeps g m old mid new c t;
          others = stay-then g old mid new (claimed-stay g m old mid c) (nodes-stay g mid new h.i 0 _ _ m _ _ _ h.parts c.sound.structure);
          keys = hold-keys_with g old new key (λ P was here. at-hold g total key entry m mid new c.sound deep-mid low' keyed above' absent' h P (claimed-hold g m old mid c P was) here);
          content = at-content g total key entry m mid new c.sound deep-mid low' keyed above' absent' h ∙ ap (with_pair g.compare key (drop (g.body_start entry) entry)) c.content;
          depth = h.parts.depth ∙ same;
          levels = λ k some lt. at-levels g total key entry m mid new c.sound deep-mid low' keyed above' absent' h k some (omega (arith, lt, same)) ∙ kept.levels k lt;
          grown = at-grown g total key entry m mid new c.sound deep-mid low' keyed above' absent' h ∙ ap (λ (ns : List ℕ). length ns + 1) (kept.levels 0 (omega (arith, deep)));
        }
