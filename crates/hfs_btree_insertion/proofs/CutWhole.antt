-- A level of a tree with one node more: the node on the way to a key was cut in two.
use Rattle.std.proofs.Common.{◌≡◌, ◌≢◌, ℕ, suc, ◌+◌, ◌-◌, ◌<◌, ◌≤◌, List, [], length, get_or, refl, sym, ap, ◌∙◌, subst, arith, inl, inr}
use Rattle.std.specs.Prelude.{Ok, Result}
use Rattle.std.specs.Cmp.{IsTotalOrder}
use Rattle.std.specs.List.{flat_map, prefix_len}
use Rattle.std.proofs.lemmas.Bool.{cases_eq, cases_lt}
use Rattle.hfs_btree.specs.Node.{size_of}
use Rattle.hfs_btree.specs.declared.key.Key.{Ghosts}
use Rattle.hfs_btree.specs.Tree.{Store, records_in, level_below, first_of}
use Rattle.hfs_btree.specs.Header.{header_in, depth_of, root_level}
use Rattle.hfs_btree.specs.Sound.{IsSound}
use Rattle.hfs_btree.specs.Search.{is_not_above, child_for, leaf_under}
use Rattle.hfs_btree_edits.specs.Stored.{HasClaimed}
use Rattle.hfs_btree_insertion.specs.Cut.{IsSplit, IsBranch, child_at, HasCutAt}
use Rattle.hfs_btree_edits.specs.LevelParts.{lift}
use Rattle.hfs_btree_edits.specs.Edits.{level_above, node_for}
use Rattle.hfs_btree_insertion.specs.Growth.{HasRoom, IsLow, HasCutLevel}
use Rattle.hfs_btree.proofs.DescentLemmas.{place-within, way-some}
use Rattle.hfs_btree_edits.proofs.LevelPartLemmas.{lift-is}
use Rattle.hfs_btree_insertion.proofs.LevelWays.{some-of, standing}
use Rattle.hfs_btree.proofs.DecodedLemmas.{records-read}
use Rattle.hfs_btree_insertion.proofs.WayTo.{IsAt, at-level, leaf-next, read-index}
use Rattle.hfs_fields.specs.Each.{Each}
use Rattle.hfs_btree_insertion.proofs.Splits.{new-exact, stray-gone, stray-same, one-more, bytes-same, levels-above, level-grown, levels-below}
use Rattle.hfs_btree_insertion.proofs.SplitWays.{way-above, way-below, way-node, records-uppers, records-below, low-above, low-half, half-room, new-at, one-down}
use Rattle.hfs_btree_insertion.proofs.CutKeys.{claimed-stay, claimed-keys, split-stay, split-keys, stay-then, keys-then}
use Rattle.hfs_btree_insertion.proofs.Taken.{HasTaken, taken-keeps, taken-free, taken-content, claimed-levels, claimed-depth, claimed-root}

-- ---- where the cut is

module _ {K : Type 0} (g : Ghosts K) (nodes : Store) (key : K) (a : ℕ) (sound : IsSound g nodes) (deep : a + 1 < depth_of nodes) where
  abbrev p : ℕ
  p = node_for g nodes key (a + 1)

  abbrev q : ℕ
  q = prefix_len (is_not_above g key) (records_in nodes p) - 1

  parent-some : 0 < length (records_in nodes p)
  parent-some = way-some g nodes (a + 1) p (at-level g nodes key (a + 1) sound.structure deep).way

  pub branch-at : IsBranch g nodes a p q
  branch-at =
      let i = depth_of nodes - 1 - (a + 1) in
      let at = standing g nodes key (depth_of nodes) (depth_of nodes - 1 - (a + 1)) (root_level nodes) [] (header_in nodes).root [] refl (omega (arith, deep)) (some-of g nodes sound.structure) in
      let height = lift-is (depth_of nodes - 1 - (a + 1)) (suc a) in
      record {
        i = depth_of nodes - 1 - (a + 1);
        deep = omega (arith, deep, height);
        before = at.before;
        behind = at.behind;
        level = at.split;
        within = place-within g key (records_in nodes p) parent-some;
      }

  pub child-is : child_at g nodes p q ≡ node_for g nodes key a
  child-is =
      let one : suc (depth_of nodes - 1 - (a + 1)) ≡ depth_of nodes - 1 - a = omega (arith, deep) in
      sym (leaf-next g nodes key (depth_of nodes - 1 - (a + 1)) (header_in nodes).root) ∙ ap (λ (j : ℕ). leaf_under g nodes key j (header_in nodes).root) one

-- ---- what it makes of the levels

module _ {K : Type 0} (g : Ghosts K) (total : IsTotalOrder g.compare) (key : K) (len a m : ℕ) (old new : Store) (sound : IsSound g old) (deep : a + 1 < depth_of old) (low : IsLow g old key)
    (h : HasCutAt g key len old new a (node_for g old key (a + 1)) (prefix_len (is_not_above g key) (records_in old (node_for g old key (a + 1))) - 1) m) where
  abbrev pp : ℕ
  pp = node_for g old key (a + 1)

  abbrev qq : ℕ
  qq = prefix_len (is_not_above g key) (records_in old pp) - 1

  abbrev nn : ℕ
  nn = child_at g old pp qq

  abbrev s : IsSplit g old new h.i a pp nn m qq h.c
  s = h.split

  abbrev root : ℕ
  root = (header_in old).root

  height : depth_of old ≡ h.i + 1 + 1 + a
  height = let d = s.parts.cut.deep in let e = lift-is h.i (suc a) in omega (arith, d, e)

  way : leaf_under g old key h.i root ≡ pp
  way = let d = height in let e : h.i ≡ depth_of old - 1 - (a + 1) = omega (arith, d) in ap (λ (j : ℕ). leaf_under g old key j root) e

  some-low : prefix_len (is_not_above g key) (records_in old pp) ≡ suc qq
  some-low =
      let d = height in
      let P : ℕ → Type 0 = λ x. 0 < prefix_len (is_not_above g key) (records_in old x) in
      let few : 0 < prefix_len (is_not_above g key) (records_in old pp) = subst P way (low h.i (omega (arith, d))) in
      omega (arith, few)

  -- ---- stray nodes and numbers

  pub cut-taken : HasTaken g m old new
  cut-taken = record {
    sound = h.sound;
    exact = λ exact. new-exact g old new h.i a pp nn m qq h.c s sound.structure total exact;
    head = s.parts.head;
    gone = stray-gone g old new h.i a pp nn m qq h.c s sound.structure;
    same = λ x ne. stray-same g old new h.i a pp nn m qq h.c s sound.structure x ne;
    rest = bytes-same g old new h.i a pp nn m qq h.c s sound.structure;
    more = one-more g old new h.i a pp nn m qq h.c s sound.structure;
  }

  -- ---- levels

  place-below : (k : ℕ) → k < a → depth_of old - 1 - k ≡ lift h.i (suc (suc (a - 1 - k)))
  place-below k lt = let d = height in let e = lift-is h.i (suc (suc (a - 1 - k))) in omega (arith, d, e, lt)

  a-up : (k : ℕ) → k < a → a ≡ suc (a - 1)
  a-up k lt = omega (arith, lt)

  place-here : depth_of old - 1 - a ≡ lift h.i 1
  place-here = let d = height in let e = lift-is h.i 1 in omega (arith, d, e)

  pub cut-levels : (k : ℕ) → k < depth_of old → k ≢ a → level_above g new k ≡ level_above g old k
  cut-levels k lt ne =
      let d = height in
      let rest : level_below g new (depth_of old - 1 - k) (root_level new) ≡ level_above g old k = elim (cases_lt k a) [
        | inl less ↦
            (let at = place-below k less in
            ap (λ (j : ℕ). level_below g new j (root_level new)) at
            ∙ levels-below g old new h.i a pp nn m qq h.c s sound.structure (a - 1) (a - 1 - k) (a-up k less) (omega (arith, less))
            ∙ sym (ap (λ (j : ℕ). level_below g old j (root_level old)) at))
        | inr more ↦ levels-above g old new h.i a pp nn m qq h.c s sound.structure (depth_of old - 1 - k) (omega (arith, d, more, ne, lt))
      ] in
      ap (λ (x : ℕ). level_below g new (x - 1 - k) (root_level new)) s.parts.depth ∙ rest

  pub cut-grown : length (level_above g new a) ≡ length (level_above g old a) + 1
  cut-grown =
      ap (λ (x : ℕ). length (level_below g new (x - 1 - a) (root_level new))) s.parts.depth
      ∙ ap (λ (j : ℕ). length (level_below g new j (root_level new))) place-here
      ∙ level-grown g old new h.i a pp nn m qq h.c s sound.structure
      ∙ sym (ap (λ (j : ℕ). length (level_below g old j (root_level old)) + 1) place-here)

  -- ---- ways

  pub cut-way : (k : ℕ) → k < a → node_for g new key k ≡ node_for g old key k
  cut-way k lt =
      let at = place-below k lt in
      ap (λ (x : ℕ). leaf_under g new key (x - 1 - k) (header_in new).root) s.parts.depth
      ∙ ap (λ (j : ℕ). leaf_under g new key j (header_in new).root) at
      ∙ way-below g total old new h.i a pp nn m qq h.c s sound.structure sound.ordered key way some-low (a - 1) (a-up k lt) (a - 1 - k) (omega (arith, lt))
      ∙ sym (ap (λ (j : ℕ). leaf_under g old key j root) at)

  pub cut-records : (k : ℕ) → k < a → records_in new (node_for g old key k) ≡ records_in old (node_for g old key k)
  cut-records k lt =
      let at = place-below k lt in
      let P : ℕ → Type 0 = λ j. records_in new (leaf_under g old key j root) ≡ records_in old (leaf_under g old key j root) in
      subst P (sym at) (records-below g total old new h.i a pp nn m qq h.c s sound.structure sound.ordered key way some-low (a - 1) (a-up k lt) (a - 1 - k) (omega (arith, lt)))

  pub cut-room : HasRoom new len (node_for g new key a)
  cut-room =
      let at = ap (λ (x : ℕ). leaf_under g new key (x - 1 - a) (header_in new).root) s.parts.depth ∙ ap (λ (j : ℕ). leaf_under g new key j (header_in new).root) place-here in
      let P : ℕ → Type 0 = λ x. HasRoom new len x in
      subst P (sym at) (half-room g total old new h.i a pp nn m qq h.c s sound.structure sound.ordered key way some-low len h.room)

  -- ---- keys on the way

  low-upper : (j : ℕ) → j < h.i → 0 < prefix_len (is_not_above g key) (records_in new (leaf_under g new key j (header_in new).root))
  low-upper j lt =
      let d = height in
      let P : ℕ → Type 0 = λ x. 0 < prefix_len (is_not_above g key) (records_in new x) in
      let Q : List (List ℕ) → Type 0 = λ xs. 0 < prefix_len (is_not_above g key) xs in
      subst P (sym (way-above g total old new h.i a pp nn m qq h.c s sound.structure sound.ordered key way some-low j (omega (arith, lt))))
      (subst Q (sym (records-uppers g total old new h.i a pp nn m qq h.c s sound.structure sound.ordered key way some-low j lt)) (low j (omega (arith, lt, d))))

  low-parent : 0 < prefix_len (is_not_above g key) (records_in new (leaf_under g new key h.i (header_in new).root))
  low-parent =
      let P : ℕ → Type 0 = λ x. 0 < prefix_len (is_not_above g key) (records_in new x) in
      subst P (sym (new-at g total old new h.i a pp nn m qq h.c s sound.structure sound.ordered key way some-low)) (low-above g total old new h.i a pp nn m qq h.c s sound.structure sound.ordered key way some-low)

  low-child : 0 < a → 0 < prefix_len (is_not_above g key) (records_in new (leaf_under g new key (lift h.i 1) (header_in new).root))
  low-child some =
      let d = height in
      let e = lift-is h.i 1 in
      let P : ℕ → Type 0 = λ x. 0 < prefix_len (is_not_above g key) (records_in new x) in
      let O : ℕ → Type 0 = λ x. 0 < prefix_len (is_not_above g key) (records_in old x) in
      let was = subst O (way-node g total old new h.i a pp nn m qq h.c s sound.structure sound.ordered key way some-low) (low (lift h.i 1) (omega (arith, d, e, some))) in
      let to = one-down g total old new h.i a pp nn m qq h.c s sound.structure sound.ordered key way some-low new (header_in new).root
      ∙ ap (λ (x : ℕ). child_for g key (records_in new x)) (new-at g total old new h.i a pp nn m qq h.c s sound.structure sound.ordered key way some-low) in
      subst P (sym to) (low-half g total old new h.i a pp nn m qq h.c s sound.structure sound.ordered key way some-low (a - 1) (a-up 0 some) was)

  low-lower : (t : ℕ) → t + 1 < a → 0 < prefix_len (is_not_above g key) (records_in new (leaf_under g new key (lift h.i (suc (suc t))) (header_in new).root))
  low-lower t lt =
      let d = height in
      let e = lift-is h.i (suc (suc t)) in
      let some : 0 < a = omega (arith, lt) in
      let P : ℕ → Type 0 = λ x. 0 < prefix_len (is_not_above g key) (records_in new x) in
      let Q : List (List ℕ) → Type 0 = λ xs. 0 < prefix_len (is_not_above g key) xs in
      subst P (sym (way-below g total old new h.i a pp nn m qq h.c s sound.structure sound.ordered key way some-low (a - 1) (a-up 0 some) t (omega (arith, lt))))
      (subst Q (sym (records-below g total old new h.i a pp nn m qq h.c s sound.structure sound.ordered key way some-low (a - 1) (a-up 0 some) t (omega (arith, lt)))) (low (lift h.i (suc (suc t))) (omega (arith, d, e, lt))))

  pub cut-low : IsLow g new key
  cut-low j less =
      let d = height in
      let nd = s.parts.depth in
      let P : ℕ → Type 0 = λ i. 0 < prefix_len (is_not_above g key) (records_in new (leaf_under g new key i (header_in new).root)) in
      elim (cases_lt j h.i) [
        | inl lt ↦ low-upper j lt
        | inr ge ↦
            elim (cases_eq j h.i) [
              | inl is ↦ subst P (sym is) low-parent
              | inr ne ↦
                  elim (cases_eq j (lift h.i 1)) [
                    | inl is ↦ (let e = lift-is h.i 1 in subst P (sym is) (low-child (omega (arith, d, nd, less, is, e))))
                    | inr other ↦
                        (let e1 = lift-is h.i 1 in
                        let e = lift-is h.i (suc (suc (j - h.i - 2))) in
                        let more : h.i + 2 ≤ j = omega (arith, ge, ne, other, e1) in
                        let at : j ≡ lift h.i (suc (suc (j - h.i - 2))) = omega (arith, e, more) in
                        subst P (sym at) (low-lower (j - h.i - 2) (omega (arith, d, nd, less, more))))
                  ]
            ]
      ]

-- ---- with the claim

pub cut-whole : {K : Type 0} (g : Ghosts K) (total : IsTotalOrder g.compare) (key : K) (len a m : ℕ) (old mid new : Store) → IsSound g old → a + 1 < depth_of mid → HasClaimed g m old mid → IsLow g mid key
    → HasCutAt g key len mid new a (node_for g mid key (a + 1)) (prefix_len (is_not_above g key) (records_in mid (node_for g mid key (a + 1))) - 1) m → HasCutLevel g key len a old new
cut-whole g total key len a m old mid new sound deep c low h =
    let t = cut-taken g total key len a m mid new c.sound deep low h in
    let kept = claimed-levels g m old mid new c sound in
    let same = claimed-depth g m old mid new c in
    record {
      keeps = taken-keeps g m old mid new c t;
      others = stay-then g old mid new (claimed-stay g m old mid c) (split-stay g mid new h.i a _ _ m _ h.c h.split c.sound.structure);
      keys = keys-then g old mid new (claimed-keys g m old mid c) (split-keys g mid new h.i a _ _ m _ h.c h.split c.sound.structure);
      content = taken-content g m old mid new c t h.content;
      depth = h.split.parts.depth ∙ same;
      free = taken-free g m old mid new c t;
      levels = λ k lt ne. cut-levels g total key len a m mid new c.sound deep low h k (omega (arith, lt, same)) ne ∙ kept.levels k lt;
      grown = cut-grown g total key len a m mid new c.sound deep low h ∙ ap (λ (ns : List ℕ). length ns + 1) (kept.levels a (omega (arith, deep, same)));
      way = λ k lt. cut-way g total key len a m mid new c.sound deep low h k lt ∙ kept.way key k (omega (arith, lt, deep, same));
      records = λ k lt.
          ap (records_in new) (sym (kept.way key k (omega (arith, lt, deep, same))))
          ∙ cut-records g total key len a m mid new c.sound deep low h k lt
          ∙ ap (records_in mid) (kept.way key k (omega (arith, lt, deep, same)))
          ∙ kept.records key k (omega (arith, lt, deep, same));
      room = cut-room g total key len a m mid new c.sound deep low h;
      low = cut-low g total key len a m mid new c.sound deep low h;
    }

-- the node on the way is still low where a node was claimed
pub claimed-low : {K : Type 0} (g : Ghosts K) (key : K) (m : ℕ) (old mid : Store) → IsSound g old → HasClaimed g m old mid → IsLow g old key → IsLow g mid key
claimed-low g key m old mid sound c low j less =
    let keep = Rattle.hfs_btree_insertion.proofs.Taken.claimed-keep g m old mid mid c in
    let same = claimed-depth g m old mid mid c in
    let root = claimed-root g m old mid mid c in
    let P : ℕ → Type 0 = λ x. 0 < prefix_len (is_not_above g key) (records_in mid x) in
    let Q : List (List ℕ) → Type 0 = λ xs. 0 < prefix_len (is_not_above g key) xs in
    let at = ap (leaf_under g mid key j) root ∙ Rattle.hfs_btree_insertion.proofs.LevelWays.under-same g old mid sound.structure keep key j (omega (arith, less, same)) in
    subst P (sym at) (subst Q (sym (Rattle.hfs_btree_insertion.proofs.LevelWays.record-same g old mid sound.structure keep key j (omega (arith, less, same)))) (low j (omega (arith, less, same))))

-- ---- what the calls read

module _ {K : Type 0} (g : Ghosts K) (key : K) (a m : ℕ) (old mid : Store) (sound : IsSound g old) (c : HasClaimed g m old mid) (deep : a + 1 < depth_of old) (p q : ℕ) (bytes : List ℕ)
    (at : p ≡ node_for g mid key (a + 1)) (read : bytes ≡ get_or mid p []) where
  pub mid-deep : a + 1 < depth_of mid
  mid-deep = let same = claimed-depth g m old mid mid c in omega (arith, deep, same)

  pub parent-index : Rattle.hfs_fields.specs.Each.Each (λ e. g.is_index e ≡ Rattle.std.specs.Prelude.true) (Rattle.hfs_btree.specs.Tree.records_of (Rattle.hfs_btree.specs.Node.node_of bytes))
  parent-index =
      let P : ℕ → Type 0 = λ x. IsAt g mid key (a + 1) x in
      read-index g mid key (a + 1) p bytes (omega arith) (subst P (sym at) (at-level g mid key (a + 1) c.sound.structure mid-deep)) read

  module _ (place : q ≡ prefix_len (is_not_above g key) (Rattle.hfs_btree.specs.Tree.records_of (Rattle.hfs_btree.specs.Node.node_of bytes)) - 1) where
    place-is : q ≡ prefix_len (is_not_above g key) (records_in mid (node_for g mid key (a + 1))) - 1
    place-is = place ∙ ap (λ (es : List (List ℕ)). prefix_len (is_not_above g key) es - 1) (records-read mid p bytes read ∙ ap (records_in mid) at)

    as-read : (F : ℕ → ℕ → Type 0) → F (node_for g mid key (a + 1)) (prefix_len (is_not_above g key) (records_in mid (node_for g mid key (a + 1))) - 1) → F p q
    as-read F h =
        let X : ℕ → Type 0 = λ x. F x q in
        let Y : ℕ → Type 0 = λ y. F (node_for g mid key (a + 1)) y in
        subst X (sym at) (subst Y (sym place-is) h)

    pub as-found : (F : ℕ → ℕ → Type 0) → F p q → F (node_for g mid key (a + 1)) (prefix_len (is_not_above g key) (records_in mid (node_for g mid key (a + 1))) - 1)
    as-found F h =
        let X : ℕ → Type 0 = λ x. F x q in
        let Y : ℕ → Type 0 = λ y. F (node_for g mid key (a + 1)) y in
        subst Y place-is (subst X at h)

    pub branch-read : IsBranch g mid a p q
    branch-read = as-read (λ x y. IsBranch g mid a x y) (branch-at g mid key a c.sound mid-deep)

    pub over-read : 354 < size_of (records_in old (node_for g old key a)) → 354 < size_of (records_in mid (child_at g mid p q))
    over-read over =
        let kept = claimed-levels g m old mid mid c sound in
        let lt : a < depth_of old = omega (arith, deep) in
        let size = kept.size key a lt in
        let way = ap (λ (n : ℕ). size_of (records_in mid n)) (kept.way key a lt) in
        let child = ap (λ (n : ℕ). size_of (records_in mid n)) (child-is g mid key a c.sound mid-deep) in
        as-read (λ x y. 354 < size_of (records_in mid (child_at g mid x y))) (omega (arith, over, size, way, child))

    pub room-read : (len : ℕ) → size_of (records_in old (node_for g old key (a + 1))) + (len + 2) ≤ 496 → size_of (records_in mid p) + (len + 2) ≤ 496
    room-read len room =
        let kept = claimed-levels g m old mid mid c sound in
        let size = kept.size key (a + 1) deep in
        let way = ap (λ (n : ℕ). size_of (records_in mid n)) (kept.way key (a + 1) deep) in
        as-read (λ x y. size_of (records_in mid x) + (len + 2) ≤ 496) (omega (arith, room, size, way))

    pub cut-read : (len : ℕ) (new : Store) → IsTotalOrder g.compare → IsLow g old key → HasCutAt g key len mid new a p q m → HasCutLevel g key len a old new
    cut-read len new total low h =
        cut-whole g total key len a m old mid new sound mid-deep c (claimed-low g key m old mid sound c low) (as-found (λ x y. HasCutAt g key len mid new a x y m) h)
