-- An index node on the way to a key, all of whose keys were above it, and whose first key was lowered to it.
use Rattle.std.proofs.Common.{◌≡◌, ◌≢◌, ℕ, zero, suc, ◌+◌, ◌-◌, ◌<◌, ◌≤◌, true, false, List, [], ◌∷◌, ◌++◌, length, map, get_or, set, refl, sym, ap, ◌∙◌, subst, arith, inl, inr}
use Rattle.std.specs.Prelude.{Bool, not, Ok, Result}
use Rattle.std.specs.Ordering.{is_gt}
use Rattle.std.specs.Cmp.{IsTotalOrder}
use Rattle.std.specs.List.{flat_map, prefix_len}
use Rattle.std.specs.declared.cmp.Ordering.TheVariants.{Less}
use Rattle.std.proofs.lemmas.Bool.{cases_eq, cond-true, cond-false}
use Rattle.std.proofs.lemmas.List.{length-set}
use Rattle.std.proofs.Math.Seq.{map-set_same}
use Rattle.hfs_btree.specs.declared.node.Node.{Node}
use Rattle.hfs_btree.specs.declared.fault.NodeFault.{NodeFault}
use Rattle.hfs_btree.specs.Node.{size_of}
use Rattle.hfs_btree.proofs.SizeLemmas.{size_of-set}
use Rattle.hfs_btree.specs.declared.header.Header.{Header}
use Rattle.hfs_btree.specs.declared.key.Key.{Ghosts}
use Rattle.hfs_btree.specs.Pairs.{Order, Pairs, IsAtMost, IsAbove}
use Rattle.hfs_fields.specs.Each.{Each}
use Rattle.hfs_fields.proofs.ElementLemmas.{each-at, each-left, each-right, each-mono, each-both}
use Rattle.hfs_btree.proofs.LookupLemmas.{above-below, lt-le, flipped}
use Rattle.hfs_btree.specs.Tree.{Store, Spot, node_in, records_in, records_of, children, spots, first_of, turn, under, level_below, key_at}
use Rattle.hfs_btree.specs.Header.{header_in, record_in, depth_of, root_level, own_nodes, free_nodes, tree_turn, tree_nodes, tree_content}
use Rattle.hfs_btree.specs.Sound.{IsOther, IsRight, IsSound, IsExact, AreKeysInOrder, ArePartsInOrder, part_of}
use Rattle.hfs_btree.specs.Search.{is_not_above, child_for, leaf_under}
use Rattle.hfs_btree.proofs.DescentLemmas.{way-node, way-some, index-entries}
use Rattle.hfs_btree_edits.proofs.EditedLemmas.{IsEdited, height-in}
use Rattle.hfs_btree_edits.specs.Edits.{IsAboveFirst, KeepsTree, level_above, node_for}
use Rattle.hfs_btree_edits.specs.KeptKeys.{EachKey, IsKeyOr}
use Rattle.hfs_btree_edits.proofs.KeptKeyLemmas.{hold-keys_with}
use Rattle.hfs_fields.proofs.PartLemmas.{flat_map-same}
use Rattle.hfs_btree_edits.proofs.ReplacedLemmas.{each-set}
use Rattle.hfs_btree_insertion.specs.Lowering.{HasFirstKey}
use Rattle.hfs_btree_insertion.proofs.PartLists.{same-key}
use Rattle.hfs_btree_insertion.proofs.Contents.{have-pairs, turn-parts-right}
use Rattle.hfs_btree_insertion.proofs.WayTo.{IsAt}
use Rattle.hfs_btree_insertion.proofs.LevelWays.{tree-way}
use Rattle.hfs_btree_insertion.proofs.ExactWays.{exact-way}
use Rattle.hfs_btree_insertion.proofs.PutKeeps.{way-among}
use Rattle.hfs_btree_insertion.proofs.Rekeyed.{rekeyed-sound, rekeyed-content, rekeyed-turn, rekeyed-header, rekeyed-free, rekeyed-frame, rekeyed-height, sons-at}

-- ---- the records of an index node

module _ {K : Type 0} (cmp : Order K) (total : IsTotalOrder cmp) (key : K) (ikey : List ℕ → K) (own : List ℕ → Pairs K) where
  abbrev fits : List ℕ → Bool
  fits e = not (is_gt (cmp (ikey e) key))

  between : (low high : K) (ps : Pairs K) → 0 < length ps → cmp key low ≡ Less → IsAtMost cmp low ps → IsAbove cmp high ps → cmp key high ≡ Less
  between low high [] some lt most above = absurd (omega (arith, some))
  between low high (p ∷ ps) some lt most above = total.trans key p.0 high (lt-le cmp total key low p.0 lt most.0) above.0

  -- where a key is above, so is the next one
  none-behind : (e : List ℕ) (es : List (List ℕ)) → cmp key (ikey e) ≡ Less → 0 < length (own e) → IsAtMost cmp (ikey e) (own e) → ArePartsInOrder cmp (own e) (map (λ x. (ikey x, own x)) es) → prefix_len fits es ≡ 0
  none-behind e [] lt some most h = refl
  none-behind e (f ∷ es) lt some most h =
      cond-false (fits f) (1 + prefix_len fits es) 0 (ap not (ap is_gt (flipped cmp total key (ikey f) Less (between (ikey e) (ikey f) (own e) some lt most h.0))))

module _ {K : Type 0} (g : Ghosts K) (total : IsTotalOrder g.compare) (key : K) (below : ℕ → Pairs K) (made : List ℕ) (keyed : g.index_key made ≡ key) where
  abbrev own : List ℕ → Pairs K
  own e = below (g.child e)

  abbrev part : List ℕ → K × Pairs K
  part = part_of g below

  abbrev low : List ℕ → Bool
  low = is_not_above g key

  abbrev IsFirstAbove : List (List ℕ) → Type 0
  IsFirstAbove rs = is_gt (g.compare (g.index_key (get_or rs 0 [])) key) ≡ true

  pub parts-lowered : (rs : List (List ℕ)) → 0 < length rs → IsFirstAbove rs → g.child made ≡ g.child (get_or rs 0 []) → ArePartsInOrder g.compare [] (map part rs) → ArePartsInOrder g.compare [] (map part (set rs 0 made))
  parts-lowered [] some gt names h = absurd (omega (arith, some))
  parts-lowered (e ∷ es) some gt names h =
      let S : K × Pairs K → Type 0 = λ p. ArePartsInOrder g.compare [] (p ∷ map part es) in
      let named : part made ≡ (key, own e) = λ i. (keyed i, below (names i)) in
      let lt = above-below g.compare total (g.index_key e) key gt in
      subst S (sym named)
      (tt, each-mono (λ (p : K × List ℕ). is_gt (g.compare (g.index_key e) p.0) ≡ false) (λ (p : K × List ℕ). is_gt (g.compare key p.0) ≡ false) (own e) (λ p le. ap is_gt (lt-le g.compare total key (g.index_key e) p.0 lt le)) h.1, h.2)

  own-low : low made ≡ true
  own-low = ap (λ (x : K). not (is_gt (g.compare x key))) keyed ∙ ap not (same-key g.compare total key)

  pub none-low : (rs : List (List ℕ)) → 0 < length rs → IsFirstAbove rs → prefix_len low rs ≡ 0
  none-low [] some gt = absurd (omega (arith, some))
  none-low (e ∷ es) some gt = cond-false (low e) (1 + prefix_len low es) 0 (ap not gt)

  pub one-low : (rs : List (List ℕ)) → 0 < length rs → 0 < prefix_len low (set rs 0 made)
  one-low [] some = absurd (omega (arith, some))
  one-low (e ∷ es) some = let count : prefix_len low (made ∷ es) ≡ 1 + prefix_len low es = cond-true (low made) (1 + prefix_len low es) 0 own-low in omega (arith, count)

  pub child-lowered : (rs : List (List ℕ)) → 0 < length rs → IsFirstAbove rs → g.child made ≡ g.child (get_or rs 0 []) → Each (λ e. 0 < length (own e)) rs → ArePartsInOrder g.compare [] (map part rs)
      → child_for g key (set rs 0 made) ≡ child_for g key rs
  child-lowered [] some gt names have h = absurd (omega (arith, some))
  child-lowered (e ∷ es) some gt names have h =
      let lt = above-below g.compare total (g.index_key e) key gt in
      let none = none-low (e ∷ es) some gt in
      let rest : prefix_len low es ≡ 0 = none-behind g.compare total key g.index_key own e es lt have.0 h.1 h.2 in
      let count : prefix_len low (made ∷ es) ≡ 1 + prefix_len low es = cond-true (low made) (1 + prefix_len low es) 0 own-low in
      let at-new : prefix_len low (made ∷ es) - 1 ≡ 0 = omega (arith, count, rest) in
      let at-old : 0 ≡ prefix_len low (e ∷ es) - 1 = omega (arith, none) in
      ap (λ (j : ℕ). g.child (get_or (made ∷ es) j [])) at-new ∙ names ∙ ap (λ (j : ℕ). g.child (get_or (e ∷ es) j [])) at-old

-- the first key isn't above
pub first-low : {K : Type 0} (g : Ghosts K) (key : K) (rs : List (List ℕ)) → 0 < length rs → is_gt (g.compare (g.index_key (get_or rs 0 [])) key) ≡ false → 0 < prefix_len (is_not_above g key) rs
first-low g key [] some le = absurd (omega (arith, some))
first-low g key (e ∷ es) some le =
    let p = is_not_above g key in
    let count : prefix_len (is_not_above g key) (e ∷ es) ≡ 1 + prefix_len (is_not_above g key) es = cond-true (is_not_above g key e) (1 + prefix_len (is_not_above g key) es) 0 (ap not le) in
    omega (arith, count)

-- ---- the node in its tree

module _ {K : Type 0} (g : Ghosts K) (total : IsTotalOrder g.compare) (old new : Store) (key : K) (n k : ℕ) (sound : IsSound g old) (at : IsAt g old key (suc k) n)
    (gt : is_gt (g.compare (g.index_key (record_in old n 0)) key) ≡ true) (h : HasFirstKey g n key old new) (index_len : (e : List ℕ) → g.is_index e ≡ true → length e ≡ g.INDEX_KEY_LEN + 5) where
  abbrev v : Node
  v = h.node

  abbrev rs : List (List ℕ)
  rs = set h.node.records 0 h.made

  edit : IsEdited old new n v rs
  edit = record { was = h.was; is = h.stored.here; others = h.stored.rest; len = h.stored.len }

  spot : (l : ℕ) × IsRight g old (record { left = l; n = n; right = first_of at.way.behind; above = suc k })
  spot = way-node g old (suc k) n at.way

  same : records_in old n ≡ v.records
  same = ap records_of h.was

  some-old : 0 < length v.records
  some-old = let P : List (List ℕ) → Type 0 = λ xs. 0 < length xs in subst P same (way-some g old (suc k) n at.way)

  first-above : is_gt (g.compare (g.index_key (get_or v.records 0 [])) key) ≡ true
  first-above = let P : List (List ℕ) → Type 0 = λ xs. is_gt (g.compare (g.index_key (get_or xs 0 [])) key) ≡ true in subst P same gt

  whole-old : Each (λ e. g.is_index e ≡ true) v.records
  whole-old = let P : List (List ℕ) → Type 0 = λ xs. Each (λ e. g.is_index e ≡ true) xs in subst P same (index-entries g old (suc k) n (omega arith) at.way)

  whole : Each (λ e. g.is_index e ≡ true) rs
  whole = each-set (λ e. g.is_index e ≡ true) v.records 0 h.made whole-old h.index

  some : 1 ≤ length rs
  some = let has = some-old in omega (arith, length-set v.records 0 h.made, has)

  sons : map g.child rs ≡ map g.child v.records
  sons = map-set_same g.child v.records 0 h.made [] h.names

  -- its keys in order, and the pairs under its children

  abbrev IsKeyed : ℕ → Type 0
  IsKeyed x = (w : Node) → node_in old x ≡ Ok w → w.height ≡ suc k + 1 → AreKeysInOrder g old (suc k) x

  keyed-at : (x : Spot) → IsRight g old x × AreKeysInOrder g old x.above x.n → IsKeyed x.n
  keyed-at x f w is height =
      let P : ℕ → Type 0 = λ a. AreKeysInOrder g old a x.n in
      let value : f.0.value.height ≡ w.height = ap height-in (sym f.0.decodes ∙ is) in
      let its = f.0.height in
      let up : x.above ≡ suc k = omega (arith, value, its, height) in
      subst P up f.1

  abbrev place : ℕ
  place = depth_of old - 1 - suc k

  place-less : place < depth_of old
  place-less = let lt = at.within in omega (arith, lt)

  is-keyed : IsKeyed n
  is-keyed =
      subst IsKeyed (sym at.is)
      (tree-way g old key IsKeyed place sound.structure place-less
      (each-mono (λ (x : Spot). IsRight g old x × AreKeysInOrder g old x.above x.n) (λ (x : Spot). IsKeyed x.n) (tree_turn g old) keyed-at
      (each-both (IsRight g old) (λ (x : Spot). AreKeysInOrder g old x.above x.n) (tree_turn g old) sound.structure.levels.each sound.ordered.keys)))

  parts : ArePartsInOrder g.compare [] (map (part_of g (under g old k)) v.records)
  parts =
      let P : List (List ℕ) → Type 0 = λ xs. ArePartsInOrder g.compare [] (map (part_of g (under g old k)) xs) in
      subst P same (is-keyed spot.1.value spot.1.decodes spot.1.height)

  have : Each (λ e. 0 < length (under g old k (g.child e))) v.records
  have =
      let L = at.way.before ++ n ∷ at.way.behind in
      let P : List (List ℕ) → Type 0 = λ xs. Each (λ e. 0 < length (under g old k (g.child e))) xs in
      let lower = each-right (IsRight g old) (spots (suc k) 0 L) (turn g old (suc k) (flat_map (children g old) L)) at.way.right in
      subst P same (have-pairs g old (suc k) (records_in old n) (turn-parts-right g old (suc k) at.way.before n at.way.behind lower))

  ordered : ArePartsInOrder g.compare [] (map (part_of g (under g old k)) rs)
  ordered = parts-lowered g total key (under g old k) h.made h.keyed v.records some-old first-above h.names parts

  -- ---- what stays

  pub lowered-sound : IsSound g new
  lowered-sound = rekeyed-sound g total old new sound n v k rs edit spot.0 (first_of at.way.behind) spot.1 some whole sons ordered

  pub lowered-content : tree_content g new ≡ tree_content g old
  lowered-content = rekeyed-content g total old new sound n v k rs edit spot.0 (first_of at.way.behind) spot.1 some whole sons ordered

  pub lowered-turn : tree_turn g new ≡ tree_turn g old
  lowered-turn = rekeyed-turn g total old new sound n v k rs edit spot.0 (first_of at.way.behind) spot.1 some whole sons ordered

  pub lowered-header : header_in new ≡ header_in old
  lowered-header = rekeyed-header g total old new sound n v k rs edit spot.0 (first_of at.way.behind) spot.1 some whole sons ordered

  lowered-free : free_nodes new ≡ free_nodes old
  lowered-free = rekeyed-free g total old new sound n v k rs edit spot.0 (first_of at.way.behind) spot.1 some whole sons ordered

  -- an exact tree has no such node
  none-exact : IsAboveFirst g.compare key (tree_content g old) → IsExact g old → IsExact g new
  none-exact above exact =
      let lt = at.within in
      let d = depth_of old - 1 in
      let deep : depth_of old ≡ suc (depth_of old - 1) = omega (arith, lt) in
      let way = exact-way g total old (depth_of old - 1) deep sound key exact above in
      let P : ℕ → Type 0 = λ x. 0 < prefix_len (is_not_above g key) (records_in old x) in
      let some-low = subst P (sym at.is) (way.low place (omega (arith, lt))) in
      let none = ap (prefix_len (is_not_above g key)) same ∙ none-low g total key (under g old k) h.made h.keyed v.records some-old first-above in
      absurd (omega (arith, some-low, none))

  pub lowered-keeps : IsAboveFirst g.compare key (tree_content g old) → KeepsTree g old new
  lowered-keeps above =
      let turned = ap (λ (ss : List Spot). length (map (λ (x : Spot). x.n) ss)) lowered-turn in
      let free = lowered-free in
      record {
        sound = lowered-sound;
        exact = none-exact above;
        frame = rekeyed-frame g total old new sound n v k rs edit spot.0 (first_of at.way.behind) spot.1 some whole sons ordered;
        free = omega (arith, turned, free);
        rest = λ m other.
            (let tree = each-left (IsOther m) (tree_nodes g old) (tree_nodes g new) (each-right (IsOther m) (own_nodes old) (tree_nodes g old ++ tree_nodes g new) other) in
            let P : ℕ → Type 0 = λ x. x ≢ m in
            let ne = subst P (sym at.is) (way-among g old key place m sound.structure place-less tree) in
            h.stored.bytes m (λ e. ne (sym e)));
      }

  -- ---- all keys

  keys-at : (P : K → Type 0) → P key → (x : Spot) → IsRight g old x → Each (λ e. P (key_at g x.above e)) (records_in old x.n) → Each (λ e. P (key_at g x.above e)) (records_in new x.n)
  keys-at P own x is was =
      let S : List (List ℕ) → Type 0 = λ xs. Each (λ e. P (key_at g x.above e)) xs in
      let A : ℕ → Type 0 = λ a. P (key_at g a h.made) in
      elim (cases_eq x.n n) [
        | inl e ↦
            (let value : is.value.height ≡ v.height = ap height-in (sym is.decodes ∙ ap (node_in old) e ∙ h.was) in
            let its = is.height in
            let deep = rekeyed-height g total old new sound n v k rs edit spot.0 (first_of at.way.behind) spot.1 some whole sons ordered in
            let up : x.above ≡ suc k = omega (arith, value, its, deep) in
            subst S (sym (ap (records_in new) e ∙ ap records_of h.stored.here))
            (each-set (λ e'. P (key_at g x.above e')) v.records 0 h.made (subst S (ap (records_in old) e ∙ same) was) (subst A (sym up) (subst P (sym h.keyed) own))))
        | inr d ↦ subst S (sym (ap records_of (h.stored.rest x.n d))) was
      ]

  keys-hold : (P : K → Type 0) → EachKey g P old → P key → EachKey g P new
  keys-hold P was own =
      let Q : List Spot → Type 0 = λ ss. Each (λ (x : Spot). Each (λ e. P (key_at g x.above e)) (records_in new x.n)) ss in
      let R : Spot → Type 0 = λ x. Each (λ e. P (key_at g x.above e)) (records_in old x.n) in
      subst Q (sym lowered-turn)
      (each-mono (λ (x : Spot). IsRight g old x × R x) (λ (x : Spot). Each (λ e. P (key_at g x.above e)) (records_in new x.n)) (tree_turn g old)
      (λ x f. keys-at P own x f.0 f.1) (each-both (IsRight g old) R (tree_turn g old) sound.structure.levels.each was))

  pub lowered-keys : EachKey g (IsKeyOr g old key) new
  lowered-keys = hold-keys_with g old new key keys-hold

  -- ---- levels, ways, sizes

  same-sons : (m : ℕ) → children g new m ≡ children g old m
  same-sons = sons-at g total old new sound n v k rs edit spot.0 (first_of at.way.behind) spot.1 some whole sons ordered

  sons-each : (ns : List ℕ) → Each (λ m. children g new m ≡ children g old m) ns
  sons-each [] = tt
  sons-each (m ∷ ns) = (same-sons m, sons-each ns)

  level-by : (i : ℕ) (ns : List ℕ) → level_below g new i ns ≡ level_below g old i ns
  level-by zero ns = refl
  level-by (suc i) ns = ap (level_below g new i) (flat_map-same (children g new) (children g old) ns (sons-each ns)) ∙ level-by i (flat_map (children g old) ns)

  pub lowered-levels : (j : ℕ) → level_above g new j ≡ level_above g old j
  lowered-levels j = ap (λ (x : Header). level_below g new (x.depth - 1 - j) (x.root ∷ [])) lowered-header ∙ level-by (depth_of old - 1 - j) (root_level old)

  same-child : (m : ℕ) → child_for g key (records_in new m) ≡ child_for g key (records_in old m)
  same-child m =
      elim (cases_eq m n) [
        | inl e ↦
            ap (λ (x : ℕ). child_for g key (records_in new x)) e
            ∙ ap (λ r. child_for g key (records_of r)) h.stored.here
            ∙ child-lowered g total key (under g old k) h.made h.keyed v.records some-old first-above h.names have parts
            ∙ ap (child_for g key) (sym same)
            ∙ sym (ap (λ (x : ℕ). child_for g key (records_in old x)) e)
        | inr d ↦ ap (λ r. child_for g key (records_of r)) (h.stored.rest m d)
      ]

  way-by : (j r : ℕ) → leaf_under g new key j r ≡ leaf_under g old key j r
  way-by zero r = refl
  way-by (suc j) r = ap (leaf_under g new key j) (same-child r) ∙ way-by j (child_for g key (records_in old r))

  pub lowered-way : (j : ℕ) → node_for g new key j ≡ node_for g old key j
  lowered-way j = ap (λ (x : Header). leaf_under g new key (x.depth - 1 - j) x.root) lowered-header ∙ way-by (depth_of old - 1 - j) (header_in old).root

  pub lowered-size : (m : ℕ) → size_of (records_in new m) ≡ size_of (records_in old m)
  lowered-size m =
      elim (cases_eq m n) [
        | inl e ↦
            (let size = size_of-set v.records 0 h.made some-old in
            let was = index_len (get_or v.records 0 []) (each-at (λ e'. g.is_index e' ≡ true) v.records 0 [] whole-old some-old) in
            let is = index_len h.made h.index in
            let here : size_of rs ≡ size_of v.records = omega (arith, size, was, is) in
            ap (λ (x : ℕ). size_of (records_in new x)) e ∙ ap (λ r. size_of (records_of r)) h.stored.here ∙ here ∙ ap size_of (sym same) ∙ sym (ap (λ (x : ℕ). size_of (records_in old x)) e))
        | inr d ↦ ap (λ r. size_of (records_of r)) (h.stored.rest m d)
      ]

  -- ---- keys that aren't above

  pub lowered-here : 0 < prefix_len (is_not_above g key) (records_in new n)
  lowered-here =
      let P : Result Node NodeFault → Type 0 = λ r. 0 < prefix_len (is_not_above g key) (records_of r) in
      subst P (sym h.stored.here) (one-low g total key (under g old k) h.made h.keyed v.records some-old)

  pub lowered-there : (m : ℕ) → 0 < prefix_len (is_not_above g key) (records_in old m) → 0 < prefix_len (is_not_above g key) (records_in new m)
  lowered-there m was =
      let P : ℕ → Type 0 = λ x. 0 < prefix_len (is_not_above g key) (records_in new x) in
      let Q : Result Node NodeFault → Type 0 = λ r. 0 < prefix_len (is_not_above g key) (records_of r) in
      elim (cases_eq m n) [
        | inl e ↦ subst P (sym e) lowered-here
        | inr d ↦ subst Q (sym (h.stored.rest m d)) was
      ]
