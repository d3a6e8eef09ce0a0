-- A leaf that begins with a new record, behind all others of the leaf where the search for its key ended.
use Rattle.hfs_btree_insertion.specs.Cut.{IsParted}
use Rattle.hfs_btree_edits.specs.LevelParts.{lift}
use Rattle.std.proofs.Common.{◌≡◌, ℕ, zero, suc, ◌+◌, ◌-◌, ◌<◌, List, [], ◌∷◌, ◌++◌, length, map, get_or, take, drop, refl, sym, ap, ◌∙◌, subst, arith, append_assoc, append-nil, None}
use Rattle.std.specs.Prelude.{Bool, not}
use Rattle.std.specs.Ordering.{is_gt}
use Rattle.std.specs.Cmp.{IsTotalOrder}
use Rattle.std.specs.List.{flat_map, prefix_len}
use Rattle.std.proofs.lemmas.List.Concat.{flat_map-append}
use Rattle.std.proofs.lemmas.List.Folds.{flat_map-map}
use Rattle.hfs_btree.specs.declared.key.Key.{Ghosts}
use Rattle.hfs_btree.specs.Pairs.{Order, Pairs, Rises, IsAbove, lookup}
use Rattle.hfs_btree.proofs.PairLemmas.{IsBelow}
use Rattle.hfs_fields.specs.Each.{Each}
use Rattle.hfs_fields.proofs.ElementLemmas.{each-append, each-left, each-right, each-both}
use Rattle.hfs_btree.specs.Tree.{Store, Spot, records_in, children, pair_of, pairs, spots, first_of, turn, under, level_below, key_at}
use Rattle.hfs_btree.specs.Header.{header_in, depth_of, root_level, own_nodes, tree_turn, tree_content}
use Rattle.hfs_btree.specs.Search.{is_not_above, child_for, leaf_under, IsLowWay}
use Rattle.hfs_btree.specs.Sound.{IsOther, IsDistinct, IsRight, IsSound, IsExact, IsOrdered, HasStructure, HasCounts, HasHeader, HasMap, ArePartsInOrder, AreKeysInOrder, part_of, first_key}
use Rattle.hfs_btree.proofs.LevelLemmas.{map-split}
use Rattle.hfs_btree.proofs.PartLemmas.{beside-place, first-above, rest-count}
use Rattle.hfs_btree_edits.specs.Edits.{with_pair}
use Rattle.hfs_btree_edits.specs.KeptKeys.{EachKey}
use Rattle.hfs_btree_edits.proofs.ApartLemmas.{apart-at, map-insert}
use Rattle.hfs_btree_edits.proofs.DistinctLemmas.{distinct-left, distinct-right}
use Rattle.hfs_btree_edits.proofs.LevelPartLemmas.{upper, lift-is, numbers, of-spots, KeepsRecords, KeepsAt, KeepsUnder, same-flat, parts-kept, level-kept, children-kept, keys-kept}
use Rattle.hfs_btree_insertion.proofs.Contents.{Keyed, keyed-spots, keyed-of-spots, have-pairs, turn-parts-right, content-under, level-under}
use Rattle.hfs_btree_insertion.proofs.PartLists.{parts-front, same-key, equal-key}
use Rattle.hfs_btree_insertion.proofs.PairPut.{put-past, put-before, rises-put, length-put}
use Rattle.hfs_btree_insertion.proofs.Puts.{Fact, IsDone, leaves-keyed, below-facts, cut, index-done}
use Rattle.hfs_btree_insertion.proofs.CutKeys.{node-was, parted-hold}
use Rattle.hfs_btree_insertion.proofs.Parted.{es, bn, hn, above-level, old-level, new-level, uppers, lowers, old-below, old-turn, distinct, right-one, before-others, behind-others, left-others, records-above, records-first, records-second, keep, uppers-keep, hn-keep, children-above, new-turn, new-levels, new-ends, new-free, new-exact}

-- ---- index keys, where a part with one pair comes behind another

module _ {K : Type 0} (cmp : Order K) (total : IsTotalOrder cmp) (key : K) (body : List ℕ) (ikey : List ℕ → K) (own : List ℕ → Pairs K) where
  abbrev fits : List ℕ → Bool
  fits e = not (is_gt (cmp (ikey e) key))

  abbrev part : List ℕ → K × Pairs K
  part e = (ikey e, own e)

  none-behind : (q : ℕ) (es : List (List ℕ)) → prefix_len fits es ≡ suc q → prefix_len fits (drop (suc q) es) ≡ 0
  none-behind q [] z = absurd (omega (arith, z))
  none-behind zero (e ∷ es) z = let one = rest-count cmp total key ikey own e es zero z in omega (arith, one)
  none-behind (suc q) (e ∷ es) z = let one = rest-count cmp total key ikey own e es (suc q) z in none-behind q es (omega (arith, one))

  tail-one : (es : List (List ℕ)) (ps : Pairs K) → prefix_len fits es ≡ 0 → ArePartsInOrder cmp ps (map part es) → ArePartsInOrder cmp ((key, body) ∷ []) (map part es)
  tail-one [] ps z h = tt
  tail-one (e ∷ es) ps z h = ((first-above cmp total key ikey own e es z, tt), h.1, h.2)

  parts-added : (front : List (K × Pairs K)) (rest : List (List ℕ)) (first : K) (ps : Pairs K) → IsAbove cmp key ps → prefix_len fits rest ≡ 0 → ArePartsInOrder cmp [] (front ++ (first, ps) ∷ map part rest)
      → ArePartsInOrder cmp [] (front ++ (first, ps) ∷ (key, (key, body) ∷ []) ∷ map part rest)
  parts-added front rest first ps above z h =
      parts-front cmp [] front ((first, ps) ∷ map part rest) ((first, ps) ∷ (key, (key, body) ∷ []) ∷ map part rest) h
      (λ last t. (t.0, t.1, (above, (same-key cmp total key, tt), tail-one rest ps z t.2)))

-- ---- a number stands once in a list

split-same : (p : ℕ) (a b a' b' : List ℕ) → Each (IsOther p) a → Each (IsOther p) a' → a ++ p ∷ b ≡ a' ++ p ∷ b' → (a ≡ a') × (b ≡ b')
split-same p [] b [] b' o o' e = (refl, ap (λ (xs : List ℕ). drop 1 xs) e)
split-same p [] b (x ∷ a') b' o o' e = absurd (o'.0 (sym (ap first_of e)))
split-same p (x ∷ a) b [] b' o o' e = absurd (o.0 (ap first_of e))
split-same p (x ∷ a) b (y ∷ a') b' o o' e =
    let rest = split-same p a b a' b' o.1 o'.1 (ap (λ (xs : List ℕ). drop 1 xs) e) in
    (ap (λ (z : ℕ). z ∷ a) (ap first_of e) ∙ ap (λ (xs : List ℕ). y ∷ xs) rest.0, rest.1)

-- ---- the new leaf

module _ {K : Type 0} (g : Ghosts K) (total : IsTotalOrder g.compare) (old new : Store) (key : K) (body : List ℕ) (i p n m q : ℕ) (made : List ℕ)
    (s : IsParted g old new i 0 p n m q (records_in old n) (made ∷ [])) (structure : HasStructure g old) (ordered : IsOrdered g old)
    (keyed : g.index_key s.entry ≡ key) (pair : pair_of g made ≡ (key, body)) (low : prefix_len (is_not_above g key) (records_in old p) ≡ suc q)
    (way : leaf_under g old key i (header_in old).root ≡ p) (low-way : IsLowWay g old key i (header_in old).root) (above : IsAbove g.compare key (pairs g old n)) where
  abbrev rs : List (List ℕ)
  rs = records_in old n

  abbrev ws : List (List ℕ)
  ws = made ∷ []

  abbrev es' : List (List ℕ)
  es' = records_in old p

  abbrev bn' : List ℕ
  bn' = bn g old new i 0 p n m q rs ws s structure

  abbrev hn' : List ℕ
  hn' = hn g old new i 0 p n m q rs ws s structure

  abbrev ab : List ℕ
  ab = above-level g old new i 0 p n m q rs ws s structure

  abbrev lv : List ℕ
  lv = old-level g old new i 0 p n m q rs ws s structure

  abbrev nl : List ℕ
  nl = new-level g old new i 0 p n m q rs ws s structure

  abbrev up : List Spot
  up = uppers g old new i 0 p n m q rs ws s structure

  abbrev lw : List Spot
  lw = lowers g old new i 0 p n m q rs ws s structure

  abbrev put : Pairs K → Pairs K
  put ps = with_pair g.compare key body ps

  pairs-first : pairs g new n ≡ pairs g old n
  pairs-first = ap (map (pair_of g)) (records-first g old new i 0 p n m q rs ws s structure)

  pairs-second : pairs g new m ≡ (key, body) ∷ []
  pairs-second = ap (map (pair_of g)) (records-second g old new i 0 p n m q rs ws s structure) ∙ ap (λ (x : K × List ℕ). x ∷ []) pair

  bn-keep : Each (KeepsRecords g old new) bn'
  bn-keep = keep g old new i 0 p n m q rs ws s structure bn' (left-others g old new i 0 p n m q rs ws s structure)

  before-keep : Each (KeepsRecords g old new) s.cut.before
  before-keep = keep g old new i 0 p n m q rs ws s structure s.cut.before (before-others g old new i 0 p n m q rs ws s structure)

  behind-keep : Each (KeepsRecords g old new) s.cut.behind
  behind-keep = keep g old new i 0 p n m q rs ws s structure s.cut.behind (behind-others g old new i 0 p n m q rs ws s structure)

  bn-under : Each (KeepsUnder g old new 0) bn'
  bn-under = level-under g old new 0 bn' bn-keep tt

  hn-under : Each (KeepsUnder g old new 0) hn'
  hn-under = level-under g old new 0 hn' (hn-keep g old new i 0 p n m q rs ws s structure) tt

  front-under : Each (KeepsUnder g old new 0) (map g.child (take q es'))
  front-under = each-right (KeepsUnder g old new 0) (flat_map (children g old) s.cut.before) (map g.child (take q es')) bn-under

  rest-under : Each (KeepsUnder g old new 0) (map g.child (drop (suc q) es'))
  rest-under = each-left (KeepsUnder g old new 0) (map g.child (drop (suc q) es')) (flat_map (children g old) s.cut.behind) hn-under

  -- ---- the keys of the old node above

  keyed-all : Each (Keyed g old) (up ++ (spots 1 0 ab ++ (spots 0 0 lv ++ lw)))
  keyed-all = let P : List Spot → Type 0 = λ ss. Each (Keyed g old) ss in subst P (old-turn g old new i 0 p n m q rs ws s structure) ordered.keys

  above-keys : Each (AreKeysInOrder g old 1) ab
  above-keys = keyed-of-spots g old 1 0 ab (each-left (Keyed g old) (spots 1 0 ab) (spots 0 0 lv ++ lw) (each-right (Keyed g old) up (spots 1 0 ab ++ (spots 0 0 lv ++ lw)) keyed-all))

  p-keys : AreKeysInOrder g old 1 p
  p-keys = (each-right (AreKeysInOrder g old 1) s.cut.before (p ∷ s.cut.behind) above-keys).0

  abbrev own : List ℕ → Pairs K
  own e = under g old 0 (g.child e)

  some-pairs : Each (λ e. 0 < length (under g old 0 (g.child e))) es'
  some-pairs =
      let R : List ℕ → Type 0 = λ ns. Each (IsRight g old) (turn g old 1 ns) in
      have-pairs g old 1 es' (turn-parts-right g old 1 s.cut.before p s.cut.behind
      (subst R (sym (old-below g old new i 0 p n m q rs ws s structure)) (right-one g old new i 0 p n m q rs ws s structure)))

  place : prefix_len (is_not_above g key) es' - 1 ≡ q
  place = omega (arith, low)

  beside : IsAbove g.compare key (flat_map own (take q es')) × IsBelow g.compare key (flat_map own (drop (suc q) es'))
  beside =
      let P : ℕ → Type 0 = λ j. IsAbove g.compare key (flat_map own (take j es')) × IsBelow g.compare key (flat_map own (drop (suc j) es')) in
      subst P place (beside-place g.compare total key g.index_key own es' p-keys some-pairs)

  -- ---- the node above

  abbrev front : Pairs K
  front = flat_map (under g old 0) (map g.child (take q es'))

  abbrev rest : Pairs K
  rest = flat_map (under g old 0) (map g.child (drop (suc q) es'))

  spread : (xs : List (List ℕ)) → flat_map (under g old 0) (map g.child xs) ≡ flat_map own xs
  spread xs = flat_map-map (under g old 0) g.child xs

  old-under : under g old 1 p ≡ flat_map (under g old 0) (map g.child (take q es')) ++ (pairs g old n ++ flat_map (under g old 0) (map g.child (drop (suc q) es')))
  old-under =
      ap (flat_map (under g old 0)) (map-split g.child es' q [] s.cut.within ∙ ap (λ (x : ℕ). map g.child (take q es') ++ x ∷ map g.child (drop (suc q) es')) (sym s.cut.child))
      ∙ flat_map-append (under g old 0) (map g.child (take q es')) (n ∷ map g.child (drop (suc q) es'))

  put-last : with_pair g.compare key body (pairs g old n) ≡ pairs g old n ++ (key, body) ∷ []
  put-last = ap put (sym (append-nil (pairs g old n))) ∙ put-past g.compare total key body (pairs g old n) [] above

  p-under : under g new 1 p ≡ with_pair g.compare key body (under g old 1 p)
  p-under =
      let A : Pairs K → Type 0 = λ ps. IsAbove g.compare key ps in
      let B : Pairs K → Type 0 = λ ps. IsBelow g.compare key ps in
      let ns = map g.child (take q es') in
      let ks = map g.child (drop (suc q) es') in
      let one : Pairs K = (key, body) ∷ [] in
      ap (flat_map (under g new 0)) (children-above g old new i 0 p n m q rs ws s structure)
      ∙ flat_map-append (under g new 0) ns (n ∷ m ∷ ks)
      ∙ ap (λ (ps : Pairs K). ps ++ (pairs g new n ++ (pairs g new m ++ flat_map (under g new 0) ks))) (same-flat g old new 0 ns front-under)
      ∙ ap (λ (ps : Pairs K). front ++ (pairs g new n ++ (pairs g new m ++ ps))) (same-flat g old new 0 ks rest-under)
      ∙ ap (λ (ps : Pairs K). front ++ (ps ++ (pairs g new m ++ rest))) pairs-first
      ∙ ap (λ (ps : Pairs K). front ++ (pairs g old n ++ (ps ++ rest))) pairs-second
      ∙ ap (λ (ps : Pairs K). front ++ ps) (sym (append_assoc (pairs g old n) one rest))
      ∙ ap (λ (ps : Pairs K). front ++ (ps ++ rest)) (sym put-last)
      ∙ ap (λ (ps : Pairs K). front ++ ps) (sym (put-before g.compare total key body (pairs g old n) rest (subst B (sym (spread (drop (suc q) es'))) beside.1)))
      ∙ sym (put-past g.compare total key body front (pairs g old n ++ rest) (subst A (sym (spread (take q es'))) beside.0))
      ∙ ap put (sym old-under)

  abbrev front-parts : List (K × Pairs K)
  front-parts = map (part_of g (under g old 0)) (take q es')

  abbrev rest-parts : List (K × Pairs K)
  rest-parts = map (part_of g (under g old 0)) (drop (suc q) es')

  abbrev e-key : K
  e-key = g.index_key (get_or es' q [])

  old-parts : map (part_of g (under g old 0)) es' ≡ front-parts ++ (e-key, pairs g old n) ∷ rest-parts
  old-parts =
      map-split (part_of g (under g old 0)) es' q [] s.cut.within
      ∙ ap (λ (ps : Pairs K). front-parts ++ (e-key, ps) ∷ rest-parts) (ap (under g old 0) (sym s.cut.child))

  new-parts : map (part_of g (under g new 0)) (records_in new p) ≡ front-parts ++ (e-key, pairs g old n) ∷ (key, (key, body) ∷ []) ∷ rest-parts
  new-parts =
      ap (map (part_of g (under g new 0))) (records-above g old new i 0 p n m q rs ws s structure)
      ∙ map-insert (part_of g (under g new 0)) es' q s.entry [] s.cut.within
      ∙ ap (λ (ps : List (K × Pairs K)). ps ++ part_of g (under g new 0) (get_or es' q []) ∷ part_of g (under g new 0) s.entry ∷ map (part_of g (under g new 0)) (drop (suc q) es'))
      (parts-kept g old new 0 (take q es') front-under)
      ∙ ap (λ (ps : List (K × Pairs K)). front-parts ++ part_of g (under g new 0) (get_or es' q []) ∷ part_of g (under g new 0) s.entry ∷ ps) (parts-kept g old new 0 (drop (suc q) es') rest-under)
      ∙ ap (λ (ps : Pairs K). front-parts ++ (e-key, ps) ∷ part_of g (under g new 0) s.entry ∷ rest-parts) (ap (under g new 0) (sym s.cut.child) ∙ pairs-first)
      ∙ ap (λ (ps : Pairs K). front-parts ++ (e-key, pairs g old n) ∷ (g.index_key s.entry, ps) ∷ rest-parts) (ap (under g new 0) s.names ∙ pairs-second)
      ∙ ap (λ (x : K). front-parts ++ (e-key, pairs g old n) ∷ (x, (key, body) ∷ []) ∷ rest-parts) keyed

  p-keyed : AreKeysInOrder g new 1 p
  p-keyed =
      let P : List (K × Pairs K) → Type 0 = λ ps. ArePartsInOrder g.compare [] ps in
      subst P (sym new-parts)
      (parts-added g.compare total key body g.index_key own front-parts (drop (suc q) es') e-key (pairs g old n) above
      (none-behind g.compare total key body g.index_key own q es' low) (subst P old-parts p-keys))

  -- ---- the level above the leaves

  before-parts : Each (λ y. Each (KeepsUnder g old new 0) (children g old y)) s.cut.before
  before-parts = children-kept g old new 0 s.cut.before (each-left (KeepsUnder g old new 0) (flat_map (children g old) s.cut.before) (map g.child (take q es')) bn-under)

  behind-parts : Each (λ y. Each (KeepsUnder g old new 0) (children g old y)) s.cut.behind
  behind-parts = children-kept g old new 0 s.cut.behind (each-right (KeepsUnder g old new 0) (map g.child (drop (suc q) es')) (flat_map (children g old) s.cut.behind) hn-under)

  beside-keyed : (xs : List ℕ) → Each (KeepsRecords g old new) xs → Each (λ y. Each (KeepsUnder g old new 0) (children g old y)) xs → Each (AreKeysInOrder g old 1) xs → Each (AreKeysInOrder g new 1) xs
  beside-keyed [] kept parts keys = tt
  beside-keyed (x ∷ xs) kept parts keys = (keys-kept g old new 0 x kept.0 parts.0 keys.0, beside-keyed xs kept.1 parts.1 keys.1)

  parent-done : IsDone g total old new key body 1 p s.cut.before s.cut.behind
  parent-done =
      let below = flat_map (children g old) ab in
      record {
        at = p-under;
        left = level-kept g old new 0 s.cut.before before-keep before-parts;
        right = level-kept g old new 0 s.cut.behind behind-keep behind-parts;
        keyed = each-append (Keyed g new) (spots 1 0 ab) (turn g old 1 (flat_map (children g old) ab))
            (keyed-spots g new 1 0 ab (each-append (AreKeysInOrder g new 1) s.cut.before (p ∷ s.cut.behind)
            (beside-keyed s.cut.before before-keep before-parts (each-left (AreKeysInOrder g old 1) s.cut.before (p ∷ s.cut.behind) above-keys))
            (p-keyed, beside-keyed s.cut.behind behind-keep behind-parts (each-right (AreKeysInOrder g old 1) s.cut.before (p ∷ s.cut.behind) above-keys).1)))
            (each-append (Keyed g new) (spots 0 0 (flat_map (children g old) ab)) [] (keyed-spots g new 0 0 (flat_map (children g old) ab) (leaves-keyed g total old new key body (flat_map (children g old) ab))) tt);
      }

  -- ---- the levels above that

  above-distinct : IsDistinct ab
  above-distinct =
      distinct-left ab (lv ++ numbers lw)
      (distinct-right (numbers up) (ab ++ (lv ++ numbers lw)) (distinct-right (own_nodes old) (numbers up ++ (ab ++ (lv ++ numbers lw))) (distinct g old new i 0 p n m q rs ws s structure)))

  up-done : (j x : ℕ) (before behind : List ℕ) → leaf_under g old key j x ≡ p → IsLowWay g old key j x → Each (Fact g old) (turn g old (suc (suc j)) (before ++ x ∷ behind))
      → Each (KeepsAt g old new) (upper g old j 1 (before ++ x ∷ behind)) → level_below g old j (before ++ x ∷ behind) ≡ ab → IsDone g total old new key body (suc j) x before behind
  up-done zero x before behind ends low' fine kept level =
      let B : ℕ → Type 0 = λ y. before ++ y ∷ behind ≡ ab in
      let D : List ℕ → Type 0 = λ xs. IsDistinct xs in
      let at = subst B ends level in
      let same = split-same p before behind s.cut.before s.cut.behind (apart-at before behind p (subst D (sym at) above-distinct)).0 (apart-at s.cut.before s.cut.behind p above-distinct).0 at in
      let P : List ℕ → Type 0 = λ xs. IsDone g total old new key body 1 p xs s.cut.behind in
      let Q : List ℕ → Type 0 = λ xs. IsDone g total old new key body 1 p before xs in
      let R : ℕ → Type 0 = λ y. IsDone g total old new key body 1 y before behind in
      subst R (sym ends) (subst Q (sym same.1) (subst P (sym same.0) parent-done))
  up-done (suc j) x before behind ends low' fine kept level =
      let ns = before ++ x ∷ behind in
      let here = spots (suc (lift j 1)) 0 (before ++ x ∷ behind) in
      let higher = upper g old j 1 (flat_map (children g old) (before ++ x ∷ behind)) in
      let split = cut g total old new key body (suc j) x before behind low'.0 fine in
      let F : List ℕ → Type 0 = λ ms. Each (Fact g old) (turn g old (suc (suc j)) ms) in
      let U : List ℕ → Type 0 = λ ms. Each (KeepsAt g old new) (upper g old j 1 ms) in
      let L : List ℕ → Type 0 = λ ms. level_below g old j ms ≡ ab in
      let level-keep = of-spots (KeepsRecords g old new) (suc (lift j 1)) 0 (before ++ x ∷ behind) (each-left (KeepsAt g old new) here higher kept) in
      index-done g total old new key body (suc j) x before behind low'.0 fine level-keep
      (up-done j (child_for g key (records_in old x)) _ _ ends low'.1 (subst F split (below-facts g total old new key body (suc j) x before behind low'.0 fine))
      (subst U split (each-right (KeepsAt g old new) here higher kept)) (subst L split level))

  -- ---- the whole tree

  deep : depth_of old ≡ suc (suc i)
  deep = let d = s.cut.deep in let e = lift-is i 1 in omega (arith, d, e)

  abbrev root : ℕ
  root = (header_in old).root

  root-done : IsDone g total old new key body (suc i) root [] []
  root-done =
      let T : ℕ → Type 0 = λ d. Each (Fact g old) (turn g old d (root_level old)) in
      let facts : Each (Fact g old) (tree_turn g old) = each-both (IsRight g old) (λ x. AreKeysInOrder g old x.above x.n) (tree_turn g old) structure.levels.each ordered.keys in
      up-done i root [] [] way low-way (subst T deep facts) (uppers-keep g old new i 0 p n m q rs ws s structure) s.cut.level

  pub begun-content : tree_content g new ≡ with_pair g.compare key body (tree_content g old)
  begun-content =
      content-under g new (suc i) (s.depth ∙ deep)
      ∙ ap (λ (r : ℕ). flat_map (under g new (suc i)) (r ∷ [])) s.root
      ∙ append-nil (under g new (suc i) root)
      ∙ root-done.at
      ∙ ap put (sym (content-under g old (suc i) deep ∙ append-nil (under g old (suc i) root)))

  begun-keys : Each (Keyed g new) (tree_turn g new)
  begun-keys =
      let T : ℕ → Type 0 = λ d. Each (Keyed g new) (turn g old d (root_level old)) in
      let P : List Spot → Type 0 = λ ss. Each (Keyed g new) ss in
      let all = subst P (old-turn g old new i 0 p n m q rs ws s structure) (subst T (sym deep) root-done.keyed) in
      let two = each-right (Keyed g new) up (spots 1 0 ab ++ (spots 0 0 lv ++ lw)) all in
      let one = each-right (Keyed g new) (spots 1 0 ab) (spots 0 0 lv ++ lw) two in
      subst P (sym (new-turn g old new i 0 p n m q rs ws s structure))
      (each-append (Keyed g new) up (spots 1 0 ab ++ (spots 0 0 nl ++ lw)) (each-left (Keyed g new) up (spots 1 0 ab ++ (spots 0 0 lv ++ lw)) all)
      (each-append (Keyed g new) (spots 1 0 ab) (spots 0 0 nl ++ lw) (each-left (Keyed g new) (spots 1 0 ab) (spots 0 0 lv ++ lw) two)
      (each-append (Keyed g new) (spots 0 0 nl) lw (keyed-spots g new 0 0 nl (leaves-keyed g total old new key body nl)) (each-right (Keyed g new) (spots 0 0 lv) lw one))))

  pub begun-sound : lookup g.compare key (tree_content g old) ≡ None → HasCounts g old → (header_in new).records ≡ (header_in old).records + 1 → HasHeader g new → HasMap new → IsSound g new
  begun-sound absent counts counted header map' =
      let P : Pairs K → Type 0 = λ ps. Rises g.compare ps in
      record {
        structure = record { header = header; map = map'; levels = new-levels g old new i 0 p n m q rs ws s structure; ends = new-ends g old new i 0 p n m q rs ws s structure };
        counts = record {
          records = counted ∙ ap (λ (x : ℕ). x + 1) counts.records ∙ sym (ap (λ (ps : Pairs K). length ps) begun-content ∙ length-put g.compare total key body (tree_content g old));
          free = s.free ∙ counts.free ∙ sym (new-free g old new i 0 p n m q rs ws s structure);
        };
        ordered = record { rises = subst P (sym begun-content) (rises-put g.compare total key body (tree_content g old) ordered.rises absent); keys = begun-keys };
      }

  pub begun-exact : IsExact g old → IsExact g new
  begun-exact exact =
      let first : first_key g new 0 (g.child s.entry) ≡ key =
      (ap (first_key g new 0) s.names
      ∙ ap (λ (xs : List (List ℕ)). g.leaf_key (get_or xs 0 [])) (records-second g old new i 0 p n m q rs ws s structure)
      ∙ ap (λ (x : K × List ℕ). x.0) pair) in
      let entry = ap (g.compare (g.index_key s.entry)) first ∙ ap (λ (x : K). g.compare x key) keyed ∙ equal-key g.compare total key in
      new-exact g old new i 0 p n m q rs ws s structure refl exact entry tt tt

  pub begun-hold : (P : K → Type 0) → EachKey g P old → P key → EachKey g P new
  begun-hold P was here =
      let Q : List (List ℕ) → Type 0 = λ xs. Each (λ e. P (key_at g 0 e)) xs in
      parted-hold g old new i 0 p n m q rs ws s structure P was (subst P (sym keyed) here)
      (subst Q (sym (records-first g old new i 0 p n m q rs ws s structure)) (node-was g old new i 0 p n m q rs ws s structure P was))
      (subst Q (sym (records-second g old new i 0 p n m q rs ws s structure)) (subst P (sym (ap (λ (x : K × List ℕ). x.0) pair)) here, tt))
