-- The order and the content of a tree from which nodes with one record each have left.
use Rattle.std.proofs.Common.{◌≡◌, ℕ, zero, suc, ◌+◌, ◌<◌, List, [], ◌∷◌, ◌++◌, length, map, get_or, take, drop, refl, sym, ap, ◌∙◌, subst, arith, length-append}
use Rattle.std.specs.Prelude.{remove}
use Rattle.std.specs.List.{flat_map}
use Rattle.std.specs.Cmp.{IsTotalOrder}
use Rattle.std.specs.declared.cmp.Ordering.TheVariants.{Equal}
use Rattle.std.proofs.lemmas.List.Concat.{flat_map-append}
use Rattle.hfs_btree.specs.declared.key.Key.{Ghosts}
use Rattle.hfs_btree_edits.specs.Edits.{without_pair}
use Rattle.hfs_btree.specs.Pairs.{Order, Pairs, Rises}
use Rattle.hfs_fields.specs.Each.{Each}
use Rattle.hfs_fields.proofs.ElementLemmas.{each-append, each-left, each-right, each-mono}
use Rattle.hfs_btree.specs.Tree.{Store, Spot, node_in, records_in, records_of, children, pair_of, pairs, spots, first_of, last_of, turn, under, level_below, last_level}
use Rattle.hfs_btree.specs.Header.{header_in, root_level, leaves, tree_content, tree_turn}
use Rattle.hfs_btree.specs.Sound.{IsSound, IsRight, AreKeysInOrder, ArePartsInOrder, part_of}
use Rattle.hfs_btree.proofs.LevelLemmas.{each-spots, map-split, under-some}
use Rattle.hfs_fields.proofs.PartLemmas.{flat_map-same}
use Rattle.hfs_btree.proofs.DescentLemmas.{next-split}
use Rattle.hfs_btree_edits.proofs.EditedPairLemmas.{rises-before, rises-without, above-equal, without-at}
use Rattle.hfs_btree_edits.proofs.EditedOrderLemmas.{each-flat, Bounded, Keyed, Keyed', join, keys-level}
use Rattle.hfs_btree_edits.proofs.BoundLemmas.{KeepsBounds, bounds-same}
use Rattle.hfs_btree_edits.specs.LevelParts.{lift}
use Rattle.hfs_btree_edits.proofs.LevelPartLemmas.{upper, at-spots, KeepsAt, KeepsRecords, KeepsUnder, parts-kept, under-kept, children-kept, level-kept, turn-keyed}
use Rattle.hfs_btree_removal.proofs.PartsLess.{map-remove, parts-drop}
use Rattle.hfs_btree_removal.proofs.Chains.{Cut, with_node, without_node, fronts, backs, only_child, IsChain, cuts, bottom, level-with, KeepsBeside, level-without, turn-fronts, turn-backs}
use Rattle.hfs_btree_edits.proofs.HeadedLemmas.{free-is}
use Rattle.hfs_btree_removal.proofs.Detached.{IsDetached, es, c, bc, hc, cs, uppers, above-level, place, old-turn, new-turn, new-below, beside, uppers-keep, right-cuts, new-es, same-root, structure-is}
use Rattle.hfs_btree_removal.proofs.KeysKept.{spots-of}
use Rattle.hfs_fields.proofs.PartLemmas.{flat-each}

pub bounds-drop : {K : Type 0} (cmp : Order K) (xs ps ys : Pairs K) → KeepsBounds cmp (xs ++ (ps ++ ys)) (xs ++ ys)
bounds-drop cmp xs ps ys = record {
  low = λ key h. each-append _ xs ys (each-left _ xs (ps ++ ys) h) (each-right _ ps ys (each-right _ xs (ps ++ ys) h));
  high = λ key h. each-append _ xs ys (each-left _ xs (ps ++ ys) h) (each-right _ ps ys (each-right _ xs (ps ++ ys) h));
}

module _ {K : Type 0} (g : Ghosts K) (nodes : Store) where
  pub level-lift : (i k : ℕ) (ns : List ℕ) → level_below g nodes (lift i k) ns ≡ level_below g nodes k (level_below g nodes i ns)
  level-lift zero k ns = refl
  level-lift (suc i) k ns = level-lift i k (flat_map (children g nodes) ns)

  pub at-bottom : (P : Cut → Type 0) (k : ℕ) (front : List ℕ) (n : ℕ) (back : List ℕ) → Each P (cuts g nodes k front n back) → P (bottom g nodes k front n back)
  at-bottom P zero front n back h = h.0
  at-bottom P (suc k) front n back h = at-bottom P k _ (only_child g nodes n) _ h.1

  pub chain-bottom : (k : ℕ) (front : List ℕ) (n : ℕ) (back : List ℕ) → IsChain g nodes k n → length (records_in nodes (bottom g nodes k front n back).n) ≡ 1
  chain-bottom zero front n back h = h
  chain-bottom (suc k) front n back h = chain-bottom k _ (only_child g nodes n) _ h.1

-- ---- the levels above one whose nodes keep their bounds

module _ {K : Type 0} (g : Ghosts K) (total : IsTotalOrder g.compare) (old new : Store) where
  pub upper-bounded : (i k : ℕ) (ns : List ℕ) → Each (KeepsAt g old new) (upper g old i k ns) → Each (Keyed g total old new) (upper g old i k ns) → Each (Bounded g total old new k) (level_below g old i ns)
      → Each (Keyed' g total old new) (upper g old i k ns) × Each (Bounded g total old new (lift i k)) ns
  upper-bounded zero k ns h keyed below = (tt, below)
  upper-bounded (suc i) k ns h keyed below =
      let next = flat_map (children g old) ns in
      let here = spots (suc (lift i k)) 0 ns in
      let rest = upper-bounded i k next (each-right (KeepsAt g old new) here (upper g old i k next) h) (each-right (Keyed g total old new) here (upper g old i k next) keyed) below in
      let same = each-spots (KeepsAt g old new) (KeepsRecords g old new) (suc (lift i k)) (λ l n r e. e) 0 ns (each-left (KeepsAt g old new) here (upper g old i k next) h) in
      let parts = each-flat (Bounded g total old new (lift i k)) (children g old) ns rest.1 in (
        each-append (Keyed' g total old new) here (upper g old i k next) (keys-level g total old new (lift i k) 0 ns same parts (each-left (Keyed g total old new) here (upper g old i k next) keyed)) rest.0,
        join g total old new (lift i k) ns same parts,
      )

module _ {K : Type 0} (g : Ghosts K) (total : IsTotalOrder g.compare) (old new : Store) (i k p q : ℕ) (d : IsDetached g old new i k p q) (sound : IsSound g old) where
  abbrev st : Rattle.hfs_btree.specs.Sound.HasStructure g old
  st = sound.structure

  abbrev E : List (List ℕ)
  E = es g old new i k p q d st

  abbrev C : ℕ
  C = c g old new i k p q d st

  abbrev B : List ℕ
  B = bc g old new i k p q d st

  abbrev H : List ℕ
  H = hc g old new i k p q d st

  abbrev CS : List Cut
  CS = cs g old new i k p q d st

  abbrev U : List Spot
  U = uppers g old new i k p q d st

  abbrev L : List ℕ
  L = above-level g old new i k p q d st

  lt : q < length E
  lt = place g old new i k p q d st

  keeps-beside : Each (KeepsBeside g old new) CS
  keeps-beside = beside g old new i k p q d st

  -- ---- what is under the nodes beside the chain

  keeps-fronts : Each (KeepsAt g old new) (turn g old (suc k) B)
  keeps-fronts =
      let P : List Spot → Type 0 = λ ss. Each (KeepsAt g old new) ss in
      subst P (sym (turn-fronts g old k B C H))
      (flat-each (KeepsAt g old new) fronts CS
      (each-mono (KeepsBeside g old new) (λ cut. Each (KeepsAt g old new) (fronts cut)) CS
      (λ cut h. at-spots (KeepsRecords g old new) cut.above 0 cut.front (each-left (KeepsRecords g old new) cut.front cut.back h)) keeps-beside))

  keeps-backs : Each (KeepsAt g old new) (turn g old (suc k) H)
  keeps-backs =
      let P : List Spot → Type 0 = λ ss. Each (KeepsAt g old new) ss in
      subst P (sym (turn-backs g old k B C H))
      (flat-each (KeepsAt g old new) backs CS
      (each-mono (KeepsBeside g old new) (λ cut. Each (KeepsAt g old new) (backs cut)) CS
      (λ cut h. at-spots (KeepsRecords g old new) cut.above 0 cut.back (each-right (KeepsRecords g old new) cut.front cut.back h)) keeps-beside))

  under-fronts : Each (KeepsUnder g old new k) B
  under-fronts = under-kept g old new k B keeps-fronts

  under-backs : Each (KeepsUnder g old new k) H
  under-backs = under-kept g old new k H keeps-backs

  -- ---- the keys of the old tree

  all-keyed : Each (Keyed g total old new) (U ++ (spots (suc k) 0 L ++ flat_map with_node CS))
  all-keyed = let P : List Spot → Type 0 = λ ss. Each (Keyed g total old new) ss in subst P (old-turn g old new i k p q d st) sound.ordered.keys

  keyed-uppers : Each (Keyed g total old new) U
  keyed-uppers = each-left (Keyed g total old new) U (spots (suc k) 0 L ++ flat_map with_node CS) all-keyed

  keyed-rest : Each (Keyed g total old new) (spots (suc k) 0 L ++ flat_map with_node CS)
  keyed-rest = each-right (Keyed g total old new) U (spots (suc k) 0 L ++ flat_map with_node CS) all-keyed

  keyed-level : Each (λ n. AreKeysInOrder g old (suc k) n) L
  keyed-level =
      each-spots (Keyed g total old new) (λ n. AreKeysInOrder g old (suc k) n) (suc k) (λ l n r h. h) 0 L (each-left (Keyed g total old new) (spots (suc k) 0 L) (flat_map with_node CS) keyed-rest)

  abbrev KeyedAll : Cut → Type 0
  KeyedAll cut = Each (λ n. AreKeysInOrder g old cut.above n) (cut.front ++ cut.n ∷ cut.back)

  keyed-cuts : Each KeyedAll CS
  keyed-cuts =
      each-mono (λ cut. Each (Keyed g total old new) (with_node cut)) KeyedAll CS
      (λ cut h. each-spots (Keyed g total old new) (λ n. AreKeysInOrder g old cut.above n) cut.above (λ l n r e. e) 0 (cut.front ++ cut.n ∷ cut.back) h)
      (each-flat (Keyed g total old new) with_node CS (each-right (Keyed g total old new) (spots (suc k) 0 L) (flat_map with_node CS) keyed-rest))

  keyed-fronts : Each (Keyed g total old new) (turn g old (suc k) B)
  keyed-fronts =
      let P : List Spot → Type 0 = λ ss. Each (Keyed g total old new) ss in
      subst P (sym (turn-fronts g old k B C H))
      (flat-each (Keyed g total old new) fronts CS
      (each-mono KeyedAll (λ cut. Each (Keyed g total old new) (fronts cut)) CS
      (λ cut h. spots-of (Keyed g total old new) (λ n. AreKeysInOrder g old cut.above n) cut.above (λ l n r e. e) 0 cut.front (each-left _ cut.front (cut.n ∷ cut.back) h)) keyed-cuts))

  keyed-backs : Each (Keyed g total old new) (turn g old (suc k) H)
  keyed-backs =
      let P : List Spot → Type 0 = λ ss. Each (Keyed g total old new) ss in
      subst P (sym (turn-backs g old k B C H))
      (flat-each (Keyed g total old new) backs CS
      (each-mono KeyedAll (λ cut. Each (Keyed g total old new) (backs cut)) CS
      (λ cut h. spots-of (Keyed g total old new) (λ n. AreKeysInOrder g old cut.above n) cut.above (λ l n r e. e) 0 cut.back (each-right _ cut.front (cut.n ∷ cut.back) h).1) keyed-cuts))

  -- ---- the keys of the new one, below

  abbrev NewKeys : ℕ → ℕ → Type 0
  NewKeys a n = AreKeysInOrder g new a n

  new-fronts : Each (λ cut. Each (NewKeys cut.above) cut.front) CS
  new-fronts =
      let P : List Spot → Type 0 = λ ss. Each (Keyed' g total old new) ss in
      each-mono (λ cut. Each (Keyed' g total old new) (fronts cut)) (λ cut. Each (NewKeys cut.above) cut.front) CS
      (λ cut h. each-spots (Keyed' g total old new) (NewKeys cut.above) cut.above (λ l n r e. e) 0 cut.front h)
      (each-flat (Keyed' g total old new) fronts CS (subst P (turn-fronts g old k B C H) (turn-keyed g old new (suc k) B keeps-fronts keyed-fronts)))

  new-backs : Each (λ cut. Each (NewKeys cut.above) cut.back) CS
  new-backs =
      let P : List Spot → Type 0 = λ ss. Each (Keyed' g total old new) ss in
      each-mono (λ cut. Each (Keyed' g total old new) (backs cut)) (λ cut. Each (NewKeys cut.above) cut.back) CS
      (λ cut h. each-spots (Keyed' g total old new) (NewKeys cut.above) cut.above (λ l n r e. e) 0 cut.back h)
      (each-flat (Keyed' g total old new) backs CS (subst P (turn-backs g old k B C H) (turn-keyed g old new (suc k) H keeps-backs keyed-backs)))

  join-cuts : (xs : List Cut) → Each (λ cut. Each (NewKeys cut.above) cut.front) xs → Each (λ cut. Each (NewKeys cut.above) cut.back) xs → Each (λ cut. Each (Keyed' g total old new) (without_node cut)) xs
  join-cuts [] a b = tt
  join-cuts (cut ∷ xs) a b =
      (spots-of (Keyed' g total old new) (NewKeys cut.above) cut.above (λ l n r e. e) 0 (cut.front ++ cut.back) (each-append (NewKeys cut.above) cut.front cut.back a.0 b.0), join-cuts xs a.1 b.1)

  new-lower : Each (Keyed' g total old new) (flat_map without_node CS)
  new-lower = flat-each (Keyed' g total old new) without_node CS (join-cuts CS new-fronts new-backs)

  -- ---- at the node that has lost a record

  abbrev T : List (List ℕ)
  T = take q E

  abbrev D : List (List ℕ)
  D = drop (suc q) E

  under-T : Each (KeepsUnder g old new k) (map g.child T)
  under-T = each-right (KeepsUnder g old new k) (flat_map (children g old) d.before) (map g.child T) under-fronts

  under-D : Each (KeepsUnder g old new k) (map g.child D)
  under-D = each-left (KeepsUnder g old new k) (map g.child D) (flat_map (children g old) d.behind) under-backs

  some-under : 0 < length (under g old k C)
  some-under =
      let P : List Spot → Type 0 = λ ss. Each (IsRight g old) ss in
      let level = Rattle.hfs_btree_removal.proofs.Chains.turn-with g old k B C H d.chain in
      let rights = subst P (sym level) (flat-each (IsRight g old) with_node CS (right-cuts g old new i k p q d st)) in
      (each-right (λ n. 0 < length (under g old k n)) B (C ∷ H) (under-some g old (IsRight g old) (λ s h. h) k (B ++ C ∷ H) rights)).0

  p-keys : AreKeysInOrder g old (suc k) p → AreKeysInOrder g new (suc k) p
  p-keys h =
      let part = part_of g (under g old k) in
      let P : List (K × Pairs K) → Type 0 = λ ps. ArePartsInOrder g.compare [] ps in
      let R : List (List ℕ) → Type 0 = λ rs. ArePartsInOrder g.compare [] (map (part_of g (under g new k)) rs) in
      let Q : List ℕ → Type 0 = λ ns. Each (KeepsUnder g old new k) ns in
      let sons = subst Q (sym (map-remove g.child E q lt)) (each-append (KeepsUnder g old new k) (map g.child T) (map g.child D) under-T under-D) in
      let less = parts-drop g.compare total [] (map part T) (part (get_or E q [])) (map part D) some-under (subst P (map-split part E q [] lt) h) in
      subst R (sym (new-es g old new i k p q d st)) (subst P (sym (parts-kept g old new k (remove E q) sons ∙ map-remove part E q lt)) less)

  flat-under : (ns : List ℕ) → Each (KeepsUnder g old new k) ns → flat_map (under g new k) ns ≡ flat_map (under g old k) ns
  flat-under ns h = flat_map-same (under g new k) (under g old k) ns h

  p-bounds : Bounded g total old new (suc k) p
  p-bounds =
      let uo = flat_map (under g old k) in
      let was : under g old (suc k) p ≡ uo (map g.child T) ++ (under g old k C ++ uo (map g.child D)) =
      ap uo (map-split g.child E q [] lt) ∙ flat_map-append (under g old k) (map g.child T) (C ∷ map g.child D) in
      let now : under g new (suc k) p ≡ uo (map g.child T) ++ uo (map g.child D) =
      ap (λ (rs : List (List ℕ)). flat_map (under g new k) (map g.child rs)) (new-es g old new i k p q d st)
      ∙ ap (flat_map (under g new k)) (map-remove g.child E q lt)
      ∙ flat_map-append (under g new k) (map g.child T) (map g.child D)
      ∙ ap (λ (ps : Pairs K). ps ++ flat_map (under g new k) (map g.child D)) (flat-under (map g.child T) under-T)
      ∙ ap (λ (ps : Pairs K). uo (map g.child T) ++ ps) (flat-under (map g.child D) under-D) in
      let P : Pairs K → Type 0 = λ ps. KeepsBounds g.compare ps (under g new (suc k) p) in
      let Q : Pairs K → Type 0 = λ ps. KeepsBounds g.compare (uo (map g.child T) ++ (under g old k C ++ uo (map g.child D))) ps in
      subst P (sym was) (subst Q (sym now) (bounds-drop g.compare (uo (map g.child T)) (under g old k C) (uo (map g.child D))))

  -- ---- its level

  records-kept : (ns : List ℕ) → Each (λ n. node_in new n ≡ node_in old n) ns → Each (KeepsRecords g old new) ns
  records-kept ns h = each-mono (λ n. node_in new n ≡ node_in old n) (KeepsRecords g old new) ns (λ n e. ap records_of e) h

  under-beside : (ns : List ℕ) → Each (λ n. node_in new n ≡ node_in old n) ns → Each (KeepsUnder g old new k) (flat_map (children g old) ns) → Each (KeepsUnder g old new (suc k)) ns
  under-beside ns h below = level-kept g old new k ns (records-kept ns h) (children-kept g old new k ns below)

  same-bounds : (ns : List ℕ) → Each (KeepsUnder g old new (suc k)) ns → Each (Bounded g total old new (suc k)) ns
  same-bounds ns h = each-mono (KeepsUnder g old new (suc k)) (Bounded g total old new (suc k)) ns (λ n e. bounds-same g.compare total (under g old (suc k) n) (under g new (suc k) n) e) h

  under-before : Each (KeepsUnder g old new k) (flat_map (children g old) d.before)
  under-before = each-left (KeepsUnder g old new k) (flat_map (children g old) d.before) (map g.child T) under-fronts

  under-behind : Each (KeepsUnder g old new k) (flat_map (children g old) d.behind)
  under-behind = each-right (KeepsUnder g old new k) (map g.child D) (flat_map (children g old) d.behind) under-backs

  level-bounds : Each (Bounded g total old new (suc k)) L
  level-bounds =
      each-append (Bounded g total old new (suc k)) d.before (p ∷ d.behind) (same-bounds d.before (under-beside d.before d.before_kept under-before))
      (p-bounds, same-bounds d.behind (under-beside d.behind d.behind_kept under-behind))

  beside-keys : (ns : List ℕ) → Each (KeepsRecords g old new) ns → Each (λ n. Each (KeepsUnder g old new k) (children g old n)) ns → Each (λ n. AreKeysInOrder g old (suc k) n) ns → Each (NewKeys (suc k)) ns
  beside-keys [] a b h = tt
  beside-keys (n ∷ ns) a b h = (Rattle.hfs_btree_edits.proofs.LevelPartLemmas.keys-kept g old new k n a.0 b.0 h.0, beside-keys ns a.1 b.1 h.1)

  level-keys : Each (NewKeys (suc k)) L
  level-keys =
      let rest = each-right (λ n. AreKeysInOrder g old (suc k) n) d.before (p ∷ d.behind) keyed-level in
      each-append (NewKeys (suc k)) d.before (p ∷ d.behind)
      (beside-keys d.before (records-kept d.before d.before_kept) (children-kept g old new k d.before under-before) (each-left (λ n. AreKeysInOrder g old (suc k) n) d.before (p ∷ d.behind) keyed-level))
      (p-keys rest.0, beside-keys d.behind (records-kept d.behind d.behind_kept) (children-kept g old new k d.behind under-behind) rest.1)

  -- ---- the whole

  new-uppers : Each (Keyed' g total old new) U
  new-uppers =
      let P : List ℕ → Type 0 = λ ns. Each (Bounded g total old new (suc k)) ns in
      (upper-bounded g total old new i (suc k) (root_level old) (uppers-keep g old new i k p q d st) keyed-uppers (subst P (sym d.level) level-bounds)).0

  pub keys-are : Each (λ (s : Spot). AreKeysInOrder g new s.above s.n) (tree_turn g new)
  keys-are =
      let P : List Spot → Type 0 = λ ss. Each (Keyed' g total old new) ss in
      subst P (sym (new-turn g old new i k p q d st))
      (each-append (Keyed' g total old new) U (spots (suc k) 0 L ++ flat_map without_node CS) new-uppers
      (each-append (Keyed' g total old new) (spots (suc k) 0 L) (flat_map without_node CS) (spots-of (Keyed' g total old new) (NewKeys (suc k)) (suc k) (λ l n r e. e) 0 L level-keys) new-lower))

  -- ---- the content

  abbrev pub bot : Cut
  bot = bottom g old k B C H

  pub old-leaves : leaves g old ≡ bot.front ++ bot.n ∷ bot.back
  old-leaves =
      ap (λ (n : ℕ). last_level g old n (root_level old)) d.deep
      ∙ level-lift g old i (suc k) (root_level old)
      ∙ ap (level_below g old (suc k)) d.level
      ∙ ap (level_below g old k) (next-split g old d.before p d.behind q lt)
      ∙ level-with g old k B C H d.chain

  pub new-leaves : leaves g new ≡ bot.front ++ bot.back
  new-leaves =
      ap (λ (n : ℕ). last_level g new n (root_level new)) (d.depth ∙ d.deep)
      ∙ ap (level_below g new (lift i (suc k))) (same-root g old new i k p q d st)
      ∙ level-lift g new i (suc k) (root_level old)
      ∙ ap (level_below g new (suc k)) ((Rattle.hfs_btree_edits.proofs.LevelPartLemmas.upper-kept g old new i (suc k) (root_level old) (uppers-keep g old new i k p q d st)).1 ∙ d.level)
      ∙ ap (level_below g new k) (new-below g old new i k p q d st)
      ∙ level-without g old new k B C H keeps-beside

  abbrev A : Pairs K
  A = flat_map (pairs g old) bot.front

  abbrev Z : Pairs K
  Z = flat_map (pairs g old) bot.back

  one-pair : (ps : Pairs K) (x : K × List ℕ) (rs : List (List ℕ)) → length rs ≡ 1 → map (pair_of g) rs ≡ pair_of g (get_or rs 0 []) ∷ []
  one-pair ps x [] h = absurd (omega arith)
  one-pair ps x (r ∷ []) h = refl
  one-pair ps x (r ∷ r' ∷ rs) h = absurd (omega arith)

  -- the pair that goes
  abbrev pub gone : K × List ℕ
  gone = pair_of g (get_or (records_in old bot.n) 0 [])

  pub old-content : tree_content g old ≡ A ++ gone ∷ Z
  old-content =
      ap (flat_map (pairs g old)) old-leaves
      ∙ flat_map-append (pairs g old) bot.front (bot.n ∷ bot.back)
      ∙ ap (λ (ps : Pairs K). A ++ (ps ++ Z)) (one-pair [] gone (records_in old bot.n) (chain-bottom g old k B C H d.chain))

  same-pairs : (ns : List ℕ) → Each (KeepsRecords g old new) ns → flat_map (pairs g new) ns ≡ flat_map (pairs g old) ns
  same-pairs ns h = flat_map-same (pairs g new) (pairs g old) ns (each-mono (KeepsRecords g old new) _ ns (λ n e. ap (map (pair_of g)) e) h)

  pub new-content : tree_content g new ≡ A ++ Z
  new-content =
      ap (flat_map (pairs g new)) new-leaves
      ∙ same-pairs (bot.front ++ bot.back) (at-bottom g old (KeepsBeside g old new) k B C H keeps-beside)
      ∙ flat_map-append (pairs g old) bot.front bot.back

  rising : Rises g.compare (A ++ gone ∷ Z)
  rising = let P : Pairs K → Type 0 = λ ps. Rises g.compare ps in subst P old-content sound.ordered.rises

  pub rises-are : Rises g.compare (tree_content g new)
  rises-are = let P : Pairs K → Type 0 = λ ps. Rises g.compare ps in subst P (sym new-content) (rises-without g.compare total A gone Z rising)

  pub content-is : (key : K) → g.compare key gone.0 ≡ Equal → tree_content g new ≡ without_pair g.compare key (tree_content g old)
  content-is key e =
      new-content
      ∙ sym (without-at g.compare total key [] A gone Z (above-equal g.compare total gone.0 key A e (rises-before g.compare total A gone Z rising)) e)
      ∙ sym (ap (without_pair g.compare key) old-content)

  one-less : length (tree_content g new) + 1 ≡ length (tree_content g old)
  one-less =
      let a = ap (λ (ps : Pairs K). length ps) old-content in
      let b = ap (λ (ps : Pairs K). length ps) new-content in
      omega (arith, length-append A (gone ∷ Z), length-append A Z)

  pub sound-is : (header_in new).first_leaf ≡ first_of (leaves g new) → (header_in new).last_leaf ≡ last_of (leaves g new) → (header_in new).records + 1 ≡ (header_in old).records
      → (header_in new).free_nodes ≡ (header_in old).free_nodes → IsSound g new
  sound-is first last records free = record {
    structure = structure-is g old new i k p q d st first last;
    counts = record {
      records = let a = sound.counts.records in let b = one-less in omega arith;
      free = free ∙ sound.counts.free ∙ sym (free-is g old new d.head);
    };
    ordered = record { rises = rises-are; keys = keys-are };
  }
