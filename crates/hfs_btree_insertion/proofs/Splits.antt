-- A node that was cut in two, and a record of the node above it that names the new one.
use Rattle.hfs_btree_insertion.specs.Cut.{IsSplit}
use Rattle.hfs_btree_edits.specs.LevelParts.{lift, entry_key}
use Rattle.std.proofs.Common.{◌≡◌, ◌≢◌, ℕ, zero, suc, ◌+◌, ◌<◌, ◌≤◌, List, [], ◌∷◌, ◌++◌, length, map, get_or, take, drop, refl, sym, ap, ◌∙◌, subst, arith, append_assoc}
use Rattle.std.specs.Prelude.{Result, insert, ◌↔◌}
use Rattle.std.specs.List.{flat_map}
use Rattle.std.proofs.lemmas.List.{map-append, take-append-drop}
use Rattle.std.proofs.lemmas.List.Concat.{flat_map-append}
use Rattle.hfs_btree.specs.declared.node.Node.{Node}
use Rattle.hfs_btree.specs.declared.fault.NodeFault.{NodeFault}
use Rattle.hfs_btree.specs.declared.key.Key.{Ghosts}
use Rattle.hfs_btree.specs.Pairs.{Pairs, Rises, IsAbove, IsAtMost}
use Rattle.hfs_fields.specs.Each.{Each}
use Rattle.hfs_fields.proofs.ElementLemmas.{each-append, each-left, each-right}
use Rattle.hfs_btree.specs.Tree.{Store, Spot, records_in, children, spots, first_of, turn, under, level_below}
use Rattle.hfs_btree.specs.Header.{root_level, own_nodes, free_nodes, tree_turn, tree_nodes, tree_content}
use Rattle.std.specs.Cmp.{IsTotalOrder}
use Rattle.hfs_btree.specs.Sound.{IsOther, IsDistinct, IsRight, IsStray, IsSound, IsOrdered, HasStructure, HasLevels, HasEnds, HasCounts, HasHeader, HasMap, ArePartsInOrder, AreKeysInOrder, part_of}
use Rattle.hfs_btree.proofs.LevelLemmas.{flat_map-flat_map, map-split}
use Rattle.hfs_btree_edits.proofs.LevelPartLemmas.{numbers, KeepsAt, KeepsUnder, same-flat, parts-kept, level-kept, children-kept, keys-kept, upper-keyed, turn-keyed}
use Rattle.hfs_btree_insertion.proofs.PartLists.{parts-cut, rises-left, rises-right}
use Rattle.hfs_btree_insertion.proofs.Contents.{content, under-content, content-append, content-under, under-lift, turn-parts, Keyed, keyed-spots, keyed-of-spots, AreRecordsInOrder, records-keyed, keyed-records, keyed-left, keyed-right, HavePairs, have-pairs, turn-parts-right, middle-above, middle-most, records-kept, content-kept, level-under, nodes-keyed}
use Rattle.hfs_btree_edits.proofs.ApartLemmas.{map-insert}
use Rattle.std.proofs.lemmas.List.{get_or-drop}
use Rattle.hfs_btree.specs.Sound.{AreKeysExact, IsExact, first_key}
use Rattle.hfs_btree_insertion.proofs.PartLists.{equal-key}
use Rattle.hfs_btree_insertion.proofs.Exacts.{first-entry, IsExactIn, AreRecordsExact, exact-of, of-exact, exact-left, exact-right, FirstsBelow, firsts-left, records-exact}
use Rattle.hfs_btree_edits.specs.Stored.{bytes_in}

module _ {K : Type 0} (g : Ghosts K) (old new : Store) (i k p n m q c : ℕ) (s : IsSplit g old new i k p n m q c) (structure : HasStructure g old) where
  -- ---- the old tree

  abbrev pub es : List (List ℕ)
  es = Rattle.hfs_btree_insertion.proofs.Cuts.es g old i k p n m q s.parts.cut structure

  abbrev pub bn : List ℕ
  bn = Rattle.hfs_btree_insertion.proofs.Cuts.bn g old i k p n m q s.parts.cut structure

  abbrev pub hn : List ℕ
  hn = Rattle.hfs_btree_insertion.proofs.Cuts.hn g old i k p n m q s.parts.cut structure

  abbrev pub above-level : List ℕ
  above-level = Rattle.hfs_btree_insertion.proofs.Cuts.above-level g old i k p n m q s.parts.cut structure

  abbrev pub old-level : List ℕ
  old-level = Rattle.hfs_btree_insertion.proofs.Cuts.old-level g old i k p n m q s.parts.cut structure

  abbrev pub new-level : List ℕ
  new-level = Rattle.hfs_btree_insertion.proofs.Cuts.new-level g old i k p n m q s.parts.cut structure

  abbrev pub uppers : List Spot
  uppers = Rattle.hfs_btree_insertion.proofs.Cuts.uppers g old i k p n m q s.parts.cut structure

  abbrev pub lowers : List Spot
  lowers = Rattle.hfs_btree_insertion.proofs.Cuts.lowers g old i k p n m q s.parts.cut structure

  pub old-below : flat_map (children g old) above-level ≡ old-level
  old-below = Rattle.hfs_btree_insertion.proofs.Cuts.old-below g old i k p n m q s.parts.cut structure

  pub old-turn : tree_turn g old ≡ uppers ++ (spots (suc k) 0 above-level ++ (spots k 0 old-level ++ lowers))
  old-turn = Rattle.hfs_btree_insertion.proofs.Cuts.old-turn g old i k p n m q s.parts.cut structure

  abbrev pub all : List ℕ
  all = Rattle.hfs_btree_insertion.proofs.Cuts.all g old i k p n m q s.parts.cut structure

  pub right-uppers : Each (IsRight g old) uppers
  right-uppers = Rattle.hfs_btree_insertion.proofs.Cuts.right-uppers g old i k p n m q s.parts.cut structure

  pub right-lowers : Each (IsRight g old) lowers
  right-lowers = Rattle.hfs_btree_insertion.proofs.Cuts.right-lowers g old i k p n m q s.parts.cut structure

  abbrev pub AreOthers : List ℕ → Type 0
  AreOthers xs = Rattle.hfs_btree_insertion.proofs.Cuts.AreOthers g old i k p n m q s.parts.cut structure xs

  pub before-others : AreOthers s.parts.cut.before
  before-others = Rattle.hfs_btree_insertion.proofs.Cuts.before-others g old i k p n m q s.parts.cut structure

  pub behind-others : AreOthers s.parts.cut.behind
  behind-others = Rattle.hfs_btree_insertion.proofs.Cuts.behind-others g old i k p n m q s.parts.cut structure

  pub left-others : AreOthers bn
  left-others = Rattle.hfs_btree_insertion.proofs.Cuts.left-others g old i k p n m q s.parts.cut structure

  -- ---- the records of the new store, and its levels

  pub records-above : records_in new p ≡ insert es (suc q) s.parts.entry
  records-above = Rattle.hfs_btree_insertion.proofs.Parted.records-above g old new i k p n m q (take c (records_in old n)) (drop c (records_in old n)) s.parts structure

  pub records-first : records_in new n ≡ take c (records_in old n)
  records-first = Rattle.hfs_btree_insertion.proofs.Parted.records-first g old new i k p n m q (take c (records_in old n)) (drop c (records_in old n)) s.parts structure

  pub records-second : records_in new m ≡ drop c (records_in old n)
  records-second = Rattle.hfs_btree_insertion.proofs.Parted.records-second g old new i k p n m q (take c (records_in old n)) (drop c (records_in old n)) s.parts structure

  abbrev pub Keeps : ℕ → Type 0
  Keeps x = records_in new x ≡ records_in old x

  pub keep : (xs : List ℕ) → AreOthers xs → Each Keeps xs
  keep = Rattle.hfs_btree_insertion.proofs.Parted.keep g old new i k p n m q (take c (records_in old n)) (drop c (records_in old n)) s.parts structure

  pub uppers-keep : Each (KeepsAt g old new) uppers
  uppers-keep = Rattle.hfs_btree_insertion.proofs.Parted.uppers-keep g old new i k p n m q (take c (records_in old n)) (drop c (records_in old n)) s.parts structure

  pub lowers-keep : Each (KeepsAt g old new) lowers
  lowers-keep = Rattle.hfs_btree_insertion.proofs.Parted.lowers-keep g old new i k p n m q (take c (records_in old n)) (drop c (records_in old n)) s.parts structure

  pub hn-keep : Each Keeps hn
  hn-keep = Rattle.hfs_btree_insertion.proofs.Parted.hn-keep g old new i k p n m q (take c (records_in old n)) (drop c (records_in old n)) s.parts structure

  pub children-above : children g new p ≡ map g.child (take q es) ++ n ∷ m ∷ map g.child (drop (suc q) es)
  children-above = Rattle.hfs_btree_insertion.proofs.Parted.children-above g old new i k p n m q (take c (records_in old n)) (drop c (records_in old n)) s.parts structure

  pub new-turn : tree_turn g new ≡ uppers ++ (spots (suc k) 0 above-level ++ (spots k 0 new-level ++ lowers))
  new-turn = Rattle.hfs_btree_insertion.proofs.Parted.new-turn g old new i k p n m q (take c (records_in old n)) (drop c (records_in old n)) s.parts structure

  pub new-levels : HasLevels g new
  new-levels = Rattle.hfs_btree_insertion.proofs.Parted.new-levels g old new i k p n m q (take c (records_in old n)) (drop c (records_in old n)) s.parts structure

  pub new-ends : HasEnds g new
  new-ends = Rattle.hfs_btree_insertion.proofs.Parted.new-ends g old new i k p n m q (take c (records_in old n)) (drop c (records_in old n)) s.parts structure

  pub new-free : free_nodes new ≡ free_nodes old
  new-free = Rattle.hfs_btree_insertion.proofs.Parted.new-free g old new i k p n m q (take c (records_in old n)) (drop c (records_in old n)) s.parts structure

  pub stray-gone : IsStray g new m → ⊥
  stray-gone = Rattle.hfs_btree_insertion.proofs.Parted.stray-gone g old new i k p n m q (take c (records_in old n)) (drop c (records_in old n)) s.parts structure

  pub stray-same : (x : ℕ) → x ≢ m → IsStray g new x ↔ IsStray g old x
  stray-same = Rattle.hfs_btree_insertion.proofs.Parted.stray-same g old new i k p n m q (take c (records_in old n)) (drop c (records_in old n)) s.parts structure

  pub one-more : length (tree_nodes g new) ≡ length (tree_nodes g old) + 1
  one-more = Rattle.hfs_btree_insertion.proofs.Parted.one-more g old new i k p n m q (take c (records_in old n)) (drop c (records_in old n)) s.parts structure

  pub bytes-same : (x : ℕ) → Each (IsOther x) (own_nodes old ++ (tree_nodes g old ++ tree_nodes g new)) → bytes_in new x ≡ bytes_in old x
  bytes-same = Rattle.hfs_btree_insertion.proofs.Parted.bytes-same g old new i k p n m q (take c (records_in old n)) (drop c (records_in old n)) s.parts structure

  -- ---- level by level, from the root on

  pub levels-above : (j : ℕ) → j ≤ i → level_below g new j (root_level new) ≡ level_below g old j (root_level old)
  levels-above = Rattle.hfs_btree_insertion.proofs.Parted.levels-above g old new i k p n m q (take c (records_in old n)) (drop c (records_in old n)) s.parts structure

  pub level-grown : length (level_below g new (lift i 1) (root_level new)) ≡ length (level_below g old (lift i 1) (root_level old)) + 1
  level-grown = Rattle.hfs_btree_insertion.proofs.Parted.level-grown g old new i k p n m q (take c (records_in old n)) (drop c (records_in old n)) s.parts structure

  pub levels-below : (k' t : ℕ) → k ≡ suc k' → t ≤ k' → level_below g new (lift i (suc (suc t))) (root_level new) ≡ level_below g old (lift i (suc (suc t))) (root_level old)
  levels-below = Rattle.hfs_btree_insertion.proofs.Parted.levels-below g old new i k p n m q (take c (records_in old n)) (drop c (records_in old n)) s.parts structure

  -- ---- what is under the nodes

  abbrev pub rs : List (List ℕ)
  rs = records_in old n

  abbrev first-records : List (List ℕ)
  first-records = take c rs

  abbrev second-records : List (List ℕ)
  second-records = drop c rs

  below-parts : Each (KeepsAt g old new) (turn g old k (flat_map (children g old) bn)) × Each (KeepsAt g old new) (turn g old k (children g old n))
      × Each (KeepsAt g old new) (turn g old k (flat_map (children g old) hn))
  below-parts =
      let R : List ℕ → Type 0 = λ ns. Each (KeepsAt g old new) (turn g old k ns) in
      let two = turn-parts g old Keeps k (flat_map (children g old) bn) (children g old n ++ flat_map (children g old) hn) (subst R (flat_map-append (children g old) bn (n ∷ hn)) lowers-keep) in
      let one = turn-parts g old Keeps k (children g old n) (flat_map (children g old) hn) two.1 in
      (two.0, one.0, one.1)

  bn-under : Each (KeepsUnder g old new k) bn
  bn-under = level-under g old new k bn (keep bn left-others) below-parts.0

  hn-under : Each (KeepsUnder g old new k) hn
  hn-under = level-under g old new k hn hn-keep below-parts.2

  halves : Each (KeepsAt g old new) (turn g old k (map g.child first-records)) × Each (KeepsAt g old new) (turn g old k (map g.child second-records))
  halves =
      let R : List ℕ → Type 0 = λ ns. Each (KeepsAt g old new) (turn g old k ns) in
      let parts = ap (map g.child) (sym (take-append-drop c rs)) ∙ map-append g.child first-records second-records in
      turn-parts g old Keeps k (map g.child first-records) (map g.child second-records) (subst R parts below-parts.1)

  first-under : under g new k n ≡ content g old k first-records
  first-under = under-content g new k n ∙ ap (content g new k) records-first ∙ content-kept g old new k first-records halves.0

  second-under : under g new k m ≡ content g old k second-records
  second-under = under-content g new k m ∙ ap (content g new k) records-second ∙ content-kept g old new k second-records halves.1

  both-under : under g old k n ≡ content g old k first-records ++ content g old k second-records
  both-under = under-content g old k n ∙ ap (content g old k) (sym (take-append-drop c rs)) ∙ content-append g old k first-records second-records

  -- ---- in order

  module _ (total : IsTotalOrder g.compare) (ordered : IsOrdered g old) where
    keyed-all : Each (Keyed g old) (uppers ++ (spots (suc k) 0 above-level ++ (spots k 0 old-level ++ lowers)))
    keyed-all = let P : List Spot → Type 0 = λ ss. Each (Keyed g old) ss in subst P old-turn ordered.keys

    keyed-two : Each (Keyed g old) (spots (suc k) 0 above-level ++ (spots k 0 old-level ++ lowers))
    keyed-two = each-right (Keyed g old) uppers (spots (suc k) 0 above-level ++ (spots k 0 old-level ++ lowers)) keyed-all

    keyed-one : Each (Keyed g old) (spots k 0 old-level ++ lowers)
    keyed-one = each-right (Keyed g old) (spots (suc k) 0 above-level) (spots k 0 old-level ++ lowers) keyed-two

    level-keys : Each (AreKeysInOrder g old k) old-level
    level-keys = keyed-of-spots g old k 0 old-level (each-left (Keyed g old) (spots k 0 old-level) lowers keyed-one)

    above-keys : Each (AreKeysInOrder g old (suc k)) above-level
    above-keys = keyed-of-spots g old (suc k) 0 above-level (each-left (Keyed g old) (spots (suc k) 0 above-level) (spots k 0 old-level ++ lowers) keyed-two)

    -- all pairs rise, so those under n
    old-content : tree_content g old ≡ flat_map (under g old k) bn ++ (under g old k n ++ flat_map (under g old k) hn)
    old-content =
        content-under g old (lift i (suc k)) s.parts.cut.deep
        ∙ under-lift g old i (suc k) (root_level old)
        ∙ ap (flat_map (under g old (suc k))) s.parts.cut.level
        ∙ sym (flat_map-flat_map (under g old k) (children g old) above-level)
        ∙ ap (flat_map (under g old k)) old-below
        ∙ flat_map-append (under g old k) bn (n ∷ hn)

    node-rises : Rises g.compare (content g old k rs)
    node-rises =
        let P : Pairs K → Type 0 = λ ps. Rises g.compare ps in
        let all = subst P old-content ordered.rises in
        let here = rises-left g.compare (under g old k n) (flat_map (under g old k) hn) (rises-right g.compare (flat_map (under g old k) bn) (under g old k n ++ flat_map (under g old k) hn) all) in
        subst P (under-content g old k n) here

    pub node-keys : AreRecordsInOrder g old k rs
    node-keys = records-keyed g old k n rs refl (each-right (AreKeysInOrder g old k) bn (n ∷ hn) level-keys).0

    pub node-some : HavePairs g old k rs
    node-some = have-pairs g old k rs (turn-parts-right g old k bn n hn right-lowers)

    sep-above : IsAbove g.compare (entry_key g k (get_or rs c [])) (content g old k first-records)
    sep-above = middle-above g old total k rs c s.less node-rises node-keys node-some

    sep-most : IsAtMost g.compare (entry_key g k (get_or rs c [])) (content g old k second-records)
    sep-most = middle-most g old total k rs c s.less node-rises node-keys node-some

    abbrev front : List (K × Pairs K)
    front = map (part_of g (under g old k)) (take q es)

    abbrev rest-parts : List (K × Pairs K)
    rest-parts = map (part_of g (under g old k)) (drop (suc q) es)

    abbrev e-key : K
    e-key = g.index_key (get_or es q [])

    old-parts : map (part_of g (under g old k)) es ≡ front ++ (e-key, content g old k first-records ++ content g old k second-records) ∷ rest-parts
    old-parts =
        map-split (part_of g (under g old k)) es q [] s.parts.cut.within
        ∙ ap (λ (ps : Pairs K). front ++ (e-key, ps) ∷ rest-parts) (ap (under g old k) (sym s.parts.cut.child) ∙ both-under)

    front-under : Each (KeepsUnder g old new k) (map g.child (take q es))
    front-under = each-right (KeepsUnder g old new k) (flat_map (children g old) s.parts.cut.before) (map g.child (take q es)) bn-under

    rest-under : Each (KeepsUnder g old new k) (map g.child (drop (suc q) es))
    rest-under = each-left (KeepsUnder g old new k) (map g.child (drop (suc q) es)) (flat_map (children g old) s.parts.cut.behind) hn-under

    new-parts : map (part_of g (under g new k)) (records_in new p)
        ≡ front ++ (e-key, content g old k first-records) ∷ (entry_key g k (get_or rs c []), content g old k second-records) ∷ rest-parts
    new-parts =
        ap (map (part_of g (under g new k))) records-above
        ∙ map-insert (part_of g (under g new k)) es q s.parts.entry [] s.parts.cut.within
        ∙ ap (λ (ps : List (K × Pairs K)). ps ++ part_of g (under g new k) (get_or es q []) ∷ part_of g (under g new k) s.parts.entry ∷ map (part_of g (under g new k)) (drop (suc q) es))
        (parts-kept g old new k (take q es) front-under)
        ∙ ap (λ (ps : List (K × Pairs K)). front ++ part_of g (under g new k) (get_or es q []) ∷ part_of g (under g new k) s.parts.entry ∷ ps) (parts-kept g old new k (drop (suc q) es) rest-under)
        ∙ ap (λ (ps : Pairs K). front ++ (e-key, ps) ∷ part_of g (under g new k) s.parts.entry ∷ rest-parts) (ap (under g new k) (sym s.parts.cut.child) ∙ first-under)
        ∙ ap (λ (ps : Pairs K). front ++ (e-key, content g old k first-records) ∷ (g.index_key s.parts.entry, ps) ∷ rest-parts) (ap (under g new k) s.parts.names ∙ second-under)
        ∙ ap (λ (x : K). front ++ (e-key, content g old k first-records) ∷ (x, content g old k second-records) ∷ rest-parts) s.keyed

    above-keyed : AreKeysInOrder g new (suc k) p
    above-keyed =
        let P : List (K × Pairs K) → Type 0 = λ ps. ArePartsInOrder g.compare [] ps in
        let before = (each-right (AreKeysInOrder g old (suc k)) s.parts.cut.before (p ∷ s.parts.cut.behind) above-keys).0 in
        subst P (sym new-parts) (parts-cut g.compare [] front rest-parts e-key (entry_key g k (get_or rs c [])) (content g old k first-records) (content g old k second-records)
        (subst P old-parts before) sep-above sep-most)

    -- the pairs under the node above are the same
    above-under : KeepsUnder g old new (suc k) p
    above-under =
        ap (flat_map (under g new k)) children-above
        ∙ flat_map-append (under g new k) (map g.child (take q es)) (n ∷ m ∷ map g.child (drop (suc q) es))
        ∙ ap (λ (ps : Pairs K). ps ++ (under g new k n ++ (under g new k m ++ flat_map (under g new k) (map g.child (drop (suc q) es))))) (same-flat g old new k (map g.child (take q es)) front-under)
        ∙ ap (λ (ps : Pairs K). flat_map (under g old k) (map g.child (take q es)) ++ (under g new k n ++ (under g new k m ++ ps))) (same-flat g old new k (map g.child (drop (suc q) es)) rest-under)
        ∙ ap (λ (ps : Pairs K). flat_map (under g old k) (map g.child (take q es)) ++ ps)
        (sym (append_assoc (under g new k n) (under g new k m) (flat_map (under g old k) (map g.child (drop (suc q) es))))
        ∙ ap (λ (ps : Pairs K). ps ++ flat_map (under g old k) (map g.child (drop (suc q) es))) (ap (λ (ps : Pairs K). ps ++ under g new k m) first-under ∙ ap (λ (ps : Pairs K). content g old k first-records ++ ps) second-under ∙ sym both-under))
        ∙ sym (ap (flat_map (under g old k)) (map-split g.child es q [] s.parts.cut.within ∙ ap (λ (x : ℕ). map g.child (take q es) ++ x ∷ map g.child (drop (suc q) es)) (sym s.parts.cut.child))
        ∙ flat_map-append (under g old k) (map g.child (take q es)) (n ∷ map g.child (drop (suc q) es)))

    -- those of the nodes beside it
    before-parts : Each (λ x. Each (KeepsUnder g old new k) (children g old x)) s.parts.cut.before
    before-parts = children-kept g old new k s.parts.cut.before (each-left (KeepsUnder g old new k) (flat_map (children g old) s.parts.cut.before) (map g.child (take q es)) bn-under)

    behind-parts : Each (λ x. Each (KeepsUnder g old new k) (children g old x)) s.parts.cut.behind
    behind-parts = children-kept g old new k s.parts.cut.behind (each-right (KeepsUnder g old new k) (map g.child (drop (suc q) es)) (flat_map (children g old) s.parts.cut.behind) hn-under)

    level-keeps : Each (KeepsUnder g old new (suc k)) above-level
    level-keeps =
        each-append (KeepsUnder g old new (suc k)) s.parts.cut.before (p ∷ s.parts.cut.behind) (level-kept g old new k s.parts.cut.before (keep s.parts.cut.before before-others) before-parts)
        (above-under, level-kept g old new k s.parts.cut.behind (keep s.parts.cut.behind behind-others) behind-parts)

    beside-keyed : (xs : List ℕ) → Each Keeps xs → Each (λ x. Each (KeepsUnder g old new k) (children g old x)) xs → Each (AreKeysInOrder g old (suc k)) xs → Each (AreKeysInOrder g new (suc k)) xs
    beside-keyed [] same parts keys = tt
    beside-keyed (x ∷ xs) same parts keys = (keys-kept g old new k x same.0 parts.0 keys.0, beside-keyed xs same.1 parts.1 keys.1)

    above-level-keyed : Each (AreKeysInOrder g new (suc k)) above-level
    above-level-keyed =
        each-append (AreKeysInOrder g new (suc k)) s.parts.cut.before (p ∷ s.parts.cut.behind)
        (beside-keyed s.parts.cut.before (keep s.parts.cut.before before-others) before-parts (each-left (AreKeysInOrder g old (suc k)) s.parts.cut.before (p ∷ s.parts.cut.behind) above-keys))
        (above-keyed, beside-keyed s.parts.cut.behind (keep s.parts.cut.behind behind-others) behind-parts (each-right (AreKeysInOrder g old (suc k)) s.parts.cut.before (p ∷ s.parts.cut.behind) above-keys).1)

    first-keyed : AreKeysInOrder g new k n
    first-keyed =
        let P : List (List ℕ) → Type 0 = λ xs. AreRecordsInOrder g old k xs in
        keyed-records g new k n first-records records-first
        (records-kept g old new k first-records halves.0 (keyed-left g old k first-records second-records (subst P (sym (take-append-drop c rs)) node-keys)))

    second-keyed : AreKeysInOrder g new k m
    second-keyed =
        let P : List (List ℕ) → Type 0 = λ xs. AreRecordsInOrder g old k xs in
        keyed-records g new k m second-records records-second
        (records-kept g old new k second-records halves.1 (keyed-right g old k first-records second-records (subst P (sym (take-append-drop c rs)) node-keys)))

    new-level-keyed : Each (AreKeysInOrder g new k) new-level
    new-level-keyed =
        each-append (AreKeysInOrder g new k) bn (n ∷ m ∷ hn)
        (nodes-keyed g old new k bn (keep bn left-others) below-parts.0 (each-left (AreKeysInOrder g old k) bn (n ∷ hn) level-keys))
        (first-keyed, (second-keyed, nodes-keyed g old new k hn hn-keep below-parts.2 (each-right (AreKeysInOrder g old k) bn (n ∷ hn) level-keys).1))

    uppers-keyed : Each (Keyed g new) uppers × Each (KeepsUnder g old new (lift i (suc k))) (root_level old)
    uppers-keyed =
        let P : List ℕ → Type 0 = λ ns. Each (KeepsUnder g old new (suc k)) ns in
        upper-keyed g old new i (suc k) (root_level old) uppers-keep (each-left (Keyed g old) uppers (spots (suc k) 0 above-level ++ (spots k 0 old-level ++ lowers)) keyed-all) (subst P (sym s.parts.cut.level) level-keeps)

    pub new-keyed : Each (Keyed g new) (tree_turn g new)
    new-keyed =
        let P : List Spot → Type 0 = λ ss. Each (Keyed g new) ss in
        let low = turn-keyed g old new k (flat_map (children g old) old-level) lowers-keep (each-right (Keyed g old) (spots k 0 old-level) lowers keyed-one) in
        subst P (sym new-turn) (each-append (Keyed g new) uppers (spots (suc k) 0 above-level ++ (spots k 0 new-level ++ lowers)) uppers-keyed.0
        (each-append (Keyed g new) (spots (suc k) 0 above-level) (spots k 0 new-level ++ lowers) (keyed-spots g new (suc k) 0 above-level above-level-keyed)
        (each-append (Keyed g new) (spots k 0 new-level) lowers (keyed-spots g new k 0 new-level new-level-keyed) low)))

    pub new-content : tree_content g new ≡ tree_content g old
    new-content =
        content-under g new (lift i (suc k)) (s.parts.depth ∙ s.parts.cut.deep)
        ∙ ap (λ (r : ℕ). flat_map (under g new (lift i (suc k))) (r ∷ [])) s.parts.root
        ∙ same-flat g old new (lift i (suc k)) (root_level old) uppers-keyed.1
        ∙ sym (content-under g old (lift i (suc k)) s.parts.cut.deep)

    pub new-ordered : IsOrdered g new
    new-ordered = record {
      rises = let P : Pairs K → Type 0 = λ ps. Rises g.compare ps in subst P (sym new-content) ordered.rises;
      keys = new-keyed;
    }

  module _ (total : IsTotalOrder g.compare) (ordered : IsOrdered g old) (counts : HasCounts g old) where
    pub new-counts : HasCounts g new
    new-counts = record {
      records = s.records ∙ counts.records ∙ sym (ap (λ (ps : Pairs K). length ps) (new-content total ordered));
      free = s.parts.free ∙ counts.free ∙ sym new-free;
    }

    -- the whole: a sound tree with the same pairs
    pub new-sound : HasHeader g new → HasMap new → IsSound g new
    new-sound header map' = record {
      structure = record { header = header; map = map'; levels = new-levels; ends = new-ends };
      counts = new-counts;
      ordered = new-ordered total ordered;
    }

  -- ---- exact keys

  first-take : (xs : List (List ℕ)) (j : ℕ) → 0 < j → get_or (take j xs) 0 [] ≡ get_or xs 0 []
  first-take xs zero lt = absurd (omega arith)
  first-take [] (suc j) lt = refl
  first-take (x ∷ xs) (suc j) lt = refl

  first-kept : get_or (take c (records_in old n)) 0 [] ≡ get_or (records_in old n) 0 []
  first-kept = first-take (records_in old n) c s.some

  half-firsts : FirstsBelow g old new k (map g.child first-records) × FirstsBelow g old new k (map g.child second-records)
  half-firsts =
      let F : List ℕ → Type 0 = λ xs. FirstsBelow g old new k xs in
      let parts = ap (map g.child) (sym (take-append-drop c rs)) ∙ map-append g.child first-records second-records in
      firsts-left g old new k (map g.child first-records) (map g.child second-records) (subst F parts (Rattle.hfs_btree_insertion.proofs.Parted.lower-parts g old new i k p n m q (take c (records_in old n)) (drop c (records_in old n)) s.parts structure first-kept).1)

  module _ (total : IsTotalOrder g.compare) (exact : IsExact g old) where
    entry-exact : IsExactIn g old new new k s.parts.entry
    entry-exact =
        let zero-more : c + 0 ≡ c = omega arith in
        let first : first_key g new k (g.child s.parts.entry) ≡ g.index_key s.parts.entry =
        (ap (first_key g new k) s.parts.names
        ∙ first-entry g new k m
        ∙ ap (λ (xs : List (List ℕ)). entry_key g k (get_or xs 0 [])) records-second
        ∙ ap (entry_key g k) (get_or-drop c rs 0 [] ∙ ap (λ (j : ℕ). get_or rs j []) zero-more)
        ∙ sym s.keyed) in
        ap (g.compare (g.index_key s.parts.entry)) first ∙ equal-key g.compare total (g.index_key s.parts.entry)

    n-exact : AreRecordsExact g old new old k (first-records ++ second-records)
    n-exact =
        let P : List (List ℕ) → Type 0 = λ xs. AreRecordsExact g old new old k xs in
        subst P (sym (take-append-drop c rs)) (exact-of g old new old k n rs refl (each-right (AreKeysExact g old k) bn (n ∷ hn) (Rattle.hfs_btree_insertion.proofs.Parted.exact-level g old new i k p n m q (take c (records_in old n)) (drop c (records_in old n)) s.parts structure first-kept exact)).0)

    pub new-exact : IsExact g new
    new-exact =
        let first' = of-exact g old new new k n first-records records-first (records-exact g old new k first-records half-firsts.0 (exact-left g old new old k first-records second-records n-exact)) in
        let second' = of-exact g old new new k m second-records records-second (records-exact g old new k second-records half-firsts.1 (exact-right g old new old k first-records second-records n-exact)) in
        Rattle.hfs_btree_insertion.proofs.Parted.new-exact g old new i k p n m q (take c (records_in old n)) (drop c (records_in old n)) s.parts structure first-kept exact entry-exact first' second'
