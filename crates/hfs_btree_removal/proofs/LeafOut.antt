-- A pair that is taken out of a leaf that keeps others.
use Rattle.std.proofs.Common.{◌≡◌, ◌≢◌, ℕ, zero, suc, ◌+◌, ◌<◌, ◌≤◌, List, [], ◌∷◌, ◌++◌, length, map, get_or, take, drop, refl, sym, ap, ◌∙◌, subst, arith, length-append}
use Rattle.std.specs.Prelude.{Ok, remove, Option, Some, None}
use Rattle.std.specs.List.{flat_map}
use Rattle.std.specs.Cmp.{IsTotalOrder}
use Rattle.std.specs.declared.cmp.Ordering.TheVariants.{Less, Equal}
use Rattle.hfs_btree.specs.declared.node.Node.{Node}
use Rattle.hfs_btree.specs.declared.kind.NodeKind.TheVariants.{Leaf}
use Rattle.hfs_btree_removal.specs.declared.down.Step.{Step}
use Rattle.hfs_btree.specs.declared.header.Header.{Header}
use Rattle.hfs_btree.specs.declared.key.Key.{Ghosts}
use Rattle.hfs_btree.specs.Pairs.{Pairs, Rises}
use Rattle.hfs_fields.specs.Each.{Each}
use Rattle.hfs_fields.specs.Members.{In}
use Rattle.hfs_btree_edits.specs.Stored.{bytes_in}
use Rattle.hfs_fields.proofs.ElementLemmas.{each-left, each-right, each-unmap}
use Rattle.hfs_btree.specs.Tree.{Store, Spot, node_in, records_in, records_of, pair_of, pairs, first_of, last_level, under}
use Rattle.hfs_btree.specs.Header.{header_in, depth_of, root_level, leaves, own_nodes, tree_turn, tree_nodes}
use Rattle.hfs_btree.specs.Sound.{IsOther, IsRight, IsSound, IsExact, HasStructure, first_key}
use Rattle.hfs_btree_removal.proofs.RemovalLemmas.{HasTold}
use Rattle.hfs_btree_removal.specs.Removal.{IsPassedUp, HasTakenOut, HasDetached, HasRecordTaken, IsNewFirst, AreSettable, IsWayBelow, fewer, last_left, last_right}
use Rattle.hfs_btree_edits.proofs.StoredLemmas.{HasNewHeader, IsRecounted}
use Rattle.hfs_btree_removal.specs.Ways.{IsWayTo}
use Rattle.hfs_btree_removal.proofs.DetachedOrder.{level-lift}
use Rattle.hfs_btree_edits.proofs.EditedLemmas.{IsEdited}
use Rattle.hfs_btree_removal.proofs.ExactBut.{IsExactBut, exact-for}
use Rattle.hfs_btree_removal.proofs.Firsts.{at-level, leaf-rises}
use Rattle.hfs_btree_removal.proofs.HeadPut.{head-put, put-fields}
use Rattle.hfs_btree_edits.specs.LevelParts.{lift}
use Rattle.hfs_btree_edits.proofs.LevelPartLemmas.{upper}
use Rattle.hfs_btree_removal.proofs.Links.{IsKept}
use Rattle.hfs_btree_removal.proofs.Overs.{in-map, leaf-second}
use Rattle.hfs_btree_removal.proofs.Passed.{high}
use Rattle.hfs_btree_removal.proofs.Removed.{taken-exact}
use Rattle.hfs_btree_removal.proofs.RemovedRest.{leaf-keeps, leaf-gains, leaf-content, leaf-depth}
use Rattle.hfs_btree_removal.proofs.TakenLeaf.{gone, taken-height, taken-free, taken-turn, taken-header, taken-structure, taken-sound, was-content}
use Rattle.hfs_btree_removal.proofs.WayOut.{parts, deep-by, at, within, many, equal-final, settable3, told4, exact4, first-stays}
use Rattle.hfs_btree_removal.proofs.Ends.{CanTake, can-take, same-value, upper-other, upper-right}

module _ {K : Type 0} (g : Ghosts K) (total : IsTotalOrder g.compare) (old : Store) (sound : IsSound g old) (above : List Step) (p : Step) (w : IsWayBelow g old above p []) where
  abbrev i : ℕ
  i = high above zero

  deep : depth_of old ≡ suc (lift i zero)
  deep = deep-by g old above p [] w zero refl

  abbrev b : List ℕ
  b = (at g old above p [] w).before

  abbrev h : List ℕ
  h = (at g old above p [] w).behind

  split : leaves g old ≡ b ++ p.node ∷ h
  split = ap (λ (d : ℕ). last_level g old d (root_level old)) deep ∙ level-lift g old i zero (root_level old) ∙ (at g old above p [] w).split

  spot : (l : ℕ) × IsRight g old (record { left = l; n = p.node; right = first_of h; above = zero })
  spot = at-level g old i zero deep b p.node h (at g old above p [] w).split (IsRight g old) sound.structure.levels.each

  pub leaf-take : (one : Store) → old ≡ one → CanTake g one p
  leaf-take one e = can-take g old one p (parts g old above p [] w).1 w.more (ap (λ (s : Store). node_in s p.node) (sym e)) spot.0 (first_of h) zero spot.1

  module _ (three : Store) (changed : Option K) (d : HasDetached g p [] old three changed) where
    taken : HasRecordTaken p.node p.place old d.two
    taken = let P : Store → Type 0 = λ s. HasRecordTaken p.node p.place s d.two in subst P (sym d.links) d.taken

    abbrev v : Node
    v = taken.value

    abbrev two : Store
    two = d.two

    same-es : records_in old p.node ≡ v.records
    same-es = ap records_of taken.was

    lt : p.place < length v.records
    lt = let P : List (List ℕ) → Type 0 = λ rs. p.place < length rs in subst P same-es (within g old above p [] w)

    more : 2 ≤ length v.records
    more = let P : List (List ℕ) → Type 0 = λ rs. 2 ≤ length rs in subst P same-es (many g old above p [] w)

    edit : IsEdited old two p.node v (remove v.records p.place)
    edit = record { was = taken.was; is = taken.stored.here; others = taken.stored.rest; len = taken.stored.len }

    abbrev x : K × List ℕ
    x = gone g total old two sound b p.node h split v p.place lt more edit

    abbrev head : Header
    head = fewer (header_in old) (last_left old []) (last_right old []) (length {A = Step} [])

    two-structure : HasStructure g two
    two-structure = taken-structure g total old two sound b p.node h split v p.place lt more edit

    two-header : header_in two ≡ header_in old
    two-header = taken-header g total old two sound b p.node h split v p.place lt more edit

    head3 : header_in three ≡ head
    head3 = put-fields g two three two-structure head d.put

    field-of : {A : Type 0} (f : Header → A) → f head ≡ f (header_in old) → f (header_in three) ≡ f (header_in two)
    field-of f e = ap f head3 ∙ e ∙ sym (ap f two-header)

    new-head : HasNewHeader g two three
    new-head =
        head-put g two three two-structure head d.put (ap (λ (y : Header). y.nodes) (sym two-header)) (ap (λ (y : Header). y.node_size) (sym two-header)) (ap (λ (y : Header). y.key_len) (sym two-header))
        (let e = ap (λ (y : Header). y.depth) two-header in omega arith)

    recount : IsRecounted g two three
    recount = record {
      head = new-head;
      depth = field-of (λ y. y.depth) refl;
      root = field-of (λ y. y.root) refl;
      first = field-of (λ y. y.first_leaf) refl;
      last = field-of (λ y. y.last_leaf) refl;
      rest = d.put.stored.rest;
    }

    some-records : 1 ≤ (header_in old).records
    some-records =
        let a = sound.counts.records in
        let all = was-content g total old two sound b p.node h split v p.place lt more edit in
        let e = ap (λ (ps : Pairs K). length ps) all in
        omega (
          arith,
          a,
          e,
          length-append (flat_map (pairs g old) b ++ map (pair_of g) (take p.place v.records)) (x ∷ (map (pair_of g) (drop (suc p.place) v.records) ++ flat_map (pairs g old) h)),
        )

    records3 : (header_in three).records + 1 ≡ (header_in two).records
    records3 = let e = ap (λ (y : Header). y.records) head3 in let f = ap (λ (y : Header). y.records) two-header in let a = some-records in omega arith

    free3 : (header_in three).free_nodes ≡ (header_in two).free_nodes
    free3 = field-of (λ y. y.free_nodes) refl

    pub leaf-sound : IsSound g three
    leaf-sound = taken-sound g total old two sound b p.node h split v p.place lt more edit three recount records3 free3

    depth3 : depth_of three ≡ depth_of old
    depth3 = ap (λ (y : Header). y.depth) head3

    root3 : (header_in three).root ≡ (header_in old).root
    root3 = ap (λ (y : Header). y.root) head3

    kept-of : (us : List Spot) → Each (λ (s : Spot). s.n ≢ p.node) us → Each (IsRight g old) us → Each (λ (s : Spot). IsKept old three s.n) us
    kept-of [] a r = tt
    kept-of (u ∷ us) a r = (
      d.put.stored.rest u.n (λ e. absurd (let some = r.0.within.0 in omega arith)) ∙ taken.stored.rest u.n a.0,
      kept-of us a.1 r.1,
    )

    uppers : Each (λ (s : Spot). IsKept old three s.n) (upper g old i zero (root_level old))
    uppers =
        kept-of (upper g old i zero (root_level old)) (upper-other g old sound.structure i zero deep b p.node h (at g old above p [] w).split)
        (upper-right g old sound.structure i zero deep b p.node h (at g old above p [] w).split)

    pub leaf-settable : AreSettable g three above
    leaf-settable = settable3 g old above p [] w total sound zero deep three leaf-sound depth3 root3 uppers

    -- ---- the key that is told

    in-x : In x (under g old zero p.node)
    in-x =
        let P : List (List ℕ) → Type 0 = λ rs. In x (map (pair_of g) rs) in
        subst P (sym same-es) (in-map (pair_of g) v.records p.place [] lt)

    is-leaf : v.kind ≡ Leaf
    is-leaf = ap (λ (y : Node). y.kind) (sym (same-value spot.1.value v (node_in old p.node) spot.1.decodes taken.was)) ∙ spot.1.kind

    rising : Rises g.compare (map (pair_of g) v.records)
    rising =
        let P : List (List ℕ) → Type 0 = λ rs. Rises g.compare (map (pair_of g) rs) in
        subst P same-es (leaf-rises g total old sound i deep b p.node h (at g old above p [] w).split)

    three-p : node_in three p.node ≡ node_in two p.node
    three-p = d.put.stored.rest p.node (λ e. absurd (let some = spot.1.within.0 in omega arith))

    exact-for-leaf : (X : ℕ → Type 0) → (X p.node → get_or (remove v.records p.place) 0 [] ≡ get_or v.records 0 []) → IsExact g old → Rattle.hfs_btree_removal.proofs.ExactBut.IsExactFor g three X
    exact-for-leaf X first e =
        taken-exact g old two three p.node v (remove v.records p.place) edit (taken-height g total old two sound b p.node h split v p.place lt more edit)
        (taken-turn g total old two sound b p.node h split v p.place lt more edit) recount two-structure sound.structure.levels.each e X first

    module _ (t : K) (is : changed ≡ Some t) where
      told-key : (p.place ≡ 0) × ((u : Node) → node_in two p.node ≡ Ok u → (u.kind ≡ Leaf → t ≡ g.leaf_key (get_or u.records 0 [])) × (u.kind ≢ Leaf → t ≡ g.index_key (get_or u.records 0 [])))
      told-key = let P : Option K → Type 0 = λ o. IsNewFirst g p two o in subst P is d.first

      key-is : t ≡ g.leaf_key (get_or (remove v.records p.place) 0 [])
      key-is = (told-key.1 (record v { records = remove v.records p.place }) taken.stored.here).0 is-leaf

      first-key : t ≡ first_key g three zero p.node
      first-key = key-is ∙ sym (ap (λ r. g.leaf_key (get_or (records_of r) 0 [])) (three-p ∙ taken.stored.here))

      past : g.compare x.0 t ≡ Less
      past =
          let P : ℕ → Type 0 = λ q. g.compare (g.leaf_key (get_or v.records q [])) (g.leaf_key (get_or (remove v.records q) 0 [])) ≡ Less in
          let Q : K → Type 0 = λ y. g.compare x.0 y ≡ Less in
          subst Q (sym key-is) (subst P (sym told-key.0) (leaf-second g v.records rising more))

      module _ (four : Store) (up : IsPassedUp g t above three four) where
        pub leaf-told : HasTold g three four
        leaf-told = told4 g old above p [] w total sound zero deep three leaf-sound depth3 root3 uppers x in-x t past first-key four up

        pub leaf-exact : IsExact g old → IsExact g four
        leaf-exact e =
            exact4 g old above p [] w total sound zero deep three leaf-sound depth3 root3 uppers x in-x t past first-key four up (exact-for-leaf (λ n. n ≢ p.node) (λ ne. absurd (ne refl)) e)

    pub leaf-same : changed ≡ None → IsExact g old → IsExact g three
    leaf-same is e =
        let P : Option K → Type 0 = λ o. IsNewFirst g p two o in
        let later : 0 < p.place = subst P is d.first in
        exact-for g three (λ n. Unit {0}) (λ n. tt) (exact-for-leaf (λ n. Unit {0}) (λ u. first-stays v.records p.place later) e)

    -- beside header node and levels nothing was written
    beside : (m : ℕ) → Each (IsOther m) (own_nodes old ++ tree_nodes g old) → bytes_in three m ≡ bytes_in old m
    beside m o =
        let own = each-left (IsOther m) (own_nodes old) (tree_nodes g old) o in
        let levels = each-unmap (IsOther m) (λ (s : Spot). s.n) (tree_turn g old) (each-right (IsOther m) (own_nodes old) (tree_nodes g old) o) in
        let at-p = at-level g old i zero deep b p.node h (at g old above p [] w).split (λ (s : Spot). IsOther m s.n) levels in
        d.put.stored.bytes m (λ e. own.0 (sym e)) ∙ taken.stored.bytes m (λ e. at-p.1 (sym e))

    -- ---- all of it

    module _ (four : Store) (told : HasTold g three four) (exact : IsExact g old → IsExact g four) where
      equal : (t : K) → IsWayTo g old t (above ++ p ∷ []) → g.compare t x.0 ≡ Equal
      equal t way =
          let P : List (List ℕ) → Type 0 = λ rs. g.compare t (g.leaf_key (get_or rs p.place [])) ≡ Equal in
          subst P same-es (equal-final g old above p [] w t way)

      pub leaf-out : HasTakenOut g (above ++ p ∷ []) old four
      leaf-out =
          let keeps = leaf-keeps g total old two three four sound b p.node h split v p.place lt more edit recount records3 free3 d.put.stored.len told exact in
          record {
            keeps = keeps;
            gains = leaf-gains g total old two three four sound b p.node h split v p.place lt more edit recount records3 free3 d.put.stored.len told exact beside;
            content = λ t way. leaf-content g total old two three four sound b p.node h split v p.place lt more edit recount records3 free3 d.put.stored.len told exact t (equal t way);
            depth = (let e = leaf-depth g total old two three four sound b p.node h split v p.place lt more edit recount records3 free3 d.put.stored.len told exact in omega arith);
            free = (let a = told.free in let e = Rattle.hfs_btree_edits.proofs.HeadedLemmas.free-is g two three new-head in let f = taken-free g total old two sound b p.node h split v p.place lt more edit in omega arith);
          }
