-- A cut, from the calls that do it.
use Rattle.std.proofs.Common.{◌≡◌, ◌≢◌, ℕ, suc, ◌+◌, ◌<◌, ◌≤◌, List, [], length, get_or, nat_eq, sym, ap, ◌∙◌, subst, arith, eqb-true}
use Rattle.std.specs.Prelude.{true, false, All, Ok, Result, insert}
use Rattle.std.specs.Cmp.{IsTotalOrder}
use Rattle.std.proofs.lemmas.Bool.{eq-eqb}
use Rattle.hfs_btree.specs.declared.node.Node.{Node}
use Rattle.hfs_btree.specs.declared.fault.NodeFault.{NodeFault}
use Rattle.hfs_btree.proofs.DecodingLemmas.{node_of-fits}
use Rattle.hfs_btree.proofs.ReadBackLemmas.{few-records}
use Rattle.hfs_btree.specs.declared.key.Key.{Ghosts}
use Rattle.hfs_fields.specs.Each.{Each}
use Rattle.hfs_fields.proofs.ElementLemmas.{each-at}
use Rattle.hfs_btree.specs.Tree.{Store, node_in, records_in, records_of, reads_at, forward_of, first_of}
use Rattle.hfs_btree.specs.Sound.{IsRight, IsSound, IsStray}
use Rattle.hfs_btree.proofs.DescentLemmas.{IsOnWay, way-node, index-entries}
use Rattle.hfs_btree_edits.specs.Stored.{Decodes, IsLink, HasStored}
use Rattle.hfs_btree_edits.proofs.DecodesLemmas.{decodes-as, decodes-same, decodes-stored}
use Rattle.hfs_btree_insertion.specs.Stored.{HasRecordPut}
use Rattle.hfs_btree_insertion.specs.Cut.{IsBranch, child_at, IsRoomyCut, HasCutAt}
use Rattle.hfs_btree_insertion.specs.Halves.{NamesHalf, HasHalved}
use Rattle.hfs_btree_insertion.proofs.SplitWrites.{p-n}
use Rattle.hfs_btree_insertion.proofs.Cutting.{all-short, cut, cut-done, parent-way, child-way, child-within, right-link}

module _ {K : Type 0} (g : Ghosts K) (old : Store) (sound : IsSound g old) (k p q : ℕ) (b : IsBranch g old k p q) where
  abbrev nn : ℕ
  nn = child_at g old p q

  abbrev way : IsOnWay g old k nn
  way = child-way g old sound k p q b

  abbrev spot : (l : ℕ) × IsRight g old (record { left = l; n = nn; right = first_of way.behind; above = k })
  spot = way-node g old k nn way

  abbrev up : IsOnWay g old (suc k) p
  up = parent-way g old sound k p q b

  abbrev up-spot : (l : ℕ) × IsRight g old (record { left = l; n = p; right = first_of up.behind; above = suc k })
  up-spot = way-node g old (suc k) p up

  -- ---- what is read

  pub index-there : g.is_index (get_or (records_in old p) q []) ≡ true
  index-there = each-at (λ e. g.is_index e ≡ true) (records_in old p) q [] (index-entries g old (suc k) p (omega arith) up) b.within

  pub place-small : q ≤ 247
  unfolding node_in
  place-small =
      let fits = node_of-fits (get_or old p []) up-spot.1.value up-spot.1.decodes in
      let few = few-records up-spot.1.value.records fits in
      let same = ap (λ (r : Result Node NodeFault). length (records_of r)) up-spot.1.decodes in
      let lt = b.within in
      omega (arith, few, same, lt)

  pub parent-decodes : Decodes old p
  parent-decodes = decodes-as old p up-spot.1.value up-spot.1.decodes

  child-reads : Each (λ e. reads_at g k e ≡ true) (records_in old nn)
  child-reads = let P : Result Node NodeFault → Type 0 = λ r. Each (λ e. reads_at g k e ≡ true) (records_of r) in subst P (sym spot.1.decodes) spot.1.whole

  module _ (n : ℕ) (is : n ≡ nn) where
    pub child-there : n < length old
    child-there = let P : ℕ → Type 0 = λ x. x < length old in subst P (sym is) (child-within g old sound k p q b)

    pub child-short : ((e : List ℕ) → g.is_leaf e ≡ true → length e ≤ 140) → ((e : List ℕ) → g.is_index e ≡ true → length e ≤ 42) → All (λ e. length e ≤ 140) (records_in old n)
    child-short leaf index =
        let P : ℕ → Type 0 = λ x. All (λ e. length e ≤ 140) (records_in old x) in
        subst P (sym is) (all-short g leaf index k (records_in old nn) child-reads)

    pub child-each : Each (λ e. reads_at g k e ≡ true) (records_in old n)
    child-each = let P : ℕ → Type 0 = λ x. Each (λ e. reads_at g k e ≡ true) (records_in old x) in subst P (sym is) child-reads

    pub child-entry : (c : ℕ) → c < length (records_in old n) → reads_at g k (get_or (records_in old n) c []) ≡ true
    child-entry c lt =
        let P : ℕ → Type 0 = λ x. c < length (records_in old x) → reads_at g k (get_or (records_in old x) c []) ≡ true in
        subst P (sym is) (λ less. each-at (λ e. reads_at g k e ≡ true) (records_in old nn) c [] child-reads less) lt

  -- ---- the writes

  module _ (n : ℕ) (is : n ≡ nn) (m : ℕ) (stray : IsStray g old m) (entry : List ℕ) (x : Store) (put : HasRecordPut p (q + 1) entry old x) where
    other-parent : p ≢ nn
    other-parent = p-n g old b.i k p nn m q (cut g old sound k p q b put.node spot.1.value put.was spot.1.decodes m stray) sound.structure

    same-child : node_in x nn ≡ node_in old nn
    same-child = put.stored.rest nn (λ e. other-parent (sym e))

    pub first-ready : (n ≢ 0) × Decodes x n
    first-ready =
        let low = spot.1.within.0 in
        let P : ℕ → Type 0 = λ j. Decodes x j in
        (λ e. let z : nn ≡ 0 = sym is ∙ e in absurd (omega (arith, low, z)), subst P (sym is) (decodes-same old x nn same-child (decodes-as old nn spot.1.value spot.1.decodes)))

    pub right-ready : IsLink x (forward_of (node_in x n))
    right-ready =
        let same = ap (λ (j : ℕ). forward_of (node_in x j)) is ∙ ap forward_of same-child ∙ ap forward_of spot.1.decodes in
        let P : ℕ → Type 0 = λ j. IsLink x j in
        subst P (sym same) (λ some. decodes-stored p spot.1.value.forward _ old x put.stored (right-link g old sound k p q b spot.1.value spot.1.decodes some))

    -- the leaves are the level with none below it
    bottom : nat_eq k 0 ≡ true → k ≡ 0
    bottom e = eqb-true k 0 e

    upper : nat_eq k 0 ≡ false → k ≢ 0
    upper e z = let yes : nat_eq k 0 ≡ true = eq-eqb k 0 z in let both : true ≡ false = sym yes ∙ e in cc

    module _ (c : ℕ) (some : 0 < c) (less : c < length (records_in old n)) where
      less-child : c < length (records_in old nn)
      less-child = let P : ℕ → Type 0 = λ j. c < length (records_in old j) in subst P is less

      pub place-ready : c ≤ length (records_in x n)
      place-ready =
          let same = ap (λ (j : ℕ). length (records_in x j)) is in
          let kept = ap (λ (r : Result Node NodeFault). length (records_of r)) same-child in
          let lt = less-child in
          omega (arith, same, kept, lt)

      pub cut-by : (w : Store) (key : K) (len : ℕ) → IsTotalOrder g.compare → NamesHalf g old n c k m entry → HasHalved n m c (nat_eq k 0) x w → IsRoomyCut g old key k n c len
          → HasCutAt g key len old w k p q m
      cut-by w key len total names' halved room' =
          let names = subst (λ j. NamesHalf g old j c k m entry) is names' in
          let h = subst (λ j. HasHalved j m c (nat_eq k 0) x w) is halved in
          let room = subst (λ j. IsRoomyCut g old key k j c len) is room' in
          let was : node_in old nn ≡ Ok h.node = sym same-child ∙ h.was in
          let one : q + 1 ≡ suc q = omega arith in
          let S : ℕ → Type 0 = λ j. HasStored p (record put.node { records = insert put.node.records j entry }) old x in
          cut-done g old sound k p q b put.node h.node put.was was m stray c some less-child entry (record { index = names.index; names = names.names }) names.keyed x h.cut h.both (subst S one put.stored) h.first h.second w
          (nat_eq k 0) key len total bottom upper h.linked room
