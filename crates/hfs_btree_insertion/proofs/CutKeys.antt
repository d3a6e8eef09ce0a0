-- The nodes and the keys of a tree in which a node was cut.
use Rattle.std.proofs.Common.{◌≡◌, ℕ, zero, suc, List, [], ◌∷◌, ◌++◌, take, drop, get_or, refl, sym, ap, ◌∙◌, subst}
use Rattle.std.specs.Prelude.{insert}
use Rattle.hfs_btree.specs.declared.key.Key.{Ghosts}
use Rattle.hfs_fields.specs.Each.{Each}
use Rattle.hfs_fields.specs.Members.{In}
use Rattle.hfs_fields.proofs.ElementLemmas.{each-at, each-append, each-left, each-right}
use Rattle.hfs_btree.specs.Tree.{Store, Spot, records_in, key_at, spots}
use Rattle.hfs_btree.specs.Header.{tree_turn}
use Rattle.hfs_btree.specs.Sound.{IsOther, HasStructure}
use Rattle.hfs_btree_edits.specs.Stored.{HasClaimed}
use Rattle.hfs_btree_edits.proofs.LevelPartLemmas.{KeepsAt, KeepsRecords, numbers}
use Rattle.hfs_btree_edits.specs.LevelParts.{entry_key}
use Rattle.hfs_btree_edits.proofs.ApartLemmas.{each-take, each-drop}
use Rattle.hfs_btree_edits.specs.KeptKeys.{EachKey, tree_keys}
use Rattle.hfs_btree_edits.proofs.KeptKeyLemmas.{hold-keys, keys-hold}
use Rattle.hfs_btree_insertion.specs.Cut.{IsParted, IsSplit}
use Rattle.hfs_btree_insertion.specs.Growth.{NodesStay, KeysStay}
use Rattle.hfs_btree_insertion.proofs.Taken.{claimed-keep}
use Rattle.hfs_btree_insertion.proofs.Parted.{bn, hn, above-level, old-level, new-level, uppers, lowers, nodes-stay, old-turn, new-turn, records-above, records-first, records-second, keep, before-others, behind-others, left-others, uppers-keep, lowers-keep, hn-keep}

pub key-same : {K : Type 0} (g : Ghosts K) (k : ℕ) (e : List ℕ) → key_at g k e ≡ entry_key g k e
key-same g zero e = refl
key-same g (suc k) e = refl

each-insert : {X : Type 0} (P : X → Type 0) (xs : List X) (q : ℕ) (x : X) → Each P xs → P x → Each P (insert xs q x)
each-insert P xs q x h own = each-append P (take q xs) (x ∷ drop q xs) (each-take P q xs h) (own, each-drop P q xs h)

-- ---- a level

module _ {K : Type 0} (g : Ghosts K) (old new : Store) (P : K → Type 0) where
  -- the keys of a node so many levels above the leaves
  abbrev Was : ℕ → ℕ → Type 0
  Was k n = Each (λ e. P (key_at g k e)) (records_in old n)

  abbrev Is : ℕ → ℕ → Type 0
  Is k n = Each (λ e. P (key_at g k e)) (records_in new n)

  kept-at : (k n : ℕ) → KeepsRecords g old new n → Was k n → Is k n
  kept-at k n same h = let Q : List (List ℕ) → Type 0 = λ xs. Each (λ e. P (key_at g k e)) xs in subst Q (sym same) h

  kept-level : (k : ℕ) (ns : List ℕ) → Each (KeepsRecords g old new) ns → Each (Was k) ns → Each (Is k) ns
  kept-level k [] same h = tt
  kept-level k (n ∷ ns) same h = (kept-at k n same.0 h.0, kept-level k ns same.1 h.1)

  pub kept-keys : (ss : List Spot) → Each (KeepsAt g old new) ss → Each (λ (s : Spot). Was s.above s.n) ss → Each (λ (s : Spot). Is s.above s.n) ss
  kept-keys [] same h = tt
  kept-keys (s ∷ ss) same h = (kept-at s.above s.n same.0 h.0, kept-keys ss same.1 h.1)

  level-was : (k left : ℕ) (ns : List ℕ) → Each (λ (s : Spot). Was s.above s.n) (spots k left ns) → Each (Was k) ns
  level-was k left [] h = tt
  level-was k left (n ∷ ns) h = (h.0, level-was k n ns h.1)

  level-is : (k left : ℕ) (ns : List ℕ) → Each (Is k) ns → Each (λ (s : Spot). Is s.above s.n) (spots k left ns)
  level-is k left [] h = tt
  level-is k left (n ∷ ns) h = (h.0, level-is k n ns h.1)

-- ---- a level with one node more

module _ {K : Type 0} (g : Ghosts K) (old new : Store) (i k p n m q : ℕ) (us ws : List (List ℕ)) (s : IsParted g old new i k p n m q us ws) (structure : HasStructure g old) (P : K → Type 0) (h : EachKey g P old) where
  abbrev up : List Spot
  up = uppers g old new i k p n m q us ws s structure

  abbrev ab : List ℕ
  ab = above-level g old new i k p n m q us ws s structure

  abbrev lv : List ℕ
  lv = old-level g old new i k p n m q us ws s structure

  abbrev nl : List ℕ
  nl = new-level g old new i k p n m q us ws s structure

  abbrev lw : List Spot
  lw = lowers g old new i k p n m q us ws s structure

  abbrev bn' : List ℕ
  bn' = bn g old new i k p n m q us ws s structure

  abbrev hn' : List ℕ
  hn' = hn g old new i k p n m q us ws s structure

  abbrev O : Spot → Type 0
  O x = Was g old new P x.above x.n

  abbrev N : Spot → Type 0
  N x = Is g old new P x.above x.n

  parts : Each O (up ++ (spots (suc k) 0 ab ++ (spots k 0 lv ++ lw)))
  parts = let Q : List Spot → Type 0 = λ ss. Each O ss in subst Q (old-turn g old new i k p n m q us ws s structure) h

  two : Each O (spots (suc k) 0 ab ++ (spots k 0 lv ++ lw))
  two = each-right O up (spots (suc k) 0 ab ++ (spots k 0 lv ++ lw)) parts

  one : Each O (spots k 0 lv ++ lw)
  one = each-right O (spots (suc k) 0 ab) (spots k 0 lv ++ lw) two

  above-was : Each (Was g old new P (suc k)) ab
  above-was = level-was g old new P (suc k) 0 ab (each-left O (spots (suc k) 0 ab) (spots k 0 lv ++ lw) two)

  level-old : Each (Was g old new P k) (bn' ++ n ∷ hn')
  level-old = level-was g old new P k 0 lv (each-left O (spots k 0 lv) lw one)

  -- the keys of the node were such ones
  pub node-was : Each (λ e. P (key_at g k e)) (records_in old n)
  node-was = (each-right (Was g old new P k) bn' (n ∷ hn') level-old).0

  module _ (entry-is : P (g.index_key s.entry)) (first-is : Is g old new P k n) (second-is : Is g old new P k m) where
    parent-is : Is g old new P (suc k) p
    parent-is =
        let Q : List (List ℕ) → Type 0 = λ xs. Each (λ e. P (g.index_key e)) xs in
        let was = (each-right (Was g old new P (suc k)) s.cut.before (p ∷ s.cut.behind) above-was).0 in
        subst Q (sym (records-above g old new i k p n m q us ws s structure)) (each-insert (λ e. P (g.index_key e)) (records_in old p) (suc q) s.entry was entry-is)

    above-is : Each (Is g old new P (suc k)) ab
    above-is =
        let W = Was g old new P (suc k) in
        let I = Is g old new P (suc k) in
        let before = each-left W s.cut.before (p ∷ s.cut.behind) above-was in
        let behind = (each-right W s.cut.before (p ∷ s.cut.behind) above-was).1 in
        each-append I s.cut.before (p ∷ s.cut.behind)
        (kept-level g old new P (suc k) s.cut.before (keep g old new i k p n m q us ws s structure s.cut.before (before-others g old new i k p n m q us ws s structure)) before)
        (parent-is, kept-level g old new P (suc k) s.cut.behind (keep g old new i k p n m q us ws s structure s.cut.behind (behind-others g old new i k p n m q us ws s structure)) behind)

    level-new : Each (Is g old new P k) (bn' ++ n ∷ m ∷ hn')
    level-new =
        let W = Was g old new P k in
        let I = Is g old new P k in
        let before = each-left W bn' (n ∷ hn') level-old in
        let behind = (each-right W bn' (n ∷ hn') level-old).1 in
        each-append I bn' (n ∷ m ∷ hn') (kept-level g old new P k bn' (keep g old new i k p n m q us ws s structure bn' (left-others g old new i k p n m q us ws s structure)) before)
        (first-is, (second-is, kept-level g old new P k hn' (hn-keep g old new i k p n m q us ws s structure) behind))

    -- what all keys of the old tree and of the two nodes pass, those of the new one do
    pub parted-hold : EachKey g P new
    parted-hold =
        let Q : List Spot → Type 0 = λ ss. Each N ss in
        subst Q (sym (new-turn g old new i k p n m q us ws s structure))
        (each-append N up (spots (suc k) 0 ab ++ (spots k 0 nl ++ lw))
        (kept-keys g old new P up (uppers-keep g old new i k p n m q us ws s structure) (each-left O up (spots (suc k) 0 ab ++ (spots k 0 lv ++ lw)) parts))
        (each-append N (spots (suc k) 0 ab) (spots k 0 nl ++ lw) (level-is g old new P (suc k) 0 ab above-is)
        (each-append N (spots k 0 nl) lw (level-is g old new P k 0 nl level-new) (kept-keys g old new P lw (lowers-keep g old new i k p n m q us ws s structure) (each-right O (spots k 0 lv) lw one)))))

-- ---- a split

module _ {K : Type 0} (g : Ghosts K) (old new : Store) (i k p n m q c : ℕ) (s : IsSplit g old new i k p n m q c) (structure : HasStructure g old) where
  -- no node left
  pub split-stay : NodesStay g old new
  split-stay = nodes-stay g old new i k p n m q (take c (records_in old n)) (drop c (records_in old n)) s.parts structure

  -- what all keys of the old tree pass, those of the new one do
  pub split-hold : (P : K → Type 0) → EachKey g P old → EachKey g P new
  split-hold P h =
      let rs = records_in old n in
      let us = take c (records_in old n) in
      let ws = drop c (records_in old n) in
      let was = node-was g old new i k p n m q us ws s.parts structure P h in
      let Q : List (List ℕ) → Type 0 = λ xs. Each (λ e. P (key_at g k e)) xs in
      let at = each-at (λ e. P (key_at g k e)) rs c [] was s.less in
      parted-hold g old new i k p n m q us ws s.parts structure P h (subst P (sym (s.keyed ∙ sym (key-same g k (get_or (records_in old n) c [])))) at)
      (subst Q (sym (records-first g old new i k p n m q us ws s.parts structure)) (each-take (λ e. P (key_at g k e)) c rs was))
      (subst Q (sym (records-second g old new i k p n m q us ws s.parts structure)) (each-drop (λ e. P (key_at g k e)) c rs was))

  pub split-keys : KeysStay g old new
  split-keys = hold-keys g old new split-hold

-- ---- a claim

module _ {K : Type 0} (g : Ghosts K) (m : ℕ) (old mid : Store) (c : HasClaimed g m old mid) where
  pub claimed-stay : NodesStay g old mid
  claimed-stay x other =
      let P : List ℕ → Type 0 = λ xs. Each (IsOther x) xs in
      subst P (ap numbers c.turn) other

  pub claimed-hold : (P : K → Type 0) → EachKey g P old → EachKey g P mid
  claimed-hold P h =
      let Q : List Spot → Type 0 = λ ss. Each (λ (s : Spot). Is g old mid P s.above s.n) ss in
      subst Q (sym c.turn) (kept-keys g old mid P (tree_turn g old) (claimed-keep g m old mid mid c) h)

  pub claimed-keys : KeysStay g old mid
  claimed-keys = hold-keys g old mid claimed-hold

-- ---- steps that follow on each other

module _ {K : Type 0} (g : Ghosts K) (old mid new : Store) where
  pub stay-then : NodesStay g old mid → NodesStay g mid new → NodesStay g old new
  stay-then a b x other = a x (b x other)

  pub keys-then : KeysStay g old mid → KeysStay g mid new → KeysStay g old new
  keys-then a b = keys-hold g mid new b (λ k. In k (tree_keys g old)) a
