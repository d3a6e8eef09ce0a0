-- A tree with a node that is to be cut in two.
use Rattle.hfs_btree_insertion.specs.Cut.{IsCut}
use Rattle.std.proofs.Common.{◌≡◌, ℕ, suc, List, [], ◌∷◌, ◌++◌, map, take, drop, sym, ap, ◌∙◌, subst}
use Rattle.std.specs.Prelude.{Ok, Result}
use Rattle.std.specs.List.{flat_map}
use Rattle.std.proofs.lemmas.List.{map-append}
use Rattle.hfs_btree.specs.declared.node.Node.{Node}
use Rattle.hfs_btree.specs.declared.fault.NodeFault.{NodeFault}
use Rattle.hfs_btree.specs.declared.key.Key.{Ghosts}
use Rattle.hfs_fields.specs.Each.{Each}
use Rattle.hfs_fields.proofs.ElementLemmas.{each-left, each-right}
use Rattle.hfs_btree.specs.Tree.{Store, Spot, records_in, children, spots, first_of, turn}
use Rattle.hfs_btree.specs.Header.{root_level, map_nodes, own_nodes, tree_turn, tree_nodes}
use Rattle.hfs_btree.specs.Sound.{IsOther, IsDistinct, IsRight, HasStructure}
use Rattle.hfs_btree.proofs.LevelLemmas.{at-spot}
use Rattle.hfs_btree.proofs.DescentLemmas.{next-split}
use Rattle.hfs_btree_edits.proofs.LevelPartLemmas.{upper, numbers, numbers-spots, turn-split}
use Rattle.hfs_btree_edits.proofs.ApartLemmas.{apart-at, in-second, in-third, right-others}

module _ {K : Type 0} (g : Ghosts K) (old : Store) (i k p n m q : ℕ) (a : IsCut g old i k p n m q) (structure : HasStructure g old) where
  abbrev pub es : List (List ℕ)
  es = records_in old p

  -- the nodes before n in its level, and those behind it
  abbrev pub bn : List ℕ
  bn = flat_map (children g old) a.before ++ map g.child (take q es)

  abbrev pub hn : List ℕ
  hn = map g.child (drop (suc q) es) ++ flat_map (children g old) a.behind

  abbrev pub above-level : List ℕ
  above-level = a.before ++ p ∷ a.behind

  abbrev pub old-level : List ℕ
  old-level = bn ++ n ∷ hn

  abbrev pub new-level : List ℕ
  new-level = bn ++ n ∷ m ∷ hn

  -- the levels above and below these
  abbrev pub uppers : List Spot
  uppers = upper g old i (suc k) (root_level old)

  abbrev pub lowers : List Spot
  lowers = turn g old k (flat_map (children g old) old-level)

  -- ---- the old tree

  pub old-below : flat_map (children g old) above-level ≡ old-level
  old-below = next-split g old a.before p a.behind q a.within ∙ ap (λ (x : ℕ). bn ++ x ∷ hn) (sym a.child)

  pub old-turn : tree_turn g old ≡ uppers ++ (spots (suc k) 0 above-level ++ (spots k 0 old-level ++ lowers))
  old-turn =
      ap (λ (d : ℕ). turn g old d (root_level old)) a.deep
      ∙ turn-split g old i (suc k) (root_level old)
      ∙ ap (λ (ns : List ℕ). uppers ++ turn g old (suc (suc k)) ns) a.level
      ∙ ap (λ (ns : List ℕ). uppers ++ (spots (suc k) 0 above-level ++ (spots k 0 ns ++ turn g old k (flat_map (children g old) ns)))) old-below

  pub numbers-of : (ns : List ℕ) → numbers (uppers ++ (spots (suc k) 0 above-level ++ (spots k 0 ns ++ lowers))) ≡ numbers uppers ++ (above-level ++ (ns ++ numbers lowers))
  numbers-of ns =
      map-append (λ (x : Spot). x.n) uppers (spots (suc k) 0 above-level ++ (spots k 0 ns ++ lowers))
      ∙ ap (λ (xs : List ℕ). numbers uppers ++ xs)
      (map-append (λ (x : Spot). x.n) (spots (suc k) 0 above-level) (spots k 0 ns ++ lowers)
      ∙ ap (λ (xs : List ℕ). xs ++ numbers (spots k 0 ns ++ lowers)) (numbers-spots (suc k) 0 above-level)
      ∙ ap (λ (xs : List ℕ). above-level ++ xs) (map-append (λ (x : Spot). x.n) (spots k 0 ns) lowers ∙ ap (λ (xs : List ℕ). xs ++ numbers lowers) (numbers-spots k 0 ns)))

  -- all nodes of the old tree, its header and map nodes first
  abbrev pub all : List ℕ
  all = own_nodes old ++ (numbers uppers ++ (above-level ++ (old-level ++ numbers lowers)))

  pub all-is : own_nodes old ++ tree_nodes g old ≡ all
  all-is = ap (λ (xs : List ℕ). own_nodes old ++ xs) (ap numbers old-turn ∙ numbers-of old-level)

  pub distinct : IsDistinct all
  distinct = let P : List ℕ → Type 0 = λ xs. IsDistinct xs in subst P all-is structure.levels.different

  -- ---- what n is linked to

  pub levels-right : Each (IsRight g old) (uppers ++ (spots (suc k) 0 above-level ++ (spots k 0 old-level ++ lowers)))
  levels-right = let P : List Spot → Type 0 = λ ss. Each (IsRight g old) ss in subst P old-turn structure.levels.each

  pub right-uppers : Each (IsRight g old) uppers
  right-uppers = each-left (IsRight g old) uppers (spots (suc k) 0 above-level ++ (spots k 0 old-level ++ lowers)) levels-right

  pub right-two : Each (IsRight g old) (spots (suc k) 0 above-level ++ (spots k 0 old-level ++ lowers))
  right-two = each-right (IsRight g old) uppers (spots (suc k) 0 above-level ++ (spots k 0 old-level ++ lowers)) levels-right

  pub right-above : Each (IsRight g old) (spots (suc k) 0 above-level)
  right-above = each-left (IsRight g old) (spots (suc k) 0 above-level) (spots k 0 old-level ++ lowers) right-two

  pub right-one : Each (IsRight g old) (spots k 0 old-level ++ lowers)
  right-one = each-right (IsRight g old) (spots (suc k) 0 above-level) (spots k 0 old-level ++ lowers) right-two

  pub right-level : Each (IsRight g old) (spots k 0 old-level)
  right-level = each-left (IsRight g old) (spots k 0 old-level) lowers right-one

  pub right-lowers : Each (IsRight g old) lowers
  right-lowers = each-right (IsRight g old) (spots k 0 old-level) lowers right-one

  pub node-spot : (l : ℕ) × IsRight g old (record { left = l; n = n; right = first_of hn; above = k })
  node-spot = at-spot (IsRight g old) k 0 bn n hn right-level

  abbrev pub ok_of : Node → Result Node NodeFault
  ok_of v = Ok v

  pub same-value : (v w : Node) → ok_of v ≡ ok_of w → v ≡ w
  same-value v w e = cc

  pub forward-is : a.node.forward ≡ first_of hn
  forward-is = ap (λ (v : Node). v.forward) (same-value a.node node-spot.1.value (sym a.was_node ∙ node-spot.1.decodes)) ∙ node-spot.1.right

  -- ---- which nodes have changed

  -- numbers that are none of the nodes that changed
  pub record AreOthers (xs : List ℕ) : Type 0 where
    pub zero' : Each (IsOther 0) xs
    pub above : Each (IsOther p) xs
    pub first : Each (IsOther n) xs
    pub second : Each (IsOther m) xs
    pub right : Each (IsOther (first_of hn)) xs

  abbrev pub rest-list : List ℕ
  rest-list = numbers uppers ++ (above-level ++ (old-level ++ numbers lowers))

  pub zero-others : Each (IsOther 0) rest-list
  zero-others = each-right (IsOther 0) (map_nodes old) rest-list distinct.0

  pub p-others : Each (IsOther p) (own_nodes old ++ (numbers uppers ++ a.before)) × Each (IsOther p) (a.behind ++ (old-level ++ numbers lowers))
  p-others =
      let P : List ℕ → Type 0 = λ xs. IsDistinct xs in
      apart-at (own_nodes old ++ (numbers uppers ++ a.before)) (a.behind ++ (old-level ++ numbers lowers)) p
      (subst P (in-second (own_nodes old) (numbers uppers) a.before a.behind (old-level ++ numbers lowers) p) distinct)

  pub n-others : Each (IsOther n) (own_nodes old ++ (numbers uppers ++ (above-level ++ bn))) × Each (IsOther n) (hn ++ numbers lowers)
  n-others =
      let P : List ℕ → Type 0 = λ xs. IsDistinct xs in
      apart-at (own_nodes old ++ (numbers uppers ++ (above-level ++ bn))) (hn ++ numbers lowers) n
      (subst P (in-third (own_nodes old) (numbers uppers) above-level bn hn (numbers lowers) n) distinct)

  pub m-others : Each (IsOther m) all
  m-others = let P : List ℕ → Type 0 = λ xs. Each (IsOther m) xs in subst P all-is a.stray.other

  pub r-others : Each (IsOther (first_of hn)) (numbers uppers ++ (above-level ++ bn)) × Each (IsOther (first_of hn)) (drop 1 hn ++ numbers lowers)
  r-others = right-others (own_nodes old) (numbers uppers) above-level bn hn (numbers lowers) n distinct zero-others

  -- a part of each list of others
  pub uppers-others : AreOthers (numbers uppers)
  uppers-others = record {
    zero' = each-left (IsOther 0) (numbers uppers) _ zero-others;
    above = each-left (IsOther p) (numbers uppers) a.before (each-right (IsOther p) (own_nodes old) _ p-others.0);
    first = each-left (IsOther n) (numbers uppers) _ (each-right (IsOther n) (own_nodes old) _ n-others.0);
    second = each-left (IsOther m) (numbers uppers) _ (each-right (IsOther m) (own_nodes old) _ m-others);
    right = each-left (IsOther (first_of hn)) (numbers uppers) _ r-others.0;
  }

  pub zero-above : Each (IsOther 0) above-level × Each (IsOther 0) old-level × Each (IsOther 0) (numbers lowers)
  zero-above =
      let two = each-right (IsOther 0) (numbers uppers) (above-level ++ (old-level ++ numbers lowers)) zero-others in
      let one = each-right (IsOther 0) above-level (old-level ++ numbers lowers) two in
      (each-left (IsOther 0) above-level (old-level ++ numbers lowers) two, each-left (IsOther 0) old-level (numbers lowers) one, each-right (IsOther 0) old-level (numbers lowers) one)

  pub n-above : Each (IsOther n) above-level × Each (IsOther n) bn
  n-above =
      let two = each-right (IsOther n) (numbers uppers) (above-level ++ bn) (each-right (IsOther n) (own_nodes old) (numbers uppers ++ (above-level ++ bn)) n-others.0) in
      (each-left (IsOther n) above-level bn two, each-right (IsOther n) above-level bn two)

  pub r-above : Each (IsOther (first_of hn)) above-level × Each (IsOther (first_of hn)) bn
  r-above =
      let two = each-right (IsOther (first_of hn)) (numbers uppers) (above-level ++ bn) r-others.0 in
      (each-left (IsOther (first_of hn)) above-level bn two, each-right (IsOther (first_of hn)) above-level bn two)

  pub m-above : Each (IsOther m) above-level × Each (IsOther m) old-level × Each (IsOther m) (numbers lowers)
  m-above =
      let two = each-right (IsOther m) (numbers uppers) (above-level ++ (old-level ++ numbers lowers)) (each-right (IsOther m) (own_nodes old) rest-list m-others) in
      let one = each-right (IsOther m) above-level (old-level ++ numbers lowers) two in
      (each-left (IsOther m) above-level (old-level ++ numbers lowers) two, each-left (IsOther m) old-level (numbers lowers) one, each-right (IsOther m) old-level (numbers lowers) one)

  pub p-level : Each (IsOther p) old-level × Each (IsOther p) (numbers lowers)
  p-level =
      let one = each-right (IsOther p) a.behind (old-level ++ numbers lowers) p-others.1 in
      (each-left (IsOther p) old-level (numbers lowers) one, each-right (IsOther p) old-level (numbers lowers) one)

  pub before-others : AreOthers a.before
  before-others = record {
    zero' = each-left (IsOther 0) a.before (p ∷ a.behind) zero-above.0;
    above = each-right (IsOther p) (numbers uppers) a.before (each-right (IsOther p) (own_nodes old) (numbers uppers ++ a.before) p-others.0);
    first = each-left (IsOther n) a.before (p ∷ a.behind) n-above.0;
    second = each-left (IsOther m) a.before (p ∷ a.behind) m-above.0;
    right = each-left (IsOther (first_of hn)) a.before (p ∷ a.behind) r-above.0;
  }

  pub behind-others : AreOthers a.behind
  behind-others = record {
    zero' = (each-right (IsOther 0) a.before (p ∷ a.behind) zero-above.0).1;
    above = each-left (IsOther p) a.behind (old-level ++ numbers lowers) p-others.1;
    first = (each-right (IsOther n) a.before (p ∷ a.behind) n-above.0).1;
    second = (each-right (IsOther m) a.before (p ∷ a.behind) m-above.0).1;
    right = (each-right (IsOther (first_of hn)) a.before (p ∷ a.behind) r-above.0).1;
  }

  pub left-others : AreOthers bn
  left-others = record {
    zero' = each-left (IsOther 0) bn (n ∷ hn) zero-above.1;
    above = each-left (IsOther p) bn (n ∷ hn) p-level.0;
    first = n-above.1;
    second = each-left (IsOther m) bn (n ∷ hn) m-above.1;
    right = r-above.1;
  }

  pub each-tail : (P : ℕ → Type 0) (xs : List ℕ) → Each P xs → Each P (drop 1 xs)
  each-tail P [] h = tt
  each-tail P (x ∷ xs) h = h.1

  -- but for the node that follows n
  pub tail-others : AreOthers (drop 1 hn)
  tail-others = record {
    zero' = each-tail (IsOther 0) hn (each-right (IsOther 0) bn (n ∷ hn) zero-above.1).1;
    above = each-tail (IsOther p) hn (each-right (IsOther p) bn (n ∷ hn) p-level.0).1;
    first = each-tail (IsOther n) hn (each-left (IsOther n) hn (numbers lowers) n-others.1);
    second = each-tail (IsOther m) hn (each-right (IsOther m) bn (n ∷ hn) m-above.1).1;
    right = each-left (IsOther (first_of hn)) (drop 1 hn) (numbers lowers) r-others.1;
  }

  pub lowers-others : AreOthers (numbers lowers)
  lowers-others = record {
    zero' = zero-above.2;
    above = p-level.1;
    first = each-right (IsOther n) hn (numbers lowers) n-others.1;
    second = m-above.2;
    right = each-right (IsOther (first_of hn)) (drop 1 hn) (numbers lowers) r-others.1;
  }
