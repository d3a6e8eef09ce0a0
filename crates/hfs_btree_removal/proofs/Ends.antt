-- The ends of a level of which a node has left; and what a record that is to be taken out asks.
use Rattle.std.proofs.Common.{◌≡◌, ◌≢◌, ℕ, zero, suc, ◌+◌, ◌<◌, ◌≤◌, true, List, [], ◌∷◌, ◌++◌, length, map, get_or, set, refl, sym, ap, ◌∙◌, subst, arith}
use Rattle.std.specs.Prelude.{Ok, Result, ◌==◌, if◌then◌else◌}
use Rattle.std.proofs.lemmas.Bool.{cond-false, ne_eqb}
use Rattle.std.proofs.lemmas.List.{map-append}
use Rattle.std.specs.List.{flat_map}
use Rattle.hfs_btree.specs.declared.node.Node.{Node}
use Rattle.hfs_btree.specs.declared.fault.NodeFault.{NodeFault}
use Rattle.hfs_btree.specs.declared.kind.NodeKind.TheVariants.{Leaf}
use Rattle.hfs_btree_removal.specs.declared.down.Step.{Step}
use Rattle.hfs_btree.specs.declared.key.Key.{Ghosts}
use Rattle.hfs_fields.specs.Each.{Each}
use Rattle.hfs_fields.proofs.ElementLemmas.{each-left, each-right}
use Rattle.hfs_btree.specs.Tree.{Store, Spot, node_in, records_in, records_of, children, first_of, last_of, turn, level_below, kind_at, reads_at, spots}
use Rattle.hfs_btree.specs.Header.{depth_of, root_level, own_nodes, tree_turn, tree_nodes}
use Rattle.hfs_btree.specs.Sound.{IsRight, IsDistinct, HasStructure}
use Rattle.hfs_btree.proofs.DecodedLemmas.{decoded-within}
use Rattle.hfs_btree_edits.proofs.DecodesLemmas.{decodes-within}
use Rattle.hfs_btree_removal.specs.Removal.{AreUnlinkable, AreStray}
use Rattle.hfs_btree.specs.Sound.{IsOther, IsStray}
use Rattle.hfs_btree_removal.specs.Ways.{IsStep, Leads}
use Rattle.hfs_btree.proofs.DescentLemmas.{next-split}
use Rattle.hfs_btree_removal.proofs.Chains.{Cut, with_node}
use Rattle.hfs_btree_removal.proofs.CutsUnlinked.{AreAt, at-steps}
use Rattle.hfs_btree_edits.proofs.DistinctLemmas.{distinct-right, other-before, turn-nodes}
use Rattle.hfs_btree_edits.specs.LevelParts.{lift}
use Rattle.hfs_btree_edits.proofs.LevelPartLemmas.{upper, numbers, turn-split, of-spots}
use Rattle.hfs_btree_removal.proofs.Links.{last_or, IsKept}
use Rattle.hfs_btree_removal.proofs.Passed.{high}
use Rattle.hfs_btree.proofs.DistinctLemmas.{cross}
use Rattle.hfs_btree_removal.proofs.Unlinked.{Some, numbers-with}

-- ---- ends

or-append : (x : ℕ) (xs : List ℕ) (y : ℕ) (ys : List ℕ) → last_or x (xs ++ y ∷ ys) ≡ last_or y ys
or-append x [] y ys = refl
or-append x (z ∷ xs) y ys = or-append z xs y ys

last-cons : (x : ℕ) (ys : List ℕ) → last_of (x ∷ ys) ≡ last_or x ys
last-cons x [] = refl
last-cons x (y ∷ ys) = last-cons y ys

last-append : (xs : List ℕ) (y : ℕ) (ys : List ℕ) → last_of (xs ++ y ∷ ys) ≡ last_or y ys
last-append [] y ys = last-cons y ys
last-append (x ∷ xs) y ys = last-cons x (xs ++ y ∷ ys) ∙ or-append x xs y ys

last-nil : (xs : List ℕ) → last_or 0 xs ≡ last_of (xs ++ [])
last-nil [] = refl
last-nil (x ∷ xs) = let e : (x ∷ xs) ++ [] ≡ x ∷ xs = nil (x ∷ xs) in sym (ap last_of e ∙ last-cons x xs)
  where
    nil : (zs : List ℕ) → zs ++ [] ≡ zs
    nil [] = refl
    nil (z ∷ zs) = ap (λ (ws : List ℕ). z ∷ ws) (nil zs)

some-last : (x : ℕ) (xs : List ℕ) → Some x → Each Some xs → Some (last_or x xs)
some-last x [] a b = a
some-last x (y ∷ xs) a b = some-last y xs b.0 b.1

pub first-end : (front : List ℕ) (n : ℕ) (back : List ℕ) (f : ℕ) → Each Some (front ++ n ∷ back) → f ≡ first_of (front ++ n ∷ back) → (if last_or 0 front == 0 then first_of back else f) ≡ first_of (front ++ back)
first-end [] n back f some is = refl
first-end (x ∷ xs) n back f some is = cond-false (last_or x xs == 0) _ _ (ne_eqb (last_or x xs) 0 (some-last x xs some.0 (each-left Some xs (n ∷ back) some.1))) ∙ is

pub last-end : (front : List ℕ) (n : ℕ) (back : List ℕ) (f : ℕ) → Each Some (front ++ n ∷ back) → f ≡ last_of (front ++ n ∷ back) → (if first_of back == 0 then last_or 0 front else f) ≡ last_of (front ++ back)
last-end front n [] f some is = last-nil front
last-end front n (y ∷ ys) f some is =
    cond-false (y == 0) _ _ (ne_eqb y 0 (each-right Some front (n ∷ y ∷ ys) some).1.0) ∙ is ∙ last-append front n (y ∷ ys) ∙ sym (last-append front y ys)

-- ---- a record that is to be taken out of its node

pub record CanTake {K : Type 0} (g : Ghosts K) (nodes : Store) (p : Step) : Type 0 where
  pub node : p.node < length nodes
  pub place : p.place < length (records_in nodes p.node)
  pub more : 2 ≤ length (records_in nodes p.node)
  pub leaf : (v : Node) → node_in nodes p.node ≡ Ok v → v.kind ≡ Leaf → Each (λ e. g.is_leaf e ≡ true) v.records
  pub index : (v : Node) → node_in nodes p.node ≡ Ok v → v.kind ≢ Leaf → Each (λ e. g.is_index e ≡ true) v.records

pub same-value : (u w : Node) (r : Result Node NodeFault) → r ≡ Ok u → r ≡ Ok w → u ≡ w
same-value u w r a b = cc

no-leaf : (j : ℕ) → kind_at (suc j) ≡ Leaf → ⊥
no-leaf j e = cc

module _ {K : Type 0} (g : Ghosts K) (old one : Store) (p : Step) (step : IsStep old p.node p) (many : 2 ≤ p.count) (same : node_in one p.node ≡ node_in old p.node) where
  of-leaf : (j : ℕ) (v w : Node) → v ≡ w → v.kind ≡ kind_at j → Each (λ e. reads_at g j e ≡ true) v.records → w.kind ≡ Leaf → Each (λ e. g.is_leaf e ≡ true) w.records
  of-leaf zero v w e kind all leaf = let P : Node → Type 0 = λ x. Each (λ e. g.is_leaf e ≡ true) x.records in subst P e all
  of-leaf (suc j) v w e kind all leaf = absurd (no-leaf j (sym kind ∙ ap (λ (x : Node). x.kind) e ∙ leaf))

  of-index : (j : ℕ) (v w : Node) → v ≡ w → v.kind ≡ kind_at j → Each (λ e. reads_at g j e ≡ true) v.records → w.kind ≢ Leaf → Each (λ e. g.is_index e ≡ true) w.records
  of-index zero v w e kind all other = absurd (other (ap (λ (x : Node). x.kind) (sym e) ∙ kind))
  of-index (suc j) v w e kind all other = let P : Node → Type 0 = λ x. Each (λ e. g.is_index e ≡ true) x.records in subst P e all

  pub can-take : (l r j : ℕ) → IsRight g old (record { left = l; n = p.node; right = r; above = j }) → CanTake g one p
  can-take l r j spot =
      let P : List (List ℕ) → Type 0 = λ rs. p.place < length rs in
      let Q : List (List ℕ) → Type 0 = λ rs. 2 ≤ length rs in
      let rs : records_in old p.node ≡ records_in one p.node = sym (ap records_of same) in
      record {
        node = decoded-within one p.node spot.value (same ∙ spot.decodes);
        place = subst P rs (let a = step.within in let b = step.count in omega arith);
        more = subst Q rs (let b = step.count in omega arith);
        leaf = λ v is kind. of-leaf j spot.value v (same-value spot.value v (node_in one p.node) (same ∙ spot.decodes) is) spot.kind spot.whole kind;
        index = λ v is other. of-index j spot.value v (same-value spot.value v (node_in one p.node) (same ∙ spot.decodes) is) spot.kind spot.whole other;
      }

-- ---- the nodes of upper levels

module _ {K : Type 0} (g : Ghosts K) (old : Store) (structure : HasStructure g old) (i k : ℕ) (deep : depth_of old ≡ suc (lift i k)) (before : List ℕ) (p : ℕ) (behind : List ℕ)
    (level : level_below g old i (root_level old) ≡ before ++ p ∷ behind) where
  abbrev U : List Spot
  U = upper g old i k (root_level old)

  turn-is : tree_turn g old ≡ U ++ turn g old (suc k) (before ++ p ∷ behind)
  turn-is = ap (λ (d : ℕ). turn g old d (root_level old)) deep ∙ turn-split g old i k (root_level old) ∙ ap (λ (ns : List ℕ). U ++ turn g old (suc k) ns) level

  gather : (o u b h r : List ℕ) → o ++ (u ++ ((b ++ p ∷ h) ++ r)) ≡ (o ++ (u ++ b)) ++ p ∷ (h ++ r)
  gather o u b h r = simp Rattle.std.proofs.Common.append_assoc

  abbrev low : List ℕ
  low = numbers (turn g old k (flat_map (children g old) (before ++ p ∷ behind)))

  all-is : own_nodes old ++ tree_nodes g old ≡ (own_nodes old ++ (numbers U ++ before)) ++ p ∷ (behind ++ low)
  all-is =
      ap (λ (ss : List Spot). own_nodes old ++ numbers ss) turn-is
      ∙ ap (λ (ns : List ℕ). own_nodes old ++ ns)
      (map-append (λ (s : Spot). s.n) U (turn g old (suc k) (before ++ p ∷ behind)) ∙ ap (λ (ns : List ℕ). numbers U ++ ns) (turn-nodes g old k (before ++ p ∷ behind)))
      ∙ gather (own_nodes old) (numbers U) before behind low

  of-numbers : (P : ℕ → Type 0) (ss : List Spot) → Each P (numbers ss) → Each (λ (s : Spot). P s.n) ss
  of-numbers P [] h = tt
  of-numbers P (s ∷ ss) h = (h.0, of-numbers P ss h.1)

  -- are other ones than p
  pub upper-other : Each (λ (s : Spot). s.n ≢ p) U
  upper-other =
      let P : List ℕ → Type 0 = λ ns. IsDistinct ns in
      let N : ℕ → Type 0 = λ m. m ≢ p in
      let all = other-before (own_nodes old ++ (numbers U ++ before)) p (behind ++ low) (subst P all-is structure.levels.different) in
      of-numbers N U (each-left N (numbers U) before (each-right N (own_nodes old) (numbers U ++ before) all))

  pub upper-right : Each (IsRight g old) U
  upper-right =
      let P : List Spot → Type 0 = λ ss. Each (IsRight g old) ss in
      each-left (IsRight g old) U (turn g old (suc k) (before ++ p ∷ behind)) (subst P turn-is structure.levels.each)

-- the steps' nodes are among them
pub steps-kept : {K : Type 0} (g : Ghosts K) (old new : Store) (ss : List Step) (j : ℕ) (before : List ℕ) (n : ℕ) (behind : List ℕ) (m : ℕ) → Each (λ (s : Spot). IsKept old new s.n) (upper g old (high ss zero) j (before ++ n ∷ behind))
    → Leads g old n ss m → Each (λ s. IsKept old new s.node) ss
steps-kept g old new [] j before n behind m kept leads = tt
steps-kept g old new (s ∷ ss) j before n behind m kept leads =
    let L = before ++ n ∷ behind in
    let h = high ss zero in
    let here = spots (suc (lift h j)) 0 L in
    let rest = upper g old h j (flat_map (children g old) L) in
    let P : Spot → Type 0 = λ x. IsKept old new x.n in
    let same = (each-right (IsKept old new) before (n ∷ behind) (of-spots (IsKept old new) (suc (lift h j)) 0 L (each-left P here rest kept))).0 in
    let within : s.place < length (records_in old n) = let a = leads.0.within in let b = leads.0.count in omega arith in
    let Q : List ℕ → Type 0 = λ ns. Each P (upper g old h j ns) in
    let R : ℕ → Type 0 = λ x. IsKept old new x in (
      subst R (sym leads.0.node) same,
      steps-kept g old new ss j _ (g.child (get_or (records_in old n) s.place [])) _ m (subst Q (next-split g old before n behind s.place within) (each-right P here rest kept)) leads.1,
    )

-- ---- the steps of a chain

pub at-nodes : (cs : List Cut) (ss : List Step) → AreAt cs ss → map (λ (s : Step). s.node) ss ≡ map (λ (cut : Cut). cut.n) cs
at-nodes [] [] at = refl
at-nodes [] (s ∷ ss) at = absurd at
at-nodes (cut ∷ cs) [] at = absurd at
at-nodes (cut ∷ cs) (s ∷ ss) at = ap (λ (n : ℕ). n ∷ map (λ (s : Step). s.node) ss) at.0 ∙ ap (λ (ns : List ℕ). cut.n ∷ ns) (at-nodes cs ss at.1)

pub stray-steps : {K : Type 0} (g : Ghosts K) (old new : Store) → length new ≡ length old → (cs : List Cut) (ss : List Step) → AreAt cs ss → AreUnlinkable old ss → Each (λ (cut : Cut). IsStray g new cut.n) cs
    → IsDistinct (numbers (flat_map with_node cs)) → AreStray g new ss
stray-steps g old new len [] [] at can strays d = tt
stray-steps g old new len [] (s ∷ ss) at can strays d = absurd at
stray-steps g old new len (cut ∷ cs) [] at can strays d = absurd at
stray-steps g old new len (cut ∷ cs) (s ∷ ss) at can strays d =
    let level = cut.front ++ cut.n ∷ cut.back in
    let below = numbers (flat_map with_node cs) in
    let P : List ℕ → Type 0 = λ ns. IsDistinct ns in
    let d' = subst P (numbers-with cut cs) d in
    let N : ℕ → Type 0 = λ m. m ≢ cut.n in
    let Q : ℕ → Type 0 = λ x. Each (λ (u : Step). u.node ≢ x) ss in
    let S : ℕ → Type 0 = λ x. IsStray g new x in
    let other = (each-right (λ x. Each (IsOther x) below) cut.front (cut.n ∷ cut.back) (cross level below d')).0 in (
      subst S (sym at.0) strays.0,
      (let a = decodes-within old s.node can.0.node in omega arith),
      subst Q (sym at.0) (at-steps g old N cs ss at.1 other),
      stray-steps g old new len cs ss at.1 can.2 strays.1 (distinct-right level below d'),
    )
