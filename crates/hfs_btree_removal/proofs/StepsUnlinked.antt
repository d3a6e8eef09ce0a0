-- The nodes of several steps, taken out of their links one after the other.
use Rattle.std.proofs.Common.{◌≡◌, ◌≢◌, ℕ, ◌+◌, ◌<◌, ◌≤◌, List, [], ◌∷◌, ◌++◌, length, get_or, take, drop, refl, sym, ap, ◌∙◌, subst}
use Rattle.std.specs.Prelude.{Result}
use Rattle.std.proofs.lemmas.List.{drop_more, take_more, take_all}
use Rattle.hfs_btree.specs.declared.node.Node.{Node}
use Rattle.hfs_btree.specs.declared.fault.NodeFault.{NodeFault}
use Rattle.hfs_btree_removal.specs.declared.down.Step.{Step}
use Rattle.hfs_fields.specs.Each.{Each}
use Rattle.hfs_btree.specs.Tree.{Store, node_in, forward_of}
use Rattle.hfs_btree_edits.specs.Stored.{Decodes, IsSame, bytes_in}
use Rattle.hfs_btree_removal.specs.Removal.{HasUnlinked, IsUnlinkable, IsClear, AreUnlinkable, AreStepsUnlinked, backward_of, last_left, last_right}
use Rattle.hfs_btree_removal.proofs.KeysSet.{no-step}
use Rattle.hfs_btree_removal.proofs.LinkedNodes.{unlinked-decodes}

abbrev AreSame : Store → Store → List Step → Type 0
AreSame old new ss = Each (λ (s : Step). IsSame old new s.node) ss

pub all-same : (nodes : Store) (ss : List Step) → AreSame nodes nodes ss
all-same nodes [] = tt
all-same nodes (s ∷ ss) = (refl, all-same nodes ss)

-- what nodes that are the same keep
keep : (old new : Store) (ss : List Step) → ((x : ℕ) → Decodes old x → Decodes new x) → AreSame old new ss → AreUnlinkable old ss → AreUnlinkable new ss
keep old new [] all same h = tt
keep old new (s ∷ ss) all same h =
    let Q : Result Node NodeFault → Type 0 = λ r. IsUnlinkable new r in
    let R : Result Node NodeFault → Type 0 = λ r. Each (IsClear r) ss in
    let can : Q (node_in old s.node) = record { node = h.0.node; left = λ some. all _ (h.0.left some); right = λ some. all _ (h.0.right some); apart = h.0.apart } in
    (subst Q (sym same.0) can, subst R (sym same.0) h.1, keep old new ss all same.1 h.2)

clear : (old new : Store) (l r : ℕ) (u : HasUnlinked old new l r) (ss : List Step) → Each (λ (t : Step). (t.node ≢ l) × (t.node ≢ r)) ss → AreSame old new ss
clear old new l r u [] h = tt
clear old new l r u (s ∷ ss) h = (u.rest s.node h.0.0 h.0.1, clear old new l r u ss h.1)

-- a node that is no neighbour of any step's node has its bytes
pub unlinked-bytes : (base : Store) (ss : List Step) (old new : Store) → AreStepsUnlinked base ss old new → (m : ℕ)
    → Each (λ (s : Step). (m ≢ backward_of (node_in base s.node)) × (m ≢ forward_of (node_in base s.node))) ss → bytes_in new m ≡ bytes_in old m
unlinked-bytes base [] old new e m o = ap (λ (nodes : Store). bytes_in nodes m) (sym e)
unlinked-bytes base (s ∷ ss) old new u m o = unlinked-bytes base ss u.0 new u.2 m o.1 ∙ u.1.bytes m o.0.0 o.0.1

then-same : (base old new : Store) (ss : List Step) → AreSame base old ss → AreSame old new ss → AreSame base new ss
then-same base old new [] a b = tt
then-same base old new (s ∷ ss) a b = (b.0 ∙ a.0, then-same base old new ss a.1 b.1)

more : (base : Store) (ss : List Step) (s : Step) (old mid new : Store) → AreStepsUnlinked base ss old mid → HasUnlinked mid new (backward_of (node_in base s.node)) (forward_of (node_in base s.node))
    → AreStepsUnlinked base (ss ++ s ∷ []) old new
more base [] s old mid new e u =
    let P : Store → Type 0 = λ x. HasUnlinked x new (backward_of (node_in base s.node)) (forward_of (node_in base s.node)) in
    (new, subst P (sym e) u, refl)
more base (t ∷ ss) s old mid new h u = (h.0, h.1, more base ss s h.0 mid new h.2 u)

last-left : (base : Store) (ss : List Step) (s : Step) → last_left base (ss ++ s ∷ []) ≡ backward_of (node_in base s.node)
last-left base [] s = refl
last-left base (t ∷ []) s = refl
last-left base (t ∷ x ∷ ss) s = last-left base (x ∷ ss) s

last-right : (base : Store) (ss : List Step) (s : Step) → last_right base (ss ++ s ∷ []) ≡ forward_of (node_in base s.node)
last-right base [] s = refl
last-right base (t ∷ []) s = refl
last-right base (t ∷ x ∷ ss) s = last-right base (x ∷ ss) s

-- after i steps
pub record AreDone (base : Store) (chain : List Step) (i : ℕ) (l r : ℕ) (nodes : Store) : Type 0 where
  pub done : AreStepsUnlinked base (take i chain) base nodes
  pub rest : AreUnlinkable nodes (drop i chain)
  pub same : AreSame base nodes (drop i chain)
  pub left : l ≡ last_left base (take i chain)
  pub right : r ≡ last_right base (take i chain)

pub done-none : (base : Store) (chain : List Step) → AreUnlinkable base chain → AreDone base chain 0 0 0 base
done-none base chain h = record { done = refl; rest = h; same = all-same base chain; left = refl; right = refl }

module _ (base : Store) (chain : List Step) (i : ℕ) (l r : ℕ) (nodes : Store) (d : AreDone base chain i l r nodes) (lt : i < length chain) where
  abbrev s : Step
  s = get_or chain i no-step

  parted : drop i chain ≡ s ∷ drop (i + 1) chain
  parted = drop_more chain i no-step lt

  taken : take (i + 1) chain ≡ take i chain ++ s ∷ []
  taken = take_more chain i no-step lt

  here : AreUnlinkable nodes (s ∷ drop (i + 1) chain)
  here = let P : List Step → Type 0 = λ ss. AreUnlinkable nodes ss in subst P parted d.rest

  same-here : AreSame base nodes (s ∷ drop (i + 1) chain)
  same-here = let P : List Step → Type 0 = λ ss. AreSame base nodes ss in subst P parted d.same

  pub next-can : IsUnlinkable nodes (node_in nodes s.node)
  next-can = here.0

  pub done-more : (new : Store) (left right : ℕ) → left ≡ backward_of (node_in nodes s.node) → right ≡ forward_of (node_in nodes s.node) → HasUnlinked nodes new left right → AreDone base chain (i + 1) left right new
  done-more new left right left-is right-is u =
      let l-base : left ≡ backward_of (node_in base s.node) = left-is ∙ ap backward_of same-here.0 in
      let r-base : right ≡ forward_of (node_in base s.node) = right-is ∙ ap forward_of same-here.0 in
      let U : ℕ → Type 0 = λ x. HasUnlinked nodes new x right in
      let V : ℕ → Type 0 = λ x. HasUnlinked nodes new (backward_of (node_in base s.node)) x in
      let W : ℕ → Type 0 = λ x. HasUnlinked nodes new x right in
      let X : ℕ → Type 0 = λ x. HasUnlinked nodes new (backward_of (node_in nodes s.node)) x in
      let P : List Step → Type 0 = λ ss. AreStepsUnlinked base ss base new in
      let kept = clear nodes new (backward_of (node_in nodes s.node)) (forward_of (node_in nodes s.node)) (subst X right-is (subst W left-is u)) (drop (i + 1) chain) here.1 in
      record {
        done = subst P (sym taken) (more base (take i chain) s base nodes new d.done (subst V r-base (subst U l-base u)));
        rest = keep nodes new (drop (i + 1) chain) (unlinked-decodes nodes new left right u) kept here.2;
        same = then-same base nodes new (drop (i + 1) chain) same-here.1 kept;
        left = l-base ∙ sym (ap (last_left base) taken ∙ last-left base (take i chain) s);
        right = r-base ∙ sym (ap (last_right base) taken ∙ last-right base (take i chain) s);
      }

-- after all of them
module _ (base : Store) (chain : List Step) (i : ℕ) (l r : ℕ) (nodes : Store) (d : AreDone base chain i l r nodes) (past : length chain ≤ i) where
  all-taken : take i chain ≡ chain
  all-taken = take_all i chain past

  pub all-linked : AreStepsUnlinked base chain base nodes
  all-linked = let P : List Step → Type 0 = λ ss. AreStepsUnlinked base ss base nodes in subst P all-taken d.done

  pub all-left : l ≡ last_left base chain
  all-left = d.left ∙ ap (last_left base) all-taken

  pub all-right : r ≡ last_right base chain
  all-right = d.right ∙ ap (last_right base) all-taken
