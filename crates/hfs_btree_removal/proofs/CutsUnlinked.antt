-- The nodes of a chain, as steps and as cuts of their levels.
use Rattle.std.proofs.Common.{◌≡◌, ◌≢◌, ℕ, List, [], ◌∷◌, ◌++◌, refl, sym, ap, ◌∙◌, subst}
use Rattle.std.specs.List.{flat_map}
use Rattle.hfs_btree_removal.specs.declared.down.Step.{Step}
use Rattle.hfs_btree.specs.declared.key.Key.{Ghosts}
use Rattle.hfs_fields.specs.Each.{Each}
use Rattle.hfs_fields.proofs.ElementLemmas.{each-left, each-right}
use Rattle.hfs_btree.specs.Tree.{Store, Spot, node_in, forward_of, first_of, spots}
use Rattle.hfs_btree.specs.Sound.{IsOther, IsDistinct, IsRight}
use Rattle.hfs_btree_removal.specs.Removal.{HasUnlinked, IsUnlinkable, IsClear, AreUnlinkable, AreStepsUnlinked, backward_of}
use Rattle.hfs_btree_removal.proofs.Chains.{Cut, with_node}
use Rattle.hfs_btree_edits.specs.Stored.{Decodes, IsLink}
use Rattle.hfs_btree_edits.proofs.DecodesLemmas.{decodes-as}
use Rattle.hfs_btree_edits.proofs.DistinctLemmas.{distinct-left, distinct-right}
use Rattle.hfs_btree_edits.proofs.LevelPartLemmas.{numbers}
use Rattle.hfs_btree_removal.proofs.Links.{last_or}
use Rattle.hfs_btree_edits.proofs.ReleasedLemmas.{apart as cross-back}
use Rattle.hfs_btree_removal.proofs.Unlinked.{AreUnlinked, Some, numbers-with}

-- a node between those before it and those behind
pub between : (P : Spot → Type 0) (k left : ℕ) (before : List ℕ) (n : ℕ) (behind : List ℕ) → Each P (spots k left (before ++ n ∷ behind))
    → P (record { left = last_or left before; n = n; right = first_of behind; above = k })
between P k left [] n behind h = h.0
between P k left (x ∷ xs) n behind h = between P k x xs n behind h.1

-- the steps are at the nodes of the cuts
abbrev pub AreAt : List Cut → List Step → Type 0
AreAt [] [] = Unit {0}
AreAt [] (s ∷ ss) = ⊥
AreAt (cut ∷ cs) [] = ⊥
AreAt (cut ∷ cs) (s ∷ ss) = (s.node ≡ cut.n) × AreAt cs ss

module _ {K : Type 0} (g : Ghosts K) (base : Store) where
  abbrev IsLevel : Cut → Type 0
  IsLevel cut = Each (IsRight g base) (with_node cut)

  right-of : (cut : Cut) → IsLevel cut → IsRight g base (record { left = last_or 0 cut.front; n = cut.n; right = first_of cut.back; above = cut.above })
  right-of cut h = between (IsRight g base) cut.above 0 cut.front cut.n cut.back h

  pub left-is : (cut : Cut) → IsLevel cut → backward_of (node_in base cut.n) ≡ last_or 0 cut.front
  left-is cut h = let r = right-of cut h in ap backward_of r.decodes ∙ r.left

  pub right-is : (cut : Cut) → IsLevel cut → forward_of (node_in base cut.n) ≡ first_of cut.back
  right-is cut h = let r = right-of cut h in ap forward_of r.decodes ∙ r.right

  -- what the steps give is what the cuts ask
  pub cuts-unlinked : (cs : List Cut) (ss : List Step) (old new : Store) → AreAt cs ss → Each IsLevel cs → AreStepsUnlinked base ss old new → AreUnlinked cs old new
  cuts-unlinked [] [] old new at h u = u
  cuts-unlinked [] (s ∷ ss) old new at h u = absurd at
  cuts-unlinked (cut ∷ cs) [] old new at h u = absurd at
  cuts-unlinked (cut ∷ cs) (s ∷ ss) old new at h u =
      let l : backward_of (node_in base s.node) ≡ last_or 0 cut.front = ap (λ (n : ℕ). backward_of (node_in base n)) at.0 ∙ left-is cut h.0 in
      let r : forward_of (node_in base s.node) ≡ first_of cut.back = ap (λ (n : ℕ). forward_of (node_in base n)) at.0 ∙ right-is cut h.0 in
      let P : ℕ → Type 0 = λ x. HasUnlinked old u.0 x (forward_of (node_in base s.node)) in
      let Q : ℕ → Type 0 = λ x. HasUnlinked old u.0 (last_or 0 cut.front) x in
      (u.0, subst Q r (subst P l u.1), cuts-unlinked cs ss u.0 new at.1 h.1 u.2)

  -- ---- the steps can be unlinked

  -- the nodes of a level decode
  level-decodes : (k left : ℕ) (ns : List ℕ) → Each (IsRight g base) (spots k left ns) → Each (Decodes base) ns
  level-decodes k left [] h = tt
  level-decodes k left (n ∷ ns) h = (decodes-as base n h.0.value h.0.decodes, level-decodes k n ns h.1)

  last-link : (d : ℕ) (xs : List ℕ) → IsLink base d → Each (Decodes base) xs → IsLink base (last_or d xs)
  last-link d [] link h = link
  last-link d (x ∷ xs) link h = last-link x xs (λ some. h.0) h.1

  first-link : (ys : List ℕ) → Each (Decodes base) ys → IsLink base (first_of ys)
  first-link [] h = λ some. absurd (some refl)
  first-link (y ∷ ys) h = λ some. h.0

  -- one that is other than all of a level, and than 0, is other than the last and the first
  last-ne : (m d : ℕ) (xs : List ℕ) → m ≢ d → Each (IsOther m) xs → m ≢ last_or d xs
  last-ne m d [] ne o = ne
  last-ne m d (x ∷ xs) ne o = last-ne m x xs (λ e. o.0 (sym e)) o.1

  first-ne : (m : ℕ) (ys : List ℕ) → m ≢ 0 → Each (IsOther m) ys → m ≢ first_of ys
  first-ne m [] ne o = ne
  first-ne m (y ∷ ys) ne o = λ e. o.0 (sym e)

  -- the last before is none of those behind
  last-behind : (d : ℕ) (xs ys : List ℕ) → (d ≢ 0 → Each (IsOther d) ys) → Each (λ x. Each (IsOther x) ys) xs → last_or d xs ≢ 0 → Each (IsOther (last_or d xs)) ys
  last-behind d [] ys a b some = a some
  last-behind d (x ∷ xs) ys a b some = last-behind x xs ys (λ ne. b.0) b.1 some

  skip : (xs : List ℕ) (n : ℕ) (ys : List ℕ) → IsDistinct (xs ++ n ∷ ys) → Each (λ x. Each (IsOther x) ys) xs
  skip [] n ys h = tt
  skip (x ∷ xs) n ys h = ((each-right (IsOther x) xs (n ∷ ys) h.0).1, skip xs n ys h.1)

  module _ (cut : Cut) (h : IsLevel cut) (d : IsDistinct (cut.front ++ cut.n ∷ cut.back)) where
    abbrev ns : List ℕ
    ns = cut.front ++ cut.n ∷ cut.back

    all-decode : Each (Decodes base) ns
    all-decode = level-decodes cut.above 0 ns h

    apart-by : last_or 0 cut.front ≢ 0 → last_or 0 cut.front ≢ first_of cut.back
    apart-by some = first-ne (last_or 0 cut.front) cut.back some (last-behind 0 cut.front cut.back (λ ne. absurd (ne refl)) (skip cut.front cut.n cut.back d) some)

    pub can : IsUnlinkable base (node_in base cut.n)
    can =
        let P : ℕ → Type 0 = λ x. IsLink base x in
        let behind = each-right (Decodes base) cut.front (cut.n ∷ cut.back) all-decode in
        let A : ℕ → Type 0 = λ x. x ≢ 0 → x ≢ forward_of (node_in base cut.n) in
        let B : ℕ → Type 0 = λ x. last_or 0 cut.front ≢ 0 → last_or 0 cut.front ≢ x in
        record {
          node = behind.0;
          left = subst P (sym (left-is cut h)) (last-link 0 cut.front (λ some. absurd (some refl)) (each-left (Decodes base) cut.front (cut.n ∷ cut.back) all-decode));
          right = subst P (sym (right-is cut h)) (first-link cut.back behind.1);
          apart = subst A (sym (left-is cut h)) (subst B (sym (right-is cut h)) apart-by);
        }

    -- a node that is none of the level is none of the neighbours
    pub clear-of : (m : ℕ) → m ≢ 0 → Each (IsOther m) ns → (m ≢ backward_of (node_in base cut.n)) × (m ≢ forward_of (node_in base cut.n))
    clear-of m some o =
        let P : ℕ → Type 0 = λ x. m ≢ x in (
          subst P (sym (left-is cut h)) (last-ne m 0 cut.front some (each-left (IsOther m) cut.front (cut.n ∷ cut.back) o)),
          subst P (sym (right-is cut h)) (first-ne m cut.back some (each-right (IsOther m) cut.front (cut.n ∷ cut.back) o).1),
        )

  pub at-steps : (P : ℕ → Type 0) (cs : List Cut) (ss : List Step) → AreAt cs ss → Each P (numbers (flat_map with_node cs)) → Each (λ (s : Step). P s.node) ss
  at-steps P [] [] at h = tt
  at-steps P [] (s ∷ ss) at h = absurd at
  at-steps P (cut ∷ cs) [] at h = absurd at
  at-steps P (cut ∷ cs) (s ∷ ss) at h =
      let Q : List ℕ → Type 0 = λ ns. Each P ns in
      let all = subst Q (numbers-with cut cs) h in
      let level = each-left P (cut.front ++ cut.n ∷ cut.back) (numbers (flat_map with_node cs)) all in
      (subst P (sym at.0) (each-right P cut.front (cut.n ∷ cut.back) level).0, at-steps P cs ss at.1 (each-right P (cut.front ++ cut.n ∷ cut.back) (numbers (flat_map with_node cs)) all))

  all-clear : (cut : Cut) (h : IsLevel cut) (d : IsDistinct (cut.front ++ cut.n ∷ cut.back)) (ss : List Step) → Each (λ (t : Step). Some t.node) ss
      → Each (λ (t : Step). Each (IsOther t.node) (cut.front ++ cut.n ∷ cut.back)) ss → Each (IsClear (node_in base cut.n)) ss
  all-clear cut h d [] a b = tt
  all-clear cut h d (t ∷ ss) a b = (clear-of cut h d t.node a.0 b.0, all-clear cut h d ss a.1 b.1)

  pub all-can : (cs : List Cut) (ss : List Step) → AreAt cs ss → Each IsLevel cs → Each Some (numbers (flat_map with_node cs)) → IsDistinct (numbers (flat_map with_node cs)) → AreUnlinkable base ss
  all-can [] [] at h some d = tt
  all-can [] (s ∷ ss) at h some d = absurd at
  all-can (cut ∷ cs) [] at h some d = absurd at
  all-can (cut ∷ cs) (s ∷ ss) at h some d =
      let level = cut.front ++ cut.n ∷ cut.back in
      let below = numbers (flat_map with_node cs) in
      let P : List ℕ → Type 0 = λ ns. Each Some ns in
      let Q : List ℕ → Type 0 = λ ns. IsDistinct ns in
      let some' = each-right Some level below (subst P (numbers-with cut cs) some) in
      let d' = subst Q (numbers-with cut cs) d in
      let own = distinct-left level below d' in
      let U : ℕ → Type 0 = λ n. IsUnlinkable base (node_in base n) in
      let C : ℕ → Type 0 = λ n. Each (IsClear (node_in base n)) ss in (
        subst U (sym at.0) (can cut h.0 own),
        subst C (sym at.0) (all-clear cut h.0 own ss (at-steps Some cs ss at.1 some') (at-steps (λ m. Each (IsOther m) level) cs ss at.1 (cross-back level below d'))),
        all-can cs ss at.1 h.1 some' (distinct-right level below d'),
      )

  -- a node of none of the levels is no neighbour of any step's node
  pub beside-all : (m : ℕ) → m ≢ 0 → (cs : List Cut) (ss : List Step) → AreAt cs ss → Each IsLevel cs → IsDistinct (numbers (flat_map with_node cs)) → Each (IsOther m) (numbers (flat_map with_node cs))
      → Each (λ (s : Step). (m ≢ backward_of (node_in base s.node)) × (m ≢ forward_of (node_in base s.node))) ss
  beside-all m some [] [] at h d o = tt
  beside-all m some [] (s ∷ ss) at h d o = absurd at
  beside-all m some (cut ∷ cs) [] at h d o = absurd at
  beside-all m some (cut ∷ cs) (s ∷ ss) at h d o =
      let level = cut.front ++ cut.n ∷ cut.back in
      let below = numbers (flat_map with_node cs) in
      let P : List ℕ → Type 0 = λ ns. Each (IsOther m) ns in
      let Q : List ℕ → Type 0 = λ ns. IsDistinct ns in
      let o' = subst P (numbers-with cut cs) o in
      let d' = subst Q (numbers-with cut cs) d in
      let N : ℕ → Type 0 = λ n. (m ≢ backward_of (node_in base n)) × (m ≢ forward_of (node_in base n)) in
      (subst N (sym at.0) (clear-of cut h.0 (distinct-left level below d') m some (each-left (IsOther m) level below o')), beside-all m some cs ss at.1 h.1 (distinct-right level below d') (each-right (IsOther m) level below o'))
