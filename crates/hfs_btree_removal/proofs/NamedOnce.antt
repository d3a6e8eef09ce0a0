-- A node that is named by one record alone.
use Rattle.std.proofs.Common.{◌≡◌, ◌≢◌, ℕ, zero, suc, ◌<◌, List, [], ◌∷◌, ◌++◌, length, map, get_or, take, drop, refl, sym, ap, ◌∙◌, subst, arith, append_assoc}
use Rattle.std.specs.List.{flat_map}
use Rattle.std.proofs.lemmas.List.{map-append}
use Rattle.hfs_btree.specs.declared.key.Key.{Ghosts}
use Rattle.hfs_fields.specs.Each.{Each}
use Rattle.hfs_fields.proofs.ElementLemmas.{each-mono, each-left, each-right, each-append, each-unmap}
use Rattle.hfs_btree.specs.Tree.{Store, Spot, records_in, children, spots, turn, level_below}
use Rattle.hfs_btree.specs.Header.{depth_of, root_level, own_nodes, tree_turn, tree_nodes}
use Rattle.hfs_btree.specs.Sound.{IsDistinct, HasStructure}
use Rattle.hfs_btree.proofs.DescentLemmas.{next-split}
use Rattle.hfs_btree_edits.proofs.DistinctLemmas.{other-before, other-behind, turn-nodes}
use Rattle.hfs_btree_edits.proofs.EditedOrderLemmas.{each-flat}
use Rattle.hfs_btree_edits.specs.LevelParts.{lift}
use Rattle.hfs_btree_edits.proofs.LevelPartLemmas.{upper, numbers, numbers-spots, at-spots, turn-split}

-- the children of a node above the leaves pass
abbrev pub HavePassing : {K : Type 0} → Ghosts K → Store → (ℕ → Type 0) → Spot → Type 0
HavePassing g nodes P s = 0 < s.above → Each P (children g nodes s.n)

module _ {K : Type 0} (g : Ghosts K) (nodes : Store) (P : ℕ → Type 0) where
  -- the children of the upper levels are the nodes of the levels behind the first
  pub upper-sons : (i j : ℕ) (ns : List ℕ) → Each P (numbers (upper g nodes i j ns)) → Each P (level_below g nodes i ns) → Each P ns × Each (λ s. Each P (children g nodes s.n)) (upper g nodes i j ns)
  upper-sons zero j ns h below = (below, tt)
  upper-sons (suc i) j ns h below =
      let next = flat_map (children g nodes) ns in
      let here = spots (suc (lift i j)) 0 ns in
      let rest = upper g nodes i j next in
      let Q : List ℕ → Type 0 = λ xs. Each P xs in
      let all = subst Q (map-append (λ (s : Spot). s.n) here rest ∙ ap (λ (xs : List ℕ). xs ++ numbers rest) (numbers-spots (suc (lift i j)) 0 ns)) h in
      let ih = upper-sons i j next (each-right P ns (numbers rest) all) below in (
        each-left P ns (numbers rest) all,
        each-append (λ s. Each P (children g nodes s.n)) here rest (at-spots (λ n. Each P (children g nodes n)) (suc (lift i j)) 0 ns (each-flat P (children g nodes) ns ih.0)) ih.1,
      )

  no-sons : (left : ℕ) (ns : List ℕ) → Each (HavePassing g nodes P) (spots zero left ns)
  no-sons left [] = tt
  no-sons left (n ∷ ns) = (λ lt. absurd (omega arith), no-sons n ns)

  level-sons : (k left : ℕ) (ns : List ℕ) → Each (λ n. Each P (children g nodes n)) ns → Each (HavePassing g nodes P) (spots k left ns)
  level-sons k left [] h = tt
  level-sons k left (n ∷ ns) h = (λ lt. h.0, level-sons k n ns h.1)

  -- so are those of the lower ones
  pub turn-sons : (k : ℕ) (ns : List ℕ) → Each P (numbers (turn g nodes k (flat_map (children g nodes) ns))) → Each (HavePassing g nodes P) (turn g nodes (suc k) ns)
  turn-sons zero ns h = each-append (HavePassing g nodes P) (spots zero 0 ns) [] (no-sons 0 ns) tt
  turn-sons (suc k) ns h =
      let next = flat_map (children g nodes) ns in
      let Q : List ℕ → Type 0 = λ xs. Each P xs in
      let all = subst Q (turn-nodes g nodes k next) h in
      let after' = map (λ (s : Spot). s.n) (turn g nodes k (flat_map (children g nodes) next)) in
      each-append (HavePassing g nodes P) (spots (suc k) 0 ns) (turn g nodes (suc k) next)
      (level-sons (suc k) 0 ns (each-flat P (children g nodes) ns (each-left P next after' all)))
      (turn-sons k next (each-right P next after' all))

module _ {K : Type 0} (g : Ghosts K) (nodes : Store) (structure : HasStructure g nodes) (i k : ℕ) (deep : depth_of nodes ≡ suc (lift i (suc k))) (before : List ℕ) (n : ℕ) (behind : List ℕ)
    (level : level_below g nodes i (root_level nodes) ≡ before ++ n ∷ behind) (place : ℕ) (within : place < length (records_in nodes n)) where
  abbrev es : List (List ℕ)
  es = records_in nodes n

  abbrev c : ℕ
  c = g.child (get_or es place [])

  abbrev B : List ℕ
  B = flat_map (children g nodes) before ++ map g.child (take place es)

  abbrev H : List ℕ
  H = map g.child (drop (suc place) es) ++ flat_map (children g nodes) behind

  abbrev L : List ℕ
  L = before ++ n ∷ behind

  abbrev U : List Spot
  U = upper g nodes i (suc k) (root_level nodes)

  abbrev low : List Spot
  low = turn g nodes (suc k) (B ++ c ∷ H)

  abbrev R : List ℕ
  R = numbers (turn g nodes k (flat_map (children g nodes) (B ++ c ∷ H)))

  whole-turn : tree_turn g nodes ≡ U ++ (spots (suc k) 0 L ++ low)
  whole-turn =
      ap (λ (d : ℕ). turn g nodes d (root_level nodes)) deep
      ∙ turn-split g nodes i (suc k) (root_level nodes)
      ∙ ap (λ (ns : List ℕ). U ++ turn g nodes (suc (suc k)) ns) level
      ∙ ap (λ (ns : List ℕ). U ++ (spots (suc k) 0 L ++ turn g nodes (suc k) ns)) (next-split g nodes before n behind place within)

  gather : (o u l b h r : List ℕ) (x : ℕ) → o ++ (u ++ (l ++ ((b ++ x ∷ h) ++ r))) ≡ (o ++ (u ++ (l ++ b))) ++ x ∷ (h ++ r)
  gather o u l b h r x = simp append_assoc

  all-is : own_nodes nodes ++ tree_nodes g nodes ≡ (own_nodes nodes ++ (numbers U ++ (L ++ B))) ++ c ∷ (H ++ R)
  all-is =
      ap (λ (ss : List Spot). own_nodes nodes ++ numbers ss) whole-turn
      ∙ ap (λ (ns : List ℕ). own_nodes nodes ++ ns)
      (map-append (λ (s : Spot). s.n) U (spots (suc k) 0 L ++ low)
      ∙ ap (λ (ns : List ℕ). numbers U ++ ns)
      (map-append (λ (s : Spot). s.n) (spots (suc k) 0 L) low
      ∙ ap (λ (ns : List ℕ). ns ++ numbers low) (numbers-spots (suc k) 0 L)
      ∙ ap (λ (ns : List ℕ). L ++ ns) (turn-nodes g nodes k (B ++ c ∷ H))))
      ∙ gather (own_nodes nodes) (numbers U) L B H R c

  distinct : IsDistinct ((own_nodes nodes ++ (numbers U ++ (L ++ B))) ++ c ∷ (H ++ R))
  distinct = let P : List ℕ → Type 0 = λ ns. IsDistinct ns in subst P all-is structure.levels.different

  abbrev Not : ℕ → Type 0
  Not x = x ≢ c

  front : Each Not (numbers U ++ (L ++ B))
  front = each-right Not (own_nodes nodes) (numbers U ++ (L ++ B)) (other-before (own_nodes nodes ++ (numbers U ++ (L ++ B))) c (H ++ R) distinct)

  back : Each Not (H ++ R)
  back = other-behind (own_nodes nodes ++ (numbers U ++ (L ++ B))) c (H ++ R) distinct

  not-U : Each Not (numbers U)
  not-U = each-left Not (numbers U) (L ++ B) front

  not-LB : Each Not (L ++ B)
  not-LB = each-right Not (numbers U) (L ++ B) front

  not-B : Each Not B
  not-B = each-right Not L B not-LB

  not-H : Each Not H
  not-H = each-left Not H R back

  not-R : Each Not R
  not-R = each-right Not H R back

  -- no other record of the node names the child
  pub own-before : Each (λ e. g.child e ≢ c) (take place es)
  own-before = each-unmap Not g.child (take place es) (each-right Not (flat_map (children g nodes) before) (map g.child (take place es)) not-B)

  pub own-behind : Each (λ e. g.child e ≢ c) (drop (suc place) es)
  own-behind = each-unmap Not g.child (drop (suc place) es) (each-left Not (map g.child (drop (suc place) es)) (flat_map (children g nodes) behind) not-H)

  -- nor any other node's
  abbrev Elsewhere : Spot → Type 0
  Elsewhere s = s.n ≢ n → HavePassing g nodes Not s

  beside : (left : ℕ) (ns : List ℕ) → Each (λ m. Each Not (children g nodes m)) ns → Each Elsewhere (spots (suc k) left ns)
  beside left [] h = tt
  beside left (m ∷ ns) h = (λ d lt. h.0, beside m ns h.1)

  at-level : (left : ℕ) (xs ys : List ℕ) → Each (λ m. Each Not (children g nodes m)) xs → Each (λ m. Each Not (children g nodes m)) ys → Each Elsewhere (spots (suc k) left (xs ++ n ∷ ys))
  at-level left [] ys a b = (λ d lt. absurd (d refl), beside n ys b)
  at-level left (x ∷ xs) ys a b = (λ d lt. a.0, at-level x xs ys a.1 b)

  pub named-once : Each Elsewhere (tree_turn g nodes)
  named-once =
      let P : List Spot → Type 0 = λ ss. Each Elsewhere ss in
      let Q : List ℕ → Type 0 = λ ns. Each Not ns in
      let first = each-flat Not (children g nodes) before (each-left Not (flat_map (children g nodes) before) (map g.child (take place es)) not-B) in
      let last = each-flat Not (children g nodes) behind (each-right Not (map g.child (drop (suc place) es)) (flat_map (children g nodes) behind) not-H) in
      let ups = upper-sons g nodes Not i (suc k) (root_level nodes) not-U (subst Q (sym level) (each-left Not L B not-LB)) in
      subst P (sym whole-turn)
      (each-append Elsewhere U (spots (suc k) 0 L ++ low) (each-mono (λ s. Each Not (children g nodes s.n)) Elsewhere U (λ s h d lt. h) ups.1)
      (each-append Elsewhere (spots (suc k) 0 L) low (at-level 0 before behind first last)
      (each-mono (HavePassing g nodes Not) Elsewhere low (λ s h d. h) (turn-sons g nodes Not k (B ++ c ∷ H) not-R))))
