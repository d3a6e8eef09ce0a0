-- Owners by the edges of extents.
use Rattle.std.proofs.Common.{◌≡◌, ◌≢◌, ℕ, zero, suc, ◌+◌, ◌-◌, ◌<◌, ◌≤◌, Bool, true, false, cond, eqb, ltb, List, [], ◌∷◌, length, map, take, set, get_or, refl, sym, ap, ◌∙◌, arith}
use Rattle.std.specs.List.{range_with_len}
use Rattle.std.proofs.lemmas.Bool.{eqb-true, eq-eqb, true≢false}
use Rattle.std.proofs.lemmas.Bool.Decides.{nat_tests}
use Rattle.std.proofs.lemmas.List.{get_or-set_same, get_or-set_other, length-take-le, take_all}
use Rattle.std.proofs.lemmas.List.Sums.{sum_by-cons, sum_by-append, sum_by_more, count_by-le-length}
use Rattle.std.proofs.lemmas.List.FromFn.{get_or-map-range_with_len, fill_by_all}
use Rattle.hfs_fields.specs.declared.extent.Extent.{Extent}
use Rattle.hfs_space.specs.declared.owners.Edge.{Edge}
use Rattle.hfs_space.specs.declared.owners.Edge.TheVariants.{First, Behind}
use Rattle.hfs_space.specs.Extents.{extent_blocks}
use Rattle.hfs_space.specs.Owners.{owners}
use Rattle.hfs_space.specs.Edges.{block_at, edge_count}
use Rattle.hfs_space.proofs.EdgeLemmas.{edges_before}

-- ---- counting edges

module _ (edge : Edge) (extents : List Extent) (i : ℕ) (d : Extent) (lt : i < length extents) where
  abbrev e : Extent
  e = get_or extents i d

  one_more : (k : ℕ) → edge_count edge (take (i + 1) extents) k ≡ edge_count edge (take i extents) k + cond (eqb (block_at edge e) k) 1 0
  one_more k = sum_by_more (λ (x : Extent). cond (eqb (block_at edge x) k) 1 0) extents i d lt

  pub edge_here : edge_count edge (take (i + 1) extents) (block_at edge e) ≡ edge_count edge (take i extents) (block_at edge e) + 1
  edge_here = one_more (block_at edge e) ∙ ap (λ (t : Bool). edge_count edge (take i extents) (block_at edge e) + cond t 1 0) (eq-eqb (block_at edge e) (block_at edge e) refl)

  pub edge_elsewhere : (k : ℕ) → block_at edge e ≢ k → edge_count edge (take (i + 1) extents) k ≡ edge_count edge (take i extents) k
  edge_elsewhere k other = one_more k ∙ by (eqb (block_at edge e) k) refl
    where
      by : (t : Bool) → eqb (block_at edge e) k ≡ t → edge_count edge (take i extents) k + cond t 1 0 ≡ edge_count edge (take i extents) k
      by true same = absurd (other (eqb-true _ _ same))
      by false differs = omega arith

pub edge-few : (edge : Edge) (extents : List Extent) (i k : ℕ) → i ≤ length extents → edge_count edge (take i extents) k ≤ i
edge-few edge extents i k le = omega (arith, count_by-le-length (λ (x : Extent). eqb (block_at edge x) k) (take i extents), length-take-le i extents le)

-- ---- up to one more block

pub edges-more : (edge : Edge) (extents : List Extent) (b : ℕ) → edges_before edge extents (b + 1) ≡ edges_before edge extents b + edge_count edge extents b
edges-more edge [] b = refl
edges-more edge (e ∷ extents) b =
    let x = block_at edge e in
    let head : ◌≡◌ {A = ℕ} (cond (ltb x (b + 1)) 1 0) (cond (ltb x b) 1 0 + cond (eqb x b) 1 0) = grind (arith, nat_tests) in
    omega (
      arith,
      head,
      edges-more edge extents b,
      sum_by-cons (λ (y : Extent). cond (ltb (block_at edge y) (b + 1)) 1 0) e extents,
      sum_by-cons (λ (y : Extent). cond (ltb (block_at edge y) b) 1 0) e extents,
      sum_by-cons (λ (y : Extent). cond (eqb (block_at edge y) b) 1 0) e extents,
    )

range-edges : (first count b : ℕ) → owners (range_with_len first count) b + cond (ltb (first + count) (b + 1)) 1 0 ≡ cond (ltb first (b + 1)) 1 0
range-edges first zero b = let e : first + zero ≡ first = omega arith in ap {B = ℕ} (λ x. 0 + cond (ltb x (b + 1)) 1 0) e ∙ (let z : ◌≡◌ {A = ℕ} (0 + cond (ltb first (b + 1)) 1 0) (cond (ltb first (b + 1)) 1 0) = omega arith in z)
range-edges first (suc count) b =
    let cons = sum_by-cons (λ x. cond (eqb x b) 1 0) first (range_with_len (first + 1) count) in
    let rest = range-edges (first + 1) count b in
    let end : first + 1 + count ≡ first + suc count = omega arith in
    let same = ap {B = ℕ} (λ x. cond (ltb x (b + 1)) 1 0) end in
    let head : ◌≡◌ {A = ℕ} (cond (ltb first (b + 1)) 1 0) (cond (ltb (first + 1) (b + 1)) 1 0 + cond (eqb first b) 1 0) = grind (arith, nat_tests) in
    omega (arith, cons, rest, same, head)

-- as many own a block as extents began up to it and did not end
pub owners-edges : (extents : List Extent) (b : ℕ) → owners (extent_blocks extents) b + edges_before Behind extents (b + 1) ≡ edges_before First extents (b + 1)
owners-edges [] b = refl
owners-edges (e ∷ extents) b =
    let both = sum_by-append (λ x. cond (eqb x b) 1 0) (range_with_len e.first e.count) (extent_blocks extents) in
    let head = range-edges e.first e.count b in
    omega (
      arith,
      both,
      head,
      owners-edges extents b,
      sum_by-cons (λ (y : Extent). cond (ltb (y.first + y.count) (b + 1)) 1 0) e extents,
      sum_by-cons (λ (y : Extent). cond (ltb y.first (b + 1)) 1 0) e extents,
    )

-- ---- one more block of a walk

module _ (extents : List Extent) (b count first behind : ℕ) (opened : count + edges_before Behind extents b ≡ edges_before First extents b)
    (is_first : first ≡ edge_count First extents b) (is_behind : behind ≡ edge_count Behind extents b) where
  pub open-sum : count + first ≡ owners (extent_blocks extents) b + behind
  open-sum = omega (arith, opened, is_first, is_behind, owners-edges extents b, edges-more First extents b, edges-more Behind extents b)

  pub open-after : (count + first - behind) + edges_before Behind extents (b + 1) ≡ edges_before First extents (b + 1)
  open-after = omega (arith, open-sum, owners-edges extents b)

  pub open-owners : count + first - behind ≡ owners (extent_blocks extents) b
  open-owners = omega (arith, open-sum)

pub before-few : (edge : Edge) (extents : List Extent) (b : ℕ) → edges_before edge extents b ≤ length extents
before-few edge extents b = count_by-le-length (λ (x : Extent). ltb (block_at edge x) b) extents

pub before-none : (edge : Edge) (extents : List Extent) → edges_before edge extents 0 ≡ 0
before-none edge [] = refl
before-none edge (e ∷ extents) =
    let head : ◌≡◌ {A = ℕ} (cond (ltb (block_at edge e) 0) 1 0) 0 = grind (arith, nat_tests) in
    omega (arith, head, before-none edge extents, sum_by-cons (λ (y : Extent). cond (ltb (block_at edge y) 0) 1 0) e extents)

-- ---- the counts of edges, extent by extent

module _ (edge : Edge) (extents : List Extent) (i blocks : ℕ) (counts : List ℕ) (d : Extent) (lt : i < length extents) (long : length counts ≡ blocks)
    (counted : (k z : ℕ) → k < blocks → get_or counts k z ≡ edge_count edge (take i extents) k) where
  abbrev at : ℕ
  at = block_at edge (get_or extents i d)

  pub edge-set : (block v z : ℕ) → block ≡ at → block < blocks → v ≡ get_or counts block z + 1
      → (k y : ℕ) → k < blocks → get_or (set counts block v) k y ≡ edge_count edge (take (i + 1) extents) k
  edge-set block v z is within is_v k y lt_k = by (eqb block k) refl
    where
      by : (t : Bool) → eqb block k ≡ t → get_or (set counts block v) k y ≡ edge_count edge (take (i + 1) extents) k
      by true same =
          let here : block ≡ k = eqb-true _ _ same in
          ap (λ n. get_or (set counts block v) n y) (sym here)
          ∙ get_or-set_same counts block v y (omega arith) ∙ is_v ∙ ap (λ n. n + 1) (counted block z within)
          ∙ ap (λ n. edge_count edge (take i extents) n + 1) is ∙ sym (edge_here edge extents i d lt)
          ∙ ap (edge_count edge (take (i + 1) extents)) (sym is ∙ here)
      by false differs =
          let other : block ≢ k = λ here. true≢false (sym (eq-eqb _ _ here) ∙ differs) in
          get_or-set_other counts block k v y (λ here. other (sym here)) ∙ counted k y lt_k ∙ sym (edge_elsewhere edge extents i d lt k (λ here. other (is ∙ here)))

  pub edge-kept : (block : ℕ) → block ≡ at → blocks ≤ block → (k y : ℕ) → k < blocks → get_or counts k y ≡ edge_count edge (take (i + 1) extents) k
  edge-kept block is past k y lt_k = counted k y lt_k ∙ sym (edge_elsewhere edge extents i d lt k (λ here. absurd (omega arith)))

pub edges-all : (edge : Edge) (extents : List Extent) (i blocks : ℕ) (counts : List ℕ) → length extents ≤ i → length counts ≡ blocks
    → ((k z : ℕ) → k < blocks → get_or counts k z ≡ edge_count edge (take i extents) k) → counts ≡ map (edge_count edge extents) (range_with_len 0 blocks)
edges-all edge extents i blocks counts le long counted =
    fill_by_all (edge_count edge extents) counts blocks 0 long (λ k lt. counted k 0 lt ∙ ap (λ (l : List Extent). edge_count edge l k) (take_all i extents le))

-- the count at a block, as it is read
pub edge-read : (edge : Edge) (extents : List Extent) (blocks block : ℕ) (counts : List ℕ) (read : ℕ) → block < blocks → counts ≡ map (edge_count edge extents) (range_with_len 0 blocks) → read ≡ get_or counts block read
    → read ≡ edge_count edge extents block
edge-read edge extents blocks block counts read lt is at =
    at ∙ ap (λ l. get_or l block read) is ∙ get_or-map-range_with_len (edge_count edge extents) 0 blocks block block read lt (omega arith)
