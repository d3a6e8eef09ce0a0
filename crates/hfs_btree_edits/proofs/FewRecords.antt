-- How many pairs a tree has at most: each of its leaves has at most 248 records, and no two leaves are the same node.
use Rattle.std.proofs.Common.{◌≡◌, ◌≢◌, ◌⊎◌, ℕ, zero, suc, ◌+◌, ◌-◌, ◌*◌, ◌<◌, ◌≤◌, List, [], ◌∷◌, ◌++◌, length, map, refl, sym, ap, ◌∙◌, subst, arith, inl, inr, length-append}
use Rattle.std.specs.Prelude.{Ok, Err, Result}
use Rattle.std.specs.List.{flat_map}
use Rattle.std.proofs.lemmas.Bool.{cases_eq}
use Rattle.std.proofs.lemmas.List.{length-map}
use Rattle.hfs_btree.specs.declared.node.Node.{Node}
use Rattle.hfs_btree.specs.declared.fault.NodeFault.{NodeFault}
use Rattle.hfs_btree.specs.Node.{node_of}
use Rattle.hfs_btree.proofs.DecodingLemmas.{node_of-is, length-records, count-inside}
use Rattle.hfs_btree.specs.declared.key.Key.{Ghosts}
use Rattle.hfs_fields.specs.Each.{Each}
use Rattle.hfs_fields.proofs.ElementLemmas.{each-append, each-left, each-right}
use Rattle.hfs_btree.specs.Tree.{Store, node_in, records_in, records_of, pair_of, pairs}
use Rattle.hfs_btree.specs.Header.{header_in, depth_of, root_level, leaves, own_nodes, tree_nodes, tree_content}
use Rattle.hfs_btree.specs.Sound.{HasStructure, IsOther, IsDistinct, IsRight, IsSound}
use Rattle.hfs_btree.proofs.LevelLemmas.{each-spots}
use Rattle.hfs_btree.proofs.DescentLemmas.{leaves-right}
use Rattle.hfs_btree_edits.proofs.DistinctLemmas.{distinct-right, last-distinct, other-before, other-behind}

-- ---- different numbers below one are no more than it

record HasPlace (m : ℕ) (xs : List ℕ) : Type 0 where
  before : List ℕ
  behind : List ℕ
  split : xs ≡ before ++ m ∷ behind

search-for : (m : ℕ) (xs : List ℕ) → HasPlace m xs ⊎ Each (λ x. x ≢ m) xs
search-for m [] = inr tt
search-for m (x ∷ xs) =
    elim (cases_eq x m) [
      | inl is ↦ inl (record { before = []; behind = xs; split = ap (λ (y : ℕ). y ∷ xs) is })
      | inr other ↦
          elim (search-for m xs) [
            | inl at ↦ inl (record { before = x ∷ at.before; behind = at.behind; split = ap (λ (ys : List ℕ). x ∷ ys) at.split })
            | inr none ↦ inr (other, none)
          ]
    ]

pub distinct-without : (xs : List ℕ) (m : ℕ) (ys : List ℕ) → IsDistinct (xs ++ m ∷ ys) → IsDistinct (xs ++ ys)
distinct-without [] m ys h = h.1
distinct-without (x ∷ xs) m ys h = (each-append (IsOther x) xs ys (each-left (IsOther x) xs (m ∷ ys) h.0) (each-right (IsOther x) xs (m ∷ ys) h.0).1, distinct-without xs m ys h.1)

abbrev AreBelow : ℕ → List ℕ → Type 0
AreBelow m xs = Each (λ x. x < m) xs

one-less : (m : ℕ) (xs : List ℕ) → AreBelow (suc m) xs → Each (λ x. x ≢ m) xs → AreBelow m xs
one-less m [] b other = tt
one-less m (x ∷ xs) b other = (let lt = b.0 in let ne = other.0 in omega (arith, lt, ne), one-less m xs b.1 other.1)

pub few-below : (m : ℕ) (xs : List ℕ) → IsDistinct xs → AreBelow m xs → length xs ≤ m
few-below zero [] d b = omega arith
few-below zero (x ∷ xs) d b = absurd (let lt = b.0 in omega (arith, lt))
few-below (suc m) xs d b =
    elim (search-for m xs) [
      | inr none ↦ (let few = few-below m xs d (one-less m xs b none) in omega (arith, few))
      | inl at ↦
          (let D : List ℕ → Type 0 = λ ys. IsDistinct ys in
          let B : List ℕ → Type 0 = λ ys. AreBelow (suc m) ys in
          let distinct = subst D at.split d in
          let bound = subst B at.split b in
          let others = each-append (λ x. x ≢ m) at.before at.behind (other-before at.before m at.behind distinct) (other-behind at.before m at.behind distinct) in
          let below = each-append (λ x. x < suc m) at.before at.behind (each-left (λ x. x < suc m) at.before (m ∷ at.behind) bound) (each-right (λ x. x < suc m) at.before (m ∷ at.behind) bound).1 in
          let few = few-below m (at.before ++ at.behind) (distinct-without at.before m at.behind distinct) (one-less m (at.before ++ at.behind) below others) in
          let same = ap (λ (ys : List ℕ). length ys) at.split in
          omega (arith, few, same, length-append at.before at.behind, length-append at.before (m ∷ at.behind)))
    ]

-- ---- the records of a node

node-few : (bytes : List ℕ) (v : Node) → node_of bytes ≡ Ok v → length v.records ≤ 248
node-few bytes v is =
    let both = node_of-is bytes v is in
    let count = ap (λ (w : Node). length w.records) both.1 in
    omega (arith, count, length-records v.kind bytes, count-inside bytes both.0.inside)

few-of : (r : Result Node NodeFault) → ((v : Node) → r ≡ Ok v → length v.records ≤ 248) → length (records_of r) ≤ 248
few-of (Ok v) few = few v refl
few-of (Err e) few = omega arith

pub records-few : (nodes : Store) (n : ℕ) → length (records_in nodes n) ≤ 248
unfolding node_in
records-few nodes n = few-of (node_of (Rattle.std.proofs.Common.get_or nodes n [])) (node-few (Rattle.std.proofs.Common.get_or nodes n []))

-- ---- the pairs of a tree

module _ {K : Type 0} (g : Ghosts K) (nodes : Store) (structure : HasStructure g nodes) where
  leaf-few : (n : ℕ) → length (pairs g nodes n) ≤ 248
  leaf-few n = let few = records-few nodes n in omega (arith, few, length-map (records_in nodes n) (pair_of g))

  level-few : (ns : List ℕ) → length (flat_map (pairs g nodes) ns) ≤ 248 * length ns
  level-few [] = omega arith
  level-few (n ∷ ns) =
      let here = leaf-few n in
      let rest = level-few ns in
      omega (arith, here, rest, length-append (pairs g nodes n) (flat_map (pairs g nodes) ns))

  leaves-below : AreBelow (header_in nodes).nodes (leaves g nodes)
  leaves-below =
      each-spots (IsRight g nodes) (λ n. n < (header_in nodes).nodes) 0 (λ l n r is. is.within.1) 0 (leaves g nodes)
      (leaves-right g nodes (depth_of nodes) (root_level nodes) structure.levels.each)

  leaves-few : length (leaves g nodes) ≤ (header_in nodes).nodes
  leaves-few =
      few-below (header_in nodes).nodes (leaves g nodes)
      (last-distinct g nodes (depth_of nodes) (root_level nodes) (distinct-right (own_nodes nodes) (tree_nodes g nodes) structure.levels.different)) leaves-below

  pub few-pairs : length (tree_content g nodes) ≤ 248 * (header_in nodes).nodes
  few-pairs = let each = level-few (leaves g nodes) in let few = leaves-few in omega (arith, each, few)

-- the header record can count one more
pub one-more_fits : {K : Type 0} (g : Ghosts K) (nodes : Store) → IsSound g nodes → 512 * (header_in nodes).nodes < 4294967296 → (header_in nodes).records + 1 < 4294967296
one-more_fits g nodes sound small =
    let few = few-pairs g nodes sound.structure in
    let count = sound.counts.records in
    let some = sound.structure.header.some in
    omega (arith, small, few, count, some)
