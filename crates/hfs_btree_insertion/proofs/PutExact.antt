-- An exact tree stays exact where a leaf has got a record that isn't its first.
use Rattle.std.proofs.Common.{◌≡◌, ℕ, zero, suc, ◌<◌, ◌≤◌, List, [], ◌∷◌, length, get_or, refl, sym, ap, ◌∙◌, subst, arith, inl, inr}
use Rattle.std.specs.Prelude.{insert, Result}
use Rattle.std.specs.Cmp.{IsTotalOrder}
use Rattle.std.specs.List.{flat_map}
use Rattle.std.proofs.lemmas.Bool.{cases_eq}
use Rattle.hfs_btree.specs.declared.node.Node.{Node}
use Rattle.hfs_btree.specs.declared.fault.NodeFault.{NodeFault}
use Rattle.hfs_btree.specs.declared.key.Key.{Ghosts}
use Rattle.hfs_fields.specs.Each.{Each}
use Rattle.hfs_fields.proofs.ElementLemmas.{each-append, each-left, each-right, each-mono}
use Rattle.hfs_btree.specs.Tree.{Store, Spot, records_in, records_of, children, spots, turn}
use Rattle.hfs_btree.specs.Header.{depth_of, root_level, tree_turn}
use Rattle.hfs_btree.specs.Sound.{IsRight, IsSound, IsExact, AreKeysExact}
use Rattle.hfs_btree.proofs.SearchLemmas.{IsLeafFor}
use Rattle.hfs_btree_insertion.proofs.Exacts.{KeepsFirst, Exact, exact-spots, exact-of-spots, level-exact, keeps-first}
use Rattle.hfs_btree_edits.proofs.LevelPartLemmas.{of-spots}
use Rattle.hfs_btree_insertion.proofs.Puts.{IsPutIn, index-records, keeps, index-keeps, put-turn}

leaves-exact : {K : Type 0} (g : Ghosts K) (nodes : Store) (left : ℕ) (ns : List ℕ) → Each (λ (x : Spot). AreKeysExact g nodes x.above x.n) (spots 0 left ns)
leaves-exact g nodes left [] = tt
leaves-exact g nodes left (n ∷ ns) = (tt, leaves-exact g nodes n ns)

-- index nodes keep their records, and all nodes their first ones
pub firsts-exact : {K : Type 0} (g : Ghosts K) (old new : Store) (d : ℕ) (ns : List ℕ) → Each (λ (x : Spot). (j : ℕ) → x.above ≡ suc j → records_in new x.n ≡ records_in old x.n) (turn g old d ns)
    → Each (λ (x : Spot). KeepsFirst g old new x.n) (turn g old d ns) → Each (Exact g old new old) (turn g old d ns) → Each (Exact g old new new) (turn g old d ns)
firsts-exact g old new zero ns keep first h = tt
firsts-exact g old new (suc zero) ns keep first h = each-append (Exact g old new new) (spots 0 0 ns) [] (leaves-exact g new 0 ns) tt
firsts-exact g old new (suc (suc k)) ns keep first h =
    let Q : Spot → Type 0 = λ x. (j : ℕ) → x.above ≡ suc j → records_in new x.n ≡ records_in old x.n in
    let F : Spot → Type 0 = λ x. KeepsFirst g old new x.n in
    let next = flat_map (children g old) ns in
    let here = spots (suc k) 0 ns in
    let rest = turn g old (suc k) next in
    let first-rest = each-right F here rest first in
    let below = of-spots (KeepsFirst g old new) k 0 next (each-left F (spots k 0 next) (turn g old k (flat_map (children g old) next)) first-rest) in
    each-append (Exact g old new new) here rest
    (exact-spots g old new new (suc k) 0 ns (level-exact g old new (suc k) ns (index-records g old new k 0 ns (each-left Q here rest keep)) below
    (exact-of-spots g old new old (suc k) 0 ns (each-left (Exact g old new old) here rest h))))
    (firsts-exact g old new (suc k) next (each-right Q here rest keep) first-rest (each-right (Exact g old new old) here rest h))

later-first : (xs : List (List ℕ)) (place : ℕ) (y : List ℕ) → 0 < place → place ≤ length xs → get_or (insert xs place y) 0 [] ≡ get_or xs 0 []
later-first xs zero y lt le = absurd (omega arith)
later-first [] (suc j) y lt le = absurd (omega arith)
later-first (x ∷ xs) (suc j) y lt le = refl

module _ {K : Type 0} (g : Ghosts K) (total : IsTotalOrder g.compare) (key : K) (body : List ℕ) (old new : Store) (d n place : ℕ) (s : IsPutIn g key body old new d n place) (sound : IsSound g old)
    (found : IsLeafFor g old key n) (later : 0 < place) where
  first-kept : (x : Spot) → IsRight g old x → KeepsFirst g old new x.n
  first-kept x is =
      elim (cases_eq x.n n) [
        | inr other ↦ keeps-first g old new x.n (keeps g total key body old new d n place s sound found x is other)
        | inl at ↦
            (let P : ℕ → Type 0 = λ y. KeepsFirst g old new y in
            subst P (sym at)
            (ap (λ (r : Result Node NodeFault). get_or (records_of r) 0 []) s.is
            ∙ later-first s.node.records place s.entry later s.within
            ∙ sym (ap (λ (r : Result Node NodeFault). get_or (records_of r) 0 []) s.was)))
      ]

  pub put-exact : IsExact g old → IsExact g new
  put-exact exact =
      let P : List Spot → Type 0 = λ ss. Each (Exact g old new new) ss in
      subst P (sym (put-turn g total key body old new d n place s sound found))
      (firsts-exact g old new (depth_of old) (root_level old) (index-keeps g total key body old new d n place s sound found)
      (each-mono (IsRight g old) (λ (x : Spot). KeepsFirst g old new x.n) (tree_turn g old) first-kept sound.structure.levels.each) exact)
