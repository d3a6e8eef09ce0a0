-- What a record that was put into a leaf leaves as it was: exact keys, levels.
use Rattle.std.proofs.Common.{◌≡◌, ℕ, zero, suc, ◌-◌, ◌<◌, List, [], ◌∷◌, length, refl, ap, ◌∙◌, arith, None}
use Rattle.std.specs.Cmp.{IsTotalOrder}
use Rattle.std.specs.List.{flat_map}
use Rattle.hfs_btree.specs.declared.key.Key.{Ghosts}
use Rattle.hfs_btree.specs.Pairs.{lookup}
use Rattle.hfs_fields.specs.Each.{Each}
use Rattle.hfs_fields.proofs.ElementLemmas.{each-left, each-right}
use Rattle.hfs_btree.specs.Tree.{Store, Spot, records_in, children, spots, turn, level_below}
use Rattle.hfs_btree.specs.Header.{depth_of, root_level, tree_content}
use Rattle.hfs_btree.specs.Sound.{IsSound}
use Rattle.hfs_btree.proofs.SearchLemmas.{IsLeafFor}
use Rattle.hfs_btree_edits.specs.Edits.{level_above}
use Rattle.hfs_btree_edits.proofs.LevelPartLemmas.{flat-kept}
use Rattle.hfs_btree_insertion.proofs.Puts.{IsPutIn, index-records, index-keeps}

-- ---- levels

index-levels : {K : Type 0} (g : Ghosts K) (old new : Store) (d t : ℕ) (ns : List ℕ) → t < d → Each (λ (x : Spot). (j : ℕ) → x.above ≡ suc j → records_in new x.n ≡ records_in old x.n) (turn g old d ns)
    → level_below g new t ns ≡ level_below g old t ns
index-levels g old new d zero ns lt h = refl
index-levels g old new zero (suc t) ns lt h = absurd (omega (arith, lt))
index-levels g old new (suc zero) (suc t) ns lt h = absurd (omega (arith, lt))
index-levels g old new (suc (suc k)) (suc t) ns lt h =
    let Q : Spot → Type 0 = λ x. (j : ℕ) → x.above ≡ suc j → records_in new x.n ≡ records_in old x.n in
    let next = flat_map (children g old) ns in
    let rest = turn g old (suc k) next in
    ap (level_below g new t) (flat-kept g old new ns (index-records g old new k 0 ns (each-left Q (spots (suc k) 0 ns) rest h)))
    ∙ index-levels g old new (suc k) t next (omega (arith, lt)) (each-right Q (spots (suc k) 0 ns) rest h)

module _ {K : Type 0} (g : Ghosts K) (total : IsTotalOrder g.compare) (key : K) (body : List ℕ) (old new : Store) (d n place : ℕ) (s : IsPutIn g key body old new d n place) (sound : IsSound g old)
    (found : IsLeafFor g old key n) (absent : lookup g.compare key (tree_content g old) ≡ None) (some : 0 < length (records_in old n)) where
  pub put-levels : (k : ℕ) → k < depth_of old → level_above g new k ≡ level_above g old k
  put-levels k lt =
      ap (λ (x : ℕ). level_below g new (x - 1 - k) (root_level new)) s.depth
      ∙ ap (λ (r : ℕ). level_below g new (depth_of old - 1 - k) (r ∷ [])) s.root
      ∙ index-levels g old new (depth_of old) (depth_of old - 1 - k) (root_level old) (omega (arith, lt)) (index-keeps g total key body old new d n place s sound found)
