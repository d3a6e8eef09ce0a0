-- Levels of a tree and the ways through it, counted from the leaves, where nodes have kept their records.
use Rattle.std.proofs.Common.{◌≡◌, ℕ, zero, suc, ◌+◌, ◌-◌, ◌<◌, ◌≤◌, List, [], ◌∷◌, ◌++◌, length, refl, sym, ap, ◌∙◌, subst, arith}
use Rattle.std.specs.List.{flat_map, prefix_len}
use Rattle.hfs_btree.specs.Node.{size_of}
use Rattle.hfs_btree.specs.declared.key.Key.{Ghosts}
use Rattle.hfs_fields.specs.Each.{Each}
use Rattle.hfs_fields.proofs.ElementLemmas.{each-left, each-right, each-mono}
use Rattle.hfs_btree.specs.Tree.{Store, Spot, records_in, children, spots, turn, level_below}
use Rattle.hfs_btree.specs.Header.{header_in, depth_of, root_level, tree_turn}
use Rattle.hfs_btree.specs.Sound.{HasStructure, IsRight}
use Rattle.hfs_btree.specs.Search.{is_not_above, child_for, leaf_under}
use Rattle.hfs_btree.proofs.DescentLemmas.{next-split, place-within}
use Rattle.hfs_btree.proofs.LevelLemmas.{records-some}
use Rattle.hfs_btree_insertion.specs.Growth.{KeepsLevels}
use Rattle.hfs_btree_edits.specs.LevelParts.{lift}
use Rattle.hfs_btree_edits.proofs.LevelPartLemmas.{upper, of-spots, flat-kept, KeepsRecords, KeepsAt}
use Rattle.hfs_btree_insertion.proofs.WayTo.{leaf-next}

abbrev pub HasRecords : Store → Spot → Type 0
HasRecords nodes x = 0 < length (records_in nodes x.n)

module _ {K : Type 0} (g : Ghosts K) (nodes : Store) where
  pub some-of : HasStructure g nodes → Each (HasRecords nodes) (tree_turn g nodes)
  some-of structure = each-mono (IsRight g nodes) (HasRecords nodes) (tree_turn g nodes) (λ x r. records-some g nodes (IsRight g nodes) (λ spot y. y) x r) structure.levels.each

  -- what holds of each node of the levels holds on the way to a key
  pub at-way : (key : K) (P : ℕ → Type 0) (d j : ℕ) (ns bf : List ℕ) (x : ℕ) (bh : List ℕ) → ns ≡ bf ++ x ∷ bh → j < d → Each (λ (s : Spot). P s.n) (turn g nodes d ns) → Each (HasRecords nodes) (turn g nodes d ns)
      → P (leaf_under g nodes key j x)
  at-way key P zero j ns bf x bh split lt each some = absurd (omega (arith, lt))
  at-way key P (suc d) zero ns bf x bh split lt each some =
      let Q : List ℕ → Type 0 = λ xs. Each P xs in
      let here = subst Q split (of-spots P d 0 ns (each-left (λ (s : Spot). P s.n) (spots d 0 ns) (turn g nodes d (flat_map (children g nodes) ns)) each)) in
      (each-right P bf (x ∷ bh) here).0
  at-way key P (suc d) (suc j) ns bf x bh split lt each some =
      let next = flat_map (children g nodes) ns in
      let S : List ℕ → Type 0 = λ xs. Each (λ y. 0 < length (records_in nodes y)) xs in
      let here = subst S split (of-spots (λ y. 0 < length (records_in nodes y)) d 0 ns (each-left (HasRecords nodes) (spots d 0 ns) (turn g nodes d next) some)) in
      let entries = (each-right (λ y. 0 < length (records_in nodes y)) bf (x ∷ bh) here).0 in
      let cut = ap (flat_map (children g nodes)) split ∙ next-split g nodes bf x bh (prefix_len (is_not_above g key) (records_in nodes x) - 1) (place-within g key (records_in nodes x) entries) in
      at-way key P d j next _ (child_for g key (records_in nodes x)) _ cut (omega (arith, lt)) (each-right (λ (s : Spot). P s.n) (spots d 0 ns) (turn g nodes d next) each) (each-right (HasRecords nodes) (spots d 0 ns) (turn g nodes d next) some)

  -- the same in the levels above one of them
  pub at-upper : (key : K) (P : ℕ → Type 0) (i k j : ℕ) (ns bf : List ℕ) (x : ℕ) (bh : List ℕ) → ns ≡ bf ++ x ∷ bh → j < i → Each (λ (s : Spot). P s.n) (upper g nodes i k ns) → Each (HasRecords nodes) (upper g nodes i k ns)
      → P (leaf_under g nodes key j x)
  at-upper key P zero k j ns bf x bh split lt each some = absurd (omega (arith, lt))
  at-upper key P (suc i) k zero ns bf x bh split lt each some =
      let Q : List ℕ → Type 0 = λ xs. Each P xs in
      let here = subst Q split (of-spots P (suc (lift i k)) 0 ns (each-left (λ (s : Spot). P s.n) (spots (suc (lift i k)) 0 ns) (upper g nodes i k (flat_map (children g nodes) ns)) each)) in
      (each-right P bf (x ∷ bh) here).0
  at-upper key P (suc i) k (suc j) ns bf x bh split lt each some =
      let next = flat_map (children g nodes) ns in
      let S : List ℕ → Type 0 = λ xs. Each (λ y. 0 < length (records_in nodes y)) xs in
      let here = subst S split (of-spots (λ y. 0 < length (records_in nodes y)) (suc (lift i k)) 0 ns (each-left (HasRecords nodes) (spots (suc (lift i k)) 0 ns) (upper g nodes i k next) some)) in
      let entries = (each-right (λ y. 0 < length (records_in nodes y)) bf (x ∷ bh) here).0 in
      let cut = ap (flat_map (children g nodes)) split ∙ next-split g nodes bf x bh (prefix_len (is_not_above g key) (records_in nodes x) - 1) (place-within g key (records_in nodes x) entries) in
      at-upper key P i k j next _ (child_for g key (records_in nodes x)) _ cut (omega (arith, lt)) (each-right (λ (s : Spot). P s.n) (spots (suc (lift i k)) 0 ns) (upper g nodes i k next) each)
      (each-right (HasRecords nodes) (spots (suc (lift i k)) 0 ns) (upper g nodes i k next) some)

  -- a node on the way, between the others of its level
  pub record IsStanding (j : ℕ) (ns : List ℕ) (n : ℕ) : Type 0 where
    pub before : List ℕ
    pub behind : List ℕ
    pub split : level_below g nodes j ns ≡ before ++ n ∷ behind

  pub standing : (key : K) (d j : ℕ) (ns bf : List ℕ) (x : ℕ) (bh : List ℕ) → ns ≡ bf ++ x ∷ bh → j < d → Each (HasRecords nodes) (turn g nodes d ns) → IsStanding j ns (leaf_under g nodes key j x)
  standing key zero j ns bf x bh split lt some = absurd (omega (arith, lt))
  standing key (suc d) zero ns bf x bh split lt some = record { before = bf; behind = bh; split = split }
  standing key (suc d) (suc j) ns bf x bh split lt some =
      let next = flat_map (children g nodes) ns in
      let S : List ℕ → Type 0 = λ xs. Each (λ y. 0 < length (records_in nodes y)) xs in
      let here = subst S split (of-spots (λ y. 0 < length (records_in nodes y)) d 0 ns (each-left (HasRecords nodes) (spots d 0 ns) (turn g nodes d next) some)) in
      let entries = (each-right (λ y. 0 < length (records_in nodes y)) bf (x ∷ bh) here).0 in
      let cut = ap (flat_map (children g nodes)) split ∙ next-split g nodes bf x bh (prefix_len (is_not_above g key) (records_in nodes x) - 1) (place-within g key (records_in nodes x) entries) in
      let rest = standing key d j next _ (child_for g key (records_in nodes x)) _ cut (omega (arith, lt)) (each-right (HasRecords nodes) (spots d 0 ns) (turn g nodes d next) some) in
      record { before = rest.before; behind = rest.behind; split = rest.split }

  pub tree-way : (key : K) (P : ℕ → Type 0) (j : ℕ) → HasStructure g nodes → j < depth_of nodes → Each (λ (s : Spot). P s.n) (tree_turn g nodes) → P (leaf_under g nodes key j (header_in nodes).root)
  tree-way key P j structure lt each = at-way key P (depth_of nodes) j (root_level nodes) [] (header_in nodes).root [] refl lt each (some-of structure)

  -- one record leads to its child, whatever the key
  pub child-one : (key : K) (e : List ℕ) → child_for g key (e ∷ []) ≡ g.child e
  child-one key e =
      let lt = place-within g key (e ∷ []) (omega arith) in
      let none : prefix_len (is_not_above g key) (e ∷ []) - 1 ≡ 0 = omega (arith, lt) in
      ap (λ (j : ℕ). g.child (Rattle.std.proofs.Common.get_or (e ∷ []) j [])) none

module _ {K : Type 0} (g : Ghosts K) (old new : Store) where
  -- the same way, where the nodes on it have kept their records
  pub way-same : (key : K) (r j : ℕ) → ((i : ℕ) → i < j → records_in new (leaf_under g old key i r) ≡ records_in old (leaf_under g old key i r)) → leaf_under g new key j r ≡ leaf_under g old key j r
  way-same key r zero keep = refl
  way-same key r (suc j) keep =
      let above = way-same key r j (λ i lt. keep i (omega (arith, lt))) in
      leaf-next g new key j r
      ∙ ap (λ (x : ℕ). child_for g key (records_in new x)) above
      ∙ ap (child_for g key) (keep j (omega arith))
      ∙ sym (leaf-next g old key j r)

  -- the same levels, where all nodes have
  pub turn-level : (d t : ℕ) (ns : List ℕ) → t < d → Each (KeepsAt g old new) (turn g old d ns) → level_below g new t ns ≡ level_below g old t ns
  turn-level d zero ns le h = refl
  turn-level zero (suc t) ns le h = absurd (omega (arith, le))
  turn-level (suc d) (suc t) ns le h =
      let next = flat_map (children g old) ns in
      let below = flat-kept g old new ns (of-spots (KeepsRecords g old new) d 0 ns (each-left (KeepsAt g old new) (spots d 0 ns) (turn g old d next) h)) in
      ap (level_below g new t) below ∙ turn-level d t next (omega (arith, le)) (each-right (KeepsAt g old new) (spots d 0 ns) (turn g old d next) h)

  module _ (structure : HasStructure g old) (keep : Each (KeepsAt g old new) (tree_turn g old)) where
    pub level-same : (t : ℕ) → t < depth_of old → level_below g new t (root_level old) ≡ level_below g old t (root_level old)
    level-same t lt = turn-level (depth_of old) t (root_level old) lt keep

    pub record-same : (key : K) (j : ℕ) → j < depth_of old → records_in new (leaf_under g old key j (header_in old).root) ≡ records_in old (leaf_under g old key j (header_in old).root)
    record-same key j lt = tree-way g old key (KeepsRecords g old new) j structure lt keep

    pub under-same : (key : K) (j : ℕ) → j < depth_of old → leaf_under g new key j (header_in old).root ≡ leaf_under g old key j (header_in old).root
    under-same key j lt = way-same key (header_in old).root j (λ i less. record-same key i (omega (arith, lt, less)))

    -- all of it, where depth and root are the same
    pub same-tree : depth_of new ≡ depth_of old → (header_in new).root ≡ (header_in old).root → KeepsLevels g old new
    same-tree deep root = record {
      levels = λ k lt.
          ap (λ (d : ℕ). level_below g new (d - 1 - k) (root_level new)) deep
          ∙ ap (λ (r : ℕ). level_below g new (depth_of old - 1 - k) (r ∷ [])) root
          ∙ level-same (depth_of old - 1 - k) (omega (arith, lt));
      way = λ key k lt.
          ap (λ (d : ℕ). leaf_under g new key (d - 1 - k) (header_in new).root) deep
          ∙ ap (λ (r : ℕ). leaf_under g new key (depth_of old - 1 - k) r) root
          ∙ under-same key (depth_of old - 1 - k) (omega (arith, lt));
      records = λ key k lt. record-same key (depth_of old - 1 - k) (omega (arith, lt));
      size = λ key k lt. ap size_of (record-same key (depth_of old - 1 - k) (omega (arith, lt)));
    }

-- one after the other
pub levels-then : {K : Type 0} (g : Ghosts K) (a b c : Store) → depth_of a ≤ depth_of b → KeepsLevels g a b → KeepsLevels g b c → KeepsLevels g a c
levels-then g a b c le x y = record {
  levels = λ k lt. y.levels k (omega (arith, le, lt)) ∙ x.levels k lt;
  way = λ key k lt. y.way key k (omega (arith, le, lt)) ∙ x.way key k lt;
  records = λ key k lt.
      ap (records_in c) (sym (x.way key k lt))
      ∙ y.records key k (omega (arith, le, lt))
      ∙ ap (records_in b) (x.way key k lt)
      ∙ x.records key k lt;
  size = λ key k lt.
      ap (λ (n : ℕ). size_of (records_in c n)) (sym (x.way key k lt))
      ∙ y.size key k (omega (arith, le, lt))
      ∙ ap (λ (n : ℕ). size_of (records_in b n)) (x.way key k lt)
      ∙ x.size key k lt;
}
