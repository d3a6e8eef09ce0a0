-- The blocks of a sound volume's catalog file are all different: no allocation block is owned twice.
use Rattle.hfs_btree_edits.proofs.DistinctLemmas.{distinct-left}
use Rattle.std.proofs.Common.{◌≡◌, ℕ, zero, suc, ◌+◌, ◌*◌, ◌/◌, ◌<◌, List, [], ◌∷◌, ◌++◌, map, take, refl, sym, ◌∙◌, ap, subst, arith, append_assoc}
use Rattle.std.specs.List.{flat_map, range_with_len}
use Rattle.std.proofs.lemmas.Nat.{div-mul-add}
use Rattle.std.proofs.lemmas.List.Concat.{flat_map-append}
use Rattle.hfs_fields.specs.declared.mdb.Mdb.{Mdb}
use Rattle.hfs_fields.specs.declared.extent.Extent.{Extent}
use Rattle.hfs_fields.specs.Each.{Each}
use Rattle.hfs_fields.proofs.ElementLemmas.{each-append, each-left}
use Rattle.hfs_blocks.specs.Blocks.{nodes_in}
use Rattle.hfs_btree.specs.Sound.{IsOther, IsDistinct}
use Rattle.hfs_space.proofs.OwnedOnce.{distinct-range}
use Rattle.hfs_space.specs.Extents.{extent_blocks}
use Rattle.hfs_space.specs.Forks.{blocks_each}
use Rattle.hfs_space.proofs.ForkLawLemmas.{allocation_block, file_blocks-in_order}
use Rattle.hfs_space.specs.ForkLaws.{block_numbers}
use Rattle.hfs_space.specs.Owners.{forks_of, catalog_fork, extents_in, bad_extents, owned_extents, owned_blocks}
use Rattle.hfs_space.specs.TreeFiles.{node_count, tree_blocks}
use Rattle.hfs_check.specs.Parts.{Blocks, mdb_in, overflow_in, catalog_extents, catalog_blocks, catalog_in, owned_in}
use Rattle.hfs_check.specs.Sound.{AreBlocksSound}
use Rattle.hfs_btree.proofs.DistinctLemmas.{distinct-append}
use Rattle.hfs_record_edits.proofs.Frames.{each_range}

-- ---- lists in which no number stands twice

pub each-take : (P : ℕ → Type 0) (n : ℕ) (xs : List ℕ) → Each P xs → Each P (take n xs)
each-take P zero [] h = tt
each-take P zero (x ∷ xs) h = tt
each-take P (suc n) [] h = tt
each-take P (suc n) (x ∷ xs) h = (h.0, each-take P n xs h.1)

pub distinct-take : (n : ℕ) (xs : List ℕ) → IsDistinct xs → IsDistinct (take n xs)
distinct-take zero [] h = tt
distinct-take zero (x ∷ xs) h = tt
distinct-take (suc n) [] h = tt
distinct-take (suc n) (x ∷ xs) h = (each-take (IsOther x) n xs h.0, distinct-take n xs h.1)

-- ---- the logical blocks of allocation blocks

module _ (mdb : Mdb) where
  abbrev row : ℕ → List ℕ
  row a = range_with_len (mdb.allocation_start + a * blocks_each mdb) (blocks_each mdb)

  one_place : (a c j k : ℕ) → j < blocks_each mdb → k < blocks_each mdb → mdb.allocation_start + a * blocks_each mdb + j ≡ mdb.allocation_start + c * blocks_each mdb + k → a ≡ c
  one_place a c j k low high same =
      let e : a * blocks_each mdb + j ≡ c * blocks_each mdb + k = omega (arith, same) in
      sym (div-mul-add a (blocks_each mdb) j low) ∙ ap (λ (n : ℕ). n / blocks_each mdb) e ∙ div-mul-add c (blocks_each mdb) k high

  other-rows : (a j : ℕ) → j < blocks_each mdb → (cs : List ℕ) → Each (IsOther a) cs → Each (IsOther (mdb.allocation_start + a * blocks_each mdb + j)) (flat_map row cs)
  other-rows a j low [] h = tt
  other-rows a j low (c ∷ cs) h =
      each-append (IsOther (mdb.allocation_start + a * blocks_each mdb + j)) (row c) (flat_map row cs)
      (each_range (IsOther (mdb.allocation_start + a * blocks_each mdb + j)) (mdb.allocation_start + c * blocks_each mdb) (blocks_each mdb) (λ k high same. h.0 (one_place c a k j high low same)))
      (other-rows a j low cs h.1)

  pub distinct-rows : (cs : List ℕ) → IsDistinct cs → IsDistinct (flat_map row cs)
  distinct-rows [] h = tt
  distinct-rows (c ∷ cs) h =
      distinct-append (row c) (flat_map row cs) (distinct-range _ (blocks_each mdb)) (distinct-rows cs h.1)
      (each_range (λ x. Each (IsOther x) (flat_map row cs)) (mdb.allocation_start + c * blocks_each mdb) (blocks_each mdb) (λ j low. other-rows c j low cs h.0))

  abbrev one : ℕ → List ℕ
  one n = n ∷ []

  joined-one : (ns : List ℕ) → flat_map (λ (l : List ℕ). l) (map one ns) ≡ ns
  joined-one [] = refl
  joined-one (n ∷ ns) = ap (λ l. n ∷ l) (joined-one ns)

  joined-rows : (cs : List ℕ) → flat_map (λ (l : List ℕ). l) (flat_map (allocation_block one mdb) cs) ≡ flat_map row cs
  joined-rows [] = refl
  joined-rows (c ∷ cs) =
      flat_map-append (λ (l : List ℕ). l) (allocation_block one mdb c) (flat_map (allocation_block one mdb) cs)
      ∙ (λ i. joined-one (row c) i ++ joined-rows cs i)

  pub numbers-are : (extents : List Extent) → block_numbers mdb extents ≡ flat_map row (extent_blocks extents)
  unfolding nodes_in
  numbers-are extents =
      sym (joined-one (block_numbers mdb extents)) ∙ ap (flat_map (λ (l : List ℕ). l)) (file_blocks-in_order one mdb extents) ∙ joined-rows (extent_blocks extents)

-- ---- the catalog's file

module _ (total : ℕ) (blocks : Blocks) (h : AreBlocksSound total blocks) where
  abbrev pub others : List Extent
  others = flat_map (extents_in (overflow_in blocks)) (flat_map forks_of (catalog_in blocks))

  abbrev behind : List Extent
  behind = others ++ ((mdb_in blocks).extents_file ++ bad_extents (overflow_in blocks))

  pub owned-parts : owned_in blocks ≡ extent_blocks (catalog_extents blocks) ++ extent_blocks behind
  unfolding owned_in owned_blocks owned_extents catalog_extents
  owned-parts =
      let file = extents_in (overflow_in blocks) (catalog_fork (mdb_in blocks)) in
      let split : (file ++ others) ++ (mdb_in blocks).extents_file ++ bad_extents (overflow_in blocks) ≡ file ++ behind = simp append_assoc in
      ap extent_blocks split ∙ flat_map-append (λ (e : Extent). range_with_len e.first e.count) file behind

  pub different : IsDistinct (catalog_blocks blocks)
  unfolding catalog_blocks tree_blocks
  different =
      let owned = distinct-left (extent_blocks (catalog_extents blocks)) (extent_blocks behind) (subst IsDistinct owned-parts h.space.once) in
      distinct-take (node_count (mdb_in blocks).catalog_file_size) (block_numbers (mdb_in blocks) (catalog_extents blocks))
      (subst IsDistinct (sym (numbers-are (mdb_in blocks) (catalog_extents blocks))) (distinct-rows (mdb_in blocks) (extent_blocks (catalog_extents blocks)) owned))
