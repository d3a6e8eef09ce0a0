-- How many own an allocation block.
use Rattle.std.proofs.Common.{◌≡◌, ℕ, ◌+◌, ◌<◌, ◌≤◌, Bool, true, false, cond, eqb, List, [], ◌∷◌, ◌++◌, ⊎_elim, refl, ◌∙◌, ap, subst, arith}
use Rattle.std.specs.List.{flat_map, sum_by}
use Rattle.std.proofs.lemmas.Grind.{flat_map-append}
use Rattle.std.proofs.lemmas.Bool.{eqb-true, eq-eqb}
use Rattle.std.proofs.lemmas.List.Sums.{sum_by-cons}
use Rattle.hfs_fields.specs.declared.mdb.Mdb.{Mdb}
use Rattle.hfs_fields.specs.Each.{Each}
use Rattle.hfs_fields.specs.Members.{In}
use Rattle.hfs_btree.specs.Sound.{IsDistinct, IsOther}
use Rattle.hfs_space.proofs.OwnedLemmas.{blocks-append}
use Rattle.hfs_space.specs.Extents.{Overflow, extent_blocks}
use Rattle.hfs_space.specs.Owners.{Fork, forks_of, catalog_fork, all_forks, extents_in, bad_extents, owned_extents, owned_blocks, owners}
use Rattle.hfs_catalog.specs.Records.{Record, Catalog}
use Rattle.hfs_record_edits.proofs.Space.{none_other, cons, one, no}
use Rattle.hfs_format.proofs.BitsRead.{one_if}

-- ---- numbers that stand in a list

module _ (mdb : Mdb) (overflow : Overflow) (b : ℕ) where
  -- how often a record's forks have the block
  abbrev pub forks_have : List Fork → ℕ
  forks_have forks = owners (extent_blocks (flat_map (extents_in overflow) forks)) b

  abbrev pub record_has : Record → ℕ
  record_has r = forks_have (forks_of r)

  -- how often the trees' files and the bad blocks have it
  abbrev pub others_have : ℕ
  others_have = owners (extent_blocks (extents_in overflow (catalog_fork mdb))) b + (owners (extent_blocks mdb.extents_file) b + owners (extent_blocks (bad_extents overflow)) b)

  forks_parts : (fs gs : List Fork) → forks_have (fs ++ gs) ≡ forks_have fs + forks_have gs
  forks_parts fs gs = ap (λ l. owners (extent_blocks l) b) (flat_map-append (extents_in overflow) fs gs) ∙ blocks-append (flat_map (extents_in overflow) fs) (flat_map (extents_in overflow) gs) b

  catalog_has : (catalog : Catalog) → forks_have (flat_map forks_of catalog) ≡ sum_by record_has catalog
  catalog_has [] = refl
  catalog_has (r ∷ rest) = omega (arith, forks_parts (forks_of r) (flat_map forks_of rest), catalog_has rest, sum_by-cons record_has r rest)

  pub owners_sum : (catalog : Catalog) → owners (owned_blocks mdb overflow catalog) b ≡ others_have + sum_by record_has catalog
  unfolding owned_blocks owned_extents
  owners_sum catalog =
      let forks = flat_map (extents_in overflow) (all_forks mdb catalog) in
      omega (
        arith,
        blocks-append (forks ++ mdb.extents_file) (bad_extents overflow) b,
        blocks-append forks mdb.extents_file b,
        blocks-append (extents_in overflow (catalog_fork mdb)) (flat_map (extents_in overflow) (flat_map forks_of catalog)) b,
        catalog_has catalog,
      )

  -- who has the block in one of its files has it in no tree
  pub sum_in : (catalog : Catalog) (r : Record) → In r catalog → record_has r ≤ sum_by record_has catalog
  sum_in [] r i = absurd i
  sum_in (x ∷ xs) r i = ⊎_elim
      (λ (e : x ≡ r). let same : record_has x ≡ record_has r = ap record_has e in omega (arith, same, sum_by-cons record_has x xs))
      (λ (there : In r xs). omega (arith, sum_in xs r there, sum_by-cons record_has x xs))
      i

-- what stands in a list is owned
pub owners_in : (b : ℕ) (xs : List ℕ) → In b xs → 0 < owners xs b
owners_in b [] i = absurd i
owners_in b (x ∷ xs) i = ⊎_elim
    (λ (e : x ≡ b). omega (arith, cons b x xs, one (eqb x b) (eq-eqb x b e)))
    (λ (there : In b xs). omega (arith, cons b x xs, owners_in b xs there))
    i
