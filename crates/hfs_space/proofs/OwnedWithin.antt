-- Owned blocks are among the volume's.
use Rattle.std.proofs.Common.{◌≡◌, ℕ, ◌<◌, true, false, cond, List, [], ◌∷◌, ◌++◌, refl, arith}
use Rattle.std.specs.List.{flat_map, filter, range_with_len}
use Rattle.hfs_fields.specs.declared.mdb.Mdb.{Mdb}
use Rattle.hfs_fields.specs.declared.extent.Extent.{Extent}
use Rattle.hfs_fields.specs.declared.key.CatKey.{CatKey}
use Rattle.hfs_fields.specs.declared.key.ExtKey.{ExtKey}
use Rattle.hfs_btree.specs.Pairs.{Pairs}
use Rattle.hfs_fields.specs.Each.{Each}
use Rattle.hfs_fields.proofs.ElementLemmas.{each-append, each-mono}
use Rattle.hfs_space.specs.Extents.{Overflow, record_extents, extent_blocks, IsExtentWithin}
use Rattle.hfs_space.specs.Owners.{Fork, forks_of, all_forks, catalog_fork, extents_in, is_bad_blocks, bad_extents, owned_extents, owned_blocks}
use Rattle.hfs_space.specs.Sound.{IsTreeFile, IsForkSound, IsOverflowSound, AreForksSound}
use Rattle.hfs_space.proofs.LawTypes.{AreBlocksWithin}
use Rattle.hfs_space.proofs.Decided.{each_from_all}
use Rattle.hfs_space.proofs.OwnedOnce.{each-range}
use Rattle.hfs_fields.proofs.PartLemmas.{flat-each}

-- the blocks of extents in the volume are the volume's
blocks_within : (n : ℕ) (extents : List Extent) → Each (IsExtentWithin n) extents → Each (λ b. b < n) (extent_blocks extents)
blocks_within n extents h =
    flat-each (λ b. b < n) (λ e. range_with_len e.first e.count) extents
    (each-mono _ _ extents (λ e within. each-range (λ b. b < n) e.first e.count (λ b le lt. omega (arith, within (omega arith)))) h)

module _ (mdb : Mdb) (overflow : Overflow) where
  abbrev AreWithin : List Extent → Type 0
  AreWithin extents = Each (IsExtentWithin mdb.allocation_blocks) extents

  fork_within : (f : Fork) → IsForkSound mdb overflow f → AreWithin (extents_in overflow f)
  fork_within f h = each_from_all _ (extents_in overflow f) h.within

  bad_within : (forks : List Fork) (records : Overflow) → Each (IsOverflowSound mdb overflow forks) records → AreWithin (bad_extents records)
  bad_within forks [] h = tt
  bad_within forks (r ∷ rs) h = elim (is_bad_blocks r)
      as (λ t. is_bad_blocks r ≡ t → AreWithin (flat_map (λ (q : ExtKey × List ℕ). record_extents q.1) (cond t (r ∷ filter is_bad_blocks rs) (filter is_bad_blocks rs)))) [
        | true ↦ λ e. each-append (IsExtentWithin mdb.allocation_blocks) (record_extents r.1) _ (each_from_all _ (record_extents r.1) (h.0.bad e)) (bad_within forks rs h.1)
        | false ↦ λ e. bad_within forks rs h.1
      ] refl

  module _ (catalog : Pairs CatKey) where
    pub owned_are_within : IsTreeFile mdb mdb.extents_file mdb.extents_file_size → IsTreeFile mdb (extents_in overflow (catalog_fork mdb)) mdb.catalog_file_size
        → AreForksSound mdb overflow catalog → AreBlocksWithin mdb (owned_blocks mdb overflow catalog)
    unfolding owned_blocks owned_extents
    owned_are_within own its sound =
        let files = flat-each (IsForkSound mdb overflow) forks_of catalog sound.files in
        let forks = flat-each (IsExtentWithin mdb.allocation_blocks) (extents_in overflow) (flat_map forks_of catalog) (each-mono _ _ (flat_map forks_of catalog) fork_within files) in
        let all = each-append (IsExtentWithin mdb.allocation_blocks) (extents_in overflow (catalog_fork mdb)) _ (each_from_all _ (extents_in overflow (catalog_fork mdb)) its.within) forks in
        let trees = each-append (IsExtentWithin mdb.allocation_blocks) (flat_map (extents_in overflow) (all_forks mdb catalog)) mdb.extents_file all (each_from_all _ mdb.extents_file own.within) in
        blocks_within mdb.allocation_blocks _
        (each-append (IsExtentWithin mdb.allocation_blocks) (flat_map (extents_in overflow) (all_forks mdb catalog) ++ mdb.extents_file) (bad_extents overflow) trees (bad_within (all_forks mdb catalog) overflow sound.records))
