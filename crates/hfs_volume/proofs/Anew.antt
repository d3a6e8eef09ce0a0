-- A volume that is mounted anew, with its bytes as they are.
use Rattle.std.proofs.Common.{◌≡◌, ℕ, List, [], sym, subst}
use Rattle.std.specs.List.{flat_map}
use Rattle.hfs_fields.specs.declared.mdb.Mdb.{Mdb}
use Rattle.hfs_blocks.specs.declared.run.Run.{Run}
use Rattle.hfs_blocks.specs.Blocks.{block_at, block_count, run_of, nodes_in, AreRunsWithin}
use Rattle.hfs_check.specs.Agree.{AgreesBut}
use Rattle.hfs_check.proofs.LawTypes.{AgreesWithItself}
use Rattle.hfs_check.specs.Parts.{mdb_in, extents_blocks, extents_nodes, catalog_blocks, catalog_nodes}
use Rattle.hfs_check.specs.Sound.{IsSound}
use Rattle.hfs_volume.specs.Image.{ImageValue}
use Rattle.hfs_volume.specs.Mounted.{IsMounted}

-- what mounting found out holds where the bytes as they are become those that were opened
pub mounted-anew :
    (old new : ImageValue) (mdb : Mdb) (extents catalog : List Run) → AgreesWithItself → IsMounted old mdb extents catalog → new.base ≡ old.current → new.current ≡ old.current → new.written ≡ []
    → IsMounted new mdb extents catalog
mounted-anew old new mdb extents catalog agrees mounted base current unwritten = record {
  base = subst IsSound (sym base) mounted.agrees.sound;
  agrees =
      subst (λ (w : List ℕ). AgreesBut w new.base new.current) (sym unwritten)
      (subst (λ (b : List ℕ). AgreesBut [] b new.current) (sym base) (subst (AgreesBut [] old.current) (sym current) (agrees old.current mounted.agrees.sound)));
  directory = subst (λ (c : List ℕ). mdb ≡ mdb_in (block_at c)) (sym current) mounted.directory;
  extents_within = subst (λ (c : List ℕ). AreRunsWithin extents (block_count c)) (sym current) mounted.extents_within;
  extents_blocks = subst (λ (c : List ℕ). flat_map run_of extents ≡ extents_blocks (block_at c)) (sym current) mounted.extents_blocks;
  extents_nodes = subst (λ (c : List ℕ). nodes_in (block_at c) extents ≡ extents_nodes (block_at c)) (sym current) mounted.extents_nodes;
  catalog_within = subst (λ (c : List ℕ). AreRunsWithin catalog (block_count c)) (sym current) mounted.catalog_within;
  catalog_blocks = subst (λ (c : List ℕ). flat_map run_of catalog ≡ catalog_blocks (block_at c)) (sym current) mounted.catalog_blocks;
  catalog_nodes = subst (λ (c : List ℕ). nodes_in (block_at c) catalog ≡ catalog_nodes (block_at c)) (sym current) mounted.catalog_nodes;
}
