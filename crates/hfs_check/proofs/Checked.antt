-- Each check finds no fault exactly where its facts hold.
use Rattle.std.proofs.Common.{◌≡◌, ℕ, ◌+◌, ◌*◌, ◌%◌, Bool, true, List, Option, Some, None, refl}
use Rattle.std.specs.Prelude.{is_none}
use Rattle.std.specs.Bool.{Decides}
use Rattle.std.proofs.lemmas.Bool.Decides.{Decides-and, Decides-or, Decides-eqb}
use Rattle.hfs_fields.specs.declared.mdb.Mdb.{Mdb}
use Rattle.hfs_fields.specs.declared.extent.Extent.{Extent}
use Rattle.hfs_fields.specs.declared.key.ExtKey.{ExtKey}
use Rattle.hfs_btree.specs.declared.key.Key.{Ghosts}
use Rattle.hfs_fields.specs.Each.{Each}
use Rattle.hfs_btree.specs.Tree.{Store, records_in, key_at}
use Rattle.hfs_btree.specs.Header.{tree_turn}
use Rattle.hfs_btree_checks.specs.Shape.{has_counts, shape_fault}
use Rattle.hfs_btree_checks.proofs.ShapeLawLemmas.{shape-law}
use Rattle.hfs_btree.specs.Sound.{IsShaped}
use Rattle.hfs_btree_checks.specs.Order.{has_keys, key_fault, index_keys, index_order_fault}
use Rattle.hfs_btree_checks.proofs.OrderLawLemmas.{first_node-law, index-order-law, order-law}
use Rattle.hfs_fields.proofs.ScanLemmas.{all_decides}
use Rattle.hfs_space.specs.Bitmap.{bitmap_len}
use Rattle.hfs_space.specs.Forks.{blocks_each}
use Rattle.hfs_space.specs.TreeKeys.{ext_keys}
use Rattle.hfs_space.proofs.LawTypes.{NoTreeFileFault}
use Rattle.hfs_catalog.specs.Records.{Catalog}
use Rattle.hfs_catalog.specs.Tree.{cat_keys}
use Rattle.hfs_catalog.proofs.CatalogChecksLawTypes.{NoNameFault, NoPlaceFault}
use Rattle.hfs_check.specs.declared.mount_fault.MountFault.TheVariants.{TooLarge, Short, NoMacDisk, BadMdb}
use Rattle.hfs_check.specs.Sound.{IsImageLength, IsMdbSound, IsForkKey, EachKey, IsExtentsSound, IsCatalogFileSound, AreCatalogNamesSound, AreCatalogPlacesSound}
use Rattle.hfs_check.specs.Faults.{length_fault, mdb_fault, counted_shape_fault, is_fork_key, extents_fault, catalog_fault, catalog_name_fault, catalog_place_fault}
use Rattle.hfs_check.proofs.Exact.{IsExact, alike, both, both_places, by_unless, by_test}
use Rattle.hfs_fields.proofs.DecisionLemmas.{Decides-leb}

-- ---- length and master directory block

pub no_length_fault : (bytes : ℕ) → IsExact (length_fault bytes) (IsImageLength bytes)
unfolding length_fault
no_length_fault bytes =
    alike _ (λ h. record { least = h.1; most = h.0 }) (λ (h : IsImageLength bytes). (h.most, h.least))
    (both _ _ (by_test TooLarge _ (Decides-leb bytes 2147483648)) (by_test Short _ (Decides-leb 1536 bytes)))

pub no_mdb_fault : (total : ℕ) (mdb : Mdb) → IsExact (mdb_fault total mdb) (IsMdbSound total mdb)
unfolding mdb_fault
no_mdb_fault total mdb =
    alike _
    (λ h. record {
      signature = h.0;
      some = h.1.0;
      least_size = h.1.1.0.0;
      whole_size = h.1.1.0.1;
      bitmap_behind = h.1.1.1.0.0;
      bitmap_before = h.1.1.1.0.1;
      area = h.1.1.1.1.0;
      next_id = h.1.1.1.1.1;
    })
    (λ (h : IsMdbSound total mdb). (h.signature, (h.some, ((h.least_size, h.whole_size), ((h.bitmap_behind, h.bitmap_before), (h.area, h.next_id))))))
    (both _ _ (by_test NoMacDisk _ (Decides-eqb mdb.signature 0x4244))
    (both _ _ (by_test (BadMdb 1) _ (Decides-leb 1 mdb.allocation_blocks))
    (both _ _ (by_test (BadMdb 2) _ (Decides-and _ _ (Decides-leb 512 mdb.allocation_block_size) (Decides-eqb (mdb.allocation_block_size % 512) 0)))
    (both _ _ (by_test (BadMdb 3) _ (Decides-and _ _ (Decides-leb 3 mdb.bitmap_start) (Decides-leb (mdb.bitmap_start + bitmap_len mdb.allocation_blocks) mdb.allocation_start)))
    (both _ _ (by_test (BadMdb 4) _ (Decides-leb (mdb.allocation_start + mdb.allocation_blocks * blocks_each mdb) total)) (by_test (BadMdb 5) _ (Decides-leb 16 mdb.next_id)))))))

-- ---- trees

counted_shape : {K : Type 0} (g : Ghosts K) (size : ℕ) (nodes : Store) → IsExact (counted_shape_fault g (has_counts g nodes) size nodes) (IsShaped g size nodes)
unfolding shape_fault
counted_shape g size nodes = shape-law g size nodes

key_faults : {K : Type 0} (g : Ghosts K) (nodes : Store) (test : K → Bool) (Fact : K → Type 0) → ((key : K) → Decides (test key) (Fact key)) → IsExact (key_fault g nodes test) (EachKey g Fact nodes)
unfolding key_fault has_keys
key_faults g nodes test Fact decides =
    first_node-law (has_keys g nodes test) (λ spot. Each (λ entry. Fact (key_at g spot.above entry)) (records_in nodes spot.n))
    (λ spot. all_decides (λ entry. test (key_at g spot.above entry)) (λ entry. Fact (key_at g spot.above entry)) (λ entry. decides (key_at g spot.above entry)) (records_in nodes spot.n))
    (tree_turn g nodes)

fork_key : (key : ExtKey) → Decides (is_fork_key key) (IsForkKey key)
fork_key key = Decides-or _ _ (Decides-eqb key.fork 0) (Decides-eqb key.fork 255)

pub no_extents_fault : NoTreeFileFault → (mdb : Mdb) (nodes : Store) → IsExact (extents_fault (has_counts ext_keys nodes) mdb nodes) (IsExtentsSound mdb nodes)
unfolding extents_fault
no_extents_fault files mdb nodes =
    alike _ (λ h. record { file = h.0; shape = h.1.0; forks = h.1.1.0; ordered = h.1.1.1 })
    (λ (h : IsExtentsSound mdb nodes). (h.file, (h.shape, (h.forks, h.ordered))))
    (both_places _ _ (by_unless _ (files mdb mdb.extents_file mdb.extents_file_size))
    (both_places _ _ (counted_shape ext_keys mdb.extents_file_size nodes)
    (both_places _ _ (key_faults ext_keys nodes is_fork_key IsForkKey fork_key) (order-law ext_keys nodes))))

pub no_catalog_fault : NoTreeFileFault → (mdb : Mdb) (extents : List Extent) (nodes : Store) → IsExact (catalog_fault (has_counts cat_keys nodes) mdb extents nodes) (IsCatalogFileSound mdb extents nodes)
unfolding catalog_fault
no_catalog_fault files mdb extents nodes =
    alike _ (λ h. record { file = h.0; shape = h.1 }) (λ (h : IsCatalogFileSound mdb extents nodes). (h.file, h.shape))
    (both_places _ _ (by_unless _ (files mdb extents mdb.catalog_file_size)) (counted_shape cat_keys mdb.catalog_file_size nodes))

-- ---- index keys beside records

pub no_catalog_name_fault : NoNameFault → (nodes : Store) (catalog : Catalog) → IsExact (catalog_name_fault nodes catalog) (AreCatalogNamesSound nodes catalog)
unfolding catalog_name_fault
no_catalog_name_fault names nodes catalog =
    alike _ (λ h. record { records = h.0; index = h.1 }) (λ (h : AreCatalogNamesSound nodes catalog). (h.records, h.index))
    (names (index_keys cat_keys nodes) catalog)

none_is : (place : Option ℕ) → Decides (is_none place) (place ≡ None)
none_is None = (λ _. refl, λ _. refl)
none_is (Some i) = (λ (e : is_none (Some i) ≡ true). cc, λ (e : Some i ≡ None). cc)

pub no_catalog_place_fault : NoPlaceFault → (nodes : Store) (catalog : Catalog) → IsExact (catalog_place_fault nodes catalog) (AreCatalogPlacesSound nodes catalog)
unfolding catalog_place_fault
no_catalog_place_fault places nodes catalog =
    let none = none_is (index_order_fault cat_keys nodes) in
    let keys = index-order-law cat_keys nodes in
    alike _ (λ h. record { records = h.0; index = keys.0 (none.0 h.1) })
    (λ (h : AreCatalogPlacesSound nodes catalog). (h.records, none.1 (keys.1 h.index)))
    (places (is_none (index_order_fault cat_keys nodes)) catalog)
