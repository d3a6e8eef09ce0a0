-- Where the parts of two volumes are the same, as far as they are right, so are their wrong numbers and their first faults.
use Rattle.std.proofs.Common.{◌≡◌, ℕ, Bool, true, false, List, [], ◌∷◌, ◌++◌, Option, Some, None, filter, refl, sym, ap, ◌∙◌, cond}
use Rattle.std.specs.Prelude.{◌&&◌}
use Rattle.std.specs.Option.{is_none}
use Rattle.std.proofs.lemmas.Option.{none-some}
use Rattle.hfs_fields.specs.declared.mdb.Mdb.{Mdb}
use Rattle.hfs_fields.specs.declared.extent.Extent.{Extent}
use Rattle.hfs_btree.specs.Tree.{Store}
use Rattle.hfs_btree_checks.specs.Order.{key_fault, order_fault}
use Rattle.hfs_btree_checks.specs.Shape.{unless, ◌or_else◌, has_counts, structure_fault}
use Rattle.hfs_space.specs.Bitmap.{clear_count}
use Rattle.hfs_space.specs.Faults.{is_tree_file, fork_fault, space_fault}
use Rattle.hfs_space.specs.ForkLaws.{block_numbers}
use Rattle.hfs_space.specs.Owners.{catalog_fork}
use Rattle.hfs_space.specs.TreeFiles.{tree_nodes}
use Rattle.hfs_space.specs.TreeKeys.{ext_keys, overflow_of}
use Rattle.hfs_catalog.specs.Records.{Catalog, valence_of}
use Rattle.hfs_catalog.specs.Sound.{counts_of}
use Rattle.hfs_catalog.specs.Tree.{cat_keys, catalog_of}
use Rattle.hfs_catalog.specs.Faults.{record_fault, id_fault, valence_fault, count_fault}
use Rattle.hfs_check.specs.declared.mount_fault.MountFault.{MountFault}
use Rattle.hfs_check.specs.Agree.{bitmap_blocks}
use Rattle.hfs_check.specs.Faults.{◌or_fault◌, check_fault, mdb_fault, is_fork_key, extents_fault, catalog_fault, trees_fault, catalog_name_fault, catalog_place_fault, records_fault, numbers_fault, blocks_fault}
use Rattle.hfs_check.specs.Parts.{Blocks, mdb_in, extents_blocks, extents_nodes, overflow_in, catalog_extents, catalog_blocks, catalog_nodes, catalog_in, owned_in}
use Rattle.hfs_check.proofs.Opened.{extents_fault-wrong, catalog_fault-wrong}
use Rattle.hfs_image.specs.Needed.{AgreeOn}
use Rattle.hfs_image.proofs.SameParts.{map-same, catalog_extents-same, extents-map, catalog-map, owned-same}
use Rattle.hfs_image.proofs.SameSpace.{clear-same, space_fault-same}
use Rattle.hfs_repair.specs.declared.fixed.FixPlace.TheVariants.{RootFiles, FreeBlocks, RootFolders, Files, Folders, ExtentsRecords, ExtentsFree, CatalogRecords, CatalogFree}
use Rattle.hfs_repair.specs.Fields.{PlacedNumber}
use Rattle.hfs_repair.specs.Opened.{is_extents_right, are_extents_in_order, catalog_file_of, is_catalog_right, extents_of}
use Rattle.hfs_repair.specs.Placed.{is_wrong, two_bytes, four_bytes, placed_in_mdb, placed_in_header, placed_valences, placed_in}
use Rattle.hfs_repair.specs.Wrong.{are_blocks_mendable, wrong_in_blocks}
use Rattle.hfs_repair.proofs.Mendable.{mdb-wrong, extents-wrong, catalog-wrong}
use Rattle.hfs_repair.proofs.Openings.{first-false}
use Rattle.hfs_copy.specs.Mended.{DecideAlike}

-- ---- one fault before others

first-fault : (a b c d : Option MountFault) → b ≡ a → is_none a ≡ false → (b or_fault d) ≡ (a or_fault c)
first-fault None b c d e some = absurd (let no = some in cc)
first-fault (Some x) b c d e some = ap (λ (o : Option MountFault). o or_fault d) e

next-fault : (a b c d : Option MountFault) → b ≡ a → d ≡ c → (b or_fault d) ≡ (a or_fault c)
next-fault a b c d e f = λ i. e i or_fault f i

-- an extents tree without a fault is right before its counts
none-right : (f c : Bool) (s k o : Option ℕ) → (unless f or_else ((s or_else unless c) or_else (k or_else o))) ≡ None
    → ((f && is_none s) && (is_none k && is_none o)) ≡ true
none-right false c s k o e = absurd (none-some 0 (sym e))
none-right true c (Some x) k o e = absurd (none-some x (sym e))
none-right true false None k o e = absurd (none-some 0 (sym e))
none-right true true None (Some x) o e = absurd (none-some x (sym e))
none-right true true None None (Some x) e = absurd (none-some x (sym e))
none-right true true None None None e = refl

some-fault : (number : ℕ) (o : Option ℕ) → (o ≡ None → ⊥) → is_none (check_fault number o) ≡ false
some-fault number None h = absurd (h refl)
some-fault number (Some x) h = refl

-- ---- the parts of a volume

abbrev extents_test : Mdb → Store → Bool
extents_test mdb nodes =
    (is_tree_file mdb mdb.extents_file mdb.extents_file_size && is_none (structure_fault ext_keys mdb.extents_file_size nodes)) && are_extents_in_order nodes

module _ (blocks : Blocks) where
  extents-tested : is_extents_right blocks (mdb_in blocks) ≡ extents_test (mdb_in blocks) (extents_nodes blocks)
  unfolding is_extents_right extents_nodes
  extents-tested = refl

  extents-none : (c : Bool) → extents_fault c (mdb_in blocks) (extents_nodes blocks) ≡ None → is_extents_right blocks (mdb_in blocks) ≡ true
  unfolding extents_fault is_extents_right extents_nodes
  extents-none c e = none-right (is_tree_file (mdb_in blocks) (mdb_in blocks).extents_file (mdb_in blocks).extents_file_size) c
      (structure_fault ext_keys (mdb_in blocks).extents_file_size (extents_of blocks (mdb_in blocks)))
      (key_fault ext_keys (extents_of blocks (mdb_in blocks)) is_fork_key) (order_fault ext_keys (extents_of blocks (mdb_in blocks))) e

  no-extents-file : is_tree_file (mdb_in blocks) (mdb_in blocks).extents_file (mdb_in blocks).extents_file_size ≡ false → is_extents_right blocks (mdb_in blocks) ≡ false
  unfolding is_extents_right
  no-extents-file e =
      first-false (is_tree_file (mdb_in blocks) (mdb_in blocks).extents_file (mdb_in blocks).extents_file_size
      && is_none (structure_fault ext_keys (mdb_in blocks).extents_file_size (extents_of blocks (mdb_in blocks))))
      (are_extents_in_order (extents_of blocks (mdb_in blocks)))
      (first-false (is_tree_file (mdb_in blocks) (mdb_in blocks).extents_file (mdb_in blocks).extents_file_size)
      (is_none (structure_fault ext_keys (mdb_in blocks).extents_file_size (extents_of blocks (mdb_in blocks)))) e)

  pub catalog-file : catalog_file_of blocks (mdb_in blocks) ≡ catalog_extents blocks
  unfolding catalog_file_of catalog_extents overflow_in catalog_fork extents_nodes
  catalog-file = refl

  no-catalog-file : is_tree_file (mdb_in blocks) (catalog_file_of blocks (mdb_in blocks)) (mdb_in blocks).catalog_file_size ≡ false → is_catalog_right blocks (mdb_in blocks) ≡ false
  unfolding is_catalog_right
  no-catalog-file e =
      first-false (is_tree_file (mdb_in blocks) (catalog_file_of blocks (mdb_in blocks)) (mdb_in blocks).catalog_file_size)
      (is_none (structure_fault cat_keys (mdb_in blocks).catalog_file_size
      (tree_nodes blocks (mdb_in blocks) (catalog_file_of blocks (mdb_in blocks)) (mdb_in blocks).catalog_file_size))) e

-- the wrong numbers, by the parts of a volume
abbrev told_numbers : ℕ → Mdb → Store → List Extent → Store → Catalog → ℕ → List PlacedNumber
told_numbers total mdb extents file nodes catalog clear =
    cond (is_none (mdb_fault total mdb
    or_fault (check_fault 3 (extents_fault true mdb extents) or_fault check_fault 4 (catalog_fault true mdb file nodes))
    or_fault (check_fault 5 (record_fault catalog) or_fault check_fault 6 (id_fault mdb.next_id catalog)
    or_fault check_fault 7 (catalog_name_fault nodes catalog) or_fault check_fault 8 (catalog_place_fault nodes catalog))))
    (filter is_wrong ((two_bytes RootFiles mdb.root_files (counts_of catalog).root_files 1036
    ∷ two_bytes FreeBlocks mdb.free_blocks clear 1058
    ∷ two_bytes RootFolders mdb.root_folders (counts_of catalog).root_folders 1106
    ∷ four_bytes Files mdb.files (counts_of catalog).files 1108
    ∷ four_bytes Folders mdb.folders (counts_of catalog).folders 1112
    ∷ [])
    ++ (placed_in_header ext_keys ExtentsRecords ExtentsFree (block_numbers mdb mdb.extents_file) extents
    ++ (placed_in_header cat_keys CatalogRecords CatalogFree (block_numbers mdb file) nodes
    ++ placed_valences (valence_of catalog) (block_numbers mdb file) nodes)))) []

told-numbers : (total : ℕ) (blocks : Blocks) → wrong_in_blocks total blocks
    ≡ told_numbers total (mdb_in blocks) (extents_nodes blocks) (catalog_extents blocks) (catalog_nodes blocks) (catalog_in blocks)
    (clear_count blocks (mdb_in blocks).bitmap_start (mdb_in blocks).allocation_blocks)
unfolding wrong_in_blocks are_blocks_mendable trees_fault records_fault placed_in placed_in_mdb
told-numbers total blocks = refl

-- the catalog file, where the nodes of the extents tree are the same
pub file-same : (old new : Blocks) → mdb_in new ≡ mdb_in old → extents_nodes new ≡ extents_nodes old → catalog_extents new ≡ catalog_extents old
unfolding overflow_in
file-same old new m x = catalog_extents-same old new m (ap overflow_of x)

-- ---- two volumes with the same master directory block

module _ (total : ℕ) (old new : Blocks) (m : mdb_in new ≡ mdb_in old) where
  abbrev Alike : Type 0
  Alike = DecideAlike total old new

  pub directory-wrong : is_none (mdb_fault total (mdb_in old)) ≡ false → Alike
  unfolding blocks_fault
  directory-wrong e =
      let same : mdb_fault total (mdb_in new) ≡ mdb_fault total (mdb_in old) = ap (mdb_fault total) m in
      record {
        numbers = sym (mdb-wrong new total (ap is_none same ∙ e)) ∙ mdb-wrong old total e;
        fault = first-fault (mdb_fault total (mdb_in old)) (mdb_fault total (mdb_in new)) _ _ same e;
      }

  module _ (right : is_none (mdb_fault total (mdb_in old)) ≡ true) where
    right-new : is_none (mdb_fault total (mdb_in new)) ≡ true
    right-new = ap (λ (mdb : Mdb). is_none (mdb_fault total mdb)) m ∙ right

    -- the extents tree is wrong in both, by this fault
    no-extents : is_extents_right old (mdb_in old) ≡ false → is_extents_right new (mdb_in new) ≡ false
        → check_fault 3 (extents_fault (has_counts ext_keys (extents_nodes new)) (mdb_in new) (extents_nodes new))
        ≡ check_fault 3 (extents_fault (has_counts ext_keys (extents_nodes old)) (mdb_in old) (extents_nodes old)) → Alike
    unfolding blocks_fault trees_fault
    no-extents e f same =
        let some : is_none (check_fault 3 (extents_fault (has_counts ext_keys (extents_nodes old)) (mdb_in old) (extents_nodes old))) ≡ false =
        some-fault 3 (extents_fault (has_counts ext_keys (extents_nodes old)) (mdb_in old) (extents_nodes old))
        (λ none. wrong-right (is_extents_right old (mdb_in old)) (extents-none old (has_counts ext_keys (extents_nodes old)) none) e) in
        record {
          numbers = sym (extents-wrong new total right-new f) ∙ extents-wrong old total right e;
          fault = next-fault (mdb_fault total (mdb_in old)) (mdb_fault total (mdb_in new)) _ _ (ap (mdb_fault total) m)
              (behind-two _ _ _ _ _ _ same some);
        }
      where
        wrong-right : (b : Bool) → b ≡ true → b ≡ false → ⊥
        wrong-right b is isnt = let both : true ≡ false = sym is ∙ isnt in cc

        behind-two : (a b c d p q : Option MountFault) → b ≡ a → is_none a ≡ false → ((b or_fault d) or_fault q) ≡ ((a or_fault c) or_fault p)
        behind-two None b c d p q e some = absurd (let no = some in cc)
        behind-two (Some x) b c d p q e some = ap (λ (o : Option MountFault). (o or_fault d) or_fault q) e

    pub extents-file-wrong : is_tree_file (mdb_in old) (mdb_in old).extents_file (mdb_in old).extents_file_size ≡ false → Alike
    extents-file-wrong e =
        let later : is_tree_file (mdb_in new) (mdb_in new).extents_file (mdb_in new).extents_file_size ≡ false =
        ap (λ (mdb : Mdb). is_tree_file mdb mdb.extents_file mdb.extents_file_size) m ∙ e in
        no-extents (no-extents-file old e) (no-extents-file new later)
        (ap (check_fault 3) (extents_fault-wrong (mdb_in new) (has_counts ext_keys (extents_nodes new)) (extents_nodes new) later
        ∙ sym (extents_fault-wrong (mdb_in old) (has_counts ext_keys (extents_nodes old)) (extents_nodes old) e)))

    -- with the same nodes of the extents tree
    module _ (x : extents_nodes new ≡ extents_nodes old) where
      extents-same : is_extents_right new (mdb_in new) ≡ is_extents_right old (mdb_in old)
      extents-same = extents-tested new ∙ (λ i. extents_test (m i) (x i)) ∙ sym (extents-tested old)

      extents_fault-same : check_fault 3 (extents_fault (has_counts ext_keys (extents_nodes new)) (mdb_in new) (extents_nodes new))
          ≡ check_fault 3 (extents_fault (has_counts ext_keys (extents_nodes old)) (mdb_in old) (extents_nodes old))
      extents_fault-same = λ i. check_fault 3 (extents_fault (has_counts ext_keys (x i)) (m i) (x i))

      pub extents-tree-wrong : is_extents_right old (mdb_in old) ≡ false → Alike
      extents-tree-wrong e = no-extents e (extents-same ∙ e) extents_fault-same

      pub catalog-file-wrong : is_extents_right old (mdb_in old) ≡ true
          → is_tree_file (mdb_in old) (catalog_extents old) (mdb_in old).catalog_file_size ≡ false → Alike
      unfolding blocks_fault trees_fault
      catalog-file-wrong e d =
          let later : is_tree_file (mdb_in new) (catalog_extents new) (mdb_in new).catalog_file_size ≡ false =
          (λ i. is_tree_file (m i) (file-same old new m x i) (m i).catalog_file_size) ∙ d in
          let own : is_tree_file (mdb_in old) (catalog_file_of old (mdb_in old)) (mdb_in old).catalog_file_size ≡ false =
          ap (λ (file : List Extent). is_tree_file (mdb_in old) file (mdb_in old).catalog_file_size) (catalog-file old) ∙ d in
          let theirs : is_tree_file (mdb_in new) (catalog_file_of new (mdb_in new)) (mdb_in new).catalog_file_size ≡ false =
          ap (λ (file : List Extent). is_tree_file (mdb_in new) file (mdb_in new).catalog_file_size) (catalog-file new) ∙ later in
          record {
            numbers = sym (catalog-wrong new total right-new (extents-same ∙ e) (no-catalog-file new theirs)) ∙ catalog-wrong old total right e (no-catalog-file old own);
            fault = next-fault (mdb_fault total (mdb_in old)) (mdb_fault total (mdb_in new)) _ _ (ap (mdb_fault total) m)
                (two-and (check_fault 3 (extents_fault (has_counts ext_keys (extents_nodes old)) (mdb_in old) (extents_nodes old)))
                (check_fault 3 (extents_fault (has_counts ext_keys (extents_nodes new)) (mdb_in new) (extents_nodes new)))
                (check_fault 4 (catalog_fault (has_counts cat_keys (catalog_nodes old)) (mdb_in old) (catalog_extents old) (catalog_nodes old)))
                (check_fault 4 (catalog_fault (has_counts cat_keys (catalog_nodes new)) (mdb_in new) (catalog_extents new) (catalog_nodes new))) _ _
                extents_fault-same
                (ap (check_fault 4) (catalog_fault-wrong (mdb_in new) (catalog_extents new) (has_counts cat_keys (catalog_nodes new)) (catalog_nodes new) later
                ∙ sym (catalog_fault-wrong (mdb_in old) (catalog_extents old) (has_counts cat_keys (catalog_nodes old)) (catalog_nodes old) d)))
                (ap (λ (o : Option ℕ). is_none (check_fault 4 o))
                (catalog_fault-wrong (mdb_in old) (catalog_extents old) (has_counts cat_keys (catalog_nodes old)) (catalog_nodes old) d)));
          }
        where
          two-and : (a b c d p q : Option MountFault) → b ≡ a → d ≡ c → is_none c ≡ false → ((b or_fault d) or_fault q) ≡ ((a or_fault c) or_fault p)
          two-and (Some y) b c d p q e f some = ap (λ (o : Option MountFault). (o or_fault d) or_fault q) e
          two-and None b None d p q e f some = absurd (let no = some in cc)
          two-and None b (Some y) d p q e f some = (λ i. (e i or_fault f i) or_fault q)

  -- with the same nodes of both trees, and the same bitmap
  module _ (x : extents_nodes new ≡ extents_nodes old) (n : catalog_nodes new ≡ catalog_nodes old) (b : AgreeOn (bitmap_blocks (mdb_in old)) old new) where
    overflow : overflow_in new ≡ overflow_in old
    unfolding overflow_in
    overflow = ap overflow_of x

    file : catalog_extents new ≡ catalog_extents old
    file = catalog_extents-same old new m overflow

    catalog : catalog_in new ≡ catalog_in old
    unfolding catalog_in
    catalog = ap catalog_of n

    clear : clear_count new (mdb_in new).bitmap_start (mdb_in new).allocation_blocks ≡ clear_count old (mdb_in old).bitmap_start (mdb_in old).allocation_blocks
    clear = ap (λ (mdb : Mdb). clear_count new mdb.bitmap_start mdb.allocation_blocks) m ∙ clear-same old new (mdb_in old) b

    space : space_fault new (mdb_in new) (owned_in new) ≡ space_fault old (mdb_in old) (owned_in old)
    space = (λ i. space_fault new (m i) (owned-same old new m overflow catalog i)) ∙ space_fault-same old new (mdb_in old) b (owned_in old)

    faults : blocks_fault total new ≡ blocks_fault total old
    unfolding blocks_fault trees_fault records_fault numbers_fault
    faults = λ i. mdb_fault total (m i)
        or_fault (check_fault 3 (extents_fault (has_counts ext_keys (x i)) (m i) (x i)) or_fault check_fault 4 (catalog_fault (has_counts cat_keys (n i)) (m i) (file i) (n i)))
        or_fault (check_fault 5 (record_fault (catalog i)) or_fault check_fault 6 (id_fault (m i).next_id (catalog i))
        or_fault check_fault 7 (catalog_name_fault (n i) (catalog i)) or_fault check_fault 8 (catalog_place_fault (n i) (catalog i)))
        or_fault (check_fault 9 (valence_fault (catalog i)) or_fault check_fault 10 (count_fault (m i) (catalog i))
        or_fault check_fault 11 (fork_fault (m i) (overflow i) (catalog i)) or_fault check_fault 12 (space i))

    pub all-same : Alike
    all-same = record {
      numbers = told-numbers total new ∙ (λ i. told_numbers total (m i) (x i) (file i) (n i) (catalog i) (clear i)) ∙ sym (told-numbers total old);
      fault = faults;
    }

-- ---- the nodes of blocks that agree

module _ (old new : Blocks) (m : mdb_in new ≡ mdb_in old) where
  pub extents-agree : AgreeOn (extents_blocks old) old new → extents_nodes new ≡ extents_nodes old
  extents-agree h = extents-map old new m ∙ map-same old new (extents_blocks old) h ∙ sym (extents-map old old refl)

  pub catalog-agree : catalog_extents new ≡ catalog_extents old → AgreeOn (catalog_blocks old) old new → catalog_nodes new ≡ catalog_nodes old
  catalog-agree f h = catalog-map old new m f ∙ map-same old new (catalog_blocks old) h ∙ sym (catalog-map old old refl refl)
