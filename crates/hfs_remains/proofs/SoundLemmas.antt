-- What is found of a sound volume: its trees, its directory, its records.
use Rattle.std.proofs.Common.{◌≡◌, ℕ, ◌+◌, ◌*◌, ◌%◌, ◌<◌, ◌≤◌, Bool, true, false, if◌then◌else◌, List, [], ◌∷◌, ◌++◌, map, take, length, Some, refl, sym, ap, subst, ◌∙◌, arith, inl, inr}
use Rattle.std.specs.Option.{is_none}
use Rattle.std.specs.List.{flat_map, range_with_len}
use Rattle.std.proofs.lemmas.Bool.{or_left, or_right}
use Rattle.std.proofs.lemmas.List.{length-take}
use Rattle.std.proofs.lemmas.List.Concat.{flat_map-append}
use Rattle.hfs_fields.specs.declared.mdb.Mdb.{Mdb}
use Rattle.hfs_fields.specs.declared.extent.Extent.{Extent}
use Rattle.hfs_fields.specs.Records.{is_item, is_thread}
use Rattle.hfs_fields.specs.Each.{Each}
use Rattle.hfs_fields.proofs.ElementLemmas.{each-left, each-right, each-mono}
use Rattle.hfs_btree.specs.Tree.{Store}
use Rattle.hfs_btree.specs.Sound.{IsDistinct, IsOther}
use Rattle.hfs_catalog.specs.Records.{Record, Catalog}
use Rattle.hfs_catalog.specs.Sound.{IsRecord}
use Rattle.hfs_catalog.specs.Tree.{catalog_of}
use Rattle.hfs_space.specs.Extents.{Overflow, extent_blocks}
use Rattle.hfs_space.specs.Forks.{blocks_each, HasArea, file_blocks as all_blocks}
use Rattle.hfs_space.specs.Owners.{catalog_fork, extents_in, forks_of, bad_extents, owned_extents, owned_blocks}
use Rattle.hfs_space.specs.Sound.{IsTreeFile}
use Rattle.hfs_space.specs.TreeFiles.{node_count, tree_nodes}
use Rattle.hfs_space.specs.TreeKeys.{overflow_of}
use Rattle.hfs_space.proofs.FileLengthLemmas.{length-tree_nodes}
use Rattle.hfs_space.proofs.ForkLawLemmas.{allocation_block, file_blocks-in_order}
use Rattle.hfs_space.proofs.LawsProved.{owned_are_within}
use Rattle.hfs_check.specs.Parts.{Blocks, mdb_in, extents_nodes as whole_extents_nodes, overflow_in, catalog_extents as whole_catalog_extents, catalog_nodes as whole_catalog_nodes, catalog_in, owned_in}
use Rattle.hfs_check.specs.Sound.{AreBlocksSound}
use Rattle.hfs_check.proofs.LawsProved.{no_extents_fault, no_catalog_fault}
use Rattle.hfs_remains.specs.Allocation.{is_there}
use Rattle.hfs_remains.specs.TreeFiles.{FileBlocks, file_blocks, first_nodes}
use Rattle.hfs_remains.specs.OverflowRecords.{is_extents_tree_right, extents_nodes, overflow_records, catalog_extents}
use Rattle.hfs_remains.specs.CatalogRecords.{is_catalog_body, is_catalog_tree_right, catalog_nodes, catalog_records, found, found_of}
use Rattle.hfs_remains.specs.Remains.{extents_file_blocks, remaining_overflow, catalog_file_extents, catalog_file_blocks, remaining_records}
use Rattle.hfs_remains.specs.declared.catalog.FoundRecord.{FoundRecord}
use Rattle.hfs_remains.proofs.WholeLemmas.{all-there, there-below, length-pieces, whole-nodes}
use Rattle.hfs_remains.proofs.OnwardLemmas.{all-extents}

distinct-between : (xs ys zs : List ℕ) → IsDistinct ((xs ++ ys) ++ zs) → IsDistinct ys
distinct-between [] ys zs once = front ys once
  where
    front : (ys : List ℕ) → IsDistinct (ys ++ zs) → IsDistinct ys
    front [] once = tt
    front (y ∷ ys) once = (each-left (IsOther y) ys zs once.0, front ys once.1)
distinct-between (x ∷ xs) ys zs once = distinct-between xs ys zs once.1

each-between : (P : ℕ → Type 0) (xs ys zs : List ℕ) → Each P ((xs ++ ys) ++ zs) → Each P ys
each-between P xs ys zs all = each-right P xs ys (each-left P (xs ++ ys) zs all)

right-of : (b : Bool) (whole scattered : Overflow) → b ≡ true → (if b then whole else scattered) ≡ whole
right-of b whole scattered right = ap (λ (t : Bool). if t then whole else scattered) right

found-right : (b : Bool) (whole scattered : List FoundRecord) → b ≡ true → (if b then whole else scattered) ≡ whole
found-right b whole scattered right = ap (λ (t : Bool). if t then whole else scattered) right

-- ---- the file of a tree

module _ (total : ℕ) (blocks : Blocks) (mdb : Mdb) (area : HasArea mdb total) (least : 512 ≤ mdb.allocation_block_size) (whole : mdb.allocation_block_size % 512 ≡ 0) where
  module _ (extents : List Extent) (once : IsDistinct (extent_blocks extents)) (below : Each (λ b. b < mdb.allocation_blocks) (extent_blocks extents)) where
    pub whole-file : file_blocks total mdb extents ≡ map Some (extent_blocks extents)
    unfolding file_blocks
    whole-file = all-there (is_there total mdb) (extent_blocks extents) (each-mono (λ b. b < mdb.allocation_blocks) (λ b. is_there total mdb b ≡ true) (extent_blocks extents) (λ b lt. there-below total mdb area b lt) below) once

    pub same-nodes : (size : ℕ) → IsTreeFile mdb extents size → first_nodes blocks mdb (file_blocks total mdb extents) (node_count size) ≡ tree_nodes blocks mdb extents size
    unfolding tree_nodes
    same-nodes size file =
        let pieces = flat_map (allocation_block blocks mdb) (extent_blocks extents) in
        let some : 1 ≤ blocks_each mdb = omega (arith, least) in
        let order : all_blocks blocks mdb extents ≡ pieces = file_blocks-in_order blocks mdb extents in
        let long : size ≤ 512 * length (take (node_count size) (all_blocks blocks mdb extents)) = length-tree_nodes blocks mdb extents size whole file in
        let all : length (all_blocks blocks mdb extents) ≡ length (extent_blocks extents) * blocks_each mdb = ap length order ∙ length-pieces blocks mdb (extent_blocks extents) in
        let few : node_count size ≤ length (extent_blocks extents) * blocks_each mdb = enough (node_count size) size (all_blocks blocks mdb extents) (omega arith) long all in
        ap (λ (l : FileBlocks). first_nodes blocks mdb l (node_count size)) whole-file
        ∙ whole-nodes blocks mdb some (extent_blocks extents) (node_count size) few
        ∙ ap (take (node_count size)) (sym order)
      where
        enough : (count size : ℕ) (nodes : Store) → 512 * count ≤ size + 511 → size ≤ 512 * length (take count nodes) → length nodes ≡ length (extent_blocks extents) * blocks_each mdb
            → count ≤ length (extent_blocks extents) * blocks_each mdb
        enough count size nodes most long all = omega (arith, most, long, all, length-take count nodes)

-- ---- a sound volume

module _ (total : ℕ) (blocks : Blocks) (h : AreBlocksSound total blocks) where
  below-all : Each (λ b. b < (mdb_in blocks).allocation_blocks) (owned_in blocks)
  unfolding owned_in catalog_extents whole_catalog_extents
  below-all = owned_are_within (mdb_in blocks) (overflow_in blocks) (catalog_in blocks) h.extents.file h.catalog.file h.forks

  -- all owned blocks: those of the catalog file, of other forks, of the extents file, of bad blocks
  abbrev other-blocks : List ℕ
  other-blocks = extent_blocks (flat_map (extents_in (overflow_in blocks)) (flat_map forks_of (catalog_in blocks)))

  owned-is : owned_in blocks
      ≡ ((extent_blocks (whole_catalog_extents blocks) ++ other-blocks) ++ extent_blocks (mdb_in blocks).extents_file) ++ extent_blocks (bad_extents (overflow_in blocks))
  unfolding owned_in owned_blocks owned_extents whole_catalog_extents
  owned-is =
      let file = extents_in (overflow_in blocks) (catalog_fork (mdb_in blocks)) in
      let forks = flat_map (extents_in (overflow_in blocks)) (flat_map forks_of (catalog_in blocks)) in
      let own = (mdb_in blocks).extents_file in
      let bad = bad_extents (overflow_in blocks) in
      let blocks_of : Extent → List ℕ = λ e. range_with_len e.first e.count in
      flat_map-append blocks_of ((file ++ forks) ++ own) bad
      ∙ ap (λ (l : List ℕ). l ++ extent_blocks bad) (flat_map-append blocks_of (file ++ forks) own)
      ∙ ap (λ (l : List ℕ). (l ++ extent_blocks own) ++ extent_blocks bad) (flat_map-append blocks_of file forks)

  own-once : IsDistinct (extent_blocks (mdb_in blocks).extents_file)
  own-once =
      distinct-between (extent_blocks (whole_catalog_extents blocks) ++ other-blocks) (extent_blocks (mdb_in blocks).extents_file) (extent_blocks (bad_extents (overflow_in blocks)))
      (subst IsDistinct owned-is h.space.once)

  own-below : Each (λ b. b < (mdb_in blocks).allocation_blocks) (extent_blocks (mdb_in blocks).extents_file)
  own-below =
      each-between (λ b. b < (mdb_in blocks).allocation_blocks)
      (extent_blocks (whole_catalog_extents blocks) ++ other-blocks) (extent_blocks (mdb_in blocks).extents_file) (extent_blocks (bad_extents (overflow_in blocks)))
      (subst (Each (λ b. b < (mdb_in blocks).allocation_blocks)) owned-is below-all)

  abbrev behind-catalog : List ℕ
  behind-catalog = extent_blocks (mdb_in blocks).extents_file ++ extent_blocks (bad_extents (overflow_in blocks))

  catalog-once : IsDistinct (extent_blocks (whole_catalog_extents blocks))
  catalog-once = front
      (distinct-front (extent_blocks (whole_catalog_extents blocks) ++ other-blocks) (extent_blocks (mdb_in blocks).extents_file) (extent_blocks (bad_extents (overflow_in blocks)))
      (subst IsDistinct owned-is h.space.once))
    where
      distinct-front : (xs ys zs : List ℕ) → IsDistinct ((xs ++ ys) ++ zs) → IsDistinct xs
      distinct-front [] ys zs once = tt
      distinct-front (x ∷ xs) ys zs once = (each-left (IsOther x) xs ys (each-left (IsOther x) (xs ++ ys) zs once.0), distinct-front xs ys zs once.1)

      front : IsDistinct (extent_blocks (whole_catalog_extents blocks) ++ other-blocks) → IsDistinct (extent_blocks (whole_catalog_extents blocks))
      front once = distinct-between [] (extent_blocks (whole_catalog_extents blocks)) other-blocks once

  catalog-below : Each (λ b. b < (mdb_in blocks).allocation_blocks) (extent_blocks (whole_catalog_extents blocks))
  catalog-below =
      each-left (λ b. b < (mdb_in blocks).allocation_blocks) (extent_blocks (whole_catalog_extents blocks)) other-blocks
      (each-left (λ b. b < (mdb_in blocks).allocation_blocks) (extent_blocks (whole_catalog_extents blocks) ++ other-blocks) (extent_blocks (mdb_in blocks).extents_file)
      (each-left (λ b. b < (mdb_in blocks).allocation_blocks)
      ((extent_blocks (whole_catalog_extents blocks) ++ other-blocks) ++ extent_blocks (mdb_in blocks).extents_file) (extent_blocks (bad_extents (overflow_in blocks)))
      (subst (Each (λ b. b < (mdb_in blocks).allocation_blocks)) owned-is below-all)))

  -- ---- the extents tree

  own-nodes : extents_nodes blocks (mdb_in blocks) (extents_file_blocks total (mdb_in blocks)) ≡ whole_extents_nodes blocks
  unfolding whole_extents_nodes
  own-nodes =
      same-nodes total blocks (mdb_in blocks) h.mdb.area h.mdb.least_size h.mdb.whole_size (mdb_in blocks).extents_file own-once own-below (mdb_in blocks).extents_file_size h.extents.file

  own-right : is_extents_tree_right (mdb_in blocks) (whole_extents_nodes blocks) ≡ true
  unfolding is_extents_tree_right
  own-right = ap is_none ((no_extents_fault (mdb_in blocks) (whole_extents_nodes blocks)).1 h.extents)

  pub overflow-is : remaining_overflow total blocks (mdb_in blocks) ≡ overflow_in blocks
  unfolding overflow_records overflow_in
  overflow-is =
      let nodes = extents_nodes blocks (mdb_in blocks) (extents_file_blocks total (mdb_in blocks)) in
      right-of (is_extents_tree_right (mdb_in blocks) nodes) (overflow_of nodes) _ (ap (is_extents_tree_right (mdb_in blocks)) own-nodes ∙ own-right)
      ∙ ap overflow_of own-nodes

  -- ---- the catalog

  pub extents-are : catalog_file_extents total blocks (mdb_in blocks) ≡ whole_catalog_extents blocks
  unfolding catalog_extents whole_catalog_extents overflow_in catalog_fork
  extents-are =
      ap (λ (records : Overflow). catalog_extents records (mdb_in blocks)) overflow-is
      ∙ all-extents (overflow_in blocks) h.extents.ordered.rises 4 0 (mdb_in blocks).catalog_file

  pub catalog-nodes : catalog_nodes blocks (mdb_in blocks) (catalog_file_blocks total blocks (mdb_in blocks)) ≡ whole_catalog_nodes blocks
  unfolding whole_catalog_nodes
  catalog-nodes =
      ap (λ (l : List Extent). catalog_nodes blocks (mdb_in blocks) (file_blocks total (mdb_in blocks) l)) extents-are
      ∙ same-nodes total blocks (mdb_in blocks) h.mdb.area h.mdb.least_size h.mdb.whole_size (whole_catalog_extents blocks) catalog-once catalog-below (mdb_in blocks).catalog_file_size h.catalog.file

  pub catalog-right : is_catalog_tree_right (mdb_in blocks) (whole_catalog_extents blocks) (whole_catalog_nodes blocks) ≡ true
  unfolding is_catalog_tree_right
  catalog-right = ap is_none ((no_catalog_fault (mdb_in blocks) (whole_catalog_extents blocks) (whole_catalog_nodes blocks)).1 h.catalog)

  -- each record has one of the four bodies
  body-right : (r : Record) → IsRecord r → is_catalog_body r.1 ≡ true
  body-right r (inl item) = or_left (is_item r.1) (is_thread r.1) item.0
  body-right r (inr thread) = or_right (is_item r.1) (is_thread r.1) thread.0

  all-found : (records : Catalog) → Each IsRecord records → found_of records ≡ map (found false) records
  all-found [] each = refl
  all-found (r ∷ records) each =
      ap (λ (b : Bool). (if b then found false r ∷ [] else []) ++ found_of records) (body-right r each.0)
      ∙ ap (λ (l : List FoundRecord). found false r ∷ l) (all-found records each.1)

  pub records-are : remaining_records total blocks (mdb_in blocks) ≡ map (found false) (catalog_in blocks)
  unfolding catalog_records catalog_in
  records-are =
      let extents = catalog_file_extents total blocks (mdb_in blocks) in
      let nodes = catalog_nodes blocks (mdb_in blocks) (catalog_file_blocks total blocks (mdb_in blocks)) in
      let right : is_catalog_tree_right (mdb_in blocks) extents nodes ≡ true = (λ t. is_catalog_tree_right (mdb_in blocks) (extents-are t) (catalog-nodes t)) ∙ catalog-right in
      found-right (is_catalog_tree_right (mdb_in blocks) extents nodes) (found_of (catalog_of nodes)) _ right
      ∙ ap (λ (ns : Store). found_of (catalog_of ns)) catalog-nodes
      ∙ all-found (catalog_of (whole_catalog_nodes blocks)) h.records
