-- Of a sound volume from which a file goes stay the catalog's extents, the bytes of all other forks, and the bitmap but for the file's bits.
use Rattle.std.proofs.Common.{◌≡◌, ⊎_elim, ℕ, ◌+◌, ◌<◌, ◌≤◌, Bool, true, cond, ◌||◌, List, [], ◌∷◌, ◌++◌, refl, sym, ◌∙◌, ap, arith}
use Rattle.std.specs.List.{flat_map, sum_by}
use Rattle.std.proofs.lemmas.List.Sums.{sum_by-cons}
use Rattle.hfs_fields.specs.declared.mdb.Mdb.{Mdb}
use Rattle.hfs_fields.specs.declared.extent.Extent.{Extent}
use Rattle.hfs_fields.specs.declared.file_record.FileRecord.{FileRecord}
use Rattle.hfs_fields.specs.Counts.{with_counts}
use Rattle.hfs_fields.specs.Records.{is_file, file_record_of}
use Rattle.hfs_fields.specs.Each.{Each}
use Rattle.hfs_fields.proofs.ElementLemmas.{each-append}
use Rattle.hfs_fields.specs.Members.{In}
use Rattle.hfs_btree.specs.Sound.{IsOther}
use Rattle.hfs_btree_edits.proofs.ApartLemmas.{each-take}
use Rattle.hfs_space.proofs.OwnedOnce.{distinct-once}
use Rattle.hfs_space.proofs.OwnedLemmas.{blocks-append}
use Rattle.hfs_space.specs.Bitmap.{bitmap_len}
use Rattle.hfs_space.specs.Extents.{Overflow, extent_blocks, fork_extents}
use Rattle.hfs_space.specs.Forks.{blocks_each, fork_bytes}
use Rattle.hfs_space.specs.ForkLaws.{block_numbers}
use Rattle.hfs_space.specs.Owners.{forks_of_file, catalog_fork, extents_in, bad_extents, owners}
use Rattle.hfs_record_edits.specs.Dropped.{HasDroppedOverflow}
use Rattle.hfs_record_edits.specs.Overflows.{without_file}
use Rattle.hfs_catalog.specs.Records.{Record}
use Rattle.hfs_check.specs.Parts.{Blocks, mdb_in, extents_nodes, overflow_in, catalog_extents, catalog_nodes, catalog_in, owned_in}
use Rattle.hfs_check.specs.Sound.{AreBlocksSound}
use Rattle.hfs_check.specs.VolumeOf.{bytes_in, contents_in}
use Rattle.hfs_check.specs.Agree.{bitmap_blocks, node_blocks, changing_blocks}
use Rattle.hfs_record_edits.proofs.ChangesLaws.{KeepsContents}
use Rattle.hfs_record_edits.specs.Deletion.{EditsVolume, AreOtherFiles}
use Rattle.hfs_catalog.proofs.Held.{with_id}
use Rattle.hfs_record_edits.proofs.Space.{record_has, owners_sum}
use Rattle.hfs_record_edits.proofs.Frames.{each_range, block_in, beside_file, same_bytes}
use Rattle.hfs_record_edits.proofs.DroppedForks.{extents_kept}
use Rattle.hfs_record_edits.proofs.CatalogEdits.{part_of_sum}

-- who owns a block of a sound volume owns it alone
module _ (total : ℕ) (old : Blocks) (h : AreBlocksSound total old) where
  pub once : (a : ℕ) → owners (extent_blocks (catalog_extents old)) a + (owners (extent_blocks (mdb_in old).extents_file) a + owners (extent_blocks (bad_extents (overflow_in old))) a) + sum_by (record_has (mdb_in old) (overflow_in old) a) (catalog_in old) ≤ 1
  unfolding owned_in catalog_extents
  once a = omega (arith, distinct-once (owned_in old) h.space.once a, owners_sum (mdb_in old) (overflow_in old) a (catalog_in old))

  pub record_once : (r : Record) → In r (catalog_in old) → (a : ℕ) → record_has (mdb_in old) (overflow_in old) a r ≤ 1
  record_once r there a = let o = once a in let part = part_of_sum (record_has (mdb_in old) (overflow_in old) a) (catalog_in old) r there in omega (arith, o, part)

  pub record_owns : (r : Record) → In r (catalog_in old) → (a : ℕ) → record_has (mdb_in old) (overflow_in old) a r ≤ owners (owned_in old) a
  unfolding owned_in
  record_owns r there a =
      let part = part_of_sum (record_has (mdb_in old) (overflow_in old) a) (catalog_in old) r there in
      let sums = owners_sum (mdb_in old) (overflow_in old) a (catalog_in old) in
      omega (arith, part, sums)

module _ (counts : Mdb) (total id : ℕ) (old new : Blocks) (h : AreBlocksSound total old) (edit : EditsVolume counts old new) (given : 16 ≤ id) (dropped : HasDroppedOverflow id (extents_nodes old) (extents_nodes new)) where
  abbrev mdb : Mdb
  mdb = mdb_in old

  abbrev overflow : Overflow
  overflow = overflow_in old

  -- the extents of both trees' files
  abbrev file : List Extent
  file = catalog_extents old ++ mdb.extents_file

  -- ---- the logical blocks of other allocation blocks

  behind : (a j : ℕ) → mdb.bitmap_start + bitmap_len mdb.allocation_blocks ≤ block_in mdb a j
  behind a j = omega (arith, h.mdb.bitmap_before)

  beside : (a j : ℕ) → j < blocks_each mdb → owners (extent_blocks file) a ≡ 0 → new (block_in mdb a j) ≡ old (block_in mdb a j)
  unfolding changing_blocks
  beside a j low none =
      let parts = blocks-append (catalog_extents old) mdb.extents_file a in
      let n = block_in mdb a j in
      let far = behind a j in
      let apart : IsOther n 2 = λ (two : 2 ≡ n). (let third = h.mdb.bitmap_behind in omega (arith, far, two, third)) in
      let bits : Each (IsOther n) (bitmap_blocks mdb) = each_range (IsOther n) mdb.bitmap_start (bitmap_len mdb.allocation_blocks) (λ k lt same. omega (arith, far, lt, same)) in
      let one : Each (IsOther n) (node_blocks mdb mdb.extents_file (extents_nodes old)) = each-take _ _ (block_numbers mdb mdb.extents_file) (beside_file mdb mdb.extents_file a j low (omega (arith, parts, none))) in
      let two : Each (IsOther n) (node_blocks mdb (catalog_extents old) (catalog_nodes old)) = each-take _ _ (block_numbers mdb (catalog_extents old)) (beside_file mdb (catalog_extents old) a j low (omega (arith, parts, none))) in
      edit.others n (
        apart,
        each-append (IsOther n) (bitmap_blocks mdb ++ node_blocks mdb mdb.extents_file (extents_nodes old)) (node_blocks mdb (catalog_extents old) (catalog_nodes old))
            (each-append (IsOther n) (bitmap_blocks mdb) (node_blocks mdb mdb.extents_file (extents_nodes old)) bits one) two,
      )

  -- ---- the extents tree

  pub overflow_is : overflow_in new ≡ without_file id overflow
  unfolding overflow_in
  overflow_is = dropped.content

  same_catalog_fork : (m : Mdb) → m ≡ with_counts counts mdb → catalog_fork m ≡ catalog_fork mdb
  unfolding catalog_fork
  same_catalog_fork m e = ap catalog_fork e

  catalog_apart : (catalog_fork mdb).file ≡ id → ⊥
  unfolding catalog_fork
  catalog_apart same = omega (arith, same, given)

  pub catalog_file_stays : catalog_extents new ≡ catalog_extents old
  unfolding catalog_extents
  catalog_file_stays = (λ i. extents_in (overflow_is i) (same_catalog_fork (mdb_in new) edit.mdb i)) ∙ extents_kept id overflow (catalog_fork mdb) catalog_apart

  -- ---- forks

  fork_same : (k fork len : ℕ) (first : List Extent) → (k ≡ id → ⊥) → ((a : ℕ) → 0 < owners (extent_blocks (fork_extents overflow k fork first)) a → owners (extent_blocks file) a ≡ 0)
      → (m : Mdb) → m ≡ with_counts counts mdb → fork_bytes new m (fork_extents (overflow_in new) k fork first) len ≡ fork_bytes old mdb (fork_extents overflow k fork first) len
  unfolding fork_bytes
  fork_same k fork len first other apart m e =
      (λ i. fork_bytes new (e i) (fork_extents (overflow_is i) k fork first) len)
      ∙ (λ i. fork_bytes new mdb (extents_kept id overflow (record { file = k; fork = fork; len = len; first = first }) other i) len)
      ∙ same_bytes old new mdb file beside (fork_extents overflow k fork first) apart len

  module _ (r : Record) (there : In r (catalog_in old)) (is : is_file r.1 ≡ true) (other : (file_record_of r.1).id ≡ id → ⊥) where
    abbrev f : FileRecord
    f = file_record_of r.1

    both_have : (a : ℕ) → owners (extent_blocks (fork_extents overflow f.id 0 f.«data».extents)) a + owners (extent_blocks (fork_extents overflow f.id 255 f.resource.extents)) a ≤ sum_by (record_has mdb overflow a) (catalog_in old)
    unfolding forks_of_file
    both_have a =
        let data_extents = fork_extents overflow f.id 0 f.«data».extents in
        let rest_extents = fork_extents overflow f.id 255 f.resource.extents in
        let forks : record_has mdb overflow a r ≡ owners (extent_blocks (data_extents ++ (rest_extents ++ []))) a = ap (λ (b : Bool). owners (extent_blocks (flat_map (extents_in overflow) (cond b (forks_of_file f) []))) a) is in
        let none : owners (extent_blocks []) a ≡ 0 = refl in
        omega (arith, part_of_sum (record_has mdb overflow a) (catalog_in old) r there, forks, blocks-append data_extents (rest_extents ++ []) a, blocks-append rest_extents [] a, none)

    contents_stay : contents_in new f ≡ contents_in old f
    unfolding contents_in bytes_in
    contents_stay =
        let one = fork_same f.id 0 f.«data».length f.«data».extents other (λ a some. let o = once total old h a in let b = both_have a in let parts = blocks-append (catalog_extents old) mdb.extents_file a in omega (arith, o, b, some, parts)) (mdb_in new) edit.mdb in
        let two = fork_same f.id 255 f.resource.length f.resource.extents other (λ a some. let o = once total old h a in let b = both_have a in let parts = blocks-append (catalog_extents old) mdb.extents_file a in omega (arith, o, b, some, parts)) (mdb_in new) edit.mdb in
        λ i. (one i, two i)

  -- the forks of each file that is left have the bytes that they had
  pub contents_kept : AreOtherFiles id (catalog_in old) (catalog_in new) → KeepsContents (contents_in old) (contents_in new) (catalog_in new)
  contents_kept files k r is folder =
      let there = with_id (catalog_in new) k r is in
      let file : is_file r.1 ≡ true = sym (ap (λ (b : Bool). b || is_file r.1) folder) ∙ there.1 in
      let was = files r there.0 file in
      contents_stay r was.0 file was.1
