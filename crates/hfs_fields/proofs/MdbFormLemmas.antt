-- Lemmas about the definitions of specs/MdbForm.antt.
use Rattle.std.proofs.Common.{◌≡◌, ℕ, List, [], ◌∷◌, ◌++◌, length, take, drop, refl, sym, ap, ◌∙◌, arith}
use Rattle.std.proofs.lemmas.List.{append-nil, take_at, length-append}
use Rattle.byteorder.specs.Endian.{big_bytes}
use Rattle.hfs_fields.proofs.LaidLemmas.{behind, next, number-read, bytes-read, laid, row, laid-append}
use Rattle.hfs_fields.specs.Mdb.{mdb_of}
use Rattle.hfs_fields.specs.RecordForms.{extents_bytes}
use Rattle.hfs_fields.proofs.RecordFormLemmas.{extents_at-read, length-extents_bytes}
use Rattle.hfs_fields.specs.declared.mdb.Mdb.{Mdb}
use Rattle.hfs_fields.specs.MdbForm.{IsMdbHeadValue, IsMdbTailValue, IsMdbValue, mdb_head_bytes, mdb_tail_bytes, mdb_bytes}

pub length-mdb_head_bytes : (mdb : Mdb) → IsMdbHeadValue mdb → length (mdb_head_bytes mdb) ≡ 64
unfolding mdb_head_bytes
length-mdb_head_bytes mdb ok = omega (arith, ok.volume_name)

pub length-mdb_tail_bytes : (mdb : Mdb) → IsMdbTailValue mdb → length (mdb_tail_bytes mdb) ≡ 98
unfolding mdb_tail_bytes
length-mdb_tail_bytes mdb ok =
    let first = length-extents_bytes mdb.extents_file ok.extents_file.three in
    let second = length-extents_bytes mdb.catalog_file ok.catalog_file.three in
    simp length-append (omega (arith, ok.finder_info, first, second))

pub length-mdb_bytes : (mdb : Mdb) → IsMdbValue mdb → length (mdb_bytes mdb) ≡ 162
unfolding mdb_bytes
length-mdb_bytes mdb ok =
    omega (arith, length-append (mdb_head_bytes mdb) (mdb_tail_bytes mdb), length-mdb_head_bytes mdb ok.head, length-mdb_tail_bytes mdb ok.tail)

-- the fields are read back
pub mdb_of-written : (mdb : Mdb) (rest : List ℕ) → IsMdbValue mdb → mdb_of (mdb_bytes mdb ++ rest) ≡ mdb
unfolding mdb_bytes mdb_head_bytes mdb_tail_bytes laid row
mdb_of-written mdb rest ok =
    let w : List ℕ = mdb_bytes mdb ++ rest in
    let volume : drop 36 w ≡ mdb.volume_name ++ (mdb_tail_bytes mdb ++ rest) = laid-append mdb.volume_name (mdb_tail_bytes mdb ∷ []) rest in
    let numbers : drop 64 w ≡ mdb_tail_bytes mdb ++ rest = next 36 28 _ w _ volume ok.head.volume_name in
    let info : drop 92 w ≡ mdb.finder_info ++ row (big_bytes 2 mdb.cache_size ∷ big_bytes 2 mdb.bitmap_cache_size ∷ big_bytes 2 mdb.control_cache_size ∷ big_bytes 4 mdb.extents_file_size ∷ extents_bytes mdb.extents_file ∷ big_bytes 4 mdb.catalog_file_size ∷ extents_bytes mdb.catalog_file ∷ []) rest =
    behind 64 28 w _ numbers ∙ laid-append mdb.finder_info (big_bytes 2 mdb.cache_size ∷ big_bytes 2 mdb.bitmap_cache_size ∷ big_bytes 2 mdb.control_cache_size ∷ big_bytes 4 mdb.extents_file_size ∷ extents_bytes mdb.extents_file ∷ big_bytes 4 mdb.catalog_file_size ∷ extents_bytes mdb.catalog_file ∷ []) rest in
    let sizes : drop 124 w ≡ row (big_bytes 2 mdb.cache_size ∷ big_bytes 2 mdb.bitmap_cache_size ∷ big_bytes 2 mdb.control_cache_size ∷ big_bytes 4 mdb.extents_file_size ∷ extents_bytes mdb.extents_file ∷ big_bytes 4 mdb.catalog_file_size ∷ extents_bytes mdb.catalog_file ∷ []) rest = next 92 32 _ w _ info ok.tail.finder_info in
    let extents : drop 134 w ≡ extents_bytes mdb.extents_file ++ (big_bytes 4 mdb.catalog_file_size ++ (extents_bytes mdb.catalog_file ++ rest)) = behind 124 10 w _ sizes in
    let catalog : drop 146 w ≡ big_bytes 4 mdb.catalog_file_size ++ (extents_bytes mdb.catalog_file ++ rest) =
    next 134 12 _ w _ extents (length-extents_bytes mdb.extents_file ok.tail.extents_file.three) in
    let signature = number-read 0 2 mdb.signature w _ refl ok.head.signature in
    let created = number-read 2 4 mdb.created w _ refl ok.head.created in
    let modified = number-read 6 4 mdb.modified w _ refl ok.head.modified in
    let attributes = number-read 10 2 mdb.attributes.0 w _ refl ok.head.attributes in
    let root_files = number-read 12 2 mdb.root_files w _ refl ok.head.root_files in
    let bitmap_start = number-read 14 2 mdb.bitmap_start w _ refl ok.head.bitmap_start in
    let allocation_pointer = number-read 16 2 mdb.allocation_pointer w _ refl ok.head.allocation_pointer in
    let allocation_blocks = number-read 18 2 mdb.allocation_blocks w _ refl ok.head.allocation_blocks in
    let allocation_block_size = number-read 20 4 mdb.allocation_block_size w _ refl ok.head.allocation_block_size in
    let clump_size = number-read 24 4 mdb.clump_size w _ refl ok.head.clump_size in
    let allocation_start = number-read 28 2 mdb.allocation_start w _ refl ok.head.allocation_start in
    let next_id = number-read 30 4 mdb.next_id w _ refl ok.head.next_id in
    let free_blocks = number-read 34 2 mdb.free_blocks w _ refl ok.head.free_blocks in
    let volume_name = bytes-read 36 28 mdb.volume_name w _ volume ok.head.volume_name in
    let backup = number-read 64 4 mdb.backup w _ numbers ok.tail.backup in
    let backup_sequence = number-read 68 2 mdb.backup_sequence w _ (behind 64 4 w _ numbers) ok.tail.backup_sequence in
    let write_count = number-read 70 4 mdb.write_count w _ (behind 64 6 w _ numbers) ok.tail.write_count in
    let extents_clump_size = number-read 74 4 mdb.extents_clump_size w _ (behind 64 10 w _ numbers) ok.tail.extents_clump_size in
    let catalog_clump_size = number-read 78 4 mdb.catalog_clump_size w _ (behind 64 14 w _ numbers) ok.tail.catalog_clump_size in
    let root_folders = number-read 82 2 mdb.root_folders w _ (behind 64 18 w _ numbers) ok.tail.root_folders in
    let files = number-read 84 4 mdb.files w _ (behind 64 20 w _ numbers) ok.tail.files in
    let folders = number-read 88 4 mdb.folders w _ (behind 64 24 w _ numbers) ok.tail.folders in
    let finder_info = bytes-read 92 32 mdb.finder_info w _ info ok.tail.finder_info in
    let cache_size = number-read 124 2 mdb.cache_size w _ sizes ok.tail.cache_size in
    let bitmap_cache_size = number-read 126 2 mdb.bitmap_cache_size w _ (behind 124 2 w _ sizes) ok.tail.bitmap_cache_size in
    let control_cache_size = number-read 128 2 mdb.control_cache_size w _ (behind 124 4 w _ sizes) ok.tail.control_cache_size in
    let extents_file_size = number-read 130 4 mdb.extents_file_size w _ (behind 124 6 w _ sizes) ok.tail.extents_file_size in
    let extents_file = extents_at-read 134 mdb.extents_file w _ extents ok.tail.extents_file in
    let catalog_file_size = number-read 146 4 mdb.catalog_file_size w _ catalog ok.tail.catalog_file_size in
    let catalog_file = extents_at-read 150 mdb.catalog_file w _ (behind 146 4 w _ catalog) ok.tail.catalog_file in
    λ i. record {
      signature = signature i;
      created = created i;
      modified = modified i;
      attributes = record { 0 = attributes i };
      root_files = root_files i;
      bitmap_start = bitmap_start i;
      allocation_pointer = allocation_pointer i;
      allocation_blocks = allocation_blocks i;
      allocation_block_size = allocation_block_size i;
      clump_size = clump_size i;
      allocation_start = allocation_start i;
      next_id = next_id i;
      free_blocks = free_blocks i;
      volume_name = volume_name i;
      backup = backup i;
      backup_sequence = backup_sequence i;
      write_count = write_count i;
      extents_clump_size = extents_clump_size i;
      catalog_clump_size = catalog_clump_size i;
      root_folders = root_folders i;
      files = files i;
      folders = folders i;
      finder_info = finder_info i;
      cache_size = cache_size i;
      bitmap_cache_size = bitmap_cache_size i;
      control_cache_size = control_cache_size i;
      extents_file_size = extents_file_size i;
      extents_file = extents_file i;
      catalog_file_size = catalog_file_size i;
      catalog_file = catalog_file i;
    }

-- the block's first 162 bytes are read as the record that was written
pub mdb_of-first : (mdb : Mdb) (rest : List ℕ) → IsMdbValue mdb → mdb_of (take 162 (mdb_bytes mdb ++ rest)) ≡ mdb
mdb_of-first mdb rest ok =
    ap mdb_of (take_at (mdb_bytes mdb) rest 162 (length-mdb_bytes mdb ok) ∙ sym (append-nil (mdb_bytes mdb))) ∙ mdb_of-written mdb [] ok
