-- The counts of a master directory block, after they were written one by one.
use Rattle.std.proofs.Common.{◌≡◌, ℕ, ◌+◌, ◌-◌, ◌^◌, ◌<◌, ◌≤◌, ◌⊎◌, inl, inr, List, [], ◌∷◌, sym, ap, arith, length, take, drop, min, ◌∙◌}
use Rattle.std.proofs.lemmas.List.{get_or-drop, get_or-take, length-take, length-drop, ext_get_or}
use Rattle.std.proofs.lemmas.Bool.{cases_lt}
use Rattle.byteorder.specs.Endian.{big_bytes}
use Rattle.hfs_fields.specs.Numbers.{number_at}
use Rattle.hfs_fields.specs.Puts.{IsPut}
use Rattle.hfs_fields.proofs.PutLemmas.{number_at-same, number_at-kept, number_at-put}
use Rattle.hfs_fields.specs.Mdb.{mdb_of, bytes_at}
use Rattle.hfs_fields.specs.Counts.{HasCounts, IsOutside, IsBesideCounts, SameBesideCounts, with_counts}
use Rattle.hfs_fields.specs.declared.mdb.Mdb.{Mdb}

-- the blocks while the counts are put, one after the other
pub record PutsCounts (mdb : Mdb) (b0 b1 b2 b3 b4 b5 b6 b7 : List ℕ) : Type 0 where
  pub modified : IsPut 6 (big_bytes 4 mdb.modified) b0 b1
  pub root_files : IsPut 12 (big_bytes 2 mdb.root_files) b1 b2
  pub next_id : IsPut 30 (big_bytes 4 mdb.next_id) b2 b3
  pub free_blocks : IsPut 34 (big_bytes 2 mdb.free_blocks) b3 b4
  pub root_folders : IsPut 82 (big_bytes 2 mdb.root_folders) b4 b5
  pub files : IsPut 84 (big_bytes 4 mdb.files) b5 b6
  pub folders : IsPut 88 (big_bytes 4 mdb.folders) b6 b7
  pub modified_fits : mdb.modified < 2 ^ 32
  pub root_files_fits : mdb.root_files < 2 ^ 16
  pub next_id_fits : mdb.next_id < 2 ^ 32
  pub free_blocks_fits : mdb.free_blocks < 2 ^ 16
  pub root_folders_fits : mdb.root_folders < 2 ^ 16
  pub files_fits : mdb.files < 2 ^ 32
  pub folders_fits : mdb.folders < 2 ^ 32

pub counts-put : (mdb : Mdb) (b0 b1 b2 b3 b4 b5 b6 b7 : List ℕ) → PutsCounts mdb b0 b1 b2 b3 b4 b5 b6 b7 → HasCounts mdb b7
counts-put mdb b0 b1 b2 b3 b4 b5 b6 b7 puts = record {
  modified =
      number_at-kept 6 4 88 _ b6 b7 puts.folders (inl (omega arith))
      ∙ number_at-kept 6 4 84 _ b5 b6 puts.files (inl (omega arith))
      ∙ number_at-kept 6 4 82 _ b4 b5 puts.root_folders (inl (omega arith))
      ∙ number_at-kept 6 4 34 _ b3 b4 puts.free_blocks (inl (omega arith))
      ∙ number_at-kept 6 4 30 _ b2 b3 puts.next_id (inl (omega arith))
      ∙ number_at-kept 6 4 12 _ b1 b2 puts.root_files (inl (omega arith))
      ∙ number_at-put 6 4 mdb.modified b0 b1 puts.modified (omega (arith, puts.modified_fits));
  root_files =
      number_at-kept 12 2 88 _ b6 b7 puts.folders (inl (omega arith))
      ∙ number_at-kept 12 2 84 _ b5 b6 puts.files (inl (omega arith))
      ∙ number_at-kept 12 2 82 _ b4 b5 puts.root_folders (inl (omega arith))
      ∙ number_at-kept 12 2 34 _ b3 b4 puts.free_blocks (inl (omega arith))
      ∙ number_at-kept 12 2 30 _ b2 b3 puts.next_id (inl (omega arith))
      ∙ number_at-put 12 2 mdb.root_files b1 b2 puts.root_files (omega (arith, puts.root_files_fits));
  next_id =
      number_at-kept 30 4 88 _ b6 b7 puts.folders (inl (omega arith))
      ∙ number_at-kept 30 4 84 _ b5 b6 puts.files (inl (omega arith))
      ∙ number_at-kept 30 4 82 _ b4 b5 puts.root_folders (inl (omega arith))
      ∙ number_at-kept 30 4 34 _ b3 b4 puts.free_blocks (inl (omega arith))
      ∙ number_at-put 30 4 mdb.next_id b2 b3 puts.next_id (omega (arith, puts.next_id_fits));
  free_blocks =
      number_at-kept 34 2 88 _ b6 b7 puts.folders (inl (omega arith))
      ∙ number_at-kept 34 2 84 _ b5 b6 puts.files (inl (omega arith))
      ∙ number_at-kept 34 2 82 _ b4 b5 puts.root_folders (inl (omega arith))
      ∙ number_at-put 34 2 mdb.free_blocks b3 b4 puts.free_blocks (omega (arith, puts.free_blocks_fits));
  root_folders =
      number_at-kept 82 2 88 _ b6 b7 puts.folders (inl (omega arith))
      ∙ number_at-kept 82 2 84 _ b5 b6 puts.files (inl (omega arith))
      ∙ number_at-put 82 2 mdb.root_folders b4 b5 puts.root_folders (omega (arith, puts.root_folders_fits));
  files =
      number_at-kept 84 4 88 _ b6 b7 puts.folders (inl (omega arith))
      ∙ number_at-put 84 4 mdb.files b5 b6 puts.files (omega (arith, puts.files_fits));
  folders =
      number_at-put 88 4 mdb.folders b6 b7 puts.folders (omega (arith, puts.folders_fits));
}

apart : (i n k : ℕ) → IsOutside i n k → (k < i) ⊎ (i + n ≤ k)
apart i n k outside = elim (cases_lt k i) [ inl before ↦ inl before | inr not-before ↦ inr (outside not-before) ]

pub beside-kept : (mdb : Mdb) (b0 b1 b2 b3 b4 b5 b6 b7 : List ℕ) → PutsCounts mdb b0 b1 b2 b3 b4 b5 b6 b7 → SameBesideCounts b0 b7
beside-kept mdb b0 b1 b2 b3 b4 b5 b6 b7 puts k beside =
    puts.folders.rest k (apart 88 4 k beside.folders)
    ∙ puts.files.rest k (apart 84 4 k beside.files)
    ∙ puts.root_folders.rest k (apart 82 2 k beside.root_folders)
    ∙ puts.free_blocks.rest k (apart 34 2 k beside.free_blocks)
    ∙ puts.next_id.rest k (apart 30 4 k beside.next_id)
    ∙ puts.root_files.rest k (apart 12 2 k beside.root_files)
    ∙ puts.modified.rest k (apart 6 4 k beside.modified)

-- a number in the first bytes is a number of the block
number-within : (a n : ℕ) (block : List ℕ) → a + n ≤ 162 → number_at a n (take 162 block) ≡ number_at a n block
number-within a n block fits = number_at-same a n (take 162 block) block (λ k low high. get_or-take 162 block k 0 (omega arith))

module _ (old new : List ℕ) (same : SameBesideCounts old new) (len : length new ≡ length old) where
  number-beside : (a n : ℕ) → a + n ≤ 162 → ((k : ℕ) → a ≤ k → k < a + n → IsBesideCounts k) → number_at a n (take 162 new) ≡ number_at a n (take 162 old)
  number-beside a n fits beside =
      number_at-same a n (take 162 new) (take 162 old) (λ k low high.
      get_or-take 162 new k 0 (omega arith) ∙ same k (beside k low high) ∙ sym (get_or-take 162 old k 0 (omega arith)))

  bytes-beside : (a n : ℕ) → a + n ≤ 162 → ((k : ℕ) → a ≤ k → k < a + n → IsBesideCounts k) → bytes_at a n (take 162 new) ≡ bytes_at a n (take 162 old)
  bytes-beside a n fits beside =
      ext_get_or 0 (bytes_at a n (take 162 new)) (bytes_at a n (take 162 old)) (simp (length-take, length-drop) (ap (λ (m : ℕ). min n (min 162 m - a)) len)) (λ k lt.
      let in' : k < n = within k lt in
      get_or-take n (drop a (take 162 new)) k 0 in' ∙ get_or-drop a (take 162 new) k 0 ∙ get_or-take 162 new (a + k) 0 (omega arith)
      ∙ same (a + k) (beside (a + k) (omega arith) (omega arith))
      ∙ sym (get_or-take n (drop a (take 162 old)) k 0 in' ∙ get_or-drop a (take 162 old) k 0 ∙ get_or-take 162 old (a + k) 0 (omega arith)))
    where
      within : (k : ℕ) → k < length (bytes_at a n (take 162 new)) → k < n
      within k lt = omega (arith, length-take n (drop a (take 162 new)))

-- the fields of a block whose counts were written
module _ (mdb : Mdb) (old new : List ℕ) (same : SameBesideCounts old new) (len : length new ≡ length old) (counts : HasCounts mdb new) where
  number : (a n : ℕ) → a + n ≤ 162 → ((k : ℕ) → a ≤ k → k < a + n → IsBesideCounts k) → number_at a n (take 162 new) ≡ number_at a n (take 162 old)
  number a n fits beside = number-beside old new same len a n fits beside

  pub fields-written : mdb_of (take 162 new) ≡ with_counts mdb (mdb_of (take 162 old))
  fields-written =
      λ i. record {
        signature = number 0 2 (omega arith) (λ k low high. omega arith) i;
        created = number 2 4 (omega arith) (λ k low high. omega arith) i;
        modified = (number-within 6 4 new (omega arith) ∙ counts.modified) i;
        attributes = record { 0 = number 10 2 (omega arith) (λ k low high. omega arith) i };
        root_files = (number-within 12 2 new (omega arith) ∙ counts.root_files) i;
        bitmap_start = number 14 2 (omega arith) (λ k low high. omega arith) i;
        allocation_pointer = number 16 2 (omega arith) (λ k low high. omega arith) i;
        allocation_blocks = number 18 2 (omega arith) (λ k low high. omega arith) i;
        allocation_block_size = number 20 4 (omega arith) (λ k low high. omega arith) i;
        clump_size = number 24 4 (omega arith) (λ k low high. omega arith) i;
        allocation_start = number 28 2 (omega arith) (λ k low high. omega arith) i;
        next_id = (number-within 30 4 new (omega arith) ∙ counts.next_id) i;
        free_blocks = (number-within 34 2 new (omega arith) ∙ counts.free_blocks) i;
        volume_name = bytes-beside old new same len 36 28 (omega arith) (λ k low high. omega arith) i;
        backup = number 64 4 (omega arith) (λ k low high. omega arith) i;
        backup_sequence = number 68 2 (omega arith) (λ k low high. omega arith) i;
        write_count = number 70 4 (omega arith) (λ k low high. omega arith) i;
        extents_clump_size = number 74 4 (omega arith) (λ k low high. omega arith) i;
        catalog_clump_size = number 78 4 (omega arith) (λ k low high. omega arith) i;
        root_folders = (number-within 82 2 new (omega arith) ∙ counts.root_folders) i;
        files = (number-within 84 4 new (omega arith) ∙ counts.files) i;
        folders = (number-within 88 4 new (omega arith) ∙ counts.folders) i;
        finder_info = bytes-beside old new same len 92 32 (omega arith) (λ k low high. omega arith) i;
        cache_size = number 124 2 (omega arith) (λ k low high. omega arith) i;
        bitmap_cache_size = number 126 2 (omega arith) (λ k low high. omega arith) i;
        control_cache_size = number 128 2 (omega arith) (λ k low high. omega arith) i;
        extents_file_size = number 130 4 (omega arith) (λ k low high. omega arith) i;
        extents_file = record { first = number 134 2 (omega arith) (λ k low high. omega arith) i; count = number 136 2 (omega arith) (λ k low high. omega arith) i } ∷ record { first = number 138 2 (omega arith) (λ k low high. omega arith) i; count = number 140 2 (omega arith) (λ k low high. omega arith) i } ∷ record { first = number 142 2 (omega arith) (λ k low high. omega arith) i; count = number 144 2 (omega arith) (λ k low high. omega arith) i } ∷ [];
        catalog_file_size = number 146 4 (omega arith) (λ k low high. omega arith) i;
        catalog_file = record { first = number 150 2 (omega arith) (λ k low high. omega arith) i; count = number 152 2 (omega arith) (λ k low high. omega arith) i } ∷ record { first = number 154 2 (omega arith) (λ k low high. omega arith) i; count = number 156 2 (omega arith) (λ k low high. omega arith) i } ∷ record { first = number 158 2 (omega arith) (λ k low high. omega arith) i; count = number 160 2 (omega arith) (λ k low high. omega arith) i } ∷ [];
      }
