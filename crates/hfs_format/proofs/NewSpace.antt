-- The space of a new volume is sound: its master directory block, the files of its trees, its forks, and its bitmap.
use Rattle.std.proofs.Common.{◌≡◌, ℕ, zero, suc, ◌+◌, ◌-◌, ◌*◌, ◌/◌, ◌<◌, ◌≤◌, true, List, [], ◌++◌, get_or, refl, sym, ap, subst, ◌∙◌, arith}
use Rattle.std.specs.Prelude.{IsTrue}
use Rattle.std.specs.List.{flat_map, range_with_len}
use Rattle.std.proofs.Math.Nat.{mul_left_comm}
use Rattle.std.proofs.lemmas.List.{append-nil}
use Rattle.std.proofs.lemmas.Bool.{cond-false, lt-ltb}
use Rattle.hfs_fields.specs.declared.extent.Extent.{Extent}
use Rattle.hfs_fields.proofs.ElementLemmas.{each-append}
use Rattle.hfs_fields.specs.Each.{Each}
use Rattle.hfs_btree.specs.Sound.{IsOther}
use Rattle.hfs_space.proofs.OwnedOnce.{each-range, distinct-range}
use Rattle.hfs_space.specs.Bitmap.{is_used}
use Rattle.hfs_space.specs.Extents.{block_total, IsExtentWithin, extent_blocks, fork_extents}
use Rattle.hfs_space.specs.Owners.{Fork, catalog_fork, forks_of, extents_in, bad_extents, owned_extents, owned_blocks}
use Rattle.hfs_space.specs.Sound.{IsTreeFile, IsForkSound, AreForksSound, IsSpaceSound}
use Rattle.hfs_format.specs.declared.layout.Layout.{Layout}
use Rattle.hfs_format.specs.Plan.{used_blocks}
use Rattle.hfs_format.specs.BitRow.{bit_row}
use Rattle.hfs_format.proofs.BitsRead.{is_used-bit_rows, clear_count-bit_rows}
use Rattle.hfs_format.specs.NewMdb.{one_run, new_mdb}
use Rattle.hfs_format.proofs.NewVolumeLemmas.{IsNewVolume, files-within}
use Rattle.hfs_format.proofs.NewBlocks.{block_at-volume_image}
use Rattle.hfs_format.proofs.NewFiles.{image_block, root_pair, root_thread_pair, new_catalog, new_block-bitmap}
use Rattle.hfs_format.proofs.NewCatalog.{root-no_file, thread-no_file}
use Rattle.hfs_check.specs.Sound.{IsMdbSound}
use Rattle.hfs_btree.proofs.DistinctLemmas.{distinct-append}

-- ---- a file of one run

run-within : (n first count : ℕ) → first + count ≤ n → (k : ℕ) (d : Extent) → k < 3 → IsExtentWithin n (get_or (one_run first count) k d)
run-within n first count within zero d lt = λ some. within
run-within n first count within (suc zero) d lt = λ some. absurd (omega arith)
run-within n first count within (suc (suc zero)) d lt = λ some. absurd (omega arith)
run-within n first count within (suc (suc (suc k))) d lt = absurd (omega arith)

one_run-file : (volume : Layout) (first count nodes : ℕ) → first + count ≤ volume.allocation_blocks → nodes ≡ count * volume.factor → 1 ≤ nodes
    → IsTreeFile (new_mdb volume) (one_run first count) (512 * nodes)
unfolding new_mdb
one_run-file volume first count nodes within are some = record {
  within = run-within volume.allocation_blocks first count within;
  room = let turned = mul_left_comm count 512 volume.factor in let total : block_total (one_run first count) ≡ count = omega arith in
      rw total (omega (arith, are, turned));
  node = omega arith;
}

-- the allocation blocks of the catalog file, and of the extents file
abbrev pub new_owned : Layout → List ℕ
new_owned volume = range_with_len volume.extents.blocks volume.catalog.blocks ++ range_with_len 0 volume.extents.blocks

module _ (volume : Layout) (ok : IsNewVolume volume) where
  pub extents-file : IsTreeFile (new_mdb volume) (new_mdb volume).extents_file (new_mdb volume).extents_file_size
  unfolding new_mdb
  extents-file = one_run-file volume 0 volume.extents.blocks volume.extents.nodes (omega (arith, ok.room)) ok.extents ok.some_extents

  pub catalog-file : IsTreeFile (new_mdb volume) (new_mdb volume).catalog_file (new_mdb volume).catalog_file_size
  unfolding new_mdb
  catalog-file = one_run-file volume volume.extents.blocks volume.catalog.blocks volume.catalog.nodes ok.room ok.catalog (omega (arith, ok.some_catalog))

  -- ---- the master directory block

  some-blocks : (nodes blocks factor : ℕ) → nodes ≡ blocks * factor → 1 ≤ nodes → 1 ≤ blocks
  some-blocks nodes zero factor e some = absurd (omega arith)
  some-blocks nodes (suc blocks) factor e some = omega arith

  pub new_mdb-sound : IsMdbSound volume.blocks (new_mdb volume)
  unfolding new_mdb
  new_mdb-sound =
      let each : 512 * volume.factor / 512 ≡ volume.factor = omega arith in
      let some = some-blocks volume.extents.nodes volume.extents.blocks volume.factor ok.extents ok.some_extents in
      let area : volume.start + volume.allocation_blocks * volume.factor ≤ volume.blocks = omega (arith, ok.area) in
      record {
        signature = refl;
        some = omega (arith, ok.room, some);
        least_size = omega (arith, ok.some_factor);
        whole_size = omega arith;
        bitmap_behind = omega arith;
        bitmap_before = omega (arith, ok.bitmap, ok.behind_bitmap);
        area = rw each area;
        next_id = omega arith;
      }

  -- ---- forks

  root-no_forks : forks_of (root_pair volume) ≡ []
  root-no_forks = cond-false _ _ _ (root-no_file volume ok)

  thread-no_forks : forks_of (root_thread_pair volume) ≡ []
  thread-no_forks = cond-false _ _ _ (thread-no_file volume ok)

  no_forks : flat_map forks_of (new_catalog volume) ≡ []
  no_forks = λ i. root-no_forks i ++ (thread-no_forks i ++ [])

  pub new_forks-sound : AreForksSound (new_mdb volume) [] (new_catalog volume)
  new_forks-sound =
      let Forks : List Fork → Type 0 = λ forks. Each (IsForkSound (new_mdb volume) []) forks in
      record { files = (subst Forks (sym root-no_forks) tt, (subst Forks (sym thread-no_forks) tt, tt)); records = tt }

  -- the catalog file does not go on in the extents tree
  pub catalog_extents-new : extents_in [] (catalog_fork (new_mdb volume)) ≡ (new_mdb volume).catalog_file
  unfolding fork_extents catalog_fork new_mdb
  catalog_extents-new = refl

  -- ---- space

  -- the catalog file's blocks, and the extents file's
  pub owned_blocks-new : owned_blocks (new_mdb volume) [] (new_catalog volume) ≡ new_owned volume
  unfolding owned_blocks owned_extents fork_extents catalog_fork new_mdb
  owned_blocks-new =
      (λ i. extent_blocks ((extents_in [] (catalog_fork (new_mdb volume)) ++ flat_map (extents_in []) (no_forks i)) ++ (new_mdb volume).extents_file ++ bad_extents []))
      ∙ ap (λ ks. range_with_len volume.extents.blocks volume.catalog.blocks ++ ks) (append-nil (range_with_len 0 volume.extents.blocks))

  bitmap-rows : (k : ℕ) → k < volume.allocation_blocks → image_block volume (3 + k / 4096) ≡ bit_row (used_blocks volume) (512 * (k / 4096)) 512
  bitmap-rows k lt =
      let within = files-within volume ok in
      let high : 3 + k / 4096 < volume.start = omega (arith, ok.bitmap, ok.behind_bitmap) in
      let same : 3 + k / 4096 - 3 ≡ k / 4096 = omega arith in
      block_at-volume_image volume ok (3 + k / 4096) (omega arith)
      ∙ new_block-bitmap volume ok (3 + k / 4096) (omega arith) high
      ∙ ap (λ j. bit_row (used_blocks volume) (512 * j) 512) same

  marked : (k : ℕ) → k < used_blocks volume → is_used (image_block volume) 3 k ≡ true
  marked k lt =
      is_used-bit_rows (image_block volume) 3 (used_blocks volume) k (bitmap-rows k (omega (arith, ok.room))) ∙ lt-ltb k (used_blocks volume) lt

  pub new_space-sound : IsSpaceSound (image_block volume) (new_mdb volume) (new_owned volume)
  unfolding new_mdb
  new_space-sound =
      let e : ℕ = volume.extents.blocks in
      let c : ℕ = volume.catalog.blocks in
      record {
        once = distinct-append (range_with_len e c) (range_with_len 0 e) (distinct-range e c) (distinct-range 0 e)
            (each-range (λ x. Each (IsOther x) (range_with_len 0 e)) e c (λ x low high. each-range (IsOther x) 0 e (λ k low' high' same. omega arith)));
        marked = each-append (λ b. IsTrue (is_used (image_block volume) 3 b)) (range_with_len e c) (range_with_len 0 e)
            (each-range _ e c (λ k low high. marked k (omega arith)))
            (each-range _ 0 e (λ k low high. marked k (omega arith)));
        counted = sym (clear_count-bit_rows (image_block volume) 3 (used_blocks volume) volume.allocation_blocks bitmap-rows);
      }
