-- What was changed in a copy, laid over the image.
use Rattle.std.proofs.Common.{◌≡◌, ℕ, ◌+◌, ◌*◌, ◌/◌, ◌<◌, ◌≤◌, Bool, List, ◌∷◌, ◌++◌, map, take, length, Option, Some, None, IsSome, is_some, unwrap_or, refl, sym, ap, subst, ◌∙◌, arith, ◌⊎◌, ⊎_elim, true≢false}
use Rattle.std.specs.Prelude.{◌-◌, slice_index}
use Rattle.std.specs.List.{flat_map, range_with_len}
use Rattle.std.proofs.lemmas.List.{get_or-take}
use Rattle.hfs_model.specs.Alike.{AreAlike, no_file}
use Rattle.hfs_fields.specs.declared.mdb.Mdb.{Mdb}
use Rattle.hfs_fields.specs.Counts.{IsBesideCounts}
use Rattle.hfs_fields.specs.Numbers.{number_at}
use Rattle.hfs_fields.proofs.PutLemmas.{number_at-same}
use Rattle.hfs_fields.specs.Each.{Each}
use Rattle.hfs_fields.proofs.ElementLemmas.{each-left, each-mono}
use Rattle.hfs_blocks.specs.Blocks.{block_at, block_count, length-block_at, run_of}
use Rattle.hfs_blocks.specs.Layers.{Numbered, Changes, changes, AreWithin, over}
use Rattle.hfs_btree.specs.Sound.{IsOther, KeepsFrame}
use Rattle.hfs_btree.specs.Tree.{Store}
use Rattle.hfs_space.specs.Bitmap.{bitmap_len}
use Rattle.hfs_space.specs.TreeFiles.{node_count, tree_blocks}
use Rattle.hfs_space.specs.TreeKeys.{ext_keys}
use Rattle.hfs_catalog.specs.Tree.{cat_keys}
use Rattle.hfs_check.specs.Agree.{IsBesideAll, IsSpareBit, KeepsBut, changing_blocks}
use Rattle.hfs_check.specs.Parts.{Blocks, mdb_in, extents_blocks, extents_nodes, catalog_blocks, catalog_nodes, catalog_in, is_marked_in}
use Rattle.hfs_check.specs.Sound.{IsImageLength, AreBlocksSound, IsSound}
use Rattle.hfs_check.specs.VolumeOf.{volume_of}
use Rattle.hfs_check.proofs.Stays.{run_by}
use Rattle.hfs_image.specs.Needed.{AgreeOn}
use Rattle.hfs_volume.specs.Image.{patched}
use Rattle.hfs_volume.specs.Layout.{SameLayout}
use Rattle.hfs_volume.proofs.Laid.{block_at-laid_over}
use Rattle.hfs_volume.proofs.LayoutLemmas.{same_layout}
use Rattle.hfs_volume.proofs.SavedPieces.{length-laid_over}
use Rattle.hfs_copy.specs.Working.{working_blocks, IsWorkingCopy, HasForksOf, HoldVolumeOf, AreChangesBut, AnswersAs, CarriesOverBut}
use Rattle.hfs_copy.proofs.SameWork as work

-- ---- the working blocks stay where they are

module _ (written : List ℕ) (old new : Blocks) (kept : KeepsBut written old new) where
  layout : SameLayout (mdb_in old) (mdb_in new)
  layout = same_layout old new kept.mdb

  size-at : (a : ℕ) → a + 4 ≤ 162 → ((k : ℕ) → a ≤ k → k < a + 4 → IsBesideCounts k) → number_at a 4 (take 162 (new 2)) ≡ number_at a 4 (take 162 (old 2))
  size-at a fits beside =
      number_at-same a 4 (take 162 (new 2)) (take 162 (old 2)) (λ k low high.
      get_or-take 162 (new 2) k 0 (omega arith) ∙ kept.mdb k (beside k low high) ∙ sym (get_or-take 162 (old 2) k 0 (omega arith)))

  extents_size : (mdb_in new).extents_file_size ≡ (mdb_in old).extents_file_size
  unfolding mdb_in
  extents_size = size-at 130 (omega arith) (λ k low high. omega arith)

  catalog_size : (mdb_in new).catalog_file_size ≡ (mdb_in old).catalog_file_size
  unfolding mdb_in
  catalog_size = size-at 146 (omega arith) (λ k low high. omega arith)

  extents_blocks-stay : extents_blocks new ≡ extents_blocks old
  unfolding extents_blocks tree_blocks
  extents_blocks-stay =
      let l = layout in
      λ i. take (node_count (extents_size i)) (flat_map run_of (map (run_by (l.allocation_start i) (l.allocation_block_size i)) (l.extents_file i)))

  catalog_blocks-stay : catalog_blocks new ≡ catalog_blocks old
  unfolding catalog_blocks tree_blocks
  catalog_blocks-stay =
      let l = layout in
      λ i. take (node_count (catalog_size i)) (flat_map run_of (map (run_by (l.allocation_start i) (l.allocation_block_size i)) (kept.catalog_file i)))

  pub working-stays : (total : ℕ) → working_blocks total new ≡ working_blocks total old
  unfolding working_blocks
  working-stays total =
      let l = layout in
      λ i. 2 ∷ (total - 2) ∷ range_with_len (l.bitmap_start i) (bitmap_len (l.allocation_blocks i)) ++ (extents_blocks-stay i ++ catalog_blocks-stay i)

-- ---- blocks of the copy and of the image, as they were and with the changed ones over them

module _ (total : ℕ) (written : List ℕ) (g : Changes) (old whole new full : Blocks) (same : AgreeOn (working_blocks total old) old whole)
    (is-new : (n : ℕ) → new n ≡ over g old n) (is-full : (n : ℕ) → full n ≡ over g whole n)
    (known : (n : ℕ) → IsSome (g n) → Each (IsOther n) written → whole n ≡ old n) (kept : KeepsBut written old new) where
  over-same : (n : ℕ) → whole n ≡ old n → full n ≡ new n
  over-same n e = is-full n ∙ ap (unwrap_or (g n)) e ∙ sym (is-new n)

  pub after : AgreeOn (working_blocks total new) new full
  after = subst (λ (numbers : List ℕ). AgreeOn numbers new full) (sym (working-stays written old new kept total))
      (each-mono (λ n. whole n ≡ old n) (λ n. full n ≡ new n) (working_blocks total old) over-same same)

  -- a block that no call changes is the image's
  others : (n : ℕ) → IsBesideAll written whole n → full n ≡ whole n
  others n beside = by (g n) refl
    where
      there : new n ≡ old n
      there = kept.others n (subst (λ (ns : List ℕ). Each (IsOther n) (written ++ ns)) (work.changing-is total old whole same) beside)

      unwritten : Each (IsOther n) written
      unwritten = each-left (IsOther n) written (changing_blocks whole) beside

      by : (o : Option (List ℕ)) → g n ≡ o → full n ≡ whole n
      by None e = is-full n ∙ ap (λ (o : Option (List ℕ)). unwrap_or o (whole n)) e
      by (Some b) e = let w = known n (ap is_some e) unwritten in over-same n w ∙ there ∙ sym w

  allocation_blocks-stay : (mdb_in new).allocation_blocks ≡ (mdb_in old).allocation_blocks
  allocation_blocks-stay = (layout written old new kept).allocation_blocks

  spare-bits : (i : ℕ) → IsSpareBit (mdb_in old) i → is_marked_in full i ≡ is_marked_in whole i
  spare-bits i spare =
      work.bit-is total new full after i (subst (λ (n : ℕ). i < 4096 * bitmap_len n) (sym allocation_blocks-stay) spare.within)
      ∙ kept.bits i spare ∙ sym (work.bit-is total old whole same i spare.within)

  pub keeps : KeepsBut written whole full
  keeps =
      let two = work.block_2 total old whole same in
      let mdb = work.mdb-is total old whole same in
      record {
        mdb = λ k beside.
            ap (λ (block : List ℕ). slice_index block k) (over-same 2 two) ∙ kept.mdb k beside ∙ sym (ap (λ (block : List ℕ). slice_index block k) two);
        bits = λ i spare. spare-bits i (subst (λ (m : Mdb). IsSpareBit m i) mdb spare);
        others = others;
        extents = subst (λ (s : Store). KeepsFrame ext_keys s (extents_nodes full)) (sym (work.extents-is total old whole same))
            (subst (λ (s : Store). KeepsFrame ext_keys (extents_nodes old) s) (sym (work.extents-is total new full after)) kept.extents);
        catalog = subst (λ (s : Store). KeepsFrame cat_keys s (catalog_nodes full)) (sym (work.catalog-is total old whole same))
            (subst (λ (s : Store). KeepsFrame cat_keys (catalog_nodes old) s) (sym (work.catalog-is total new full after)) kept.catalog);
        catalog_file = work.file-is total new full after ∙ kept.catalog_file ∙ sym (work.file-is total old whole same);
        stray = λ b lt.
            let here : b < (mdb_in old).allocation_blocks = subst (λ (m : Mdb). b < m.allocation_blocks) mdb lt in
            work.stray-is total new full after b (subst (λ (n : ℕ). b < n) (sym allocation_blocks-stay) here)
            ∙ kept.stray b here ∙ sym (work.stray-is total old whole same b here);
      }

-- ---- images

module _ (copy image : List ℕ) (is : IsWorkingCopy copy image) where
  count : block_count image ≡ block_count copy
  count = ap (λ (n : ℕ). n / 512) is.len

  sound : IsSound image
  sound = record {
    len = subst IsImageLength (sym is.len) is.sound.len;
    blocks = subst (λ (n : ℕ). AreBlocksSound n (block_at image)) (sym count)
        (work.sound-is (block_count copy) (block_at copy) (block_at image) is.same is.sound.blocks);
  }

  volume : HoldVolumeOf copy image
  unfolding volume_of
  volume = work.volume-is (block_count copy) (block_at copy) (block_at image) is.same

  alike : AreAlike no_file (volume_of copy) (volume_of image)
  unfolding volume_of
  alike = work.alike-is (block_count copy) (block_at copy) (block_at image) is.same (length-block_at copy)
      (subst (λ (n : ℕ). (k : ℕ) → k < n → length (block_at image k) ≡ 512) count (length-block_at image)) is.sound.blocks

  pub alike-kept : (keep : ℕ → Bool) → Each (HasForksOf keep (block_at copy) (block_at image)) (catalog_in (block_at copy))
      → AreAlike keep (volume_of copy) (volume_of image)
  unfolding volume_of
  alike-kept keep has = work.alike-kept (block_count copy) (block_at copy) (block_at image) is.same (length-block_at copy)
      (subst (λ (n : ℕ). (k : ℕ) → k < n → length (block_at image k) ≡ 512) count (length-block_at image)) is.sound.blocks keep has

  pub copy-answers : AnswersAs copy image
  copy-answers = record { sound = sound; volume = volume; alike = alike }

  module _ (written : List ℕ) (changed : Numbered) (are : AreChangesBut written changed copy image) where
    abbrev g : Changes
    g = changes changed

    within : AreWithin g (block_count image)
    within = subst (AreWithin g) (sym count) are.within

    new-is : (n : ℕ) → block_at (patched changed copy) n ≡ over g (block_at copy) n
    new-is n = ap (λ (f : ℕ → List ℕ). f n) (block_at-laid_over g copy are.within)

    full-is : (n : ℕ) → block_at (patched changed image) n ≡ over g (block_at image) n
    full-is n = ap (λ (f : ℕ → List ℕ). f n) (block_at-laid_over g image within)

    long : length (patched changed image) ≡ length image
    long = length-laid_over g image within

    count-new : block_count (patched changed copy) ≡ block_count copy
    count-new = ap (λ (n : ℕ). n / 512) (length-laid_over g copy are.within)

    count-full : block_count (patched changed image) ≡ block_count copy
    count-full = ap (λ (n : ℕ). n / 512) (long ∙ is.len)

    agree : AgreeOn (working_blocks (block_count copy) (block_at (patched changed copy))) (block_at (patched changed copy)) (block_at (patched changed image))
    agree = after (block_count copy) written g (block_at copy) (block_at image) (block_at (patched changed copy)) (block_at (patched changed image)) is.same new-is full-is
        are.known are.agrees.kept

    sound-new : AreBlocksSound (block_count copy) (block_at (patched changed copy))
    sound-new = subst (λ (n : ℕ). AreBlocksSound n (block_at (patched changed copy))) count-new are.agrees.sound.blocks

    sound-full : IsSound (patched changed image)
    sound-full = record {
      len = subst IsImageLength (sym (long ∙ is.len)) is.sound.len;
      blocks = subst (λ (n : ℕ). AreBlocksSound n (block_at (patched changed image))) (sym count-full)
          (work.sound-is (block_count copy) (block_at (patched changed copy)) (block_at (patched changed image)) agree sound-new);
    }

    volume-full : HoldVolumeOf (patched changed copy) (patched changed image)
    unfolding volume_of
    volume-full = work.volume-is (block_count copy) (block_at (patched changed copy)) (block_at (patched changed image)) agree

    alike-full : AreAlike no_file (volume_of (patched changed copy)) (volume_of (patched changed image))
    unfolding volume_of
    alike-full = work.alike-is (block_count copy) (block_at (patched changed copy)) (block_at (patched changed image)) agree
        (subst (λ (n : ℕ). (k : ℕ) → k < n → length (block_at (patched changed copy) k) ≡ 512) count-new (length-block_at (patched changed copy)))
        (subst (λ (n : ℕ). (k : ℕ) → k < n → length (block_at (patched changed image) k) ≡ 512) count-full (length-block_at (patched changed image))) sound-new

    -- a block that was changed, or was the image's, is the image's
    pub block-after : (n : ℕ) → IsSome (g n) ⊎ (block_at image n ≡ block_at copy n) → block_at (patched changed image) n ≡ block_at (patched changed copy) n
    block-after n either = full-is n ∙ by (g n) refl either ∙ sym (new-is n)
      where
        by : (o : Option (List ℕ)) → g n ≡ o → IsSome (g n) ⊎ (block_at image n ≡ block_at copy n) → unwrap_or (g n) (block_at image n) ≡ unwrap_or (g n) (block_at copy n)
        by None e either = ⊎_elim
            (λ (some : IsSome (g n)). absurd (true≢false (sym some ∙ ap is_some e)))
            (λ (same : block_at image n ≡ block_at copy n). ap (unwrap_or (g n)) same)
            either
        by (Some b) e either = ap (λ (o : Option (List ℕ)). unwrap_or o (block_at image n)) e ∙ sym (ap (λ (o : Option (List ℕ)). unwrap_or o (block_at copy n)) e)

    still-copy : IsWorkingCopy (patched changed copy) (patched changed image)
    still-copy = record {
      sound = are.agrees.sound;
      len = long ∙ is.len ∙ sym (length-laid_over g copy are.within);
      same = subst (λ (n : ℕ). AgreeOn (working_blocks n (block_at (patched changed copy))) (block_at (patched changed copy)) (block_at (patched changed image))) (sym count-new) agree;
    }

    pub carries-over : CarriesOverBut written changed copy image
    carries-over = record {
      agrees = record {
        sound = sound-full;
        len = long;
        kept = keeps (block_count copy) written g (block_at copy) (block_at image) (block_at (patched changed copy)) (block_at (patched changed image)) is.same
            new-is full-is are.known are.agrees.kept;
      };
      copied = still-copy;
      volume = volume-full;
      alike = alike-full;
    }
