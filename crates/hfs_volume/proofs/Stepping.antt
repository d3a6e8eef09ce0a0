-- A change that was laid over an image.
use Rattle.std.proofs.Common.{◌≡◌, ℕ, ◌/◌, Ok, Option, Some, None, List, [], ◌++◌, length, refl, sym, ap, ◌∙◌, subst}
use Rattle.std.specs.List.{flat_map}
use Rattle.hfs_fields.specs.declared.mdb.Mdb.{Mdb}
use Rattle.hfs_fields.specs.declared.extent.Extent.{Extent}
use Rattle.hfs_fields.specs.Counts.{with_counts}
use Rattle.hfs_blocks.specs.declared.run.Run.{Run}
use Rattle.hfs_blocks.specs.Blocks.{block_at, block_count, run_of, nodes_in, AreRunsWithin}
use Rattle.hfs_blocks.specs.Layers.{Changes, AreWithin, changes, over}
use Rattle.hfs_space.specs.TreeFiles.{tree_blocks}
use Rattle.hfs_space.proofs.TreeFileLemmas.{nodes_in-tree_blocks}
use Rattle.hfs_model.specs.declared.call.Call.{Call}
use Rattle.hfs_model.specs.Step.{step}
use Rattle.hfs_check.specs.Agree.{AgreesBut, KeepsBut}
use Rattle.hfs_check.specs.Laws.{AgreementsJoin}
use Rattle.hfs_check.specs.Parts.{Blocks, mdb_in, catalog_extents, extents_blocks, extents_nodes, catalog_blocks, catalog_nodes}
use Rattle.hfs_check.specs.Sound.{IsImageLength, AreBlocksSound, IsSound}
use Rattle.hfs_check.specs.VolumeOf.{volume_in, volume_of}
use Rattle.hfs_record_edits.specs.Laws.{IsSteppedBut}
use Rattle.hfs_call_patches.specs.declared.change.Change.{Change}
use Rattle.hfs_call_patches.specs.declared.change.ForkBlocks.{ForkBlocks}
use Rattle.hfs_call_patches.specs.CallChanges.{IsChangeOf, AreZerosAmong, changed, laid_with, written_blocks}
use Rattle.std.proofs.lemmas.List.Elements.{All-nil}
use Rattle.hfs_blocks.specs.Layers.{Numbered}
use Rattle.hfs_space.specs.Zeros.{AreAmong}
use Rattle.hfs_space.specs.Changed.{laid_changes}
use Rattle.hfs_space.proofs.AllBlocks.{patched-laid, laid-within}
use Rattle.hfs_volume.specs.Image.{ImageValue}
use Rattle.hfs_volume.specs.Laid.{laid_over}
use Rattle.hfs_volume.specs.Mounted.{IsMounted}
use Rattle.hfs_volume.specs.Steps.{IsEditOn, zero_runs, written_runs}
use Rattle.hfs_volume.proofs.Laid.{AreBlocks-within, block_at-laid_over, length-laid}

-- ---- what a change lays over a volume's blocks

pub laid_is : (w : Option ForkBlocks) (patch : Numbered) (old : Blocks) → laid_with w patch old ≡ over (laid_changes patch (zero_runs w)) old
laid_is None patch old = λ i k. patched-laid patch [] old k i
laid_is (Some fork) patch old = λ i k. patched-laid patch fork.zeros old k i

pub zeros_among : (w : Option ForkBlocks) (total : ℕ) → AreZerosAmong w total → AreAmong (zero_runs w) total
zeros_among None total h = All-nil _
zeros_among (Some fork) total h = h

pub blocks_written : (w : Option ForkBlocks) → flat_map run_of (written_runs w) ≡ written_blocks w
blocks_written None = refl
blocks_written (Some fork) = refl

-- ---- the image afterwards

module _ (c : Call) (counts : Mdb) (before written base current after : List ℕ) (g : Changes) (agrees : AgreesBut before base current) (within : AreWithin g (block_count current))
    (stepped : IsSteppedBut written c (block_count current) (block_at current) (over g (block_at current))) (made : mdb_in (over g (block_at current)) ≡ with_counts counts (mdb_in (block_at current)))
    (is : after ≡ laid_over g current) where
  pub blocks_after : block_at after ≡ over g (block_at current)
  blocks_after = ap block_at is ∙ block_at-laid_over g current within

  len : length after ≡ length current
  len = ap (λ (bytes : List ℕ). length bytes) is ∙ length-laid (over g (block_at current)) current (AreBlocks-within g current within)

  pub count_after : block_count after ≡ block_count current
  count_after = ap (λ (n : ℕ). n / 512) len

  sound : IsSound after
  sound = record {
    len = subst IsImageLength (sym len) agrees.sound.len;
    blocks = subst (λ (n : ℕ). AreBlocksSound n (block_at after)) (sym count_after) (subst (AreBlocksSound (block_count current)) (sym blocks_after) stepped.sound);
  }

  keeps : KeepsBut written (block_at current) (block_at after)
  keeps = subst (KeepsBut written (block_at current)) (sym blocks_after) stepped.kept

  pub agrees_after : AgreementsJoin → AgreesBut (before ++ written) base after
  agrees_after join = join before written base current after agrees (record { sound = sound; len = len; kept = keeps })

  pub volume_after : volume_of after ≡ (step (volume_of current) c).0
  unfolding volume_of
  volume_after = ap volume_in blocks_after ∙ stepped.volume

  pub mdb_after : mdb_in (block_at after) ≡ with_counts counts (mdb_in (block_at current))
  mdb_after = ap mdb_in blocks_after ∙ made

  pub extents_after : extents_blocks (block_at after) ≡ extents_blocks (block_at current)
  unfolding extents_blocks tree_blocks
  extents_after i = tree_blocks (mdb_after i) (mdb_after i).extents_file (mdb_after i).extents_file_size

  file_blocks : (b : Mdb) (es : List Extent) → b ≡ with_counts counts (mdb_in (block_at current)) → es ≡ catalog_extents (block_at current) → tree_blocks b es b.catalog_file_size ≡ catalog_blocks (block_at current)
  unfolding catalog_blocks tree_blocks
  file_blocks b es p q i = tree_blocks (p i) (q i) (p i).catalog_file_size

  pub catalog_after : catalog_blocks (block_at after) ≡ catalog_blocks (block_at current)
  unfolding catalog_blocks
  catalog_after = file_blocks (mdb_in (block_at after)) (catalog_extents (block_at after)) mdb_after keeps.catalog_file

-- the nodes of a file's runs are those of the file
extents_in : (blocks : Blocks) (runs : List Run) → flat_map run_of runs ≡ extents_blocks blocks → nodes_in blocks runs ≡ extents_nodes blocks
unfolding extents_nodes extents_blocks
extents_in blocks runs e = nodes_in-tree_blocks blocks (mdb_in blocks) (mdb_in blocks).extents_file (mdb_in blocks).extents_file_size runs e

catalog_in : (blocks : Blocks) (runs : List Run) → flat_map run_of runs ≡ catalog_blocks blocks → nodes_in blocks runs ≡ catalog_nodes blocks
unfolding catalog_nodes catalog_blocks
catalog_in blocks runs e = nodes_in-tree_blocks blocks (mdb_in blocks) (catalog_extents blocks) (mdb_in blocks).catalog_file_size runs e

-- ---- a mounted volume

module _ (own value after : ImageValue) (mdb : Mdb) (extents catalog : List Run) (view_is : own ≡ value) (mounted : IsMounted own mdb extents catalog) where
  -- the same bytes
  pub still_mounted : after.base ≡ own.base → after.current ≡ own.current → after.written ≡ own.written → IsMounted after mdb extents catalog
  still_mounted base current written = record {
    base = subst IsSound (sym base) mounted.base;
    agrees =
        subst (λ (w : List ℕ). AgreesBut w after.base after.current) (sym written)
        (subst (λ (b : List ℕ). AgreesBut own.written b after.current) (sym base) (subst (AgreesBut own.written own.base) (sym current) mounted.agrees));
    directory = mounted.directory ∙ ap (λ (b : List ℕ). mdb_in (block_at b)) (sym current);
    extents_within = subst (λ (b : List ℕ). AreRunsWithin extents (block_count b)) (sym current) mounted.extents_within;
    extents_blocks = mounted.extents_blocks ∙ ap (λ (b : List ℕ). extents_blocks (block_at b)) (sym current);
    extents_nodes = subst (λ (b : List ℕ). nodes_in (block_at b) extents ≡ extents_nodes (block_at b)) (sym current) mounted.extents_nodes;
    catalog_within = subst (λ (b : List ℕ). AreRunsWithin catalog (block_count b)) (sym current) mounted.catalog_within;
    catalog_blocks = mounted.catalog_blocks ∙ ap (λ (b : List ℕ). catalog_blocks (block_at b)) (sym current);
    catalog_nodes = subst (λ (b : List ℕ). nodes_in (block_at b) catalog ≡ catalog_nodes (block_at b)) (sym current) mounted.catalog_nodes;
  }

  -- a change was laid over them
  module _ (change : Change) (laid : after.current ≡ laid_over (laid_changes change.patch (zero_runs change.written)) own.current) (c : Call) (is : IsEditOn c value.current (Ok change)) where
    abbrev total : ℕ
    total = block_count own.current

    abbrev blocks : Blocks
    blocks = block_at own.current

    abbrev g : Changes
    g = laid_changes change.patch (zero_runs change.written)

    here : IsChangeOf c total blocks change
    here = (subst (λ (v : ImageValue). IsEditOn c v.current (Ok change)) (sym view_is) is).is.comes

    g_within : AreWithin g total
    g_within = laid-within change.patch (zero_runs change.written) total here.within (zeros_among change.written total here.zeros)

    stepped_here : IsSteppedBut (written_blocks change.written) c total blocks (over g blocks)
    stepped_here = subst (IsSteppedBut (written_blocks change.written) c total blocks) (laid_is change.written change.patch blocks) here.stepped

    directory_here : mdb_in (over g blocks) ≡ with_counts change.counts (mdb_in blocks)
    directory_here = ap mdb_in (sym (laid_is change.written change.patch blocks)) ∙ here.directory

    pub committed_volume : volume_of after.current ≡ (step (volume_of value.current) c).0
    committed_volume =
        volume_after c change.counts own.written (written_blocks change.written) own.base own.current after.current g mounted.agrees g_within stepped_here directory_here laid
        ∙ ap (λ (v : ImageValue). (step (volume_of v.current) c).0) view_is

    pub committed_blocks : block_at after.current ≡ changed (block_at value.current) change
    committed_blocks =
        blocks_after c change.counts own.written (written_blocks change.written) own.base own.current after.current g mounted.agrees g_within stepped_here directory_here laid
        ∙ sym (laid_is change.written change.patch blocks)
        ∙ ap (λ (v : ImageValue). changed (block_at v.current) change) view_is

    pub committed_mounted : AgreementsJoin → after.base ≡ own.base → after.written ≡ own.written ++ written_blocks change.written → IsMounted after (with_counts change.counts mdb) extents catalog
    committed_mounted join base written =
        let count = count_after c change.counts own.written (written_blocks change.written) own.base own.current after.current g mounted.agrees g_within stepped_here directory_here laid in
        let first = mounted.extents_blocks ∙ sym (extents_after c change.counts own.written (written_blocks change.written) own.base own.current after.current g mounted.agrees g_within stepped_here directory_here laid) in
        let second = mounted.catalog_blocks ∙ sym (catalog_after c change.counts own.written (written_blocks change.written) own.base own.current after.current g mounted.agrees g_within stepped_here directory_here laid) in
        record {
          base = subst IsSound (sym base) mounted.base;
          agrees =
              subst (λ (w : List ℕ). AgreesBut w after.base after.current) (sym written)
              (subst (λ (b : List ℕ). AgreesBut (own.written ++ written_blocks change.written) b after.current) (sym base)
              (agrees_after c change.counts own.written (written_blocks change.written) own.base own.current after.current g mounted.agrees g_within stepped_here directory_here laid join));
          directory =
              ap (with_counts change.counts) mounted.directory
              ∙ sym (mdb_after c change.counts own.written (written_blocks change.written) own.base own.current after.current g mounted.agrees g_within stepped_here directory_here laid);
          extents_within = subst (AreRunsWithin extents) (sym count) mounted.extents_within;
          extents_blocks = first;
          extents_nodes = extents_in (block_at after.current) extents first;
          catalog_within = subst (AreRunsWithin catalog) (sym count) mounted.catalog_within;
          catalog_blocks = second;
          catalog_nodes = catalog_in (block_at after.current) catalog second;
        }
