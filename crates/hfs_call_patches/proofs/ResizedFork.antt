-- What a change is that has the runs of zeros, the patch and the counts of a fork's edits.
use Rattle.std.proofs.Common.{◌≡◌, ℕ, List, length, sym, ◌∙◌, ap, subst, Option, Some, None, Vec, Global}
use Rattle.std.specs.List.{flat_map}
use Rattle.hfs_fields.specs.declared.extent.Extent.{Extent}
use Rattle.hfs_fields.specs.declared.mdb.Mdb.{Mdb}
use Rattle.hfs_fields.specs.declared.file_record.FileRecord.{FileRecord}
use Rattle.hfs_fields.specs.Counts.{with_counts}
use Rattle.hfs_blocks.specs.declared.run.Run.{Run}
use Rattle.hfs_blocks.specs.Blocks.{run_of}
use Rattle.hfs_blocks.specs.Layers.{Numbered, changes, over, AreWithin}
use Rattle.hfs_space.specs.ForkLaws.{block_numbers}
use Rattle.hfs_model.specs.declared.call.Fork.{Fork}
use Rattle.hfs_model.specs.declared.reply.Value.TheVariants as value
use Rattle.hfs_check.specs.Parts.{Blocks, mdb_in}
use Rattle.hfs_space.specs.Clearing.{zeroed, patched as cleared}
use Rattle.hfs_space.specs.Zeros.{AreAmong}
use Rattle.hfs_model.specs.Forks.{blocks}
use Rattle.hfs_call_patches.specs.Files.{fork_of}
use Rattle.hfs_call_patches.specs.Edits.{blocks_of}
use Rattle.hfs_call_patches.specs.Laid.{AreZeros, AreWritten}
use Rattle.hfs_call_patches.specs.CallEdits.{SetsFork}
use Rattle.hfs_call_patches.specs.CallChanges.{written_blocks, laid_with, changed, AreZerosAmong}
use Rattle.hfs_call_patches.specs.declared.change.Change.{Change}
use Rattle.hfs_call_patches.specs.declared.change.ForkBlocks.{ForkBlocks}
use Rattle.hfs_call_patches.specs.Patches.{patched}
use Rattle.hfs_call_patches.specs.Calls.{HasResized}
use Rattle.hfs_call_patches.specs.Gaining.{IsLaidFor, HasSettled}
use Rattle.hfs_call_patches.specs.Laying.{LaysBoth}
use Rattle.hfs_call_patches.specs.Wanting.{MeetsWant}
use Rattle.hfs_call_patches.specs.declared.choosing.FoundFile.{FoundFile}
use Rattle.hfs_call_patches.specs.declared.volume.Settled.{Settled}

-- what lies below the patch are the runs of zeros over the volume
pub below_is : (zeros seen : List Run) (old under : Blocks) → seen ≡ zeros → under ≡ old → zeroed seen under ≡ zeroed zeros old
below_is zeros seen old under a b = λ i. zeroed (a i) (b i)

-- what was laid over extents that are these, up to where the zeros end
pub laid_for : (fork : Fork) (was : FileRecord) (len : ℕ) (mdb : Mdb) (old : Blocks) → mdb ≡ mdb_in old → (extents all : List Extent) → extents ≡ all → (from count offset : ℕ) (part written : List ℕ) (below : Blocks) (zeros : List Run) (p : Numbered) → below ≡ zeroed zeros old
    → LaysBoth mdb extents from count offset part old (cleared p zeros old) → AreWritten (block_numbers mdb extents) from count offset (length part) written
    → AreZeros (mdb_in old).allocation_block_size (fork_of fork was).length (length (blocks_of old fork was)) len (blocks (mdb_in old).allocation_block_size len) offset (length part) from count
    → IsLaidFor fork was len all from count offset part written old (patched below p)
laid_for fork was len mdb old directory extents all same from count offset part written below zeros p is lays wrote are = record {
  are_zeros = are;
  lays =
      subst (λ (b : Blocks). LaysBoth (mdb_in old) all from count offset part old (over (changes p) b)) (sym is)
      (subst (λ (m : Mdb). LaysBoth m all from count offset part old (cleared p zeros old)) directory
      (subst (λ (es : List Extent). LaysBoth mdb es from count offset part old (cleared p zeros old)) same lays));
  are_written =
      subst (λ (m : Mdb). AreWritten (block_numbers m all) from count offset (length part) written) directory
      (subst (λ (es : List Extent). AreWritten (block_numbers mdb es) from count offset (length part) written) same wrote);
}

module _ (f : FoundFile) (fork : Fork) (len offset : ℕ) (part : List ℕ) (now : ℕ) (all : List Extent) (total : ℕ) (old : Blocks) (below : Blocks) (laid : Numbered) (made : Settled) (s : HasSettled f fork len now all total old below laid made)
    (zeros : List Run) (below_zeros : below ≡ zeroed zeros old) (from count : ℕ) (written : Vec Run Global) (l : IsLaidFor fork f.file len all from count offset part (flat_map run_of written.items) old (patched below laid))
    (c : Change) (patch_is : c.patch ≡ made.patch) (counts_is : c.counts ≡ made.counts) (written_is : c.written ≡ Some (record { runs = written; zeros = zeros })) (among : AreAmong zeros total) (value_is : c.value ≡ value.Nothing) where
  new_is : changed old c ≡ patched below made.patch
  new_is = (λ i. laid_with (written_is i) (patch_is i) old) ∙ ap (λ (b : Blocks). over (changes made.patch) b) (sym below_zeros)

  pub resized : MeetsWant fork f.file len old None → HasResized f fork len offset part now total old c
  resized enough = record {
    enough = enough;
    within = subst (λ (p : Numbered). AreWithin (changes p) total) (sym patch_is) s.within;
    zeros = subst (λ (w : Option ForkBlocks). AreZerosAmong w total) (sym written_is) among;
    directory = ap mdb_in new_is ∙ s.directory ∙ ap (λ (m : Mdb). with_counts m (mdb_in old)) (sym counts_is);
    nothing = value_is;
    sets = λ chosen is.
        subst (λ (b : Blocks). SetsFork fork is.choice.of len now offset part (written_blocks c.written) old b) (sym new_is)
        (subst (λ (ns : List ℕ). SetsFork fork is.choice.of len now offset part ns old (patched below made.patch)) (sym (ap written_blocks written_is))
        (s.sets from count offset part (flat_map run_of written.items) l chosen is));
  }
