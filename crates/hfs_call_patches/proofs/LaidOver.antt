-- Zeros that were laid as runs and a patch, and then bytes, over what shows both.
use Rattle.std.proofs.Common.{◌≡◌, ℕ, zero, suc, ◌<◌, List, [], ◌∷◌, length, sym, ◌∙◌, subst, arith}
use Rattle.std.specs.Prelude.{slice_index}
use Rattle.hfs_fields.specs.declared.extent.Extent.{Extent}
use Rattle.hfs_fields.specs.declared.mdb.Mdb.{Mdb}
use Rattle.hfs_blocks.specs.declared.run.Run.{Run}
use Rattle.hfs_blocks.specs.Layers.{Numbered, changes, over}
use Rattle.hfs_fields.specs.Each.{Each}
use Rattle.hfs_btree.specs.Sound.{IsOther}
use Rattle.hfs_space.specs.ForkLaws.{block_numbers}
use Rattle.hfs_space.specs.Zeros.{zero_blocks}
use Rattle.hfs_space.specs.Clearing.{HaveZeros, KeepOthers, zeroed, patched}
use Rattle.hfs_space.specs.WrittenForks.{HasWritten, KeepsOtherBlocks}
use Rattle.hfs_check.specs.Parts.{Blocks}
use Rattle.hfs_call_patches.specs.Gaining.{KeepsBesideBlocks}
use Rattle.hfs_call_patches.specs.Laying.{LaysBoth}

module _ (mdb : Mdb) (extents : List Extent) (from count offset : ℕ) (part : List ℕ) (blocks : Blocks) (runs : List Run) (p q : Numbered)
    (zeros : HaveZeros mdb extents from count blocks (patched p runs blocks)) (others : KeepOthers mdb extents from count blocks (patched p runs blocks))
    (seen : List Run) (under : Blocks) (runs_is : seen ≡ runs) (under_is : under ≡ blocks)
    (written : HasWritten (over (zero_blocks seen) under) mdb extents offset part p q) (beside : KeepsOtherBlocks (over (zero_blocks seen) under) mdb extents offset (length part) p q) where
  seen_is : over (zero_blocks seen) under ≡ over (zero_blocks runs) blocks
  seen_is i = over (zero_blocks (runs_is i)) (under_is i)

  pub lays_over : LaysBoth mdb extents from count offset part blocks (patched q runs blocks)
  lays_over = record {
    cleared = patched p runs blocks;
    zeros = record { zeros = zeros; beside = others };
    bytes = record {
      given = subst (λ (b : Blocks). HasWritten b mdb extents offset part p q) seen_is written;
      beside = subst (λ (b : Blocks). KeepsOtherBlocks b mdb extents offset (length part) p q) seen_is beside;
    };
  }

-- ---- beside the fork's blocks nothing is laid

each_index : (P : ℕ → Type 0) (ns : List ℕ) → Each P ns → (i : ℕ) → i < length ns → P (slice_index ns i)
each_index P [] h i lt = absurd (omega (arith, lt))
each_index P (x ∷ ns) h zero lt = h.0
each_index P (x ∷ ns) h (suc i) lt = each_index P ns h.1 i (omega (arith, lt))

pub laid_beside : (mdb : Mdb) (extents : List Extent) (from count offset : ℕ) (part : List ℕ) (old new : Blocks) → LaysBoth mdb extents from count offset part old new → KeepsBesideBlocks (block_numbers mdb extents) old new
laid_beside mdb extents from count offset part old new lays n other =
    let at : (i : ℕ) → i < length (block_numbers mdb extents) → slice_index (block_numbers mdb extents) i ≡ n → ⊥ = each_index (IsOther n) (block_numbers mdb extents) other in
    lays.bytes.beside n (λ i has lt. at i lt) ∙ lays.zeros.beside n (λ i has lt. at i lt)

-- the same of extents that are these, over blocks that show what lies below
pub laid_apart : (mdb : Mdb) (extents all : List Extent) → extents ≡ all → (from count offset : ℕ) (part : List ℕ) (old below : Blocks) (zeros : List Run) (p : Numbered) → below ≡ zeroed zeros old
    → LaysBoth mdb extents from count offset part old (patched p zeros old) → KeepsBesideBlocks (block_numbers mdb all) old (over (changes p) below)
laid_apart mdb extents all same from count offset part old below zeros p is lays =
    subst (λ (b : Blocks). KeepsBesideBlocks (block_numbers mdb all) old (over (changes p) b)) (sym is)
    (subst (λ (es : List Extent). KeepsBesideBlocks (block_numbers mdb es) old (patched p zeros old)) same (laid_beside mdb extents from count offset part old (patched p zeros old) lays))
