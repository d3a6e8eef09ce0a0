-- Zeros and bytes that are laid over a fork's blocks.
use Rattle.std.specs.Prelude.{ℕ, List}
use Rattle.hfs_fields.specs.declared.extent.Extent.{Extent}
use Rattle.hfs_fields.specs.declared.mdb.Mdb.{Mdb}
use Rattle.hfs_space.specs.Clearing.{patched}
use Rattle.hfs_space.specs.declared.clearing.Cleared.{Cleared}
use Rattle.hfs_call_patches.specs.Laid.{LaysZeros, LaysBytes}

-- first the zeros, and then the bytes over them; no other block has changed
pub record LaysBoth (mdb : Mdb) (extents : List Extent) (from count offset : ℕ) (part : List ℕ) (old new : ℕ → List ℕ) : Type 0 where
  pub cleared : ℕ → List ℕ
  pub zeros : LaysZeros mdb extents from count old cleared
  pub bytes : LaysBytes mdb extents offset part cleared new

-- so are the blocks with runs of zeros laid over them, and a patch over these
abbrev pub LaysOver : (ℕ → List ℕ) → Mdb → List Extent → ℕ → ℕ → ℕ → List ℕ → Cleared → Type 0
LaysOver blocks mdb extents from count offset part laid = LaysBoth mdb extents from count offset part blocks (patched laid.patch laid.zeros blocks)
