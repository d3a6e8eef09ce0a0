-- The free blocks that are added to a fork.
use Rattle.std.specs.Prelude.{◌≡◌, ℕ, ◌+◌, ◌≤◌, ◌==◌, if◌then◌else◌, List, [], ◌∷◌, ◌++◌, Option, Some, None, Result}
use Rattle.std.specs.Result.{MatchResult}
use Rattle.std.specs.Option.{option_or}
use Rattle.std.proofs.Common.{Vec, Global}
use Rattle.hfs_fields.specs.declared.extent.Extent.{Extent}
use Rattle.hfs_fields.specs.declared.mdb.Mdb.{Mdb}
use Rattle.hfs_space.specs.Bitmap.{is_used}
use Rattle.hfs_space.specs.Extents.{extent_blocks}
use Rattle.hfs_space.specs.Choice.{GivesChoice, GivesFreeOnce, AreChosen, AreFreeOnce, IsRoom, free_count}
use Rattle.hfs_space.specs.declared.choosing.Room.{Room}
use Rattle.hfs_model.specs.declared.journal.Want.{Want}
use Rattle.hfs_model.specs.declared.journal.Want.TheVariants as want
use Rattle.hfs_record_edits.specs.Growing.{grown}
use Rattle.hfs_call_patches.specs.declared.room.Growing.{Growing}

-- the block directly after the last one of these extents; None where they have no block
abbrev pub block_after : List Extent → Option ℕ
block_after [] = None
block_after (e ∷ es) = option_or (block_after es) (if e.count == 0 then None else Some (e.first + e.count))

-- the blocks that are added to a fork with these extents, or, exactly where there are too few, how many are free
abbrev pub GivesPieces : (ℕ → List ℕ) → Mdb → List Extent → ℕ → Result (Vec Extent Global) Room → Type 0
GivesPieces blocks mdb extents wanted answer = GivesChoice (is_used blocks mdb.bitmap_start) mdb.allocation_blocks (block_after extents) wanted answer

-- they are free, each once, and as many as are needed
abbrev pub GivesFree : (ℕ → List ℕ) → Mdb → ℕ → Result (Vec Extent Global) Room → Type 0
GivesFree blocks mdb wanted answer = GivesFreeOnce (is_used blocks mdb.bitmap_start) mdb.allocation_blocks wanted answer

-- the pieces are chosen of the free blocks, which are enough; with them the fork has these extents, and these blocks
pub record IsGrowing (blocks : ℕ → List ℕ) (mdb : Mdb) (extents : List Extent) (wanted : ℕ) (g : Growing) : Type 0 where
  pub chosen : AreChosen (is_used blocks mdb.bitmap_start) mdb.allocation_blocks (block_after extents) wanted g.pieces.items
  pub enough : wanted ≤ free_count (is_used blocks mdb.bitmap_start) mdb.allocation_blocks
  pub free : AreFreeOnce (is_used blocks mdb.bitmap_start) mdb.allocation_blocks wanted g.pieces.items
  pub all : g.extents.items ≡ grown extents g.pieces.items
  pub made : extent_blocks g.extents.items ≡ extent_blocks extents ++ extent_blocks g.pieces.items

-- too few blocks are free, and that is reported
pub record IsRoomWanted (blocks : ℕ → List ℕ) (mdb : Mdb) (wanted : ℕ) (told : Want) : Type 0 where
  pub room : Room
  pub is : IsRoom (is_used blocks mdb.bitmap_start) mdb.allocation_blocks wanted room
  pub same : told ≡ want.Room room.free room.wanted

-- the pieces and the extents; or the lack of blocks, exactly where there are too few
abbrev pub GivesGrowing : (ℕ → List ℕ) → Mdb → List Extent → ℕ → Result Growing Want → Type 0
GivesGrowing blocks mdb extents wanted answer = MatchResult answer (λ g. IsGrowing blocks mdb extents wanted g) (λ told. IsRoomWanted blocks mdb wanted told)
