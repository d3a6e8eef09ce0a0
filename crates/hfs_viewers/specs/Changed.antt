-- Which blocks of forks were changed since a volume was mounted.
use Rattle.std.specs.Prelude.{◌≡◌, Bool, false, List, [], is_some}
use Rattle.hfs_blocks.specs.Blocks.{block_at, run_of}
use Rattle.hfs_blocks.specs.Layers.{Numbered, changes}
use Rattle.hfs_fields.specs.declared.extent.Extent.{Extent}
use Rattle.hfs_fields.specs.declared.mdb.Mdb.{Mdb}
use Rattle.hfs_fields.specs.Each.{Each}
use Rattle.hfs_space.specs.ForkLaws.{block_numbers}
use Rattle.hfs_space.specs.Forks.{run_in}
use Rattle.hfs_check.specs.Parts.{mdb_in}
use Rattle.hfs_check.specs.Sound.{IsSound}
use Rattle.hfs_volume.specs.Image.{ImageValue, IsSameBeside, is_changed}

-- the image is sound; where `changed` is false no block of it was changed, and blocks that weren't are the base's
pub record TellsChanges (image : ImageValue) (changed : Bool) : Type 0 where
  pub sound : IsSound image.current
  pub none : changed ≡ false → image.changed ≡ []
  pub beside : IsSameBeside image

-- none of the extent's blocks is among these
abbrev pub HasNone : Numbered → Mdb → Extent → Type 0
HasNone blocks mdb e = Each (λ n. is_some (changes blocks n) ≡ false) (run_of (run_in mdb e))

-- none of these extents' blocks was changed
abbrev pub AreUnchanged : ImageValue → List Extent → Type 0
AreUnchanged image es = Each (λ n. is_changed image n ≡ false) (block_numbers (mdb_in (block_at image.current)) es)
