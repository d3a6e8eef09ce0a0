-- What was found of a refused volume.
use Rattle.std.specs.Prelude.{◌≡◌, ℕ, ◌*◌, Bool, List, ◌∷◌, length, Some}
use Rattle.hfs_check.specs.declared.mount_fault.MountFault.{MountFault}
use Rattle.hfs_remains_forks.specs.declared.finds.Finds.{Finds}
use Rattle.hfs_remains_forks.specs.Finds.{AreFinds, found_directory}
use Rattle.hfs_remains_forks.specs.Images.{FoundImage, kept_image}
use Rattle.hfs_database.specs.declared.value.Table.TheVariants.{Volume}
use Rattle.hfs_database.specs.Taken.{TakenRow, row_of}
use Rattle.hfs_word_collect.specs.declared.places.VolumePlace.{VolumePlace}
use Rattle.hfs_rescue_items.specs.declared.found.Found.{Found}
use Rattle.hfs_word_collect.specs.Remains.{remains_rows_by}
use Rattle.hfs_word_collect.specs.Volumes.{volume_values}

-- an image, what was found of it, and what is taken
abbrev pub image_of : Found → List ℕ → FoundImage
image_of found image = kept_image image found.places.now found.salvage.now

-- this was found of an image, of whose forks so many bytes are taken at most as is usual
pub record IsFoundOf (finds : Finds) (limit : ℕ) (image : List ℕ) : Type 0 where
  pub directory_is : found_directory image ≡ Some finds.mdb
  pub finds_are : AreFinds image finds
  pub limit_is : limit ≡ 4 * length image

-- the row of a refused volume with this directory, and those of what remains of it
abbrev pub rows_found : Bool → VolumePlace → MountFault → Finds → List ℕ → List TakenRow
rows_found taken place why finds bytes = row_of Volume (volume_values place (Some why) (Some finds.mdb)) ∷ remains_rows_by taken bytes (Some finds.mdb)
