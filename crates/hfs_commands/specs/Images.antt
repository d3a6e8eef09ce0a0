-- Images with changed blocks laid over them, and files in which they lie.
use Rattle.std.specs.Prelude.{◌≡◌, ℕ, List, length}
use Rattle.hfs_blocks.specs.Layers.{Numbered}
use Rattle.hfs_volume.specs.InFile.{file_with}
use Rattle.hfs_volume.specs.declared.in_file.ImagePlace.{ImagePlace}
use Rattle.hfs_volume.specs.Image.{patched}

-- these are the bytes of one of these images, which has so many, with the changed blocks in place of its own
pub record IsPatchedOf (Holds : List ℕ → Type 0) (len : ℕ) (changed : Numbered) (bytes : List ℕ) : Type 0 where
  pub image : List ℕ
  pub held : Holds image
  pub long : length image ≡ len
  pub is : bytes ≡ patched changed image

-- these are the bytes of one of these files, with the changed blocks in place of those of the image that lies there, and with its sum made anew
pub record IsFileWith (Holds : List ℕ → Type 0) (place : ImagePlace) (changed : Numbered) (bytes : List ℕ) : Type 0 where
  pub file : List ℕ
  pub held : Holds file
  pub is : bytes ≡ file_with place changed file
