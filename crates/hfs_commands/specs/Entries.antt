-- The entries of an image's volume.
use Rattle.std.specs.Prelude.{ℕ, List}
use Rattle.hfs_model.specs.Children.{entries_of}
use Rattle.hfs_model.specs.Volume.{Entry}
use Rattle.hfs_check.specs.VolumeOf.{volume_of}

abbrev pub entries_in : List ℕ → List Entry
entries_in image = entries_of (volume_of image)
