-- The lists of folders.
use Rattle.std.specs.Prelude.{ℕ, List}
use Rattle.hfs_model.specs.declared.reply.Reply.{Reply}
use Rattle.hfs_model.specs.Children.{entries_of}
use Rattle.hfs_model.specs.Reading.{list}
use Rattle.hfs_check.specs.VolumeOf.{volume_of}
use Rattle.hfs_items.specs.Brief.{without_ids}

-- the reply to List of a folder of an image's volume, with has_id false in each item
abbrev pub brief_list : List ℕ → ℕ → Reply
brief_list image dir = without_ids (list (entries_of (volume_of image)) dir)
