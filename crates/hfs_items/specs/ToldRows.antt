-- What is said about the items of a volume.
use Rattle.std.specs.Prelude.{ℕ, List, map}
use Rattle.hfs_model.specs.declared.reply.Info.{Info}
use Rattle.hfs_model.specs.Volume.{Entry}
use Rattle.hfs_model.specs.Replies.{info_of}
use Rattle.hfs_items.specs.Rows.{Row, rows_of}

-- a path, and what is said about the item that it leads to
pub record ToldRow : Type 0 where
  pub path : List (List ℕ)
  pub info : Info

-- what is said about a row's item among these
abbrev pub told_row : List Entry → Row → ToldRow
told_row es row = record { path = row.path; info = info_of es row.entry }

-- of all items, in the order of the table
abbrev pub told_rows : List Entry → List ToldRow
told_rows es = map (told_row es) (rows_of es)
