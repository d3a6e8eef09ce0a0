-- How an item that is put gets its place, where another of the same name may be.
use Rattle.std.specs.Prelude.{Bool, if◌then◌else◌, Option, Some, None}
use Rattle.hfs_model.specs.declared.reply.ItemKind.{ItemKind}
use Rattle.hfs_model.specs.declared.reply.ItemKind.TheVariants.{Folder, File}
use Rattle.hfs_put_plan.specs.declared.over.Placing.{Placing}
use Rattle.hfs_put_plan.specs.declared.over.Placing.TheVariants.{New, Kept, Replaced, Taken}
use Rattle.hfs_put_plan.specs.declared.over.Standing.{Standing}

-- a file in the place of a file, which may be replaced
abbrev pub over_file : Bool → Bool → Placing
over_file locked replace = if replace then Replaced locked else Taken

-- by the kind of what is there: a folder takes what is put into it, and nothing of the other kind
abbrev pub over : ItemKind → Bool → ItemKind → Bool → Placing
over Folder locked Folder replace = Kept
over File locked Folder replace = Taken
over Folder locked File replace = Taken
over File locked File replace = over_file locked replace

abbrev pub over_standing : Standing → ItemKind → Bool → Placing
over_standing there comes replace = over there.kind there.locked comes replace

abbrev pub how_placed : Option Standing → ItemKind → Bool → Placing
how_placed None comes replace = New
how_placed (Some there) comes replace = over_standing there comes replace
