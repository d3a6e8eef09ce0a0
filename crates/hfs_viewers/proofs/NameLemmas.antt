-- The items of a folder, by the names that are kept in order.
use Rattle.std.specs.Prelude.{ℕ, ◌==◌, List, [], map, filter}
use Rattle.std.specs.Option.{unwrap_or}
use Rattle.hfs_model.specs.declared.reply.Info.{Info}
use Rattle.hfs_model.specs.Volume.{Entry}
use Rattle.hfs_model.specs.Changes.{new_item, new_folder}
use Rattle.hfs_model.specs.Children.{entry_at}
use Rattle.hfs_model.specs.Replies.{info_of}
use Rattle.hfs_viewers.specs.declared.place.Place.{Place}

-- what stands where there is no item
abbrev pub nobody : Entry
nobody = (0, new_item new_folder 0 [] 0)

-- the entry of an ID, which is one
abbrev pub entry_or : List Entry → ℕ → Entry
entry_or es id = unwrap_or (entry_at es id) nobody

-- what is told of the item of an ID
abbrev pub told_of : List Entry → ℕ → Info
told_of es id = info_of es (entry_or es id)

-- the names under a folder
abbrev pub names_under : ℕ → List (Place × ℕ) → List (Place × ℕ)
names_under dir names = filter (λ e. e.0.parent == dir) names

-- what is told of the items that stand there
abbrev pub told_under : List Entry → List (Place × ℕ) → List Info
told_under es names = map (λ e. told_of es e.1) names
