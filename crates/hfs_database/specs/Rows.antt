-- The rows that a database takes.
use Rattle.std.specs.Prelude.{◌≡◌, List, ◌∷◌}
use Rattle.sqlite.specs.declared.types.Value.{Value}
use Rattle.sqlite.specs.declared.types.Value.TheVariants.{Int}
use Rattle.sqlite.specs.Held.{Held, state}
use Rattle.sqlite.specs.Store.{Ghosts}
use Rattle.hfs_database.specs.declared.value.Table.{Table}
use Rattle.hfs_database.specs.declared.value.Table.TheVariants as table
use Rattle.hfs_database.specs.declared.statements.LastRows.{LastRows}
use Rattle.hfs_database.specs.Doing.{HasFound, HasReplaced, HasRunAll}
use Rattle.hfs_database.specs.StatementTexts.{put_item_text, put_volume_text}

-- a volume was put under the image that was put last
pub record PutsVolume {S : Type 0} (g : Ghosts S) (values : List Value) (old new : Held S) (before after : LastRows) : Type 0 where
  pub same_image : after.image ≡ before.image
  pub put : HasFound (state g old) (state g new) put_volume_text (Int before.image ∷ values) after.volume

-- an item was put under the volume that was put last
pub record PutsItem {S : Type 0} (g : Ghosts S) (values : List Value) (old new : Held S) (before after : LastRows) : Type 0 where
  pub same : after ≡ before
  pub put : HasRunAll (state g old) (state g new) put_item_text (Int before.volume ∷ values)

-- a row of this table, with these values, was put after the rows that were put last
abbrev pub PutsRow : {S : Type 0} → Ghosts S → Table → List Value → Held S → Held S → LastRows → LastRows → Type 0
PutsRow g table.Image values old new before after = HasReplaced g old new values after.image
PutsRow g table.Volume values old new before after = PutsVolume g values old new before after
PutsRow g table.Item values old new before after = PutsItem g values old new before after
