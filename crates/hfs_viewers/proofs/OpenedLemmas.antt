-- Lemmas about the definitions of specs/Opened.antt.
use Rattle.std.specs.Prelude.{◌≡◌, ℕ, List}
use Rattle.hfs_fields.specs.declared.mdb.Mdb.{Mdb}
use Rattle.hfs_model.specs.declared.item.Item.{Item}
use Rattle.hfs_model.specs.Volume.{Items}
use Rattle.hfs_viewers.specs.declared.row.Row.{Row}
use Rattle.hfs_viewers.specs.Tables.{item_of, IsKindOf}

-- the row shows this item, and has its children's number or forks that lie in the volume
pub record Shows (base : List ℕ) (mdb : Mdb) (items : Items) (id : ℕ) (item : Item) (row : Row) : Type 0 where
  pub item_is : item_of base mdb row ≡ item
  pub kind : IsKindOf items mdb id row.kind
