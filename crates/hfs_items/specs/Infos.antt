-- What is said about an item by its record and by whether it has a thread.
use Rattle.std.specs.Prelude.{Bool}
use Rattle.hfs_fields.specs.declared.key.CatKey.{CatKey}
use Rattle.hfs_model.specs.declared.reply.Info.{Info}
use Rattle.hfs_catalog.specs.declared.item.CatalogItem.{CatalogItem}
use Rattle.hfs_catalog.specs.declared.item.ItemRecord.{ItemRecord}
use Rattle.hfs_catalog.specs.declared.item.ItemRecord.TheVariants.{Folder, File}
use Rattle.hfs_items.specs.Told.{folder_info, file_info}

abbrev pub body_told : Bool → CatKey → ItemRecord → Info
body_told has_thread key (Folder r) = folder_info key r
body_told has_thread key (File r) = file_info has_thread key r

abbrev pub item_told : Bool → CatalogItem → Info
item_told has_thread item = body_told has_thread item.key item.body
