-- What is to be put on a new volume, as far as its size depends on it.
use Rattle.std.specs.Prelude.{ℕ, if◌then◌else◌, List, length, Option, Some, None}
use Rattle.hfs_put_sources.specs.Items.{PlannedItem}
use Rattle.hfs_put_sources.specs.Plans.{is_folder}
use Rattle.hfs_put_sources.specs.declared.plan.ItemPlan.{ItemPlan}
use Rattle.hfs_format.specs.declared.items.NewItem.{NewItem}
use Rattle.hfs_format.specs.declared.items.NewItem.TheVariants.{Folder, File}

abbrev pub name_len : Option (List ℕ) → ℕ
name_len None = 0
name_len (Some name) = length name

-- what isn't a folder is put as a file
abbrev pub new_item : ItemPlan → NewItem
new_item plan =
    if is_folder plan.own then Folder (name_len plan.name)
    else File (record { name_len = name_len plan.name; data_len = plan.data_fork.len; resource_len = plan.resource_fork.len })

abbrev pub new_item_of : PlannedItem → NewItem
new_item_of item = new_item item.plan
