-- The items of a catalog by the law that they are its records'.
use Rattle.std.proofs.Common.{◌≡◌, ℕ, Bool, true, false, cond, refl, sym, ◌∙◌, ap, Option, Some, None}
use Rattle.std.specs.Option.{option_map}
use Rattle.hfs_fields.specs.Records.{is_dir, is_item, item_id, dir_record_of, file_record_of}
use Rattle.hfs_fields.specs.Members.{In}
use Rattle.hfs_model.specs.declared.item.Item.{Item}
use Rattle.hfs_model.specs.Children.{is_folder_kind}
use Rattle.hfs_model.specs.Lawful.{Has}
use Rattle.hfs_catalog.specs.Records.{Record, Catalog, item_with, has_thread}
use Rattle.hfs_catalog.specs.Items.{Contents, folder_of, file_of, item_of, items_in}
use Rattle.hfs_catalog.proofs.CatalogLawTypes.{ItemsAreRecords}
use Rattle.hfs_catalog.proofs.Held.{none_some, with_id, HasRecord}
use Rattle.hfs_model.proofs.Facts.{same_some}

module _ (contents : Contents) (catalog : Catalog) (r : Record) where
  abbrev choice : Bool → Item
  choice b = cond b (folder_of r.0 (dir_record_of r.1)) (file_of (has_thread catalog (file_record_of r.1).id) (contents (file_record_of r.1)) r.0 (file_record_of r.1))

  pub item_parent : (item_of contents catalog r).parent ≡ r.0.parent
  unfolding item_of folder_of file_of
  item_parent = elim (is_dir r.1) as (λ (b : Bool). (choice b).parent ≡ r.0.parent) [ true ↦ refl | false ↦ refl ]

  pub item_name : (item_of contents catalog r).name ≡ r.0.name
  unfolding item_of folder_of file_of
  item_name = elim (is_dir r.1) as (λ (b : Bool). (choice b).name ≡ r.0.name) [ true ↦ refl | false ↦ refl ]

  pub item_kind : is_folder_kind (item_of contents catalog r).kind ≡ is_dir r.1
  unfolding item_of folder_of file_of
  item_kind = elim (is_dir r.1) as (λ (b : Bool). is_folder_kind (choice b).kind ≡ b) [ true ↦ refl | false ↦ refl ]

module _ (law : ItemsAreRecords) (contents : Contents) (catalog : Catalog) where
  pub has_item : (id : ℕ) (r : Record) → item_with catalog id ≡ Some r → Has (items_in contents catalog) id (item_of contents catalog r)
  has_item id r is = law contents catalog id ∙ ap (option_map (item_of contents catalog)) is

  from_option : (id : ℕ) (i : Item) (o : Option Record) → item_with catalog id ≡ o → option_map (item_of contents catalog) o ≡ Some i → HasRecord contents catalog id i
  from_option id i None e is = absurd (none_some i is)
  from_option id i (Some r) e is = let there = with_id catalog id r e in
      record { of = r; found = e; there = there.0; item = there.1; same = there.2; is = same_some (item_of contents catalog r) i is }

  pub has_record : (id : ℕ) (i : Item) → Has (items_in contents catalog) id i → HasRecord contents catalog id i
  has_record id i has = from_option id i (item_with catalog id) refl (sym (law contents catalog id) ∙ has)
