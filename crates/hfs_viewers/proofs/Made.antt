-- The rows of all records of a sound image are a table of its volume.
use Rattle.std.proofs.Common.{◌≡◌, ℕ, if◌then◌else◌, Bool, true, false, ◌&&◌, IsTrue, List, [], refl, sym, ◌∙◌, ap, subst, Option, Some, None}
use Rattle.std.specs.Ordering.{nat_cmp}
use Rattle.std.specs.Cmp.{nat_cmp_total}
use Rattle.std.specs.Option.{option_map}
use Rattle.std.specs.FinMap as finite
use Rattle.std.specs.BTreeMap as tree
use Rattle.std.proofs.lemmas.Bool.{eqb-true, eq-eqb}
use Rattle.hfs_fields.specs.Order.{same_name}
use Rattle.hfs_fields.specs.Records.{is_dir, is_file, item_id, dir_record_of, file_record_of}
use Rattle.hfs_blocks.specs.Blocks.{block_at, block_count}
use Rattle.hfs_fields.specs.Each.{Each}
use Rattle.hfs_fields.specs.Members.{In}
use Rattle.hfs_fields.proofs.MemberLemmas.{each_in}
use Rattle.hfs_model.specs.declared.item.Item.{Item}
use Rattle.hfs_model.specs.Volume.{Items, Entry}
use Rattle.hfs_model.specs.Children as model
use Rattle.hfs_model.specs.Children.{is_child_named}
use Rattle.hfs_model.specs.Lawful.{Has, IsLawful}
use Rattle.hfs_space.specs.Owners.{forks_of, forks_of_file}
use Rattle.hfs_space.specs.Sound.{IsForkSound}
use Rattle.hfs_catalog.specs.Records.{Record}
use Rattle.hfs_catalog.specs.Items.{items_in, entry_of}
use Rattle.hfs_catalog.specs.Lookups.{child_named}
use Rattle.hfs_catalog.specs.Sound.{IsSoundCatalog, HasValence}
use Rattle.hfs_catalog.proofs.CatalogLawTypes.{EntriesAreRecords, ItemsAreRecords, NamedAreRecords, SoundIsLawful, ValencesAreCounted}
use Rattle.hfs_check.specs.Agree.{AgreesBut}
use Rattle.hfs_check.specs.Laws.{SoundImagesAreLawful}
use Rattle.hfs_check.proofs.LawTypes.{CatalogIsSound}
use Rattle.hfs_check.specs.Parts.{mdb_in, overflow_in, catalog_in}
use Rattle.hfs_check.specs.Sound.{IsSound}
use Rattle.hfs_check.specs.VolumeOf.{contents_in, volume_in, volume_of}
use Rattle.hfs_fields.specs.declared.mdb.Mdb.{Mdb}
use Rattle.hfs_volume.specs.Layout.{SameLayout}
use Rattle.hfs_volume.proofs.LayoutLemmas.{same_layout}
use Rattle.hfs_volume.specs.Mounted.{AreForksIn}
use Rattle.hfs_volume.specs.Opening.{opened_fork}
use Rattle.hfs_viewers.specs.declared.opening.Maps.{Maps}
use Rattle.hfs_viewers.specs.declared.place.Place.{Place}
use Rattle.hfs_viewers.specs.declared.table.Table.{Table}
use Rattle.hfs_viewers.specs.Places.{place, place_cmp}
use Rattle.hfs_viewers.specs.Tables as tables
use Rattle.hfs_viewers.specs.Tables.{item_of, items_of, IsTable, IsKindOf, AreNames}
use Rattle.hfs_viewers.specs.MountedForks.{OpensForks}
use Rattle.hfs_viewers.specs.Opened.{IsRight, AreRowsOf, table_over}
use Rattle.hfs_viewers.proofs.Opens.{opens as opens_own}
use Rattle.hfs_model.proofs.Facts.{none_is_some}
use Rattle.hfs_model.proofs.Facts.{same_some}
use Rattle.hfs_model.proofs.Facts.{found_has}
use Rattle.hfs_model.proofs.Facts.{no_entry}
use Rattle.hfs_model.proofs.Facts.{two_tests}
use Rattle.hfs_viewers.proofs.PlaceLemmas.{level, names_level}
use Rattle.hfs_viewers.proofs.ShownLemmas.{get_items}
use Rattle.hfs_volume.proofs.OwnedStay.{each_of}

-- ---- each record of a sound image is right

module _ (image : List ℕ) (sound : IsSound image) (catalog_law : CatalogIsSound) where
  pub sound_catalog : IsSoundCatalog (mdb_in (block_at image)).next_id (catalog_in (block_at image))
  sound_catalog = catalog_law (block_count image) (block_at image) sound.blocks

  items_are : (volume_of image).items ≡ items_in (contents_in (block_at image)) (catalog_in (block_at image))
  unfolding volume_of volume_in
  items_are = refl

  module _ (counted : ValencesAreCounted) (lawful_law : SoundIsLawful) (entries_law : EntriesAreRecords) where
    valences : (r : Record) → In r (catalog_in (block_at image)) → IsTrue (is_dir r.1)
        → (dir_record_of r.1).valence ≡ model.valence (finite.entries (volume_of image).items) (item_id r.1)
    valences r i dir =
        (each_in (λ (x : Record). IsTrue (is_dir x.1) → HasValence (catalog_in (block_at image)) x) (catalog_in (block_at image)) r sound_catalog.valences i dir).counted
        ∙ sym (counted (contents_in (block_at image)) (mdb_in (block_at image)).next_id (catalog_in (block_at image)) sound.blocks.mdb.next_id sound_catalog (item_id r.1))
        ∙ ap (λ (m : Items). model.valence (finite.entries m) (item_id r.1)) (sym items_are)

    forks : (r : Record) → In r (catalog_in (block_at image)) → IsTrue (is_file r.1) → AreForksIn (block_at image) (file_record_of r.1)
    forks r i file =
        subst (λ (b : Bool). Each (IsForkSound (mdb_in (block_at image)) (overflow_in (block_at image))) (if b then forks_of_file (file_record_of r.1) else [])) file
        (each_in (λ (x : Record). Each (IsForkSound (mdb_in (block_at image)) (overflow_in (block_at image))) (forks_of x)) (catalog_in (block_at image)) r sound.blocks.forks.files i)

    opens : (r : Record) → In r (catalog_in (block_at image)) → is_dir r.1 ≡ false → IsTrue (is_file r.1) → OpensForks image r.0 (file_record_of r.1)
    opens r i other file fork =
        let contents = contents_in (block_at image) in
        let next = (mdb_in (block_at image)).next_id in
        let catalog = catalog_in (block_at image) in
        ap (λ (m : Items). opened_fork (finite.entries m) r.0.parent r.0.name fork) items_are
        ∙ opens_own contents next catalog sound_catalog (lawful_law contents next catalog sound.blocks.mdb.next_id sound_catalog) entries_law r i other file fork

    pub are_right : Each (IsRight image (volume_of image).items) (catalog_in (block_at image))
    are_right = each_of _ (catalog_in (block_at image)) (λ r i. record { valence_is = valences r i; forks = forks r i; opens = opens r i })

  -- ---- the table

  module _ (t : Table) (records_law : ItemsAreRecords) (rows : AreRowsOf t.base image (catalog_in (block_at image)) (record { by_id = t.by_id; by_name = t.by_name }))
      (mdb_is : t.mdb ≡ mdb_in (block_at image)) where
    pub same_items : items_of t ≡ (volume_of image).items
    unfolding items_of
    same_items = finite.same_map nat_cmp_total finite.nat_cmp-IsAntisymmetric _ _ (λ q.
        get_items (item_of t.base t.mdb) t.by_id q rows.sorted_ids
        ∙ ap (λ (d : Mdb). option_map (item_of t.base d) (tree.get nat_cmp t.by_id q)) mdb_is
        ∙ rows.ids q
        ∙ sym (records_law (contents_in (block_at image)) (catalog_in (block_at image)) q)
        ∙ ap (λ (m : Items). finite.get m q) (sym items_are))

    module _ (named_law : NamedAreRecords) (lawful : IsLawful (volume_of image)) where
      abbrev m : Items
      m = (volume_of image).items

      fused : (o : Option Record) → option_map (λ (r : Record). item_id r.1) o
          ≡ option_map (λ (e : Entry). e.0) (option_map (entry_of (contents_in (block_at image)) (catalog_in (block_at image))) o)
      fused None = refl
      fused (Some r) = refl

      -- what stands at a place is the folder's child of that name
      at_place : (p : Place) → tree.get place_cmp t.by_name p ≡ option_map (λ (e : Entry). e.0) (model.child_named (finite.entries m) p.parent p.name)
      at_place p =
          rows.names p ∙ fused (child_named (catalog_in (block_at image)) p.parent p.name)
          ∙ ap (option_map (λ (e : Entry). e.0))
          (sym (named_law (contents_in (block_at image)) (mdb_in (block_at image)).next_id (catalog_in (block_at image)) sound_catalog p.parent p.name)
          ∙ ap (λ (n : Items). model.child_named (finite.entries n) p.parent p.name) (sym items_are))

      item_at : (p : Place) (id : ℕ) → option_map (λ (e : Entry). e.0) (model.child_named (finite.entries m) p.parent p.name) ≡ Some id
          → (i : Item) × Has m id i × (i.parent ≡ p.parent) × IsTrue (same_name i.name p.name)
      item_at p id is = elim (model.child_named (finite.entries m) p.parent p.name) as (λ (o : Option Entry). model.child_named (finite.entries m) p.parent p.name ≡ o
          → option_map (λ (e : Entry). e.0) o ≡ Some id → (i : Item) × Has m id i × (i.parent ≡ p.parent) × IsTrue (same_name i.name p.name)) [
            | None ↦ λ none some. absurd (none_is_some None id refl some)
            | Some e ↦ λ found same.
                let has = found_has m (is_child_named p.parent p.name) e found in
                let tests = two_tests _ _ has.1 in
                (e.1, subst (λ (k : ℕ). Has m k e.1) (same_some e.0 id same) has.0, eqb-true e.1.parent p.parent tests.0, tests.1)
          ] refl is

      named_itself : (id : ℕ) (i : Item) → is_child_named i.parent i.name (id, i) ≡ true
      named_itself id i = (λ k. eq-eqb i.parent i.parent refl k && names_level (place i.parent i.name) (place i.parent i.name) (level (place i.parent i.name)) k)

      place_has : (id : ℕ) (i : Item) → Has m id i → tree.get place_cmp t.by_name (place i.parent i.name) ≡ Some id
      place_has id i has = at_place (place i.parent i.name) ∙ elim (model.child_named (finite.entries m) i.parent i.name) as (λ (o : Option Entry). model.child_named (finite.entries m) i.parent i.name ≡ o
          → option_map (λ (e : Entry). e.0) o ≡ Some id) [
            | None ↦ λ none. absurd (no_entry (is_child_named i.parent i.name) (finite.entries m) id i none (sym (finite.get-entries m id) ∙ has) (named_itself id i))
            | Some e ↦ λ found.
                let there = found_has m (is_child_named i.parent i.name) e found in
                let tests = two_tests _ _ there.1 in
                ap (λ (k : ℕ). Some k) (lawful.names e.0 id e.1 i there.0 has (eqb-true e.1.parent i.parent tests.0) tests.1)
          ] refl

      names : AreNames m t.by_name
      names = record {
        sorted = rows.sorted_names;
        has = place_has;
        item = λ p id at. item_at p id (sym (at_place p) ∙ at);
      }

      pub table_made : IsSound t.base → SameLayout (mdb_in (block_at t.base)) (mdb_in (block_at image)) → IsTable t
      table_made base_sound layout = record {
        sorted = rows.sorted_ids;
        names = subst (λ (n : Items). AreNames n t.by_name) (sym same_items) names;
        rows = λ q row at. subst (λ (n : Items). IsKindOf n t.mdb q row.kind) (sym same_items)
            (subst (λ (d : Mdb). IsKindOf m d q row.kind) (sym mdb_is) (rows.kinds q row at));
        over = record { sound = base_sound; layout = subst (SameLayout (mdb_in (block_at t.base))) (sym mdb_is) layout };
      }

      volume_is : t ≡ table_over t.base (mdb_in (block_at image)) (record { by_id = t.by_id; by_name = t.by_name }) → tables.volume_of t ≡ volume_of image
      unfolding volume_of volume_in
      volume_is over = λ i. record {
        items = same_items i;
        next_id = (over i).next_id;
        changed = (over i).changed;
        hardware_locked = (over i).hardware_locked;
        software_locked = (over i).software_locked;
        block_size = (over i).mdb.allocation_block_size;
      }

module _ (written base image : List ℕ) (maps : Maps) (base_sound : IsSound base) (agrees : AgreesBut written base image) (catalog_law : CatalogIsSound) (records_law : ItemsAreRecords) (named_law : NamedAreRecords) (lawful_law : SoundImagesAreLawful)
    (rows : AreRowsOf base image (catalog_in (block_at image)) maps) (t : Table) (is : t ≡ table_over base (mdb_in (block_at image)) maps) where
  layout : SameLayout (mdb_in (block_at base)) (mdb_in (block_at image))
  layout = same_layout (block_at base) (block_at image) agrees.kept.mdb

  abbrev over : Table
  over = table_over base (mdb_in (block_at image)) maps

  pub is_table : IsTable t
  is_table = subst IsTable (sym is) (table_made image agrees.sound catalog_law over records_law rows refl named_law (lawful_law image agrees.sound) base_sound layout)

  pub is_volume : tables.volume_of t ≡ volume_of image
  is_volume = ap tables.volume_of is ∙ volume_is image agrees.sound catalog_law over records_law rows refl named_law (lawful_law image agrees.sound) refl

  pub is_lawful : IsLawful (tables.volume_of t)
  is_lawful = subst IsLawful (sym is_volume) (lawful_law image agrees.sound)
