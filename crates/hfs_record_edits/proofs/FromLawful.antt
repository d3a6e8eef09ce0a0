-- A catalog is sound where its items are lawful and it is nearly sound.
use Rattle.std.proofs.Common.{◌≡◌, ◌⊎◌, inl, inr, ⊎_elim, ℕ, true, false, List, [], ◌∷◌, refl, sym, ◌∙◌, ap, subst, arith, Option, Some, None}
use Rattle.std.specs.Option.{option_map, option_map_or}
use Rattle.hfs_fields.specs.Records.{is_dir, is_item, item_id}
use Rattle.hfs_fields.specs.Each.{Each}
use Rattle.hfs_fields.specs.Members.{In}
use Rattle.hfs_model.specs.declared.item.Item.{Item}
use Rattle.hfs_model.specs.Volume.{Items}
use Rattle.hfs_model.specs.Children.{is_folder_kind}
use Rattle.hfs_model.proofs.ChainLemmas.{leads_still}
use Rattle.hfs_model.specs.Lawful.{Has, IsFolder, LiesIn, AreLawful, parent_of}
use Rattle.hfs_catalog.specs.Records.{Record, Catalog, item_with, is_folder_id}
use Rattle.hfs_catalog.specs.Parents.{parent_in, ReachesRoot}
use Rattle.hfs_catalog.specs.Sound.{HasRightId, HasPlace, IsSoundCatalog}
use Rattle.hfs_catalog.specs.Items.{Contents, item_of, items_in}
use Rattle.hfs_catalog.proofs.CatalogLawTypes.{ItemsAreRecords}
use Rattle.hfs_record_edits.proofs.OnceLemmas.{item_found, once_distinct}
use Rattle.hfs_record_edits.specs.Sound.{IsNearlySound}
use Rattle.hfs_record_edits.proofs.Items.{item_parent, item_kind, has_item, has_record}
use Rattle.hfs_model.proofs.Facts.{same_some}

-- what holds of each that stands there
pub each_of : {X : Type 0} (P : X → Type 0) (xs : List X) → ((x : X) → In x xs → P x) → Each P xs
each_of P [] h = tt
each_of P (x ∷ xs) h = (h x (inl refl), each_of P xs (λ y there. h y (inr there)))

module _ (law : ItemsAreRecords) (contents : Contents) (next : ℕ) (catalog : Catalog) (near : IsNearlySound catalog) (lawful : AreLawful (items_in contents catalog) next) where
  abbrev m : Items
  m = items_in contents catalog

  found : (r : Record) → In r catalog → is_item r.1 ≡ true → item_with catalog (item_id r.1) ≡ Some r
  found r there item = item_found catalog r near.once there item

  has : (r : Record) → In r catalog → is_item r.1 ≡ true → Has m (item_id r.1) (item_of contents catalog r)
  has r there item = has_item law contents catalog (item_id r.1) r (found r there item)

  same_item : (id : ℕ) (i j : Item) → Has m id i → Has m id j → i ≡ j
  same_item id i j a b = same_some i j (sym a ∙ b)

  -- a folder of the items is one of the records
  folder_record : (id : ℕ) → IsFolder m id → is_folder_id catalog id ≡ true
  folder_record id f =
      let rec = has_record law contents catalog id f.item f.has in
      ap (λ (o : Option Record). option_map_or (λ (r : Record). is_dir r.1) o false) rec.found
      ∙ sym (item_kind contents catalog rec.of) ∙ ap (λ (i : Item). is_folder_kind i.kind) rec.is ∙ f.folder

  no_one : (id : ℕ) → IsFolder m id → id ≡ 1 → ⊥
  no_one id f e = ⊎_elim (λ (two : id ≡ 2). omega (arith, e, two)) (λ rest. omega (arith, e, rest.0)) (lawful.ids id f.item f.has)

  right_id : (r : Record) → In r catalog → is_item r.1 ≡ true → HasRightId next r
  right_id r there item = ⊎_elim
      (λ (two : item_id r.1 ≡ 2).
      let same : item_of contents catalog r ≡ lawful.root.0 = same_item 2 _ _ (subst (λ (k : ℕ). Has m k (item_of contents catalog r)) two (has r there item)) lawful.root.1 in
      inl (record {
        id = two;
        folder = sym (item_kind contents catalog r) ∙ ap (λ (i : Item). is_folder_kind i.kind) same ∙ lawful.root.3;
        parent = sym (item_parent contents catalog r) ∙ ap (λ (i : Item). i.parent) same ∙ lawful.root.2;
      }))
      (λ rest. inr (record {
        least = rest.0;
        given = rest.1;
        parent = λ (e : r.0.parent ≡ 1). ⊎_elim
            (λ (two : item_id r.1 ≡ 2). omega (arith, two, rest.0))
            (λ (f : IsFolder m (item_of contents catalog r).parent). no_one _ f (item_parent contents catalog r ∙ e))
            (lawful.parents (item_id r.1) (item_of contents catalog r) (has r there item));
      }))
      (lawful.ids (item_id r.1) (item_of contents catalog r) (has r there item))

  step : (x y : ℕ) → parent_of m x ≡ Some y → parent_in catalog x ≡ Some y
  step x y is = elim (item_with catalog x) as (λ (o : Option Record). option_map (λ (i : Item). i.parent) (option_map (item_of contents catalog) o) ≡ Some y → option_map (λ (r : Record). r.0.parent) o ≡ Some y) [
    | None ↦ λ e. e
    | Some r ↦ λ e. ap Some (sym (item_parent contents catalog r)) ∙ e
  ] (ap (option_map (λ (i : Item). i.parent)) (sym (law contents catalog x)) ∙ is)

  reaches : (id : ℕ) → LiesIn m id 2 → ReachesRoot catalog id
  reaches id l = (l.0, leads_still (parent_of m) (parent_in catalog) step l.0 id 2 l.1)

  placed : (r : Record) → In r catalog → is_item r.1 ≡ true → (item_id r.1 ≡ 2) ⊎ HasPlace catalog r
  placed r there item = ⊎_elim
      (λ (two : item_id r.1 ≡ 2). inl two)
      (λ (f : IsFolder m (item_of contents catalog r).parent). inr (record {
        parent = subst (λ (p : ℕ). is_folder_id catalog p ≡ true) (item_parent contents catalog r) (folder_record _ f);
        chain = reaches (item_id r.1) (lawful.reach (item_id r.1) (item_of contents catalog r) (has r there item));
      }))
      (lawful.parents (item_id r.1) (item_of contents catalog r) (has r there item))

  root : (r : Record) × (item_with catalog 2 ≡ Some r)
  root = let rec = has_record law contents catalog 2 lawful.root.0 lawful.root.1 in (rec.of, rec.found)

  pub sound : IsSoundCatalog next catalog
  sound = record {
    records = near.records;
    ids = record {
      each = each_of _ catalog right_id;
      distinct = once_distinct catalog near.once;
      root = root;
    };
    names = near.names;
    places = record {
      rises = near.rises;
      parents = each_of _ catalog placed;
      threaded = near.threaded;
      threads = near.threads;
    };
    valences = near.valences;
  }
