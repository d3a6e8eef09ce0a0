-- What `take` gives, `rescue` gives.
use Rattle.std.proofs.Common.{◌≡◌, ⊎_elim, ℕ, ◌≤◌, true, false, List, ◌++◌, map, length, codes, Some, refl, sym, ap, subst, ◌∙◌, arith}
use Rattle.hfs_bag.specs.declared.item.BagKind.{BagKind}
use Rattle.hfs_bag.specs.Bags.{items_entries}
use Rattle.hfs_bag.specs.Items.{BagItem, entries_of_kind, folder_entry, item_entries}
use Rattle.hfs_fields.specs.Records.{is_dir}
use Rattle.hfs_fields.specs.Members as scans
use Rattle.hfs_model.specs.declared.reply.ItemKind.{ItemKind}
use Rattle.hfs_model.specs.Children.{entries_of}
use Rattle.hfs_model.specs.Volume.{Entry}
use Rattle.hfs_model.proofs.Members.{In}
use Rattle.hfs_items.proofs.ListLemmas.{flat_map_in, in_flat_map, map_in}
use Rattle.hfs_word_take.specs.Items.{bag_items, bag_kind}
use Rattle.hfs_catalog.specs.Records.{Record, Catalog}
use Rattle.hfs_check.specs.Parts.{catalog_in}
use Rattle.hfs_check.specs.VolumeOf.{volume_in}
use Rattle.hfs_blocks.specs.Blocks.{block_at}
use Rattle.hfs_bag.specs.Entries.{ShelfEntry, folder}
use Rattle.hfs_remains.specs.CatalogRecords.{found as young}
use Rattle.hfs_rescue_items.specs.declared.found.Found.{Found}
use Rattle.hfs_rescue_items.specs.declared.plan.Planned.{Planned}
use Rattle.hfs_rescue_items.specs.Found.{path_at}
use Rattle.hfs_rescue_items.specs.Plan.{first_part, last_part, of_kind, own_kind, whole_plan}
use Rattle.hfs_rescue_items.specs.Sources.{is_alone, planned_item}
use Rattle.hfs_rescue_items.proofs.AboveLemmas.{place-of}
use Rattle.hfs_rescue_items.proofs.LastLemmas.{last_to}
use Rattle.hfs_rescue_items.proofs.LawTypes.{IsMadeOf}
use Rattle.hfs_rescue_items.proofs.LawsProved.{plans_hold_things}
use Rattle.hfs_rescue_items.proofs.PartLemmas.{own_path}
use Rattle.hfs_rescue_items.proofs.PlacedLemmas.{text-is}
use Rattle.hfs_word_rescue.specs.Bags.{rescued_items}
use Rattle.hfs_word_rescue.proofs.SoundFoundLemmas.{told-kind}
use Rattle.hfs_word_rescue.proofs.MemberLemmas.{to-model}
use Rattle.hfs_word_rescue.proofs.KindLemmas.{own-kind, whole-kind, not-alone, from-whole, folder-in}
use Rattle.hfs_word_rescue.proofs.TakenItemLemmas.{IsSoundFind, IsItem, taken-item, parts-are, inner, some-path, of-take}
use Rattle.hfs_word_rescue.proofs.TakenForkLemmas.{own-of}
use Rattle.hfs_word_rescue.proofs.PlannedItemLemmas.{entries-are, places-named, are-found, part-of}

module _ (image : List ℕ) (limit : ℕ) (found : Found) (find : IsSoundFind image limit found) where
  abbrev cat : Catalog
  cat = catalog_in (block_at image)

  abbrev es : List Entry
  es = entries_of (volume_in (block_at image))

  abbrev plan : List Planned
  plan = whole_plan found

  given : (p : Planned) → scans.In p plan → (e : ShelfEntry) → In e (item_entries (planned_item image found p)) → In e (items_entries (rescued_items image found))
  given p there e inner-entry =
      flat_map_in item_entries (map (planned_item image found) plan) (planned_item image found p) e (map_in (planned_item image found) plan p (to-model p plan there)) inner-entry

  module _ (i : ℕ) (r : Record) (rest : List (List ℕ)) (it : IsItem cat i r rest) where
    made-of : IsMadeOf found plan i
    made-of = plans_hold_things found i (inner image limit found find i r it.at) (some-path image limit found find i r rest it)

    own-given : (kind : BagKind) → own_kind found i made-of.made ≡ Some kind → is_alone kind ≡ false → (e : ShelfEntry) → In e (entries_of_kind kind (taken-item image r rest))
        → In e (items_entries (rescued_items image found))
    own-given kind own alone e here =
        let p : Planned = of_kind kind (last_part i (path_at found.places.now i)) in
        let there = made-of.own kind own in
        let place : p.place ≡ i = place-of found i (path_at found.places.now i) refl (path_at found.places.now i) (first_part i) in
        let own-it : IsItem cat p.place r rest = subst (λ (k : ℕ). IsItem cat k r rest) (sym place) it in
        let end : length (own_path found p) ≤ p.to = omega (arith, last_to i (path_at found.places.now i), ap (λ (k : ℕ). length (path_at found.places.now k)) place) in
        given p there e (subst (In e) (sym (entries-are image limit found find p (part-of found p there) r rest own-it end kind refl alone)) here)

    folder-given : made-of.made ≡ true → In (folder_entry (taken-item image r rest)) (items_entries (rescued_items image found))
    folder-given made =
        let q = made-of.there made in
        let same : folder_entry (planned_item image found q.part) ≡ folder_entry (taken-item image r rest) =
        ap (λ (t : List ℕ). folder (codes "data/" ++ t))
        (text-is found (map (young false) cat) (places-named image limit found find) (are-found image limit found find) q.part (part-of found q.part q.there) ∙ q.path_is ∙ parts-are image limit found find i r rest it) in
        given q.part q.there (folder_entry (taken-item image r rest))
        (subst (λ (e : ShelfEntry). In e (item_entries (planned_item image found q.part))) same (folder-in q.part.kind (planned_item image found q.part) q.folder))

    taken-given : (e : ShelfEntry) → In e (item_entries (taken-item image r rest)) → In e (items_entries (rescued_items image found))
    taken-given e here =
        let kinds : In e (entries_of_kind (whole-kind (is_dir r.1)) (taken-item image r rest)) =
        subst (λ (k : ItemKind). In e (entries_of_kind (bag_kind k) (taken-item image r rest))) (told-kind cat r) here in
        ⊎_elim
        (λ (own : In e (entries_of_kind (own-kind (is_dir r.1) made-of.made) (taken-item image r rest))).
        own-given (own-kind (is_dir r.1) made-of.made) (own-of image limit found find i r rest it made-of.made) (not-alone (is_dir r.1) made-of.made) e own)
        (λ (before : (made-of.made ≡ true) × (folder_entry (taken-item image r rest) ≡ e)).
        subst (λ (x : ShelfEntry). In x (items_entries (rescued_items image found))) before.1 (folder-given before.0))
        (from-whole (is_dir r.1) made-of.made (taken-item image r rest) e kinds)

  pub take-given : (e : ShelfEntry) → In e (items_entries (bag_items es)) → In e (items_entries (rescued_items image found))
  take-given e there =
      let at = in_flat_map item_entries (bag_items es) e there in
      let of = of-take image limit found find at.0 at.1 in
      taken-given of.place of.of of.rest of.is-item e (subst (λ (x : BagItem). In e (item_entries x)) (sym of.item_is) at.2)
