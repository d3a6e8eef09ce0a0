-- What `rescue` gives, `take` gives.
use Rattle.std.proofs.Common.{◌≡◌, inl, inr, ⊎_elim, ℕ, ◌+◌, ◌<◌, ◌≤◌, Bool, true, false, if◌then◌else◌, List, [], ◌∷◌, ◌++◌, map, drop, get_or, length, slice_index_or, codes, Some, None, refl, sym, ap, subst, ◌∙◌, arith}
use Rattle.std.specs.Prelude.{slice_get}
use Rattle.std.specs.Option.{option_map_or}
use Rattle.std.proofs.lemmas.Bool.{cases_lt, true≢false}
use Rattle.std.proofs.lemmas.List.{drop_more, take-append-drop}
use Rattle.std.proofs.lemmas.Option.{same_Some}
use Rattle.hfs_bag.specs.declared.item.BagKind.{BagKind}
use Rattle.hfs_bag.specs.declared.item.BagKind.TheVariants as bag
use Rattle.hfs_bag.specs.Bags.{items_entries}
use Rattle.hfs_bag.specs.Items.{BagItem, entries_of_kind, folder_entry, item_entries}
use Rattle.hfs_fields.specs.Records.{is_dir, item_id}
use Rattle.hfs_model.specs.declared.reply.ItemKind.{ItemKind}
use Rattle.hfs_model.specs.Children.{entries_of}
use Rattle.hfs_model.specs.Volume.{Entry}
use Rattle.hfs_model.proofs.Members.{In}
use Rattle.hfs_items.proofs.ListLemmas.{flat_map_in, in_flat_map, in_map}
use Rattle.hfs_word_take.specs.Items.{bag_items, bag_kind}
use Rattle.hfs_catalog.specs.Indexes.{is_place}
use Rattle.hfs_catalog.specs.Records.{Record, Catalog, items_of as items_in}
use Rattle.hfs_check.specs.Parts.{catalog_in, mdb_in}
use Rattle.hfs_check.specs.VolumeOf.{volume_in}
use Rattle.hfs_blocks.specs.Blocks.{block_at, block_count}
use Rattle.hfs_bag.specs.Entries.{ShelfEntry, folder}
use Rattle.hfs_remains_places.specs.declared.things.Thing.{Thing}
use Rattle.hfs_remains_places.specs.Paths.{is_folder_at, path}
use Rattle.hfs_remains_places.specs.Things.{folder_of}
use Rattle.hfs_remains_places.specs.Laws.{EndsThere, HasWay, IsFolderOnWay}
use Rattle.hfs_remains_places.proofs.LawsProved.{folders_are_things, paths_are_host_paths}
use Rattle.hfs_remains_forks.specs.Laws.{things_in}
use Rattle.hfs_remains_forks.proofs.RemainsLawsProved.{sound_names_are_own}
use Rattle.hfs_remains.specs.CatalogRecords.{found as young}
use Rattle.hfs_rescue_items.specs.declared.found.Found.{Found}
use Rattle.hfs_rescue_items.specs.declared.plan.Planned.{Planned}
use Rattle.hfs_rescue_items.specs.Found.{path_at}
use Rattle.hfs_rescue_items.specs.Plan.{path_of, whole_plan}
use Rattle.hfs_rescue_items.specs.Sources.{planned_item}
use Rattle.hfs_rescue_items.proofs.PartLemmas.{IsPart, own_path}
use Rattle.hfs_rescue_items.proofs.PlacedLemmas.{text-is}
use Rattle.hfs_word_rescue.specs.Bags.{rescued_items}
use Rattle.hfs_word_rescue.proofs.ItemWayLemmas.{inside, record-at, thing-is}
use Rattle.hfs_word_rescue.proofs.RowWayLemmas.{ways-are}
use Rattle.hfs_word_rescue.proofs.SoundFoundLemmas.{path-found, payload-is, root-path, things-found, told-kind, whole}
use Rattle.hfs_word_rescue.proofs.MemberLemmas.{to-scans}
use Rattle.hfs_word_rescue.proofs.KindLemmas.{own-kind, whole-kind, not-alone, to-whole, folder-whole}
use Rattle.hfs_word_rescue.proofs.TakenItemLemmas.{IsSoundFind, IsItem, taken-item, full, parts-are, in-take, are-things}
use Rattle.hfs_word_rescue.proofs.TakenForkLemmas.{own-of}
use Rattle.hfs_word_rescue.proofs.PlannedItemLemmas.{entries-are, places-named, are-found, part-of}

module _ (image : List ℕ) (limit : ℕ) (found : Found) (find : IsSoundFind image limit found) where
  abbrev cat : Catalog
  cat = catalog_in (block_at image)

  abbrev things : List Thing
  things = things_in cat

  abbrev es : List Entry
  es = entries_of (volume_in (block_at image))

  abbrev n : ℕ
  n = (mdb_in (block_at image)).next_id

  abbrev plan : List Planned
  plan = whole_plan found

  in-taken : (i : ℕ) (r : Record) (rest : List (List ℕ)) → IsItem cat i r rest → (e : ShelfEntry) → In e (entries_of_kind (whole-kind (is_dir r.1)) (taken-item image r rest)) → In e (items_entries (bag_items es))
  in-taken i r rest it e here =
      flat_map_in item_entries (bag_items es) (taken-item image r rest) e (in-take image limit found find i r rest it)
      (subst (λ (k : ItemKind). In e (entries_of_kind (bag_kind k) (taken-item image r rest))) (sym (told-kind cat r)) here)

  -- an item with a path has names that lead to it
  record Led (i : ℕ) : Type 0 where
    of : Record
    rest : List (List ℕ)
    is-item : IsItem cat i of rest

  led-by : (i : ℕ) (r : Record) → slice_get (items_in cat) i ≡ Some r → (names : List (List ℕ)) → HasWay things names i → Led i
  led-by i r at [] way = absurd way
  led-by i r at (k ∷ []) way =
      let name : k ≡ r.0.name = sym way.0 ∙ ap (λ (t : Thing). t.name) (thing-is cat n find.sound.blocks.ids i r at) in
      record { of = r; rest = []; is-item = record { at = at; way = subst (λ (x : List ℕ). HasWay things (x ∷ []) i) name way } }
  led-by i r at (k ∷ m ∷ names) way =
      let name : k ≡ r.0.name = sym way.0 ∙ ap (λ (t : Thing). t.name) (thing-is cat n find.sound.blocks.ids i r at) in
      record { of = r; rest = m ∷ names; is-item = record { at = at; way = subst (λ (x : List ℕ). HasWay things (x ∷ m ∷ names) i) name way } }

  some-record : (d : Record) (i : ℕ) → i < length found.places.now → slice_get (items_in cat) i ≡ Some (get_or (items_in cat) i d)
  some-record d i below = record-at cat n find.sound.blocks.ids i (subst (λ (l : List Thing). i < length l) (things-found image limit found find.sound find.begins find.enough find.is) below) d

  led : (i : ℕ) (d : Record) → i < length found.places.now → 0 < length (path_at found.places.now i) → Led i
  led i d below some =
      let r : Record = get_or (items_in cat) i d in
      let at = some-record d i below in
      let lead = ways-are (block_count image) (block_at image) (full image limit found find) find.sound.blocks i r at
      (λ two. absurd (omega (arith, some, ap length (root-path image limit found find.sound find.begins find.enough find.is i r at two)))) in
      led-by i r at lead.names lead.way

  none : Record
  none = (record { parent = 0; name = [] }, [])

  whole-taken : (p : Planned) (part : IsPart found p) → length (own_path found p) ≤ p.to → (e : ShelfEntry) → In e (item_entries (planned_item image found p)) → In e (items_entries (bag_items es))
  whole-taken p part all e here =
      let l = led p.place none part.place part.some in
      let own = part.own all in
      let kind : p.kind ≡ own-kind (is_dir l.of.1) own.made =
      same_Some p.kind (own-kind (is_dir l.of.1) own.made) (sym own.kind_is ∙ own-of image limit found find p.place l.of l.rest l.is-item own.made) in
      in-taken p.place l.of l.rest l.is-item e
      (to-whole (is_dir l.of.1) own.made (taken-item image l.of l.rest) e
      (subst (In e) (entries-are image limit found find p part l.of l.rest l.is-item all (own-kind (is_dir l.of.1) own.made) kind (not-alone (is_dir l.of.1) own.made)) here))

  -- a path that names lead to, by the things
  path-same : (i : ℕ) (r : Record) (rest : List (List ℕ)) → IsItem cat i r rest → path_at found.places.now i ≡ path things i
  path-same i r rest it =
      path-found image limit found find.sound find.begins find.enough find.is i r it.at
      ∙ payload-is image limit found find.sound find.begins find.enough find.is i r it.at find.bytes find.short rest it.way
      ∙ sym (paths_are_host_paths things (are-things image limit found find) (sound_names_are_own image find.sound find.bytes) find.short i (r.0.name ∷ rest) (inside cat n find.sound.blocks.ids i r it.at) it.way)

  is-dir-at : (j : ℕ) (r : Record) → slice_get (items_in cat) j ≡ Some r → is_folder_at things j ≡ true → is_dir r.1 ≡ true
  is-dir-at j r at so = by (is_dir r.1) refl (sym (ap (λ (t : Thing). option_map_or (λ number. is_place (folder_of things number) j) t.folder false) (thing-is cat n find.sound.blocks.ids j r at)) ∙ so)
    where
      by : (b : Bool) → is_dir r.1 ≡ b → option_map_or (λ number. is_place (folder_of things number) j) (if b then Some (item_id r.1) else None) false ≡ true → is_dir r.1 ≡ true
      by true dir so = dir
      by false dir so = absurd (true≢false (sym so))

  -- the folder of a path that ends before a slash
  folder-taken : (text : List ℕ) → IsFolderOnWay things text → In (folder (codes "data/" ++ text)) (items_entries (bag_items es))
  folder-taken text on =
      let j = on.place in
      let r : Record = get_or (items_in cat) j none in
      let at : slice_get (items_in cat) j ≡ Some r = record-at cat n find.sound.blocks.ids j on.below none in
      let l = led-by j r at on.names on.way in
      let dir : is_dir l.of.1 ≡ true = is-dir-at j l.of l.is-item.at on.folder in
      let same : folder_entry (taken-item image l.of l.rest) ≡ folder (codes "data/" ++ text) =
      ap (λ (t : List ℕ). folder (codes "data/" ++ t)) (sym (parts-are image limit found find j l.of l.rest l.is-item) ∙ path-same j l.of l.rest l.is-item ∙ on.path_is) in
      subst (λ (e : ShelfEntry). In e (items_entries (bag_items es))) same
      (in-taken j l.of l.rest l.is-item (folder_entry (taken-item image l.of l.rest))
      (subst (λ (b : Bool). In (folder_entry (taken-item image l.of l.rest)) (entries_of_kind (whole-kind b) (taken-item image l.of l.rest))) (sym dir) (folder-whole (taken-item image l.of l.rest))))

  folder-text : (p : Planned) (part : IsPart found p) → p.to < length (own_path found p) → IsFolderOnWay things (path_of found p)
  folder-text p part below =
      let l = led p.place none part.place part.some in
      let rest : List ℕ = drop (p.to + 1) (own_path found p) in
      let more : drop p.to (own_path found p) ≡ slice_index_or (own_path found p) p.to 0 ∷ rest = drop_more (own_path found p) p.to 0 below in
      let slash : slice_index_or (own_path found p) p.to 0 ≡ 47 = subst EndsThere more part.ends in
      let whole : own_path found p ≡ path_of found p ++ (codes "/" ++ rest) =
      sym (take-append-drop p.to (own_path found p)) ∙ ap (λ (t : List ℕ). path_of found p ++ t) (more ∙ ap (λ (c : ℕ). c ∷ rest) slash) in
      folders_are_things things (are-things image limit found find) (sound_names_are_own image find.sound find.bytes) find.short p.place (l.of.0.name ∷ l.rest)
      (inside cat n find.sound.blocks.ids p.place l.of l.is-item.at) l.is-item.way (path_of found p) rest
      (sym (path-same p.place l.of l.rest l.is-item) ∙ whole)

  above-taken : (p : Planned) (part : IsPart found p) → p.to < length (own_path found p) → (e : ShelfEntry) → In e (item_entries (planned_item image found p)) → In e (items_entries (bag_items es))
  above-taken p part below e here =
      let alone : In e (entries_of_kind bag.FolderAlone (planned_item image found p)) = subst (λ (k : BagKind). In e (entries_of_kind k (planned_item image found p))) (part.alone below) here in
      let text : folder (codes "data/" ++ path_of found p) ≡ folder_entry (planned_item image found p) =
      ap (λ (t : List ℕ). folder (codes "data/" ++ t)) (sym (text-is found (map (young false) cat) (places-named image limit found find) (are-found image limit found find) p part)) in
      ⊎_elim
      (λ (same : folder_entry (planned_item image found p) ≡ e).
      subst (λ (x : ShelfEntry). In x (items_entries (bag_items es))) (text ∙ same) (folder-taken (path_of found p) (folder-text p part below)))
      (λ (nothing : ⊥). absurd nothing)
      alone

  pub rescue-given : (e : ShelfEntry) → In e (items_entries (rescued_items image found)) → In e (items_entries (bag_items es))
  rescue-given e there =
      let at = in_flat_map item_entries (map (planned_item image found) plan) e there in
      let of = in_map (planned_item image found) plan at.0 at.1 in
      let p : Planned = of.0 in
      let part = part-of found p (to-scans p plan of.1) in
      let here : In e (item_entries (planned_item image found p)) = subst (λ (x : BagItem). In e (item_entries x)) (sym of.2) at.2 in
      elim (cases_lt p.to (length (own_path found p))) [
        | inl below ↦ above-taken p part below e here
        | inr all ↦ whole-taken p part all e here
      ]
