-- What is found of a sound image: its own directory, items, things and forks.
use Rattle.std.proofs.Common.{◌≡◌, ◌≢◌, ◌⊎◌, inl, inr, ℕ, zero, suc, ◌+◌, ◌<◌, ◌≤◌, Bool, true, false, cond, ◌&&◌, ◌==◌, if◌then◌else◌, List, [], ◌∷◌, ◌++◌, map, length, get_or, slice_index_or, Option, Some, None, refl, sym, ap, subst, ◌∙◌, arith}
use Rattle.std.specs.Prelude.{IsTrue, reverse, slice_get}
use Rattle.std.specs.List.{position_from}
use Rattle.std.specs.Option.{is_some, option_and_then, option_map, option_map_or}
use Rattle.std.proofs.lemmas.Bool.{and_from, and_parts, eq-eqb, eqb-true, lt-ltb, ne_eqb, true≢false}
use Rattle.std.proofs.lemmas.List.{reverse-append}
use Rattle.std.proofs.lemmas.Option.{get_or_from_slice_get, same_Some, slice_get-map}
use Rattle.hfs_fields.specs.declared.key.CatKey.{CatKey}
use Rattle.hfs_fields.specs.declared.dir_record.DirRecord.{DirRecord}
use Rattle.hfs_fields.specs.declared.file_record.FileRecord.{FileRecord}
use Rattle.hfs_fields.specs.Records.{is_dir, is_file, item_id, dir_record_of, file_record_of, type_byte}
use Rattle.hfs_blocks.specs.Blocks.{block_at, block_count, length-block_at}
use Rattle.hfs_model.specs.declared.reply.Info.{Info}
use Rattle.hfs_model.specs.declared.reply.ItemKind.TheVariants as item
use Rattle.hfs_catalog.specs.Indexes.{is_place}
use Rattle.hfs_catalog.specs.declared.item.ItemRecord.TheVariants.{Folder, File}
use Rattle.hfs_catalog.specs.Lookups.{catalog_item}
use Rattle.hfs_catalog.specs.Records.{Record, Catalog, has_thread, items_of as items_in}
use Rattle.hfs_catalog.specs.Sound.{IsGiven, IsRoot}
use Rattle.hfs_check.specs.Parts.{Blocks, catalog_in, mdb_in, overflow_in}
use Rattle.hfs_check.specs.Sound.{AreBlocksSound, IsSound}
use Rattle.hfs_remains_forks.specs.Finds.{found_items, found_overflow, found_things}
use Rattle.hfs_word_take.proofs.PlainNames.{behind-first}
use Rattle.hfs_word_take.specs.Items.{folders_text}
use Rattle.hfs_texts.specs.HostNames.{host_name}
use Rattle.hfs_texts.specs.NameLaws.{is_bytes}
use Rattle.hfs_texts.specs.MacPaths.{host_path}
use Rattle.hfs_remains_places.specs.declared.things.Thing.{Thing}
use Rattle.hfs_remains_places.specs.Folders.{is_folder_of, nothing, thing_at}
use Rattle.hfs_remains_places.specs.Paths.{front_of, is_root, path, payload_path, root_of}
use Rattle.hfs_remains_places.specs.Things.{things_of}
use Rattle.hfs_remains_places.proofs.FolderLemmas.{position-holds}
use Rattle.hfs_remains_places.specs.Laws.{AreWaysShort, HasWay}
use Rattle.hfs_items.specs.Told.{body_info, file_info, folder_info, told}
use Rattle.hfs_items.proofs.QueriesLaws.{AreWholeBlocks}
use Rattle.hfs_remains_forks.specs.declared.shares.FileShares.{FileShares}
use Rattle.hfs_remains_forks.specs.Forks.{both_forks}
use Rattle.hfs_remains_forks.specs.Records.{namings_of, thing_of}
use Rattle.hfs_remains_forks.specs.Verdicts.{shares_at, shares_of}
use Rattle.hfs_remains_forks.specs.Laws.{things_in, whole_shares}
use Rattle.hfs_remains_forks.proofs.RemainsLawsProved.{sound_forks_are_taken, sound_paths_are_host_paths, sound_things_are_items}
use Rattle.hfs_remains.specs.declared.catalog.FoundRecord.{FoundRecord}
use Rattle.hfs_remains.specs.CatalogRecords.{found as young}
use Rattle.hfs_remains.specs.Directory.{mdb_at}
use Rattle.hfs_remains.proofs.LawsProved.{sound_catalog_is_found, sound_directory_is_found, sound_items_are_found, sound_overflow_is_found}
use Rattle.hfs_rescue_items.specs.declared.found.Found.{Found}
use Rattle.hfs_rescue_items.specs.Found.{info_of, path_at, record_info, told as own_told, told_at}
use Rattle.hfs_bag.specs.Times.{since_1970}
use Rattle.hfs_rescue_items.specs.Sources.{finder_told, modified_told}
use Rattle.hfs_space.specs.Extents.{block_total}
use Rattle.hfs_word_rescue.specs.Found.{IsFoundOf}
use Rattle.hfs_word_rescue.proofs.ItemWayLemmas.{folder-is, inside, item-of, not-root, one-place, record-at, right-id, thing-is}

-- ---- records

-- a folder's record is no file's
pub dir-no-file : (body : List ℕ) → is_dir body ≡ true → is_file body ≡ false
dir-no-file body dir =
    let one : type_byte body ≡ 1 = eqb-true (type_byte body) 1 (and_parts (type_byte body == 1) (length body == 70) dir).0 in
    ap (λ (b : Bool). b && (length body == 102)) (ne_eqb (type_byte body) 2 (λ two. absurd (omega (arith, one, two))))

module _ (key : CatKey) (d : DirRecord) (t u : Bool) (g : FileRecord) where
  info-name : (b : Bool) → (if b then folder_info key d else file_info t key g).name ≡ key.name
  unfolding folder_info file_info
  info-name true = refl
  info-name false = refl

  info-parent : (b : Bool) → (if b then folder_info key d else file_info t key g).parent ≡ key.parent
  unfolding folder_info file_info
  info-parent true = refl
  info-parent false = refl

  info-kind : (b : Bool) → (if b then folder_info key d else file_info t key g).kind ≡ (if b then item.Folder else item.File)
  unfolding folder_info file_info
  info-kind true = refl
  info-kind false = refl

  info-finder : (b : Bool) → (if b then folder_info key d else file_info t key g).finder ≡ (if b then folder_info key d else file_info u key g).finder
  unfolding folder_info file_info
  info-finder true = refl
  info-finder false = refl

  info-modified : (b : Bool) → (if b then folder_info key d else file_info t key g).modified ≡ (if b then folder_info key d else file_info u key g).modified
  unfolding folder_info file_info
  info-modified true = refl
  info-modified false = refl

body-is : (catalog : Catalog) (r : Record) (b : Bool)
    → body_info catalog r.0 (if b then Folder (dir_record_of r.1) else File (file_record_of r.1))
    ≡ (if b then folder_info r.0 (dir_record_of r.1) else file_info (has_thread catalog (file_record_of r.1).id) r.0 (file_record_of r.1))
body-is catalog r true = refl
body-is catalog r false = refl

own-is : (r : Record) (b : Bool)
    → record_info r.0 (if b then Folder (dir_record_of r.1) else File (file_record_of r.1)) ≡ (if b then folder_info r.0 (dir_record_of r.1) else file_info false r.0 (file_record_of r.1))
own-is r true = refl
own-is r false = refl

module _ (catalog : Catalog) (r : Record) where
  told-is : told catalog r ≡ (if is_dir r.1 then folder_info r.0 (dir_record_of r.1) else file_info (has_thread catalog (file_record_of r.1).id) r.0 (file_record_of r.1))
  unfolding catalog_item
  told-is = body-is catalog r (is_dir r.1)

  pub told-name : (told catalog r).name ≡ r.0.name
  told-name = ap (λ (info : Info). info.name) told-is ∙ info-name r.0 (dir_record_of r.1) (has_thread catalog (file_record_of r.1).id) false (file_record_of r.1) (is_dir r.1)

  pub told-parent : (told catalog r).parent ≡ r.0.parent
  told-parent = ap (λ (info : Info). info.parent) told-is ∙ info-parent r.0 (dir_record_of r.1) (has_thread catalog (file_record_of r.1).id) false (file_record_of r.1) (is_dir r.1)

  pub told-kind : (told catalog r).kind ≡ (if is_dir r.1 then item.Folder else item.File)
  told-kind = ap (λ (info : Info). info.kind) told-is ∙ info-kind r.0 (dir_record_of r.1) (has_thread catalog (file_record_of r.1).id) false (file_record_of r.1) (is_dir r.1)

  own-finder : (info_of (catalog_item r)).finder ≡ (told catalog r).finder
  unfolding catalog_item
  own-finder =
      ap (λ (info : Info). info.finder) (own-is r (is_dir r.1))
      ∙ info-finder r.0 (dir_record_of r.1) false (has_thread catalog (file_record_of r.1).id) (file_record_of r.1) (is_dir r.1)
      ∙ ap (λ (info : Info). info.finder) (sym told-is)

  own-modified : (info_of (catalog_item r)).modified ≡ (told catalog r).modified
  unfolding catalog_item
  own-modified =
      ap (λ (info : Info). info.modified) (own-is r (is_dir r.1))
      ∙ info-modified r.0 (dir_record_of r.1) false (has_thread catalog (file_record_of r.1).id) (file_record_of r.1) (is_dir r.1)
      ∙ ap (λ (info : Info). info.modified) (sym told-is)

-- ---- the root

position-some : (p : Thing → Bool) (k : ℕ) (xs : List Thing) (i : ℕ) (d : Thing) → i < length xs → p (get_or xs i d) ≡ true → is_some (position_from p k xs) ≡ true
position-some p k [] i d inside holds = absurd (omega (arith, inside))
position-some p k (x ∷ xs) zero d inside holds = ap (λ (b : Bool). is_some (cond b (Some k) (position_from p (k + 1) xs))) holds
position-some p k (x ∷ xs) (suc i) d inside holds = by (p x) (position-some p (k + 1) xs i d (omega (arith, inside)) holds)
  where
    by : (b : Bool) → is_some (position_from p (k + 1) xs) ≡ true → is_some (cond b (Some k) (position_from p (k + 1) xs)) ≡ true
    by true rest = refl
    by false rest = rest

-- ---- what is found

module _ (image : List ℕ) (limit : ℕ) (found : Found) (sound : IsSound image) (begins : 0 < block_total (mdb_in (block_at image)).catalog_file) (enough : length image ≤ limit)
    (is : IsFoundOf image limit found) where
  abbrev pub blocks : Blocks
  blocks = block_at image

  abbrev pub total : ℕ
  total = block_count image

  abbrev pub catalog : Catalog
  catalog = catalog_in blocks

  abbrev pub h : AreBlocksSound total blocks
  h = sound.blocks

  abbrev pub next : ℕ
  next = (mdb_in blocks).next_id

  pub whole : AreWholeBlocks total blocks
  whole n below = length-block_at image n below

  pub directory : found.mdb.now ≡ mdb_in blocks
  unfolding mdb_in
  directory = same_Some found.mdb.now (mdb_at blocks 2) (sym is.directory_is ∙ ap (option_map (mdb_at blocks)) (sound_directory_is_found image sound begins))

  pub trees-directory : found.salvage.now.trees.mdb.now ≡ mdb_in blocks
  trees-directory = sym found.mdb_is ∙ directory

  pub trees-overflow : found.salvage.now.trees.overflow.now ≡ overflow_in blocks
  trees-overflow = is.overflow_is ∙ ap (found_overflow image) directory ∙ sound_overflow_is_found total blocks h

  pub items-found : found.items.now ≡ map (young false) (items_in catalog)
  items-found = is.items_are ∙ ap (found_items image) directory ∙ sound_items_are_found total blocks h

  pub things-named : found.places.now ≡ things_of (things_in catalog) (namings_of (map (young false) catalog))
  things-named =
      is.places_are ∙ ap (found_things image) directory
      ∙ (λ k. things_of (map thing_of (sound_items_are_found total blocks h k)) (namings_of (sound_catalog_is_found total blocks h k)))

  pub things-found : found.places.now ≡ things_in catalog
  things-found = things-named ∙ sound_things_are_items total blocks h

  shares-found : found.salvage.now.shares ≡ map (λ (it : FoundRecord). whole_shares it.old (both_forks it.entry.1)) (map (young false) (items_in catalog))
  shares-found =
      is.shares_are
      ∙ (λ k. shares_of (found_overflow image (directory k)) (directory k) limit (found_items image (directory k)))
      ∙ (λ k. shares_of (sound_overflow_is_found total blocks h k) (mdb_in blocks) limit (sound_items_are_found total blocks h k))
      ∙ sound_forks_are_taken total blocks h limit (omega (arith, enough))

  module _ (i : ℕ) (r : Record) (at : slice_get (items_in catalog) i ≡ Some r) where
    pub shares-is : shares_at found.salvage.now i ≡ whole_shares false (both_forks r.1)
    shares-is =
        ap (λ (l : List (Option FileShares)). slice_index_or l i None) shares-found
        ∙ get_or_from_slice_get (map (λ (it : FoundRecord). whole_shares it.old (both_forks it.entry.1)) (map (young false) (items_in catalog))) i (whole_shares false (both_forks r.1)) None
        (slice_get-map (λ (it : FoundRecord). whole_shares it.old (both_forks it.entry.1)) (map (young false) (items_in catalog)) i
        ∙ ap (option_map (λ (it : FoundRecord). whole_shares it.old (both_forks it.entry.1))) (slice_get-map (young false) (items_in catalog) i ∙ ap (option_map (young false)) at))

    pub item-found : slice_get found.items.now i ≡ Some (young false r)
    item-found = ap (λ (l : List FoundRecord). slice_get l i) items-found ∙ slice_get-map (young false) (items_in catalog) i ∙ ap (option_map (young false)) at

    pub finder-is : finder_told (told_at found.items.now i) ≡ (told catalog r).finder
    finder-is =
        ap (λ (o : Option FoundRecord). finder_told (option_and_then own_told o)) item-found
        ∙ ap (λ (b : Bool). finder_told (if b then Some (info_of (catalog_item r)) else None)) (item-of catalog i r at).1
        ∙ own-finder catalog r

    pub modified-is : modified_told (told_at found.items.now i) ≡ since_1970 (told catalog r).modified
    modified-is =
        ap (λ (o : Option FoundRecord). modified_told (option_and_then own_told o)) item-found
        ∙ ap (λ (b : Bool). modified_told (if b then Some (info_of (catalog_item r)) else None)) (item-of catalog i r at).1
        ∙ ap since_1970 (own-modified catalog r)

    pub inside-found : i < length found.places.now
    inside-found = subst (λ (things : List Thing). i < length things) (sym things-found) (inside catalog next h.ids i r at)

    pub path-found : path_at found.places.now i ≡ payload_path found.places.now i
    path-found = ap (λ (b : Bool). if b then payload_path found.places.now i else []) (lt-ltb i (length found.places.now) inside-found)

    -- nothing is made of the root
    pub root-path : item_id r.1 ≡ 2 → path_at found.places.now i ≡ []
    unfolding payload_path
    root-path two =
        path-found ∙ ap (λ (things : List Thing). payload_path things i) things-found
        ∙ ap (λ (b : Bool). if b then [] else front_of (thing_at (things_in catalog) i) ++ path (things_in catalog) i) (root-place (right-id catalog next h.ids i r at))
      where
        root-place : IsRoot r ⊎ IsGiven next r → is_place (root_of (things_in catalog)) i ≡ true
        root-place (inr given) = absurd (omega (arith, given.least, two))
        root-place (inl root) = by (root_of (things_in catalog)) refl
          where
            thing : thing_at (things_in catalog) i ≡ thing_of (young false r)
            thing = thing-is catalog next h.ids i r at

            holds : is_root (thing_at (things_in catalog) i) ≡ true
            holds =
                ap is_root thing
                ∙ and_from (option_map_or (λ n. n == 2) (if is_dir r.1 then Some (item_id r.1) else None) false) (r.0.parent == 1)
                (ap (λ (b : Bool). option_map_or (λ n. n == 2) (if b then Some (item_id r.1) else None) false) root.folder ∙ eq-eqb (item_id r.1) 2 two)
                (eq-eqb r.0.parent 1 root.parent)

            by : (o : Option ℕ) → root_of (things_in catalog) ≡ o → is_place o i ≡ true
            by None none =
                absurd (true≢false (sym (position-some is_root 0 (things_in catalog) i nothing (inside catalog next h.ids i r at) holds) ∙ ap (λ (o : Option ℕ). is_some o) none))
            by (Some m) so =
                let first = position-holds is_root 0 (things_in catalog) m so in
                let same : first.m ≡ m = omega (arith, first.place) in
                let below : m < length (things_in catalog) = omega (arith, first.within, first.place) in
                let q : Record = get_or (items_in catalog) m r in
                let there : slice_get (items_in catalog) m ≡ Some q = record-at catalog next h.ids m below r in
                let passes : is_root (thing_of (young false q)) ≡ true =
                ap is_root (sym (thing-is catalog next h.ids m q there)) ∙ ap (λ (n : ℕ). is_root (thing_at (things_in catalog) n)) (sym same) ∙ first.holds nothing in
                let id : item_id q.1 ≡ 2 = folder-two (is_dir q.1) q (and_parts (is_folder_of 2 (thing_of (young false q))) (q.0.parent == 1) passes).0 in
                eq-eqb m i (one-place (items_in catalog) h.ids.distinct m i q r there at (id ∙ sym two))
              where
                folder-two : (b : Bool) (q : Record) → option_map_or (λ n. n == 2) (if b then Some (item_id q.1) else None) false ≡ true → item_id q.1 ≡ 2
                folder-two true q e = eqb-true (item_id q.1) 2 e
                folder-two false q e = absurd (true≢false (sym e))

    module _ (bytes : IsTrue (is_bytes image)) (short : AreWaysShort (things_in catalog)) (rest : List (List ℕ)) (way : HasWay (things_in catalog) (r.0.name ∷ rest) i) where
      pub payload-is : payload_path found.places.now i ≡ host_path (reverse (r.0.name ∷ rest))
      payload-is =
          ap (λ (things : List Thing). payload_path things i) things-named
          ∙ sound_paths_are_host_paths image sound bytes short i (r.0.name ∷ rest) (inside catalog next h.ids i r at)
          (λ two. not-root catalog next h.ids i r (r.0.name ∷ rest) at way
          (folder-is catalog next h.ids r.1 2 (ap (λ (t : Thing). t.folder) (sym (thing-is catalog next h.ids i r at)) ∙ two)).0)
          way

      -- the host names of the folders, and that of the item
      pub path-parts : path_at found.places.now i ≡ folders_text (reverse rest) ++ host_name r.0.name
      path-parts = path-found ∙ payload-is ∙ ap host_path (reverse-append (r.0.name ∷ []) rest) ∙ sym (behind-first (reverse rest) r.0.name)
