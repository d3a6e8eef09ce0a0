-- The rows of a sound volume's catalog are those that are told of the volume.
use Rattle.std.proofs.Common.{◌≡◌, ℕ, zero, suc, ◌+◌, ◌≤◌, Bool, true, false, cond, List, [], ◌∷◌, ◌++◌, length, map, refl, sym, ◌∙◌, ap, arith}
use Rattle.std.specs.List.{flat_map}
use Rattle.std.specs.Bool.{IsTrue}
use Rattle.std.specs.Ordering.{nat_cmp}
use Rattle.std.specs.Cmp.{nat_cmp_total}
use Rattle.std.specs.FinMap as fin
use Rattle.std.proofs.lemmas.Bool.{and_parts}
use Rattle.std.proofs.lemmas.List.{map-append, length-map}
use Rattle.std.proofs.lemmas.List.Sums.{length-filter, count_by-le-length}
use Rattle.hfs_fields.specs.Records.{is_dir, is_item, item_id, dir_record_of, file_record_of}
use Rattle.hfs_fields.specs.Each.{Each}
use Rattle.hfs_model.specs.declared.item.Item.{Item}
use Rattle.hfs_model.specs.Volume.{Entry, Volume}
use Rattle.hfs_model.specs.Children.{entries_of}
use Rattle.hfs_model.specs.Lawful.{IsLawful}
use Rattle.hfs_model.specs.Replies.{info_of}
use Rattle.hfs_catalog.specs.Records.{Record, Catalog, is_child_of, items_of, has_thread}
use Rattle.hfs_catalog.specs.Items.{Contents, folder_of, file_of, item_of, entry_of, items_in}
use Rattle.hfs_catalog.specs.Lookups.{children_of}
use Rattle.hfs_catalog.proofs.CatalogLawTypes.{SoundIsLawful}
use Rattle.hfs_check.proofs.LawTypes.{CatalogIsSound}
use Rattle.hfs_check.specs.Parts.{mdb_in, catalog_in}
use Rattle.hfs_check.specs.VolumeOf.{contents_in, volume_in}
use Rattle.hfs_items.specs.Told.{told}
use Rattle.hfs_items.specs.Queries.{AreEntries}
use Rattle.hfs_items.proofs.QueriesLaws.{RecordsAreEntries}
use Rattle.hfs_items.specs.Rows.{Row, row_below, path_below, rows_in}
use Rattle.hfs_items.specs.ToldRows.{ToldRow, told_row}
use Rattle.hfs_items.specs.Levels.{told_below, rows_from}
use Rattle.hfs_items.proofs.LawTypes.{CatalogsTellTables}
use Rattle.hfs_items.proofs.TableLemmas.{rows_deep}

-- ---- one record

name_is : (contents : Contents) (catalog : Catalog) (r : Record) → (item_of contents catalog r).name ≡ r.0.name
unfolding item_of folder_of file_of
name_is contents catalog r = elim (is_dir r.1) as (λ (b : Bool). (cond b (folder_of r.0 (dir_record_of r.1)) (file_of (has_thread catalog (file_record_of r.1).id) (contents (file_record_of r.1)) r.0 (file_record_of r.1))).name ≡ r.0.name) [
  | true ↦ refl
  | false ↦ refl
]

-- a fact of each item holds of each child
children_hold : (P : Record → Type 0) (catalog : Catalog) (dir : ℕ) → Each (λ r. IsTrue (is_item r.1) → P r) catalog → Each P (children_of catalog dir)
children_hold P [] dir h = tt
children_hold P (r ∷ rest) dir h = elim (is_child_of dir r) as (λ (b : Bool). is_child_of dir r ≡ b → Each P (cond b (r ∷ children_of rest dir) (children_of rest dir))) [
  | true ↦ λ is. (h.0 (and_parts (is_item r.1) _ is).0, children_hold P rest dir h.1)
  | false ↦ λ is. children_hold P rest dir h.1
] refl

-- ---- the rows of a catalog

module _ (contents : Contents) (catalog : Catalog) (es : List Entry) (are : AreEntries contents catalog es) where
  abbrev IsTold : Record → Type 0
  IsTold r = info_of es (entry_of contents catalog r) ≡ told catalog r

  abbrev below : ℕ → List (List ℕ) → Entry → List Row
  below n above e = row_below above e ∷ rows_in es n (path_below above e) e.0

  abbrev below_told : ℕ → List (List ℕ) → Record → List ToldRow
  below_told n above r = told_below catalog above r ∷ rows_from catalog n (above ++ r.0.name ∷ []) (children_of catalog (item_id r.1))

  abbrev Same : ℕ → Type 0
  Same n = (above : List (List ℕ)) (dir : ℕ) → map (told_row es) (rows_in es n above dir) ≡ rows_from catalog n above (children_of catalog dir)

  one_same : (n : ℕ) → Same n → (above : List (List ℕ)) (r : Record) → IsTold r → map (told_row es) (below n above (entry_of contents catalog r)) ≡ below_told n above r
  one_same n same above r told_so =
      (λ i. record { path = above ++ name_is contents catalog r i ∷ []; info = told_so i } ∷ map (told_row es) (rows_in es n (above ++ name_is contents catalog r i ∷ []) (item_id r.1)))
      ∙ ap (λ (l : List ToldRow). told_below catalog above r ∷ l) (same (above ++ r.0.name ∷ []) (item_id r.1))

  each_same : (n : ℕ) → Same n → (above : List (List ℕ)) (rs : Catalog) → Each IsTold rs
      → map (told_row es) (flat_map (below n above) (map (entry_of contents catalog) rs)) ≡ flat_map (below_told n above) rs
  each_same n same above [] h = refl
  each_same n same above (r ∷ rs) h =
      map-append (told_row es) (below n above (entry_of contents catalog r)) (flat_map (below n above) (map (entry_of contents catalog) rs))
      ∙ (λ i. one_same n same above r h.0 i ++ each_same n same above rs h.1 i)

  same_rows : (n : ℕ) → Same n
  same_rows zero above dir = refl
  same_rows (suc n) above dir =
      ap (λ (cs : List Entry). map (told_row es) (flat_map (below n above) cs)) (are.children dir)
      ∙ each_same n (same_rows n) above (children_of catalog dir) (children_hold IsTold catalog dir are.told)

-- ---- a catalog has as many records as items, or more

len-from_entries : (xs : List Entry) → fin.len (fin.from_entries {R = nat_cmp} xs) ≤ length xs
len-from_entries [] = omega (arith, fin.len-empty nat_cmp Item)
len-from_entries (e ∷ xs) =
    let one : fin.len (fin.from_entries {R = nat_cmp} (e ∷ xs)) ≤ fin.len (fin.from_entries {R = nat_cmp} xs) + 1 =
    at_most (fin.contains_key (fin.from_entries {R = nat_cmp} xs) e.0) (fin.len (fin.from_entries {R = nat_cmp} xs)) _ (fin.len-insert nat_cmp_total (fin.from_entries {R = nat_cmp} xs) e.0 e.1) in
    omega (arith, one, len-from_entries xs)
  where
    at_most : (b : Bool) (n m : ℕ) → m ≡ cond b n (n + 1) → m ≤ n + 1
    at_most true n m is = omega arith
    at_most false n m is = omega arith

fewer_items : (contents : Contents) (catalog : Catalog) → length (fin.entries (items_in contents catalog)) ≤ length catalog
unfolding items_in
fewer_items contents catalog =
    omega (
      arith,
      fin.len-entries (fin.from_entries {R = nat_cmp} (map (entry_of contents catalog) (items_of catalog))),
      len-from_entries (map (entry_of contents catalog) (items_of catalog)),
      length-map (items_of catalog) (entry_of contents catalog),
      length-filter (λ (r : Record). is_item r.1) catalog,
      count_by-le-length (λ (r : Record). is_item r.1) catalog,
    )

-- ---- a sound volume

pub catalogs_tell_tables : RecordsAreEntries → CatalogIsSound → SoundIsLawful → CatalogsTellTables
unfolding volume_in
catalogs_tell_tables answers catalog_is_sound sound_is_lawful total blocks whole sound =
    let catalog = catalog_in blocks in
    let contents = contents_in blocks in
    let v : Volume = volume_in blocks in
    let lawful : IsLawful v = sound_is_lawful contents (mdb_in blocks).next_id catalog sound.mdb.next_id (catalog_is_sound total blocks sound) in
    let are : AreEntries contents catalog (entries_of v) = answers total blocks whole sound in
    sym (ap (map (told_row (entries_of v))) (rows_deep v lawful (length catalog) (fewer_items contents catalog)) ∙ same_rows contents catalog (entries_of v) are (length catalog) [] 1)
