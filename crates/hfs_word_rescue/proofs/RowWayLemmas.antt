-- The rows of a sound volume's table below the root are those of its items, each with the names that lead to it.
use Rattle.std.proofs.Common.{◌≡◌, ◌≢◌, ◌⊎◌, inl, inr, ⊎_elim, ℕ, zero, suc, Bool, true, false, cond, ◌&&◌, ◌==◌, List, [], ◌∷◌, ◌++◌, append-nil, length, map, Some, refl, sym, ap, subst, ◌∙◌, arith}
use Rattle.std.specs.Prelude.{drop, flat_map, reverse, slice_get}
use Rattle.std.proofs.lemmas.Bool.{and_parts, eqb-true}
use Rattle.std.proofs.lemmas.List.{reverse-append}
use Rattle.std.proofs.lemmas.Option.{get_or_from_slice_get, same_Some, slice_get_within}
use Rattle.hfs_fields.specs.declared.key.CatKey.{CatKey}
use Rattle.hfs_fields.specs.declared.dir_record.DirRecord.{DirRecord}
use Rattle.hfs_fields.specs.declared.file_record.FileRecord.{FileRecord}
use Rattle.hfs_fields.specs.Records.{is_item, item_id}
use Rattle.hfs_btree.specs.Sound.{IsDistinct, IsOther}
use Rattle.hfs_fields.specs.Each.{Each}
use Rattle.hfs_fields.specs.Members as scans
use Rattle.hfs_fields.proofs.MemberLemmas.{each_in}
use Rattle.hfs_model.specs.Children.{entries_of}
use Rattle.hfs_model.specs.Lawful.{Has, IsLawful}
use Rattle.hfs_model.specs.Replies.{info_of}
use Rattle.hfs_model.specs.Volume.{Entry, Volume}
use Rattle.hfs_model.specs.declared.reply.Info.{Info}
use Rattle.hfs_model.proofs.Members.{In, in_from_contains}
use Rattle.hfs_catalog.specs.Items.{entry_of}
use Rattle.hfs_catalog.specs.Lookups.{children_of}
use Rattle.hfs_catalog.specs.Records.{Record, Catalog, has_thread, is_child_of, item_ids, items_of as items_in}
use Rattle.hfs_catalog.specs.Sound.{AreIdsSound, IsGiven, IsRoot}
use Rattle.hfs_catalog.proofs.Held.{has_item}
use Rattle.hfs_catalog.proofs.CatalogLawsProved.{sound_is_lawful}
use Rattle.hfs_check.specs.Parts.{Blocks, catalog_in, mdb_in}
use Rattle.hfs_check.specs.Sound.{AreBlocksSound}
use Rattle.hfs_check.specs.VolumeOf.{contents_in, volume_in}
use Rattle.hfs_check.proofs.LawsProved.{catalog_is_sound}
use Rattle.hfs_items.specs.Told.{file_info, folder_info, told}
use Rattle.hfs_items.specs.Queries.{AreEntries}
use Rattle.hfs_items.proofs.QueriesLaws.{AreWholeBlocks}
use Rattle.hfs_items.proofs.QueryLawsProved.{catalog_answers-entries}
use Rattle.hfs_items.specs.Levels.{catalog_rows, rows_from, told_below}
use Rattle.hfs_items.specs.Rows.{Row, rows_of}
use Rattle.hfs_items.specs.ToldRows.{ToldRow, told_row, told_rows}
use Rattle.hfs_items.proofs.ListLemmas.{in_flat_map, in_map, map_in}
use Rattle.hfs_items.proofs.LawsProved.{catalogs_tell_tables}
use Rattle.hfs_items.proofs.TableLemmas.{tables_are_inventories}
use Rattle.hfs_remains_places.specs.declared.things.Thing.{Thing}
use Rattle.hfs_remains_places.specs.Folders.{thing_at}
use Rattle.hfs_remains_places.specs.Laws.{HasWay}
use Rattle.hfs_remains_forks.specs.Laws.{HasSomeWay, things_in}
use Rattle.hfs_remains_forks.proofs.RemainsLawsProved.{sound_items_have_ways}
use Rattle.hfs_word_rescue.proofs.ItemWayLemmas.{item-with, item-of, not-one, not-root, one-place, one-way, place-in, right-id, thing-is, under-one, up-item}
use Rattle.hfs_items.proofs.ToldLemmas.{told-id}

-- ---- children

-- a child is an item that lies in the folder
child-of : (catalog : Catalog) (dir : ℕ) (r : Record) → In r (children_of catalog dir) → scans.In r catalog × (is_child_of dir r ≡ true)
child-of [] dir r there = absurd there
child-of (q ∷ catalog) dir r there = by (is_child_of dir q) refl there (λ behind. child-of catalog dir r behind)
  where
    by : (b : Bool) → is_child_of dir q ≡ b → In r (cond b (q ∷ children_of catalog dir) (children_of catalog dir))
        → (In r (children_of catalog dir) → scans.In r catalog × (is_child_of dir r ≡ true)) → scans.In r (q ∷ catalog) × (is_child_of dir r ≡ true)
    by true child (inl same) rest = (inl same, sym (ap (is_child_of dir) same) ∙ child)
    by true child (inr behind) rest = (inr (rest behind).0, (rest behind).1)
    by false child behind rest = (inr (rest behind).0, (rest behind).1)

others-children : (n dir : ℕ) (catalog : Catalog) → Each (IsOther n) (item_ids catalog) → Each (IsOther n) (map (λ (r : Record). item_id r.1) (children_of catalog dir))
others-children n dir [] others = tt
others-children n dir (q ∷ catalog) others = by (is_item q.1) (q.0.parent == dir) others (λ rest. others-children n dir catalog rest)
  where
    by : (a b : Bool) → Each (IsOther n) (map (λ (r : Record). item_id r.1) (cond a (q ∷ items_in catalog) (items_in catalog)))
        → (Each (IsOther n) (item_ids catalog) → Each (IsOther n) (map (λ (r : Record). item_id r.1) (children_of catalog dir)))
        → Each (IsOther n) (map (λ (r : Record). item_id r.1) (cond (a && b) (q ∷ children_of catalog dir) (children_of catalog dir)))
    by true true others rest = (others.0, rest others.1)
    by true false others rest = rest others.1
    by false b others rest = rest others

distinct-children : (dir : ℕ) (catalog : Catalog) → IsDistinct (item_ids catalog) → IsDistinct (map (λ (r : Record). item_id r.1) (children_of catalog dir))
distinct-children dir [] once = tt
distinct-children dir (q ∷ catalog) once = by (is_item q.1) (q.0.parent == dir) once (λ rest. distinct-children dir catalog rest)
  where
    by : (a b : Bool) → IsDistinct (map (λ (r : Record). item_id r.1) (cond a (q ∷ items_in catalog) (items_in catalog)))
        → (IsDistinct (item_ids catalog) → IsDistinct (map (λ (r : Record). item_id r.1) (children_of catalog dir)))
        → IsDistinct (map (λ (r : Record). item_id r.1) (cond (a && b) (q ∷ children_of catalog dir) (children_of catalog dir)))
    by true true once rest = (others-children (item_id q.1) dir catalog once.0, rest once.1)
    by true false once rest = rest once.1
    by false b once rest = rest once

-- the ID that is told of an item
folder-id : (key : CatKey) (r : DirRecord) → (folder_info key r).id ≡ r.id
unfolding folder_info
folder-id key r = refl

file-id : (has_thread : Bool) (key : CatKey) (r : FileRecord) → (file_info has_thread key r).id ≡ r.id
unfolding file_info
file-id has_thread key r = refl

-- ---- rows

-- the row of an item, to which names lead from the root
pub record RowOf (catalog : Catalog) (root : List ℕ) (row : ToldRow) : Type 0 where
  pub place : ℕ
  pub item : Record
  pub rest : List (List ℕ)
  pub at : slice_get (items_in catalog) place ≡ Some item
  pub way : HasWay (things_in catalog) (item.0.name ∷ rest) place
  pub row_is : told_below catalog (root ∷ reverse rest) item ≡ row

-- the path of a folder: of the root, or of an item to which names lead
data IsAbove (catalog : Catalog) (root : List ℕ) (above : List (List ℕ)) (dir : ℕ) : Type 0 where
  at-root : dir ≡ 2 → above ≡ root ∷ [] → IsAbove catalog root above dir
  at-item : (p : ℕ) (q : Record) (names : List (List ℕ)) → slice_get (items_in catalog) p ≡ Some q → item_id q.1 ≡ dir → HasWay (things_in catalog) names p
      → above ≡ root ∷ reverse names → IsAbove catalog root above dir

-- the names that lead to a child
record ChildWay (catalog : Catalog) (root : List ℕ) (above : List (List ℕ)) (i : ℕ) (r : Record) : Type 0 where
  pub rest : List (List ℕ)
  pub way : HasWay (things_in catalog) (r.0.name ∷ rest) i
  pub above_is : above ≡ root ∷ reverse rest

module _ (catalog : Catalog) (next : ℕ) (ids : AreIdsSound next catalog)
    (ways : (i : ℕ) (r : Record) → slice_get (items_in catalog) i ≡ Some r → item_id r.1 ≢ 2 → HasSomeWay (things_in catalog) i) (root : List ℕ) where
  name-is : (i : ℕ) (r : Record) → slice_get (items_in catalog) i ≡ Some r → (thing_at (things_in catalog) i).name ≡ r.0.name
  name-is i r is = ap (λ (t : Thing). t.name) (thing-is catalog next ids i r is)

  parent-is : (i : ℕ) (r : Record) → slice_get (items_in catalog) i ≡ Some r → (thing_at (things_in catalog) i).parent ≡ r.0.parent
  parent-is i r is = ap (λ (t : Thing). t.parent) (thing-is catalog next ids i r is)

  below-item : (p : ℕ) (q : Record) (names above : List (List ℕ)) → slice_get (items_in catalog) p ≡ Some q → HasWay (things_in catalog) names p → above ≡ root ∷ reverse names
      → (i : ℕ) (r : Record) → slice_get (items_in catalog) i ≡ Some r → item_id q.1 ≡ r.0.parent → (found : List (List ℕ)) → HasWay (things_in catalog) found i → ChildWay catalog root above i r
  below-item p q names above at way is i r there under [] lead = absurd lead
  below-item p q names above at way is i r there under (n ∷ []) lead =
      absurd (not-root catalog next ids p q names at way (under ∙ sym (parent-is i r there) ∙ lead.1))
  below-item p q [] above at way is i r there under (n ∷ m ∷ found) lead = absurd way
  below-item p q (k ∷ names) above at way is i r there under (n ∷ m ∷ found) lead =
      let up = up-item catalog next ids i lead.1 r there lead.2 in
      let same : lead.1 ≡ p = one-place (items_in catalog) ids.distinct lead.1 p up.item q up.at at (up.id ∙ sym under) in
      record {
        rest = k ∷ names;
        way = (name-is i r there, p, lead.2 ∙ ap (λ (x : ℕ). Some x) same, way);
        above_is = is;
      }

  child-way : (above : List (List ℕ)) (dir : ℕ) → IsAbove catalog root above dir → (i : ℕ) (r : Record) → slice_get (items_in catalog) i ≡ Some r → r.0.parent ≡ dir
      → ChildWay catalog root above i r
  child-way above dir (at-root two is) i r there under =
      record { rest = []; way = (name-is i r there, parent-is i r there ∙ under ∙ two); above_is = is }
  child-way above dir (at-item p q names at id way is) i r there under =
      let other : item_id r.1 ≢ 2 = λ two. by two (right-id catalog next ids i r there) in
      let lead = ways i r there other in
      below-item p q names above at way is i r there (id ∙ sym under) lead.names lead.way
    where
      by : item_id r.1 ≡ 2 → IsRoot r ⊎ IsGiven next r → ⊥
      by two (inl root) = not-one catalog next ids p q at (id ∙ sym under ∙ root.parent)
      by two (inr given) = absurd (omega (arith, two, given.least))

  row-by : (n : ℕ) → ((above : List (List ℕ)) (dir : ℕ) → IsAbove catalog root above dir → (row : ToldRow) → In row (rows_from catalog n above (children_of catalog dir)) → RowOf catalog root row)
      → (above : List (List ℕ)) (dir : ℕ) → IsAbove catalog root above dir → (r : Record) → In r (children_of catalog dir) → (row : ToldRow)
      → In row (told_below catalog above r ∷ rows_from catalog n (above ++ r.0.name ∷ []) (children_of catalog (item_id r.1))) → RowOf catalog root row
  row-by n further above dir up r child row there =
      let two = child-of catalog dir r child in
      let item = and_parts (is_item r.1) (r.0.parent == dir) two.1 in
      let at = place-in catalog r two.0 item.0 in
      let lead = child-way above dir up at.0 r at.1 (eqb-true r.0.parent dir item.1) in
      ⊎_elim
      (λ (here : told_below catalog above r ≡ row). record {
        place = at.0;
        item = r;
        rest = lead.rest;
        at = at.1;
        way = lead.way;
        row_is = ap (λ (path : List (List ℕ)). told_below catalog path r) (sym lead.above_is) ∙ here;
      })
      (λ (behind : In row (rows_from catalog n (above ++ r.0.name ∷ []) (children_of catalog (item_id r.1)))).
      further (above ++ r.0.name ∷ []) (item_id r.1)
      (at-item at.0 r (r.0.name ∷ lead.rest) at.1 refl lead.way
      (ap (λ (path : List (List ℕ)). path ++ r.0.name ∷ []) lead.above_is ∙ ap (λ (path : List (List ℕ)). root ∷ path) (sym (reverse-append (r.0.name ∷ []) lead.rest))))
      row behind)
      there

  rows-below : (n : ℕ) (above : List (List ℕ)) (dir : ℕ) → IsAbove catalog root above dir → (row : ToldRow) → In row (rows_from catalog n above (children_of catalog dir)) → RowOf catalog root row
  rows-below zero above dir up row there = absurd there
  rows-below (suc n) above dir up row there =
      let at = in_flat_map (λ (r : Record). told_below catalog above r ∷ rows_from catalog n (above ++ r.0.name ∷ []) (children_of catalog (item_id r.1))) (children_of catalog dir) row there in
      row-by n (rows-below n) above dir up at.0 at.1 row at.2

-- ---- all rows

-- the first row is the root's, and behind it come those of the items below it
pub record AreRows (catalog : Catalog) (rows : List ToldRow) : Type 0 where
  pub root : List ℕ
  pub below : (row : ToldRow) → In row (drop 1 rows) → RowOf catalog root row
  pub first : (row : ToldRow) → In row rows → (row.info.id ≡ 2) ⊎ In row (drop 1 rows)

module _ (catalog : Catalog) (next : ℕ) (ids : AreIdsSound next catalog)
    (ways : (i : ℕ) (r : Record) → slice_get (items_in catalog) i ≡ Some r → item_id r.1 ≢ 2 → HasSomeWay (things_in catalog) i) where
  abbrev below : ℕ → Record → List ToldRow
  below n r = told_below catalog [] r ∷ rows_from catalog n (r.0.name ∷ []) (children_of catalog (item_id r.1))

  root-id : (r : Record) → In r (children_of catalog 1) → item_id r.1 ≡ 2
  root-id r child =
      let two = child-of catalog 1 r child in
      let item = and_parts (is_item r.1) (r.0.parent == 1) two.1 in
      let at = place-in catalog r two.0 item.0 in
      under-one catalog next ids at.0 r at.1 (eqb-true r.0.parent 1 item.1)

  rows-by : (n : ℕ) (cs : Catalog) → ((c : Record) → In c cs → In c (children_of catalog 1)) → IsDistinct (map (λ (r : Record). item_id r.1) cs) → AreRows catalog (flat_map (below n) cs)
  rows-by n [] all once = record { root = []; below = λ row there. absurd there; first = λ row there. absurd there }
  rows-by n (c ∷ []) all once =
      let two : item_id c.1 ≡ 2 = root-id c (all c (inl refl)) in
      let whole : rows_from catalog n (c.0.name ∷ []) (children_of catalog (item_id c.1)) ++ [] ≡ rows_from catalog n (c.0.name ∷ []) (children_of catalog (item_id c.1)) =
      append-nil (rows_from catalog n (c.0.name ∷ []) (children_of catalog (item_id c.1))) in
      record {
        root = c.0.name;
        below = λ row there. rows-below catalog next ids ways c.0.name n (c.0.name ∷ []) (item_id c.1) (at-root two refl) row (subst (In row) whole there);
        first = λ row there. ⊎_elim
            (λ (here : told_below catalog [] c ≡ row). inl (ap (λ (r : ToldRow). r.info.id) (sym here) ∙ told-id catalog c ∙ two))
            (λ (behind : In row (rows_from catalog n (c.0.name ∷ []) (children_of catalog (item_id c.1)) ++ [])). inr behind)
            there;
      }
  rows-by n (c ∷ d ∷ cs) all once =
      absurd (once.0.0 (root-id d (all d (inr (inl refl))) ∙ sym (root-id c (all c (inl refl)))))

  rows-are : (n : ℕ) → AreRows catalog (rows_from catalog n [] (children_of catalog 1))
  rows-are zero = record { root = []; below = λ row there. absurd there; first = λ row there. absurd there }
  rows-are (suc n) = rows-by n (children_of catalog 1) (λ c there. there) (distinct-children 1 catalog ids.distinct)

  pub all-rows : AreRows catalog (catalog_rows catalog)
  all-rows = rows-are (length catalog)

-- ---- of a sound volume

module _ (total : ℕ) (blocks : Blocks) (whole : AreWholeBlocks total blocks) (h : AreBlocksSound total blocks) where
  abbrev catalog : Catalog
  catalog = catalog_in blocks

  abbrev volume : Volume
  volume = volume_in blocks

  pub ways-are : (i : ℕ) (r : Record) → slice_get (items_in catalog) i ≡ Some r → item_id r.1 ≢ 2 → HasSomeWay (things_in catalog) i
  ways-are i r is other =
      sound_items_have_ways total blocks h i r (slice_get_within (items_in catalog) i r is)
      (λ two. other (ap (λ (q : Record). item_id q.1) (sym (get_or_from_slice_get (items_in catalog) i r r is)) ∙ two))

  pub rows : AreRows catalog (told_rows (entries_of volume))
  rows = subst (AreRows catalog) (catalogs_tell_tables total blocks whole h) (all-rows catalog (mdb_in blocks).next_id h.ids ways-are)

  lawful : IsLawful volume
  unfolding volume_in
  lawful = sound_is_lawful (contents_in blocks) (mdb_in blocks).next_id catalog h.mdb.next_id (catalog_is_sound total blocks h)

  -- an item's row is there
  told-there : (i : ℕ) (r : Record) → slice_get (items_in catalog) i ≡ Some r → (row : ToldRow) × In row (told_rows (entries_of volume)) × (row.info ≡ told catalog r)
  unfolding volume_in
  told-there i r is =
      let two = item-of catalog i r is in
      let e : Entry = entry_of (contents_in blocks) catalog r in
      let has : Has volume.items e.0 e.1 = has_item (contents_in blocks) catalog (item_id r.1) r (item-with catalog (mdb_in blocks).next_id h.ids i r is) in
      let stands = ((tables_are_inventories volume lawful).each e).1 has in
      let at = in_map (λ (row : Row). row.entry) (rows_of (entries_of volume)) e (in_from_contains (map (λ (row : Row). row.entry) (rows_of (entries_of volume))) e stands.0 stands.1 stands.2) in
      let are : AreEntries (contents_in blocks) catalog (entries_of volume) = catalog_answers-entries total blocks whole h in (
        told_row (entries_of volume) at.0,
        map_in (told_row (entries_of volume)) (rows_of (entries_of volume)) at.0 at.1,
        ap (info_of (entries_of volume)) at.2
            ∙ each_in (λ (q : Record). is_item q.1 ≡ true → info_of (entries_of volume) (entry_of (contents_in blocks) catalog q) ≡ told catalog q) catalog r are.told two.0 two.1,
      )

  -- below the root, with the names that lead to it
  pub row-there : (i : ℕ) (r : Record) (rest : List (List ℕ)) → slice_get (items_in catalog) i ≡ Some r → HasWay (things_in catalog) (r.0.name ∷ rest) i
      → In (told_below catalog (rows.root ∷ reverse rest) r) (drop 1 (told_rows (entries_of volume)))
  row-there i r rest is way =
      let row = told-there i r is in
      ⊎_elim
      (λ (root : row.0.info.id ≡ 2). absurd (not-root catalog (mdb_in blocks).next_id h.ids i r (r.0.name ∷ rest) is way (sym (told-id catalog r) ∙ ap (λ (info : Info). info.id) (sym row.2) ∙ root)))
      (λ (there : In row.0 (drop 1 (told_rows (entries_of volume)))).
      let of = rows.below row.0 there in
      let id : item_id of.item.1 ≡ item_id r.1 =
      sym (told-id catalog of.item) ∙ ap (λ (q : ToldRow). q.info.id) of.row_is ∙ ap (λ (info : Info). info.id) row.2 ∙ told-id catalog r in
      let same : of.place ≡ i = one-place (items_in catalog) h.ids.distinct of.place i of.item r of.at is id in
      let item : of.item ≡ r = same_Some of.item r (sym of.at ∙ ap (slice_get (items_in catalog)) same ∙ is) in
      let names : of.item.0.name ∷ of.rest ≡ r.0.name ∷ rest =
      one-way catalog (mdb_in blocks).next_id h.ids (of.item.0.name ∷ of.rest) (r.0.name ∷ rest) i r is (subst (λ (p : ℕ). HasWay (things_in catalog) (of.item.0.name ∷ of.rest) p) same of.way) way in
      subst (λ (q : ToldRow). In q (drop 1 (told_rows (entries_of volume))))
      (sym of.row_is ∙ (λ k. told_below catalog (rows.root ∷ reverse (drop 1 (names k))) (item k))) there)
      (rows.first row.0 row.1)
