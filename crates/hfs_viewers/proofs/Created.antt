-- A table with one item more.
use Rattle.std.proofs.Common.{◌≡◌, ⊎_elim, inl, inr, ℕ, ◌+◌, ◌<◌, ◌≤◌, Bool, true, false, cond, List, [], ◌∷◌, refl, sym, ◌∙◌, ap, subst, arith, eqb, Option, Some, None, Result, Ok, ℤ}
use Rattle.std.specs.Ordering.{nat_cmp, is_eq}
use Rattle.std.specs.Cmp.{nat_cmp_total, unsigned_ties}
use Rattle.std.specs.Option.{option_map, option_map_or, option_and_then}
use Rattle.std.specs.FinMap as map
use Rattle.std.specs.BTreeMap as tree
use Rattle.std.proofs.lemmas.Bool.{cases_eq, eq-eqb, ne_eqb}
use Rattle.std.proofs.lemmas.List.Sums.{sum_by-cons}
use Rattle.hfs_fields.proofs.OrderLemmas.{eq_is}
use Rattle.hfs_fields.specs.declared.mdb.Mdb.{Mdb}
use Rattle.hfs_model.specs.declared.item.Item.{Item}
use Rattle.hfs_model.specs.declared.item.Kind.{Kind}
use Rattle.hfs_model.specs.Volume.{Volume, Items, Entry}
use Rattle.hfs_model.specs.Children.{valence, is_folder, entry_at, child_named}
use Rattle.hfs_model.specs.Lawful.{Has, AreLawful, IsFolder}
use Rattle.hfs_model.specs.Choices.{is_held, is_full}
use Rattle.hfs_model.specs.Changes.{touched, new_item, add}
use Rattle.hfs_model.proofs.Counts.{count_edited}
use Rattle.hfs_model.proofs.Facts.{none_is_some, folder_is, not_full}
use Rattle.hfs_model.proofs.Facts.{same_some}
use Rattle.hfs_model.proofs.Members.{In}
use Rattle.hfs_model.proofs.Members.{has_from_in}
use Rattle.hfs_viewers.specs.declared.place.Place.{Place}
use Rattle.std.specs.Prelude.{take, ◌*◌}
use Rattle.hfs_blocks.specs.Blocks.{block_at}
use Rattle.hfs_fields.specs.declared.extent.Extent.{Extent}
use Rattle.hfs_space.specs.Extents.{AreExtentsWithin, block_total}
use Rattle.hfs_space.specs.Forks.{fork_bytes, joined, file_blocks}
use Rattle.hfs_viewers.specs.declared.row.RowFork.{RowFork}
use Rattle.hfs_viewers.specs.declared.row.Row.{Row}
use Rattle.hfs_viewers.specs.declared.row.RowKind.{RowKind}
use Rattle.hfs_viewers.specs.declared.row.RowKind.TheVariants.{Folder, File as FileRow}
use Rattle.hfs_viewers.specs.declared.table.Table.{Table}
use Rattle.hfs_viewers.specs.Places.{place, place_cmp}
use Rattle.hfs_viewers.specs.Pieces.{ArePieces, bytes_from}
use Rattle.hfs_viewers.specs.Tables.{base_bytes, bytes_of, IsForkIn, item_of, kind_of, items_of, volume_of, AreNames, IsTable, IsKindOf}
use Rattle.hfs_viewers.specs.RowEdits.{Writes, Leaves, HasRoom, kind_with_child, with_child}
use Rattle.hfs_viewers.proofs.ShownLemmas.{items, get_items, put_item}
use Rattle.hfs_viewers.proofs.Named.{entry_has, child_named_is, tied}
use Rattle.hfs_viewers.proofs.EditedRows.{names_still, kind_still, picked_map}
use Rattle.hfs_model.proofs.ChildCounts.{one_child as one}
use Rattle.hfs_viewers.proofs.Counted.{count_new}
use Rattle.hfs_viewers.proofs.Added.{new_here, new_other, names_added}
use Rattle.hfs_model.proofs.Facts.{not_some}

-- ---- maps

module _ {X : Type 0} (show : X → Item) (m n : tree.BTreeMap ℕ X) (f : X → X) (g : Item → Item) (k : ℕ) (s : tree.IsOrdered nat_cmp m) (u : tree.IsOrdered nat_cmp n)
    (writes : (q : ℕ) → tree.get nat_cmp n q ≡ cond (eqb k q) (option_map f (tree.get nat_cmp m q)) (tree.get nat_cmp m q)) (shows : (x : X) → show (f x) ≡ g (show x))
    (i : Item) (has : map.get (items show m.entries) k ≡ Some i) where
  edited_get : (q : ℕ) → map.get (items show n.entries) q ≡ cond (eqb k q) (option_map g (map.get (items show m.entries) q)) (map.get (items show m.entries) q)
  edited_get q =
      get_items show n q u ∙ ap (option_map show) (writes q) ∙ picked_map f g show shows (eqb k q) (tree.get nat_cmp m q)
      ∙ ap (λ o. cond (eqb k q) (option_map g o) o) (sym (get_items show m q s))

  pub edit_item : items show n.entries ≡ map.insert (items show m.entries) k (g i)
  edit_item = map.same_map nat_cmp_total map.nat_cmp-IsAntisymmetric _ _ (λ q. ⊎_elim
      (λ (here : k ≡ q).
      edited_get q ∙ ap (λ b. cond b (option_map g (map.get (items show m.entries) q)) (map.get (items show m.entries) q)) (eq-eqb k q here)
      ∙ ap (option_map g) (ap (map.get (items show m.entries)) (sym here) ∙ has)
      ∙ sym (ap (map.get (map.insert (items show m.entries) k (g i))) (sym here) ∙ new_here (items show m.entries) k (g i)))
      (λ (other : k ≡ q → ⊥).
      edited_get q ∙ ap (λ b. cond b (option_map g (map.get (items show m.entries) q)) (map.get (items show m.entries) q)) (ne_eqb k q other)
      ∙ sym (new_other (items show m.entries) k (g i) q other))
      (cases_eq k q))

-- an item written in its place
pub names_edited : (a : Items) (names : tree.BTreeMap Place ℕ) → AreNames a names → (k : ℕ) (i y : Item) → Has a k i → y.parent ≡ i.parent → y.name ≡ i.name → AreNames (map.insert a k y) names
names_edited a names are k i y has parent name = names_still a (map.insert a k y) names are
    (λ q j there. ⊎_elim
    (λ (here : k ≡ q).
    let same : i ≡ j = same_some i j (sym has ∙ ap (map.get a) here ∙ there) in
    (y, ap (map.get (map.insert a k y)) (sym here) ∙ new_here a k y, parent ∙ ap (λ (z : Item). z.parent) same, name ∙ ap (λ (z : Item). z.name) same))
    (λ (other : k ≡ q → ⊥). (j, new_other a k y q other ∙ there, refl, refl))
    (cases_eq k q))
    (λ q j there. ⊎_elim
    (λ (here : k ≡ q).
    let same : y ≡ j = same_some y j (sym (new_here a k y) ∙ ap (map.get (map.insert a k y)) here ∙ there) in
    (i, ap (map.get a) (sym here) ∙ has, ap (λ (z : Item). z.parent) (sym same) ∙ parent, ap (λ (z : Item). z.name) (sym same) ∙ name))
    (λ (other : k ≡ q → ⊥). (j, sym (new_other a k y q other) ∙ there, refl, refl))
    (cases_eq k q))

-- ---- the next ID

no_child : (es : List Entry) (dir : ℕ) → ((e : Entry) → In e es → e.1.parent ≡ dir → ⊥) → valence es dir ≡ 0
no_child [] dir none = refl
no_child (e ∷ es) dir none =
    let here : ◌≡◌ {A = ℕ} (one dir e) 0 = ap (λ b. cond b 1 0) (ne_eqb e.1.parent dir (none e (inl refl))) in
    omega (arith, sum_by-cons (one dir) e es, here, no_child es dir (λ x i. none x (inr i)))

module _ (m : Items) (next : ℕ) (lawful : AreLawful m next) where
  pub next_is_free : map.get m next ≡ None
  next_is_free = elim (map.get m next) as (λ (o : Option Item). map.get m next ≡ o → o ≡ None) [
    | None ↦ λ _. refl
    | Some i ↦ λ has. absurd (⊎_elim (λ (e : next ≡ 2). low e) (λ given. same given.1) (lawful.ids next i has))
  ] refl
    where
      low : next ≡ 2 → ⊥
      low e = omega (arith, e, lawful.new_id)

      same : next < next → ⊥
      same h = omega (arith, h)

  pub next_has_no_child : valence (map.entries m) next ≡ 0
  next_has_no_child = no_child (map.entries m) next (λ e i under. ⊎_elim
      (λ (root : e.0 ≡ 2).
      let r = lawful.root in
      let same : e.1 ≡ r.0 = same_some e.1 r.0 (sym (has_from_in m e i) ∙ ap (map.get m) root ∙ r.1) in
      let parent : e.1.parent ≡ 1 = ap (λ (x : Item). x.parent) same ∙ r.2 in
      omega (arith, parent, under, lawful.new_id))
      (λ (folder : IsFolder m e.1.parent). none_is_some _ folder.item next_is_free (ap (map.get m) (sym under) ∙ folder.has))
      (lawful.parents e.0 e.1 (has_from_in m e i)))

-- ---- the table

kind_more : (a b : Items) (mdb : Mdb) (q : ℕ) (k : RowKind) → valence (map.entries b) q ≡ 1 + valence (map.entries a) q → IsKindOf a mdb q k → IsKindOf b mdb q (kind_with_child k)
kind_more a b mdb q (Folder kept children) more h = omega (arith, more, h)
kind_more a b mdb q (FileRow f) more h = h

pub child_shown : (base : List ℕ) (mdb : Mdb) (now : ℕ) (x : Row) → item_of base mdb (with_child now x) ≡ record (item_of base mdb x) { modified = now }
child_shown base mdb now x = ap (λ (k : Kind). record (item_of base mdb x) { modified = now; kind = k }) (kinds x.kind)
  where
    kinds : (k : RowKind) → kind_of base mdb (kind_with_child k) ≡ kind_of base mdb k
    kinds (Folder kept children) = refl
    kinds (FileRow f) = refl

module _ (t : Table) (is : IsTable t) (lawful : AreLawful (items_of t) t.next_id) (dir now : ℕ) (row : Row) (names : tree.BTreeMap Place ℕ) (rows after : tree.BTreeMap ℕ Row)
    (folder : is_folder (map.entries (items_of t)) dir ≡ true) (under : row.parent ≡ dir)
    (free : tree.get place_cmp t.by_name (place row.parent row.name) ≡ None)
    (sound : (a : Items) → valence (map.entries a) t.next_id ≡ 0 → IsKindOf a t.mdb t.next_id row.kind)
    (names_sorted : tree.IsOrdered place_cmp names) (named : tree.Updates place_cmp t.by_name names (place row.parent row.name) (Some t.next_id))
    (rows_sorted : tree.IsOrdered nat_cmp rows) (put : tree.Updates nat_cmp t.by_id rows t.next_id (Some row))
    (counted : Writes (with_child now) dir rows after) where
  abbrev id : ℕ
  id = t.next_id

  abbrev item : Item
  item = item_of t.base t.mdb row

  abbrev home : Item
  home = (folder_is (items_of t) dir folder).item

  abbrev later : Item
  later = record home { modified = now }

  abbrev created : Table
  created = record t { by_id = after; by_name = names; next_id = t.next_id + 1; changed = now }

  home_has : Has (items_of t) dir home
  home_has = (folder_is (items_of t) dir folder).has

  fresh : map.get (items_of t) id ≡ None
  fresh = next_is_free (items_of t) id lawful

  apart : id ≡ dir → ⊥
  apart same = none_is_some _ home fresh (ap (map.get (items_of t)) same ∙ home_has)

  abbrev middle : Items
  middle = map.insert (items_of t) id item

  middle_has : map.get middle dir ≡ Some home
  middle_has = new_other (items_of t) id item dir apart ∙ home_has

  middle_is : items (item_of t.base t.mdb) rows.entries ≡ middle
  unfolding items_of
  middle_is = put_item (item_of t.base t.mdb) t.by_id rows id row is.sorted rows_sorted put

  pub items_created : items_of created ≡ map.insert middle dir later
  unfolding items_of
  items_created =
      edit_item (item_of t.base t.mdb) rows after (with_child now) (λ (i : Item). record i { modified = now }) dir rows_sorted counted.sorted counted.writes (child_shown t.base t.mdb now) home
      (ap (λ (m : Items). map.get m dir) middle_is ∙ middle_has)
      ∙ ap (λ (m : Items). map.insert m dir later) middle_is

  valence_created : (q : ℕ) → valence (map.entries (items_of created)) q ≡ one q (id, item) + valence (map.entries (items_of t)) q
  valence_created q = ap (λ (m : Items). valence (map.entries m) q) items_created ∙ count_edited middle dir later home q middle_has refl ∙ count_new (items_of t) id item q fresh

  one_here : (q : ℕ) → dir ≡ q → ◌≡◌ {A = ℕ} (one q (id, item)) 1
  one_here q here = ap (λ b. cond b 1 0) (eq-eqb row.parent q (under ∙ here))

  none_there : (q : ℕ) → (dir ≡ q → ⊥) → ◌≡◌ {A = ℕ} (one q (id, item)) 0
  none_there q other = ap (λ b. cond b 1 0) (ne_eqb row.parent q (λ (e : row.parent ≡ q). other (sym under ∙ e)))

  rows_here : tree.get nat_cmp rows id ≡ Some row
  rows_here = put.1

  rows_other : (q : ℕ) → (id ≡ q → ⊥) → tree.get nat_cmp rows q ≡ tree.get nat_cmp t.by_id q
  rows_other q other = put.2 q (sym (unsigned_ties id q) ∙ ne_eqb id q other)

  after_here : (q : ℕ) → dir ≡ q → tree.get nat_cmp after q ≡ option_map (with_child now) (tree.get nat_cmp rows q)
  after_here q here = counted.writes q ∙ ap (λ b. cond b (option_map (with_child now) (tree.get nat_cmp rows q)) (tree.get nat_cmp rows q)) (eq-eqb dir q here)

  after_other : (q : ℕ) → (dir ≡ q → ⊥) → tree.get nat_cmp after q ≡ tree.get nat_cmp rows q
  after_other q other = counted.writes q ∙ ap (λ b. cond b (option_map (with_child now) (tree.get nat_cmp rows q)) (tree.get nat_cmp rows q)) (ne_eqb dir q other)

  was : (q : ℕ) (r : Row) → dir ≡ q → tree.get nat_cmp after q ≡ Some r → (x : Row) × (tree.get nat_cmp t.by_id q ≡ Some x) × (with_child now x ≡ r)
  was q r here at = elim (tree.get nat_cmp t.by_id q) as (λ (o : Option Row). tree.get nat_cmp t.by_id q ≡ o → (x : Row) × (o ≡ Some x) × (with_child now x ≡ r)) [
    | None ↦ λ none. absurd (none_is_some (tree.get nat_cmp after q) r (after_here q here ∙ ap (option_map (with_child now)) (rows_other q (λ (e : id ≡ q). apart (e ∙ sym here)) ∙ none)) at)
    | Some x ↦ λ some. (x, refl, same_some (with_child now x) r (sym (after_here q here ∙ ap (option_map (with_child now)) (rows_other q (λ (e : id ≡ q). apart (e ∙ sym here)) ∙ some)) ∙ at))
  ] refl

  row_created : (q : ℕ) (r : Row) → tree.get nat_cmp after q ≡ Some r → IsKindOf (items_of created) t.mdb q r.kind
  row_created q r at = ⊎_elim
      (λ (here : dir ≡ q).
      let old = was q r here at in
      let more : valence (map.entries (items_of created)) q ≡ 1 + valence (map.entries (items_of t)) q = valence_created q ∙ ap (λ n. n + valence (map.entries (items_of t)) q) (one_here q here) in
      subst (λ (y : Row). IsKindOf (items_of created) t.mdb q y.kind) old.2 (kind_more (items_of t) (items_of created) t.mdb q old.0.kind more (is.rows q old.0 old.1)))
      (λ (other : dir ≡ q → ⊥).
      let same : valence (map.entries (items_of created)) q ≡ valence (map.entries (items_of t)) q = omega (arith, valence_created q, none_there q other) in
      ⊎_elim
      (λ (new : id ≡ q).
      let row_is : row ≡ r = same_some row r (sym rows_here ∙ ap (tree.get nat_cmp rows) new ∙ sym (after_other q other) ∙ at) in
      let none : valence (map.entries (items_of created)) id ≡ 0 = ap (valence (map.entries (items_of created))) new ∙ same ∙ ap (valence (map.entries (items_of t))) (sym new) ∙ next_has_no_child (items_of t) id lawful in
      subst (λ (p : ℕ). IsKindOf (items_of created) t.mdb p r.kind) new (subst (λ (y : Row). IsKindOf (items_of created) t.mdb id y.kind) row_is (sound (items_of created) none)))
      (λ (old : id ≡ q → ⊥). kind_still (items_of t) (items_of created) t.mdb q r.kind same (is.rows q r (sym (rows_other q old) ∙ sym (after_other q other) ∙ at)))
      (cases_eq id q))
      (cases_eq dir q)

  pub table_created : IsTable created
  table_created = record {
    sorted = counted.sorted;
    names = subst (λ (m : Items). AreNames m names) (sym items_created) (names_edited middle names (names_added (items_of t) t.by_name names is.names id item fresh free names_sorted named) dir home later middle_has refl refl);
    rows = row_created;
    over = is.over;
  }

  touched_is : touched middle dir now ≡ map.insert middle dir later
  touched_is = ap (λ (o : Option Entry). option_map_or (λ (e : Entry). map.insert middle e.0 (record e.1 { modified = now })) o middle) (entry_has middle dir home middle_has)

  pub leaves_created : (kind : Kind) (name : List ℕ) (chosen : Result ℕ ℤ) → chosen ≡ Ok id → item ≡ new_item kind dir name now
      → Leaves created (add (volume_of t) chosen (λ n m. touched (map.insert m n (new_item kind dir name now)) dir now) now).0
  leaves_created kind name chosen ok shows = record {
    table = table_created;
    volume =
        let v : Volume = volume_of created in
        (λ i. record v { items = (items_created ∙ sym touched_is) i })
        ∙ (λ i. record v { items = touched (map.insert (items_of t) id (shows i)) dir now })
        ∙ ap (λ (c : Result ℕ ℤ). (add (volume_of t) c (λ n m. touched (map.insert m n (new_item kind dir name now)) dir now) now).0) (sym ok);
  }

pub not_held : (es : List Entry) (dir : ℕ) (name : List ℕ) → is_held es dir name ≡ false → child_named es dir name ≡ None
unfolding is_held
not_held es dir name e = not_some _ e

pub has_room : (m : Items) (dir : ℕ) → is_full (map.entries m) dir ≡ false → valence (map.entries m) dir < 65535
has_room = not_full

-- no item stands at a free place
pub free_place : (m : Items) (names : tree.BTreeMap Place ℕ) → AreNames m names → (dir : ℕ) (name : List ℕ) → child_named (map.entries m) dir name ≡ None → tree.get place_cmp names (place dir name) ≡ None
free_place m names are dir name none = elim (tree.get place_cmp names (place dir name)) as (λ (o : Option ℕ). tree.get place_cmp names (place dir name) ≡ o → o ≡ None) [
  | None ↦ λ _. refl
  | Some id ↦ λ at.
      let item = are.item (place dir name) id at in
      absurd (none_is_some (child_named (map.entries m) dir name) (id, item.0) none (child_named_is m names are dir name ∙ ap (option_and_then (entry_at (map.entries m))) at ∙ entry_has m id item.0 item.1))
] refl

-- the folder's row counts fewer children than there may be
pub row_room : (t : Table) → IsTable t → (dir : ℕ) → valence (map.entries (items_of t)) dir < 65535 → (rows : tree.BTreeMap ℕ Row) → tree.get nat_cmp rows dir ≡ tree.get nat_cmp t.by_id dir
    → (r : Row) → tree.get nat_cmp rows dir ≡ Some r → HasRoom r.kind
row_room t is dir room rows same r at = kinds r.kind (is.rows dir r (sym same ∙ at))
  where
    kinds : (k : RowKind) → IsKindOf (items_of t) t.mdb dir k → HasRoom k
    kinds (Folder kept children) h = omega (arith, h, room)
    kinds (FileRow f) h = tt

-- maps that answer alike make the same table
pub left_same : (t : Table) → IsTable t → (names : tree.BTreeMap Place ℕ) → tree.IsOrdered place_cmp names → ((p : Place) → tree.get place_cmp names p ≡ tree.get place_cmp t.by_name p)
    → (rows : tree.BTreeMap ℕ Row) → tree.IsOrdered nat_cmp rows → ((q : ℕ) → tree.get nat_cmp rows q ≡ tree.get nat_cmp t.by_id q)
    → Leaves (record t { by_name = names; by_id = rows }) (volume_of t)
unfolding items_of
left_same t is names s alike rows u same =
    let show = item_of t.base t.mdb in
    let all : items show rows.entries ≡ items show t.by_id.entries =
    map.same_map nat_cmp_total map.nat_cmp-IsAntisymmetric _ _ (λ q. get_items show rows q u ∙ ap (option_map show) (same q) ∙ sym (get_items show t.by_id q is.sorted)) in
    let v : Volume = volume_of t in
    record {
      table = record {
        sorted = u;
        names = subst (λ (m : Items). AreNames m names) (sym all) (record { sorted = s; has = λ id i has. alike (place i.parent i.name) ∙ is.names.has id i has; item = λ p id at. is.names.item p id (sym (alike p) ∙ at) });
        rows = λ q r at. subst (λ (m : Items). IsKindOf m t.mdb q r.kind) (sym all) (is.rows q r (sym (same q) ∙ at));
        over = is.over;
      };
      volume = λ i. record v { items = all i };
    }

-- a name that was entered at a free place and taken back
pub taken_back : (names middle after : tree.BTreeMap Place ℕ) (p : Place) (id : ℕ) → tree.get place_cmp names p ≡ None → tree.Updates place_cmp names middle p (Some id) → tree.Updates place_cmp middle after p None
    → (q : Place) → tree.get place_cmp after q ≡ tree.get place_cmp names q
taken_back names middle after p id free put took q = elim (is_eq (place_cmp p q)) as (λ (b : Bool). is_eq (place_cmp p q) ≡ b → tree.get place_cmp after q ≡ tree.get place_cmp names q) [
  | true ↦ λ e. took.0 q ∙ ap (λ b. cond b None (tree.get place_cmp middle q)) e ∙ sym (sym (tied names p q (eq_is _ e)) ∙ free)
  | false ↦ λ e. took.0 q ∙ ap (λ b. cond b None (tree.get place_cmp middle q)) e ∙ put.0 q ∙ ap (λ b. cond b (Some id) (tree.get place_cmp names q)) e
] refl

-- the folder's row is as it was once the new item's is entered
pub rows_besides : (t : Table) → AreLawful (items_of t) t.next_id → (dir : ℕ) → is_folder (map.entries (items_of t)) dir ≡ true → (rows : tree.BTreeMap ℕ Row) (k : ℕ) (w : Option Row) → k ≡ t.next_id → tree.Updates nat_cmp t.by_id rows k w
    → tree.get nat_cmp rows dir ≡ tree.get nat_cmp t.by_id dir
rows_besides t lawful dir folder rows k w next put = put.2 dir (sym (unsigned_ties k dir) ∙ ne_eqb k dir (λ (same : k ≡ dir).
    none_is_some _ (folder_is (items_of t) dir folder).item (next_is_free (items_of t) t.next_id lawful) (ap (map.get (items_of t)) (sym next ∙ same) ∙ (folder_is (items_of t) dir folder).has)))

-- ---- new kinds

pub no_extents : (mdb : Mdb) (f : RowFork) → f.extents ≡ [] → f.pieces.base_len ≡ 0 → ArePieces f.pieces → IsForkIn mdb f
no_extents mdb f none zero_size pieces = record {
  within = subst (λ (l : List Extent). AreExtentsWithin mdb.allocation_blocks l) (sym none) (λ k d lt. absurd (omega arith));
  room = subst (λ (n : ℕ). n ≤ block_total f.extents * mdb.allocation_block_size) (sym zero_size) (omega arith);
  pieces = pieces;
}

pub no_bytes : (base : List ℕ) (mdb : Mdb) (f : RowFork) → f.pieces.touched ≡ false → f.pieces.base_len ≡ 0 → bytes_of base mdb f ≡ []
unfolding bytes_of fork_bytes
no_bytes base mdb f untouched zero_size =
    ap (λ (t : Bool). cond t (bytes_from (base_bytes base mdb f) 0 f.pieces.pieces) (base_bytes base mdb f)) untouched
    ∙ ap (λ (n : ℕ). take n (joined (file_blocks (block_at base) mdb f.extents))) zero_size
