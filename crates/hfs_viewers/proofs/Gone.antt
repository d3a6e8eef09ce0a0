-- A table after an item went, or stands elsewhere.
use Rattle.std.proofs.Common.{◌≡◌, ⊎_elim, ℕ, ◌+◌, ◌-◌, ◌<◌, Bool, true, false, cond, List, length, IsTrue, refl, sym, ◌∙◌, ap, subst, arith, eqb, Option, Some, None, Result, Ok, ℤ}
use Rattle.std.specs.Ordering.{nat_cmp, is_eq}
use Rattle.std.specs.Cmp.{nat_cmp_total}
use Rattle.std.specs.Option.{option_map, option_map_or}
use Rattle.std.specs.FinMap as map
use Rattle.std.specs.BTreeMap as tree
use Rattle.std.proofs.lemmas.Bool.{cases_eq, ne_eqb}
use Rattle.std.proofs.lemmas.List.{length-map}
use Rattle.hfs_fields.specs.declared.mdb.Mdb.{Mdb}
use Rattle.hfs_model.specs.declared.item.Item.{Item}
use Rattle.hfs_model.specs.declared.item.Kind.{Kind}
use Rattle.hfs_model.specs.Volume.{Volume, Items, Entry}
use Rattle.hfs_fields.specs.Order.{same_name}
use Rattle.hfs_model.specs.Children.{valence, entry_at, entries_of}
use Rattle.hfs_model.specs.Choices.{is_locked, lock_code, to_rename, to_delete, to_move, is_taken, is_held}
use Rattle.hfs_model.specs.declared.codes.TheConstants.{BUSY, NOT_A_FOLDER, BAD_MOVE, DUPLICATE, FOLDER_FULL}
use Rattle.hfs_model.proofs.KeepsCalls.{IsChild, child_chosen}
use Rattle.hfs_model.proofs.KeepsCalls.{chained}
use Rattle.hfs_model.proofs.KeepsCalls.{unlocked_is}
use Rattle.hfs_model.proofs.KeepsCalls.{same_entry}
use Rattle.hfs_model.specs.Lawful.{Has}
use Rattle.hfs_model.specs.Changes.{touched, moved, change}
use Rattle.hfs_model.proofs.Counts.{count_edited}
use Rattle.hfs_model.proofs.Facts.{none_is_some, not_full}
use Rattle.hfs_model.proofs.Facts.{same_some}
use Rattle.hfs_model.proofs.Facts.{has_entry}
use Rattle.hfs_model.proofs.Facts.{not_refused}
use Rattle.hfs_viewers.specs.declared.place.Place.{Place}
use Rattle.hfs_viewers.specs.declared.row.Row.{Row}
use Rattle.hfs_viewers.specs.declared.row.RowKind.{RowKind}
use Rattle.hfs_viewers.specs.declared.row.RowKind.TheVariants.{Folder, File as FileRow}
use Rattle.hfs_viewers.specs.declared.table.Table.{Table}
use Rattle.hfs_viewers.specs.Places.{place, place_cmp}
use Rattle.hfs_viewers.specs.Tables.{item_of, kind_of, items_of, volume_of, AreNames, IsTable, IsKindOf, IsForkIn}
use Rattle.hfs_viewers.specs.RowEdits.{Writes, Leaves, HasRoom, Moves, kind_less_child, kind_with_child, with_child, without_child, with_name, with_parent}
use Rattle.hfs_viewers.proofs.ShownLemmas.{items, get_items, drop_item, entries_items}
use Rattle.hfs_check.proofs.EntryLemmas.{entry_get as entry_at_is}
use Rattle.hfs_viewers.proofs.Named.{entry_has, tie, tied}
use Rattle.hfs_model.proofs.ChildCounts.{one_child as one}
use Rattle.hfs_viewers.proofs.Counted.{count_new}
use Rattle.hfs_viewers.proofs.Added.{new_here, new_other}
use Rattle.hfs_viewers.proofs.Created.{edit_item, names_edited, child_shown, not_held, free_place}
use Rattle.hfs_viewers.proofs.Moved.{names_moved, names_dropped, gone, stays}

-- ---- the numbers of children

abbrev IsSized : ℕ → Mdb → RowKind → Type 0
IsSized n mdb (Folder kept children) = children ≡ n
IsSized n mdb (FileRow f) = IsForkIn mdb f.«data» × IsForkIn mdb f.resource

abbrev AreSized : (ℕ → ℕ) → Mdb → tree.BTreeMap ℕ Row → Type 0
AreSized c mdb rows = (q : ℕ) (r : Row) → tree.get nat_cmp rows q ≡ Some r → IsSized (c q) mdb r.kind

sized : (a : Items) (mdb : Mdb) (q : ℕ) (k : RowKind) → IsKindOf a mdb q k → IsSized (valence (map.entries a) q) mdb k
sized a mdb q (Folder kept children) h = h
sized a mdb q (FileRow f) h = h

of_sized : (a : Items) (mdb : Mdb) (q n : ℕ) (k : RowKind) → valence (map.entries a) q ≡ n → IsSized n mdb k → IsKindOf a mdb q k
of_sized a mdb q n (Folder kept children) e h = h ∙ sym e
of_sized a mdb q n (FileRow f) e h = h

less_kind : (mdb : Mdb) (n : ℕ) (k : RowKind) → IsSized n mdb k → IsSized (n - 1) mdb (kind_less_child k)
less_kind mdb n (Folder kept children) h = ap (λ (c : ℕ). c - 1) h
less_kind mdb n (FileRow f) h = h

more_kind : (mdb : Mdb) (n : ℕ) (k : RowKind) → IsSized n mdb k → IsSized (n + 1) mdb (kind_with_child k)
more_kind mdb n (Folder kept children) h = ap (λ (c : ℕ). c + 1) h
more_kind mdb n (FileRow f) h = h

less : (mdb : Mdb) (now : ℕ) (b : Bool) (n : ℕ) (x : Row) → IsSized n mdb x.kind → IsSized (cond b (n - 1) n) mdb (cond b (without_child now x) x).kind
less mdb now true n x h = less_kind mdb n x.kind h
less mdb now false n x h = h

more : (mdb : Mdb) (now : ℕ) (b : Bool) (n : ℕ) (x : Row) → IsSized n mdb x.kind → IsSized (cond b (n + 1) n) mdb (cond b (with_child now x) x).kind
more mdb now true n x h = more_kind mdb n x.kind h
more mdb now false n x h = h

kept : (mdb : Mdb) (f : Row → Row) → ((x : Row) → (f x).kind ≡ x.kind) → (b : Bool) (n : ℕ) (x : Row) → IsSized n mdb x.kind → IsSized n mdb (cond b (f x) x).kind
kept mdb f still true n x h = subst (IsSized n mdb) (sym (still x)) h
kept mdb f still false n x h = h

room : (mdb : Mdb) (n : ℕ) (k : RowKind) → n < 65535 → IsSized n mdb k → HasRoom k
room mdb n (Folder kept children) lt h = omega (arith, lt, h)
room mdb n (FileRow f) lt h = tt

picked : (f : Row → Row) (b : Bool) (o : Option Row) (x : Row) → o ≡ Some x → cond b (option_map f o) o ≡ Some (cond b (f x) x)
picked f true o x e = ap (option_map f) e
picked f false o x e = e

unpicked : (f : Row → Row) (b : Bool) (o : Option Row) → o ≡ None → cond b (option_map f o) o ≡ None
unpicked f true o e = ap (option_map f) e
unpicked f false o e = e

module _ (m n : tree.BTreeMap ℕ Row) (f : Row → Row) (k : ℕ) (w : Writes f k m n) where
  was : (q : ℕ) (r : Row) → tree.get nat_cmp n q ≡ Some r → (x : Row) × (tree.get nat_cmp m q ≡ Some x) × (cond (eqb k q) (f x) x ≡ r)
  was q r at = elim (tree.get nat_cmp m q) as (λ (o : Option Row). tree.get nat_cmp m q ≡ o → (x : Row) × (o ≡ Some x) × (cond (eqb k q) (f x) x ≡ r)) [
    | None ↦ λ none. absurd (none_is_some (tree.get nat_cmp n q) r (w.writes q ∙ unpicked f (eqb k q) (tree.get nat_cmp m q) none) at)
    | Some x ↦ λ some. (x, refl, same_some _ r (sym (w.writes q ∙ picked f (eqb k q) (tree.get nat_cmp m q) x some) ∙ at))
  ] refl

  sized_after : (mdb : Mdb) (c d : ℕ → ℕ) → ((q : ℕ) (x : Row) → IsSized (c q) mdb x.kind → IsSized (d q) mdb (cond (eqb k q) (f x) x).kind) → AreSized c mdb m → AreSized d mdb n
  sized_after mdb c d shape are q r at =
      let old = was q r at in
      subst (λ (y : Row). IsSized (d q) mdb y.kind) old.2 (shape q old.0 (are q old.0 old.1))

-- ---- a folder that is touched

touched_is : (m : Items) (dir now : ℕ) (home : Item) → Has m dir home → touched m dir now ≡ map.insert m dir (record home { modified = now })
touched_is m dir now home has = ap (λ (o : Option Entry). option_map_or (λ (e : Entry). map.insert m e.0 (record e.1 { modified = now })) o m) (entry_has m dir home has)

untouched : (m : Items) (dir now : ℕ) → map.get m dir ≡ None → touched m dir now ≡ m
untouched m dir now none = ap (λ (o : Option Entry). option_map_or (λ (e : Entry). map.insert m e.0 (record e.1 { modified = now })) o m) (entry_at_is m dir ∙ ap (option_map {U = Entry} (λ (i : Item). (dir, i))) none)

touched_rows : (show : Row → Item) (m n : tree.BTreeMap ℕ Row) (f : Row → Row) (dir now : ℕ) → tree.IsOrdered nat_cmp m → Writes f dir m n → ((x : Row) → show (f x) ≡ record (show x) { modified = now })
    → items show n.entries ≡ touched (items show m.entries) dir now
touched_rows show m n f dir now s w shows = elim (tree.get nat_cmp m dir) as (λ (o : Option Row). tree.get nat_cmp m dir ≡ o → items show n.entries ≡ touched (items show m.entries) dir now) [
  | Some x ↦ λ some.
      let has : Has (items show m.entries) dir (show x) = get_items show m dir s ∙ ap (option_map show) some in
      edit_item show m n f (λ (i : Item). record i { modified = now }) dir s w.sorted w.writes shows (show x) has ∙ sym (touched_is (items show m.entries) dir now (show x) has)
  | None ↦ λ none.
      map.same_map nat_cmp_total map.nat_cmp-IsAntisymmetric _ _ (λ q. get_items show n q w.sorted ∙ ap (option_map show) (w.writes q ∙ still q none) ∙ sym (get_items show m q s))
      ∙ sym (untouched (items show m.entries) dir now (get_items show m dir s ∙ ap (option_map show) none))
] refl
  where
    still : (q : ℕ) → tree.get nat_cmp m dir ≡ None → cond (eqb dir q) (option_map f (tree.get nat_cmp m q)) (tree.get nat_cmp m q) ≡ tree.get nat_cmp m q
    still q none = ⊎_elim
        (λ (here : dir ≡ q).
        let nothing : tree.get nat_cmp m q ≡ None = ap (tree.get nat_cmp m) (sym here) ∙ none in
        unpicked f (eqb dir q) (tree.get nat_cmp m q) nothing ∙ sym nothing)
        (λ (other : dir ≡ q → ⊥). ap (λ b. cond b (option_map f (tree.get nat_cmp m q)) (tree.get nat_cmp m q)) (ne_eqb dir q other))
        (cases_eq dir q)

valence_touched : (m : Items) (dir now q : ℕ) → valence (map.entries (touched m dir now)) q ≡ valence (map.entries m) q
valence_touched m dir now q = elim (entry_at (map.entries m) dir) as (λ (o : Option Entry). entry_at (map.entries m) dir ≡ o
    → valence (map.entries (option_map_or (λ (e : Entry). map.insert m e.0 (record e.1 { modified = now })) o m)) q ≡ valence (map.entries m) q) [
      | None ↦ λ _. refl
      | Some e ↦ λ is. count_edited m e.0 (record e.1 { modified = now }) e.1 q (has_entry m dir e is).1 refl
    ] refl

names_touched : (m : Items) (names : tree.BTreeMap Place ℕ) (dir now : ℕ) → AreNames m names → AreNames (touched m dir now) names
names_touched m names dir now are = elim (entry_at (map.entries m) dir) as (λ (o : Option Entry). entry_at (map.entries m) dir ≡ o
    → AreNames (option_map_or (λ (e : Entry). map.insert m e.0 (record e.1 { modified = now })) o m) names) [
      | None ↦ λ _. are
      | Some e ↦ λ is. names_edited m names are e.0 e.1 (record e.1 { modified = now }) (has_entry m dir e is).1 refl refl
    ] refl

-- ---- children without an item, and with it elsewhere

module _ (m : Items) (k : ℕ) where
  again : (y : Item) → map.insert m k y ≡ map.insert (map.remove m k) k y
  again y = map.same_map nat_cmp_total map.nat_cmp-IsAntisymmetric _ _ (λ q. ⊎_elim
      (λ (here : k ≡ q).
      ap (map.get (map.insert m k y)) (sym here) ∙ new_here m k y
      ∙ sym (ap (map.get (map.insert (map.remove m k) k y)) (sym here) ∙ new_here (map.remove m k) k y))
      (λ (other : k ≡ q → ⊥). new_other m k y q other ∙ sym (new_other (map.remove m k) k y q other ∙ stays m k q other))
      (cases_eq k q))

  back : (i : Item) → Has m k i → m ≡ map.insert m k i
  back i has = map.same_map nat_cmp_total map.nat_cmp-IsAntisymmetric _ _ (λ q. ⊎_elim
      (λ (here : k ≡ q). ap (map.get m) (sym here) ∙ has ∙ sym (ap (map.get (map.insert m k i)) (sym here) ∙ new_here m k i))
      (λ (other : k ≡ q → ⊥). sym (new_other m k i q other))
      (cases_eq k q))

  valence_with : (y : Item) (q : ℕ) → valence (map.entries (map.insert m k y)) q ≡ one q (k, y) + valence (map.entries (map.remove m k)) q
  valence_with y q = ap (λ (n : Items). valence (map.entries n) q) (again y) ∙ count_new (map.remove m k) k y q (gone m k)

  valence_was : (i : Item) (q : ℕ) → Has m k i → valence (map.entries m) q ≡ one q (k, i) + valence (map.entries (map.remove m k)) q
  valence_was i q has = ap (λ (n : Items). valence (map.entries n) q) (back i has) ∙ valence_with i q

without : (b : Bool) (n v : ℕ) → n ≡ cond b 1 0 + v → v ≡ cond b (n - 1) n
without true n v e = omega (arith, e)
without false n v e = omega (arith, e)

elsewhere : (b d : Bool) (n v : ℕ) → n ≡ cond b 1 0 + v → cond d 1 0 + v ≡ cond d (cond b (n - 1) n + 1) (cond b (n - 1) n)
elsewhere true true n v e = omega (arith, e)
elsewhere true false n v e = omega (arith, e)
elsewhere false true n v e = omega (arith, e)
elsewhere false false n v e = omega (arith, e)

fewer : (b : Bool) (n : ℕ) → n < 65535 → cond b (n - 1) n < 65535
fewer true n lt = omega (arith, lt)
fewer false n lt = lt

less_shown : (base : List ℕ) (mdb : Mdb) (now : ℕ) (x : Row) → item_of base mdb (without_child now x) ≡ record (item_of base mdb x) { modified = now }
less_shown base mdb now x = ap (λ (k : Kind). record (item_of base mdb x) { modified = now; kind = k }) (kinds x.kind)
  where
    kinds : (k : RowKind) → kind_of base mdb (kind_less_child k) ≡ kind_of base mdb k
    kinds (Folder kept children) = refl
    kinds (FileRow f) = refl

-- ---- tables

module _ (t : Table) (is : IsTable t) (k now : ℕ) (i : Item) (has : Has (items_of t) k i) (names : tree.BTreeMap Place ℕ) where
  abbrev children : ℕ → ℕ
  children q = valence (map.entries (items_of t)) q

  rows_sized : AreSized children t.mdb t.by_id
  rows_sized q r at = sized (items_of t) t.mdb q r.kind (is.rows q r at)

  -- ---- another name

  module _ (name : List ℕ) (rows : tree.BTreeMap ℕ Row)
      (free : (q : ℕ) → tree.get place_cmp t.by_name (place i.parent name) ≡ Some q → q ≡ k)
      (moves : Moves (place i.parent i.name) (place i.parent name) k t.by_name names) (writes : Writes (with_name name) k t.by_id rows) where
    abbrev renamed : Table
    renamed = record t { by_id = rows; by_name = names; changed = now }

    abbrev called : Item
    called = record i { name = name }

    items_renamed : items_of renamed ≡ map.insert (items_of t) k called
    unfolding items_of
    items_renamed = edit_item (item_of t.base t.mdb) t.by_id rows (with_name name) (λ (x : Item). record x { name = name }) k is.sorted writes.sorted writes.writes (λ x. refl) i has

    pub leaves_renamed : (chosen : Result Entry ℤ) → chosen ≡ Ok (k, i) → Leaves renamed (change (volume_of t) chosen (λ e m. map.insert m e.0 (record e.1 { name = name })) now).0
    leaves_renamed chosen ok = record {
      table = record {
        sorted = writes.sorted;
        names = subst (λ (m : Items). AreNames m names) (sym items_renamed) (names_moved (items_of t) t.by_name names is.names k i called has free moves);
        rows = λ q r at. of_sized (items_of renamed) t.mdb q (children q) r.kind
            (ap (λ (m : Items). valence (map.entries m) q) items_renamed ∙ count_edited (items_of t) k called i q has refl)
            (sized_after t.by_id rows (with_name name) k writes t.mdb children children (λ p x. kept t.mdb (with_name name) (λ y. refl) (eqb k p) (children p) x) rows_sized q r at);
        over = is.over;
      };
      volume =
          let v : Volume = volume_of renamed in
          (λ z. record v { items = items_renamed z }) ∙ ap (λ (c : Result Entry ℤ). (change (volume_of t) c (λ e m. map.insert m e.0 (record e.1 { name = name })) now).0) (sym ok);
    }

  -- ---- an item less

  module _ (dir : ℕ) (under : i.parent ≡ dir) (rows after : tree.BTreeMap ℕ Row) (names_sorted : tree.IsOrdered place_cmp names)
      (took : tree.Updates place_cmp t.by_name names (place i.parent i.name) None) (rows_sorted : tree.IsOrdered nat_cmp rows) (out : tree.Updates nat_cmp t.by_id rows k None)
      (dropped : Writes (without_child now) dir rows after) where
    abbrev deleted : Table
    deleted = record t { by_id = after; by_name = names; changed = now }

    abbrev left : Items
    left = map.remove (items_of t) k

    items_deleted : items_of deleted ≡ touched left dir now
    unfolding items_of
    items_deleted =
        touched_rows (item_of t.base t.mdb) rows after (without_child now) dir now rows_sorted dropped (less_shown t.base t.mdb now)
        ∙ ap (λ (m : Items). touched m dir now) (drop_item (item_of t.base t.mdb) t.by_id rows k is.sorted rows_sorted out)

    rows_left : AreSized children t.mdb rows
    rows_left q r at = elim (is_eq (nat_cmp k q)) as (λ (b : Bool). is_eq (nat_cmp k q) ≡ b → IsSized (children q) t.mdb r.kind) [
      | true ↦ λ e. absurd (none_is_some _ r (out.0 q ∙ ap (λ b. cond b None (tree.get nat_cmp t.by_id q)) e) at)
      | false ↦ λ e. rows_sized q r (sym (out.0 q ∙ ap (λ b. cond b None (tree.get nat_cmp t.by_id q)) e) ∙ at)
    ] refl

    valence_deleted : (q : ℕ) → valence (map.entries (items_of deleted)) q ≡ cond (eqb dir q) (children q - 1) (children q)
    valence_deleted q =
        ap (λ (m : Items). valence (map.entries m) q) items_deleted ∙ valence_touched left dir now q
        ∙ without (eqb dir q) (children q) (valence (map.entries left) q) (valence_was (items_of t) k i q has ∙ ap (λ (p : ℕ). cond (eqb p q) 1 0 + valence (map.entries left) q) under)

    pub leaves_deleted : (chosen : Result Entry ℤ) → chosen ≡ Ok (k, i) → Leaves deleted (change (volume_of t) chosen (λ e m. touched (map.remove m e.0) dir now) now).0
    leaves_deleted chosen ok = record {
      table = record {
        sorted = dropped.sorted;
        names = subst (λ (m : Items). AreNames m names) (sym items_deleted) (names_touched left names dir now (names_dropped (items_of t) t.by_name names is.names k i has names_sorted took));
        rows = λ q r at. of_sized (items_of deleted) t.mdb q (cond (eqb dir q) (children q - 1) (children q)) r.kind (valence_deleted q)
            (sized_after rows after (without_child now) dir dropped t.mdb children (λ p. cond (eqb dir p) (children p - 1) (children p)) (λ p x. less t.mdb now (eqb dir p) (children p) x) rows_left q r at);
        over = is.over;
      };
      volume =
          let v : Volume = volume_of deleted in
          (λ z. record v { items = items_deleted z }) ∙ ap (λ (c : Result Entry ℤ). (change (volume_of t) c (λ e m. touched (map.remove m e.0) dir now) now).0) (sym ok);
    }

  -- ---- another folder

  module _ (dir new_dir : ℕ) (under : i.parent ≡ dir) (rows dropped : tree.BTreeMap ℕ Row) (put : Writes (with_parent new_dir) k t.by_id rows) (less_one : Writes (without_child now) dir rows dropped) where
    rows_put : AreSized children t.mdb rows
    rows_put = sized_after t.by_id rows (with_parent new_dir) k put t.mdb children children (λ p x. kept t.mdb (with_parent new_dir) (λ y. refl) (eqb k p) (children p) x) rows_sized

    abbrev fewer_children : ℕ → ℕ
    fewer_children q = cond (eqb dir q) (children q - 1) (children q)

    rows_dropped : AreSized fewer_children t.mdb dropped
    rows_dropped = sized_after rows dropped (without_child now) dir less_one t.mdb children fewer_children (λ p x. less t.mdb now (eqb dir p) (children p) x) rows_put

    pub has_room_there : valence (map.entries (items_of t)) new_dir < 65535 → (r : Row) → tree.get nat_cmp dropped new_dir ≡ Some r → HasRoom r.kind
    has_room_there lt r at = room t.mdb (fewer_children new_dir) r.kind (fewer (eqb dir new_dir) (children new_dir) lt) (rows_dropped new_dir r at)

    module _ (after : tree.BTreeMap ℕ Row) (more_one : Writes (with_child now) new_dir dropped after)
        (free : (q : ℕ) → tree.get place_cmp t.by_name (place new_dir i.name) ≡ Some q → q ≡ k)
        (moves : Moves (place i.parent i.name) (place new_dir i.name) k t.by_name names) where
      abbrev carried : Table
      carried = record t { by_id = after; by_name = names; changed = now }

      abbrev there : Item
      there = record i { parent = new_dir }

      abbrev with_it : Items
      with_it = map.insert (items_of t) k there

      items_carried : items_of carried ≡ touched (touched with_it dir now) new_dir now
      unfolding items_of
      items_carried =
          touched_rows (item_of t.base t.mdb) dropped after (with_child now) new_dir now less_one.sorted more_one (child_shown t.base t.mdb now)
          ∙ ap (λ (m : Items). touched m new_dir now) (touched_rows (item_of t.base t.mdb) rows dropped (without_child now) dir now put.sorted less_one (less_shown t.base t.mdb now))
          ∙ ap (λ (m : Items). touched (touched m dir now) new_dir now)
          (edit_item (item_of t.base t.mdb) t.by_id rows (with_parent new_dir) (λ (x : Item). record x { parent = new_dir }) k is.sorted put.sorted put.writes (λ x. refl) i has)

      abbrev children_then : ℕ → ℕ
      children_then q = cond (eqb new_dir q) (fewer_children q + 1) (fewer_children q)

      valence_carried : (q : ℕ) → valence (map.entries (items_of carried)) q ≡ children_then q
      valence_carried q =
          ap (λ (m : Items). valence (map.entries m) q) items_carried ∙ valence_touched (touched with_it dir now) new_dir now q ∙ valence_touched with_it dir now q
          ∙ valence_with (items_of t) k there q
          ∙ elsewhere (eqb dir q) (eqb new_dir q) (children q) (valence (map.entries (map.remove (items_of t) k)) q)
          (valence_was (items_of t) k i q has ∙ ap (λ (p : ℕ). cond (eqb p q) 1 0 + valence (map.entries (map.remove (items_of t) k)) q) under)

      pub leaves_carried : (chosen : Result Entry ℤ) → chosen ≡ Ok (k, i) → Leaves carried (change (volume_of t) chosen (λ e m. moved m e dir new_dir now) now).0
      leaves_carried chosen ok = record {
        table = record {
          sorted = more_one.sorted;
          names = subst (λ (m : Items). AreNames m names) (sym items_carried)
              (names_touched (touched with_it dir now) names new_dir now (names_touched with_it names dir now (names_moved (items_of t) t.by_name names is.names k i there has free moves)));
          rows = λ q r at. of_sized (items_of carried) t.mdb q (children_then q) r.kind (valence_carried q)
              (sized_after dropped after (with_child now) new_dir more_one t.mdb fewer_children children_then (λ p x. more t.mdb now (eqb new_dir p) (fewer_children p) x) rows_dropped q r at);
          over = is.over;
        };
        volume =
            let v : Volume = volume_of carried in
            (λ z. record v { items = items_carried z }) ∙ ap (λ (c : Result Entry ℤ). (change (volume_of t) c (λ e m. moved m e dir new_dir now) now).0) (sym ok);
      }

-- ---- what a change has tested

pub rename_may : (v : Volume) (dir : ℕ) (name new_name : List ℕ) (e : Entry) → to_rename v dir name new_name ≡ Ok e → IsChild v dir name e × (is_taken (entries_of v) dir new_name e.0 ≡ false)
unfolding to_rename
rename_may v dir name new_name e is =
    let a = not_refused (is_locked v) (lock_code v) _ e is in
    let b = not_refused _ _ _ e a.1 in
    let c = chained _ _ e b.1 in
    let d = chained _ _ c.0 c.1 in
    let child = subst (λ (x : Entry). IsChild v dir name x) (unlocked_is c.0 d.0 d.2) (child_chosen v dir name d.0 d.1) in
    let free = not_refused _ _ _ e c.2 in
    let same = same_entry c.0 e free.1 in
    (subst (λ (x : Entry). IsChild v dir name x) same child, subst (λ (x : Entry). is_taken (entries_of v) dir new_name x.0 ≡ false) same free.0)

pub delete_may : (v : Volume) (dir : ℕ) (name : List ℕ) (e : Entry) → to_delete v dir name ≡ Ok e → IsChild v dir name e
unfolding to_delete
delete_may v dir name e is =
    let step = chained _ _ e is in
    let idle = not_refused _ BUSY _ e step.2 in
    subst (λ (x : Entry). IsChild v dir name x) (unlocked_is e step.0 idle.1) (child_chosen v dir name step.0 step.1)

pub record MayMove (v : Volume) (dir : ℕ) (name : List ℕ) (new_dir : ℕ) (e : Entry) : Type 0 where
  pub child : IsChild v dir name e
  pub free : is_held (entries_of v) new_dir name ≡ false
  pub fits : valence (entries_of v) new_dir < 65535

pub move_may : (v : Volume) (dir : ℕ) (name : List ℕ) (new_dir : ℕ) (e : Entry) → to_move v dir name new_dir ≡ Ok e → MayMove v dir name new_dir e
unfolding to_move
move_may v dir name new_dir e is =
    let a = chained _ _ e is in
    let b = not_refused _ NOT_A_FOLDER _ e a.2 in
    let c = not_refused _ BAD_MOVE _ e b.1 in
    let f = not_refused _ DUPLICATE _ e c.1 in
    let g = not_refused _ FOLDER_FULL _ e f.1 in
    record {
      child = subst (λ (x : Entry). IsChild v dir name x) (same_entry a.0 e g.1) (child_chosen v dir name a.0 a.1);
      free = f.0;
      fits = not_full v.items new_dir g.0;
    }

-- no item stands where one is moved to
pub moves_free : (m : Items) (names : tree.BTreeMap Place ℕ) → AreNames m names → (new_dir k : ℕ) (name own : List ℕ) → is_held (map.entries m) new_dir name ≡ false → IsTrue (same_name own name)
    → (q : ℕ) → tree.get place_cmp names (place new_dir own) ≡ Some q → q ≡ k
moves_free m names are new_dir k name own fails same q at =
    absurd (none_is_some _ q (tied names (place new_dir own) (place new_dir name) (tie (place new_dir own) (place new_dir name) refl same) ∙ free_place m names are new_dir name (not_held (map.entries m) new_dir name fails)) at)

pub item_count : (t : Table) → IsTable t → length (map.entries (items_of t)) ≡ length t.by_id.entries
unfolding items_of
item_count t is = ap length (entries_items (item_of t.base t.mdb) t.by_id.entries is.sorted) ∙ length-map t.by_id.entries (λ e. (e.0, item_of t.base t.mdb e.1))
