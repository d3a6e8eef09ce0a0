-- Offspring is found on records as the model finds it.
use Rattle.std.proofs.Common.{◌≡◌, ⊎_elim, ℕ, zero, suc, ◌+◌, ◌≤◌, Bool, true, false, cond, ◌||◌, eqb, List, [], ◌∷◌, length, map, count_by, refl, sym, ◌∙◌, ap, arith, Option, Some, None}
use Rattle.std.specs.Cmp.{both_ways, nat_cmp_total}
use Rattle.std.specs.Ordering.{nat_cmp}
use Rattle.std.specs.Option.{option_map, option_map_or}
use Rattle.std.specs.FinMap as finite
use Rattle.std.proofs.lemmas.Bool.{eqb-true, true≢false, or_cases, or_left, or_right}
use Rattle.std.proofs.lemmas.Option.{none-some, same_Some}
use Rattle.std.proofs.lemmas.List.{length-map}
use Rattle.hfs_fields.specs.Records.{is_dir, is_file, is_item}
use Rattle.hfs_model.specs.declared.item.Item.{Item}
use Rattle.hfs_model.specs.Volume.{Items, Entry}
use Rattle.hfs_model.specs.Children.{entry_at, entries_of}
use Rattle.hfs_model.specs.Choices.{lies_in}
use Rattle.hfs_model.specs.Lawful.{LiesIn, parent_of}
use Rattle.hfs_model.proofs.LawTypes.{FindsAtAnyDepth}
use Rattle.hfs_catalog.specs.Records.{Record, Catalog, items_of, item_with}
use Rattle.hfs_catalog.specs.Sound.{counts_of}
use Rattle.hfs_catalog.specs.Items.{items_in, entry_of}
use Rattle.hfs_catalog.proofs.CatalogLawTypes.{EntriesAreRecords, SoundIsLawful}
use Rattle.hfs_check.specs.Parts.{Blocks, mdb_in, catalog_in}
use Rattle.hfs_check.specs.Sound.{AreBlocksSound}
use Rattle.hfs_check.proofs.LawTypes.{CatalogIsSound}
use Rattle.hfs_check.specs.VolumeOf.{contents_in, volume_in}
use Rattle.hfs_record_edits.specs.Swaps.{one_if}
use Rattle.hfs_record_edits.proofs.OffspringLaws.{lies_by_parents, OffspringByParents}
use Rattle.hfs_record_edits.proofs.Items.{item_parent}
use Rattle.hfs_check.proofs.EntryLemmas.{entry_get}
use Rattle.hfs_record_edits.proofs.Move.{lies_here}
use Rattle.hfs_record_edits.proofs.CountBounds.{ones}

-- ---- searches of more steps

-- what is found in fewer steps is found in more
more_steps : (es : List Entry) (m n id up : ℕ) → m ≤ n → lies_in es m id up ≡ true → lies_in es n id up ≡ true
unfolding lies_in
more_steps es zero n id up le e = lies_here es n id up (eqb-true id up e)
more_steps es (suc m) zero id up le e = absurd (omega (arith, le))
more_steps es (suc m) (suc n) id up le e = ⊎_elim
    (λ (here : eqb id up ≡ true). or_left (eqb id up) (option_map_or (λ (x : Entry). lies_in es n x.1.parent up) (entry_at es id) false) here)
    (λ (above : option_map_or (λ (x : Entry). lies_in es m x.1.parent up) (entry_at es id) false ≡ true).
    or_right (eqb id up) (option_map_or (λ (x : Entry). lies_in es n x.1.parent up) (entry_at es id) false) (by (entry_at es id) (λ (x : Entry). more_steps es m n x.1.parent up (omega (arith, le))) above))
    (or_cases (eqb id up) (option_map_or (λ (x : Entry). lies_in es m x.1.parent up) (entry_at es id) false) e)
  where
    by : (o : Option Entry) → ((x : Entry) → lies_in es m x.1.parent up ≡ true → lies_in es n x.1.parent up ≡ true)
        → option_map_or (λ (x : Entry). lies_in es m x.1.parent up) o false ≡ true → option_map_or (λ (x : Entry). lies_in es n x.1.parent up) o false ≡ true
    by None more h = h
    by (Some x) more h = more x h

-- the parent of an entry's item
parent_at : (items : Items) (id : ℕ) (e : Entry) → entry_at (finite.entries items) id ≡ Some e → parent_of items id ≡ Some e.1.parent
parent_at items id e is = by (finite.get items id) (sym (entry_get items id) ∙ is)
  where
    by : (o : Option Item) → option_map (λ (i : Item). (id, i)) o ≡ Some e → option_map (λ (i : Item). i.parent) o ≡ Some e.1.parent
    by None h = absurd (none-some e h)
    by (Some i) h = ap (λ (x : Entry). Some x.1.parent) (same_Some (id, i) e h)

-- what is found lies there
found_lies : (items : Items) (n id up : ℕ) → lies_in (finite.entries items) n id up ≡ true → LiesIn items id up
unfolding lies_in
found_lies items zero id up e = (0, eqb-true id up e)
found_lies items (suc n) id up e = ⊎_elim
    (λ (here : eqb id up ≡ true). let found : LiesIn items id up = (0, eqb-true id up here) in found)
    (λ (above : option_map_or (λ (x : Entry). lies_in (finite.entries items) n x.1.parent up) (entry_at (finite.entries items) id) false ≡ true).
    by (entry_at (finite.entries items) id) (λ (x : Entry). found_lies items n x.1.parent up) refl above)
    (or_cases (eqb id up) (option_map_or (λ (x : Entry). lies_in (finite.entries items) n x.1.parent up) (entry_at (finite.entries items) id) false) e)
  where
    by : (o : Option Entry) → ((x : Entry) → lies_in (finite.entries items) n x.1.parent up ≡ true → LiesIn items x.1.parent up)
        → entry_at (finite.entries items) id ≡ o → option_map_or (λ (x : Entry). lies_in (finite.entries items) n x.1.parent up) o false ≡ true → LiesIn items id up
    by None more is h = absurd (true≢false (sym h))
    by (Some x) more is h = let rest = more x h in (suc rest.0, (x.1.parent, parent_at items id x is, rest.1))

-- ---- the number of items

no_more : (b : Bool) (n : ℕ) → cond b n (n + 1) ≤ n + 1
no_more true n = omega arith
no_more false n = omega arith

fewer_entries : (es : List Entry) → finite.len (finite.from_entries {R = nat_cmp} es) ≤ length es
fewer_entries [] = omega (arith, finite.len-empty nat_cmp Item)
fewer_entries (e ∷ es) =
    let rest = finite.from_entries {R = nat_cmp} es in
    omega (arith, finite.len-insert nat_cmp_total rest e.0 e.1, no_more (finite.contains_key rest e.0) (finite.len rest), fewer_entries es)

items_counted : (xs : Catalog) → length (items_of xs) ≤ count_by (λ x. is_file x.1) xs + count_by (λ x. is_dir x.1) xs
items_counted [] = omega arith
items_counted (x ∷ xs) = by (items_counted xs) (is_dir x.1) (is_file x.1) refl refl
  where
    by : length (items_of xs) ≤ count_by (λ y. is_file y.1) xs + count_by (λ y. is_dir y.1) xs → (d f : Bool) → is_dir x.1 ≡ d → is_file x.1 ≡ f → length (cond (is_item x.1) (x ∷ items_of xs) (items_of xs)) ≤ count_by (λ y. is_file y.1) (x ∷ xs) + count_by (λ y. is_dir y.1) (x ∷ xs)
    by rest true f d_is f_is =
        let one : ◌≡◌ {A = ℕ} (one_if (is_dir x.1)) 1 = ap one_if d_is in
        let len : length (cond (is_item x.1) (x ∷ items_of xs) (items_of xs)) ≡ length (x ∷ items_of xs) = ap (λ (b : Bool). length (cond (b || is_file x.1) (x ∷ items_of xs) (items_of xs))) d_is in
        omega (arith, one, len, ones (λ y. is_file y.1) x xs, ones (λ y. is_dir y.1) x xs, rest)
    by rest false true d_is f_is =
        let one : ◌≡◌ {A = ℕ} (one_if (is_file x.1)) 1 = ap one_if f_is in
        let len : length (cond (is_item x.1) (x ∷ items_of xs) (items_of xs)) ≡ length (x ∷ items_of xs) = λ i. length (cond (d_is i || f_is i) (x ∷ items_of xs) (items_of xs)) in
        omega (arith, one, len, ones (λ y. is_file y.1) x xs, ones (λ y. is_dir y.1) x xs, rest)
    by rest false false d_is f_is =
        let len : length (cond (is_item x.1) (x ∷ items_of xs) (items_of xs)) ≡ length (items_of xs) = λ i. length (cond (d_is i || f_is i) (x ∷ items_of xs) (items_of xs)) in
        omega (arith, len, ones (λ y. is_file y.1) x xs, ones (λ y. is_dir y.1) x xs, rest)

module _ (entries : EntriesAreRecords) (finds : FindsAtAnyDepth) (lawful : SoundIsLawful) (catalogs : CatalogIsSound) (total : ℕ) (old : Blocks) (h : AreBlocksSound total old) where
  abbrev catalog : Catalog
  catalog = catalog_in old

  abbrev es : List Entry
  es = entries_of (volume_in old)

  length_is : length es ≤ (mdb_in old).files + (mdb_in old).folders + 1
  unfolding volume_in items_in counts_of
  length_is =
      let all = map (entry_of (contents_in old) catalog) (items_of catalog) in
      omega (arith, fewer_entries all, finite.len-entries (finite.from_entries {R = nat_cmp} all), length-map (items_of catalog) (entry_of (contents_in old) catalog), items_counted catalog, h.counts.files, h.counts.folders)

  -- the search on records is the model's
  same_search : (n id up : ℕ) → lies_in es n id up ≡ lies_by_parents catalog n id up
  unfolding lies_in volume_in
  same_search zero id up = refl
  same_search (suc n) id up =
      ap (λ (o : Option Entry). eqb id up || option_map_or (λ (x : Entry). lies_in es n x.1.parent up) o false) (entries (contents_in old) catalog id)
      ∙ ap (λ (b : Bool). eqb id up || b) (by (λ (p : ℕ). same_search n p up) (item_with catalog id))
    where
      by : ((p : ℕ) → lies_in es n p up ≡ lies_by_parents catalog n p up) → (o : Option Record) → option_map_or (λ (x : Entry). lies_in es n x.1.parent up) (option_map (entry_of (contents_in old) catalog) o) false
          ≡ option_map_or (λ (p : ℕ). lies_by_parents catalog n p up) (option_map (λ (r : Record). r.0.parent) o) false
      by same None = refl
      by same (Some r) = ap (λ (p : ℕ). lies_in es n p up) (item_parent (contents_in old) catalog r) ∙ same r.0.parent

  pub offspring : (n id up : ℕ) → (mdb_in old).files + (mdb_in old).folders + 1 ≤ n → lies_in es (length es) id up ≡ lies_by_parents catalog n id up
  unfolding volume_in
  offspring n id up enough =
      both_ways (lies_in es (length es) id up) (lies_by_parents catalog n id up)
      (λ found. sym (same_search n id up) ∙ more_steps es (length es) n id up (omega (arith, enough, length_is)) found)
      (λ found.
      (finds (volume_in old) (lawful (contents_in old) (mdb_in old).next_id catalog h.mdb.next_id (catalogs total old h)) id up).1
      (found_lies (volume_in old).items n id up (same_search n id up ∙ found)))

pub offspring_by_parents : EntriesAreRecords → FindsAtAnyDepth → SoundIsLawful → CatalogIsSound → OffspringByParents
offspring_by_parents entries finds lawful catalogs total n id up old h enough = offspring entries finds lawful catalogs total old h n id up enough
