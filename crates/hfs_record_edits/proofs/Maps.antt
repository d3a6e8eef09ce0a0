-- Maps of items that changed, and the items of changed records.
use Rattle.std.proofs.Common.{◌≡◌, ℕ, Bool, true, false, cond, ◌&&◌, ◌||◌, eqb, [], ◌∷◌, refl, sym, ◌∙◌, ap, Option, Some, None}
use Rattle.std.specs.Prelude.{is_some}
use Rattle.std.specs.Cmp.{nat_cmp_total, unsigned_ties}
use Rattle.std.specs.Option.{option_map, option_map_or}
use Rattle.std.specs.FinMap as map
use Rattle.std.proofs.lemmas.Bool.{eqb-true}
use Rattle.hfs_fields.specs.Records.{is_dir, is_thread, item_id, dir_record_of, file_record_of}
use Rattle.hfs_model.specs.declared.item.Item.{Item}
use Rattle.hfs_model.specs.Volume.{Items, Entry}
use Rattle.hfs_model.specs.Changes.{touched}
use Rattle.hfs_catalog.specs.Records.{Record, Catalog, has_thread}
use Rattle.hfs_catalog.specs.Lookups.{thread_of}
use Rattle.hfs_catalog.specs.Items.{Contents, folder_of, file_of, item_of}
use Rattle.hfs_record_edits.proofs.FindLemmas.{turned_test}
use Rattle.hfs_check.proofs.EntryLemmas.{entry_get}

pub get_put : (m : Items) (i : ℕ) (x : Item) (q : ℕ) → map.get (map.insert m i x) q ≡ cond (eqb i q) (Some x) (map.get m q)
get_put m i x q = map.get-insert nat_cmp_total m i x q ∙ ap (λ b. cond b (Some x) (map.get m q)) (sym (unsigned_ties q i) ∙ turned_test q i)

pub get_removed : (m : Items) (i q : ℕ) → map.get (map.remove m i) q ≡ cond (eqb i q) None (map.get m q)
get_removed m i q = map.get-remove nat_cmp_total m i q ∙ ap (λ b. cond b None (map.get m q)) (sym (unsigned_ties q i) ∙ turned_test q i)

abbrev pub at_moment : ℕ → Item → Item
at_moment now i = record i { modified = now }

-- what a touched map has
pub get_touched : (m : Items) (dir now q : ℕ) → map.get (touched m dir now) q ≡ cond (eqb dir q) (option_map (at_moment now) (map.get m q)) (map.get m q)
get_touched m dir now q =
    ap (λ o. map.get (option_map_or (λ (e : Entry). map.insert m e.0 (record e.1 { modified = now })) o m) q) (entry_get m dir)
    ∙ elim (map.get m dir) as (λ (o : Option Item). map.get m dir ≡ o → map.get (option_map_or (λ (e : Entry). map.insert m e.0 (record e.1 { modified = now })) (option_map (λ (i : Item). (dir, i)) o) m) q ≡ cond (eqb dir q) (option_map (at_moment now) (map.get m q)) (map.get m q)) [
      | None ↦ λ e. nothing (eqb dir q) refl e
      | Some i ↦ λ e. get_put m dir (at_moment now i) q ∙ something (eqb dir q) refl i e
    ] refl
  where
    nothing : (b : Bool) → eqb dir q ≡ b → map.get m dir ≡ None → map.get m q ≡ cond b (option_map (at_moment now) (map.get m q)) (map.get m q)
    nothing true e none = let here : map.get m q ≡ None = ap (map.get m) (sym (eqb-true dir q e)) ∙ none in here ∙ sym (ap (option_map (at_moment now)) here)
    nothing false e none = refl

    something : (b : Bool) → eqb dir q ≡ b → (i : Item) → map.get m dir ≡ Some i → cond b (Some (at_moment now i)) (map.get m q) ≡ cond b (option_map (at_moment now) (map.get m q)) (map.get m q)
    something true e i some = sym (ap (option_map (at_moment now)) (ap (map.get m) (sym (eqb-true dir q e)) ∙ some))
    something false e i some = refl

-- ---- the item of a record in another catalog

pub thread_known : (catalog : Catalog) (k : ℕ) → has_thread catalog k ≡ is_some (thread_of catalog k)
thread_known catalog k = by catalog
  where
    by : (rs : Catalog) → has_thread rs k ≡ is_some (thread_of rs k)
    by [] = refl
    by (r ∷ rs) = step (is_thread r.1 && eqb r.0.parent k) (by rs)
      where
        step : (b : Bool) → has_thread rs k ≡ is_some (thread_of rs k) → (b || has_thread rs k) ≡ is_some (cond b (Some r) (thread_of rs k))
        step true e = refl
        step false e = e

pub same_item_of : (c d : Contents) (old new : Catalog) (r : Record) → (is_dir r.1 ≡ false → d (file_record_of r.1) ≡ c (file_record_of r.1)) → (is_dir r.1 ≡ false → thread_of new (file_record_of r.1).id ≡ thread_of old (file_record_of r.1).id) → item_of d new r ≡ item_of c old r
unfolding item_of
same_item_of c d old new r forks threads = elim (is_dir r.1) as (λ (b : Bool). (b ≡ false → d (file_record_of r.1) ≡ c (file_record_of r.1)) → (b ≡ false → thread_of new (file_record_of r.1).id ≡ thread_of old (file_record_of r.1).id) → cond b (folder_of r.0 (dir_record_of r.1)) (file_of (has_thread new (file_record_of r.1).id) (d (file_record_of r.1)) r.0 (file_record_of r.1)) ≡ cond b (folder_of r.0 (dir_record_of r.1)) (file_of (has_thread old (file_record_of r.1).id) (c (file_record_of r.1)) r.0 (file_record_of r.1))) [
  | true ↦ λ same known. refl
  | false ↦ λ same known. λ i. file_of ((thread_known new (file_record_of r.1).id ∙ ap is_some (known refl) ∙ sym (thread_known old (file_record_of r.1).id)) i) (same refl i) r.0 (file_record_of r.1)
] forks threads

-- of the item with an ID, whose thread is the same
pub same_item_at : (c d : Contents) (old new : Catalog) (q : ℕ) (r : Record) → item_id r.1 ≡ q → (is_dir r.1 ≡ false → d (file_record_of r.1) ≡ c (file_record_of r.1)) → thread_of new q ≡ thread_of old q → item_of d new r ≡ item_of c old r
same_item_at c d old new q r id forks threads = same_item_of c d old new r forks (λ file.
    let own : (file_record_of r.1).id ≡ q = sym (ap (λ (b : Bool). cond b (dir_record_of r.1).id (file_record_of r.1).id) file) ∙ id in
    ap (thread_of new) own ∙ threads ∙ sym (ap (thread_of old) own))

-- the item of a folder's record, in any catalog
pub folder_item : (c : Contents) (catalog : Catalog) (r : Record) → is_dir r.1 ≡ true → item_of c catalog r ≡ folder_of r.0 (dir_record_of r.1)
unfolding item_of
folder_item c catalog r e = ap (λ (b : Bool). cond b (folder_of r.0 (dir_record_of r.1)) (file_of (has_thread catalog (file_record_of r.1).id) (c (file_record_of r.1)) r.0 (file_record_of r.1))) e
