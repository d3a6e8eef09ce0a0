-- Items that come, go, and come under another key, with their threads.
use Rattle.std.proofs.Common.{◌≡◌, inl, inr, ⊎_elim, ℕ, ◌≤◌, Bool, true, false, ◌&&◌, cond, eqb, List, [], ◌∷◌, length, sym, ap, ◌∙◌, subst, refl, arith, Option, Some, None}
use Rattle.std.specs.Bool.{IsTrue}
use Rattle.std.specs.List.{find}
use Rattle.std.specs.Option.{option_map}
use Rattle.std.specs.declared.cmp.Ordering.{Ordering}
use Rattle.std.specs.declared.cmp.Ordering.TheVariants.{Less, Equal, Greater}
use Rattle.std.specs.Ordering.{nat_cmp, is_eq, ordering_then}
use Rattle.std.specs.Cmp.{ranked}
use Rattle.std.proofs.lemmas.Bool.{true≢false}
use Rattle.hfs_fields.specs.declared.key.CatKey.{CatKey}
use Rattle.hfs_fields.specs.declared.dir_record.DirRecord.{DirRecord}
use Rattle.hfs_fields.specs.declared.thread_record.ThreadKind.TheVariants as kind
use Rattle.hfs_fields.specs.Keys.{cat_cmp, cat_cmp_total}
use Rattle.hfs_fields.specs.Order.{name_cmp}
use Rattle.hfs_fields.specs.Records.{is_item, is_thread, begins_thread, new_thread}
use Rattle.hfs_fields.specs.RecordForms.{IsDirRecordValue, IsThreadRecordValue}
use Rattle.hfs_fields.specs.Each.{Each}
use Rattle.hfs_fields.specs.Members.{In}
use Rattle.hfs_fields.proofs.MemberLemmas.{found_in}
use Rattle.hfs_btree.specs.Tree.{Store}
use Rattle.hfs_btree.specs.Pairs.{lookup}
use Rattle.hfs_btree_edits.specs.Conditions.{IsNoLonger}
use Rattle.hfs_catalog.specs.Records.{Record, Catalog, is_thread_of}
use Rattle.hfs_catalog.specs.Tree.{catalog_of}
use Rattle.hfs_catalog.specs.Lookups.{thread_of, first_key}
use Rattle.hfs_catalog.specs.Sound.{IsRecord, AreNamesSound}
use Rattle.hfs_record_edits.specs.Swaps.{Swaps, list_of}
use Rattle.hfs_record_edits.proofs.SwapLemmas.{passes, swapped_each}
use Rattle.hfs_record_edits.proofs.KeepLemmas.{keeps_then}
use Rattle.hfs_record_edits.specs.Roots.{HasRoot}
use Rattle.hfs_record_edits.proofs.RootLemmas.{root_stays}
use Rattle.hfs_record_edits.specs.Bodies.{IfBody, turned_record}
use Rattle.hfs_record_edits.specs.Finds.{has_key, record_at, AreThreadsReadable}
use Rattle.hfs_record_edits.proofs.FindLemmas.{some_text, still_none, passed_by, item_no_thread, readable_threads}
use Rattle.hfs_record_edits.specs.RecordEdits.{RecordCame, RecordWent, RecordSet}
use Rattle.hfs_record_edits.specs.ItemEdits.{folder_record, folder_thread, FolderCame, ItemWent, Rekeyed, with_key, RecordMoved, ThreadTurned, ItemRekeyed}
use Rattle.hfs_record_edits.proofs.FoundBodies.{record_with}
use Rattle.hfs_fields.proofs.OrderLemmas.{eq_is}

-- ---- a folder that comes

module _ (dir : ℕ) (name : List ℕ) (folder : DirRecord) (old middle : Store) (first : RecordCame (folder_record dir name folder) old middle) where
  pub root_after : HasRoot (catalog_of old) → HasRoot (catalog_of middle)
  root_after has = root_stays None (Some (folder_record dir name folder)) (catalog_of old) (catalog_of middle) first.swap (λ r there. absurd there) has

  pub threadless_after : 1 ≤ length name → lookup cat_cmp (first_key folder.id) (catalog_of old) ≡ None → lookup cat_cmp (first_key folder.id) (catalog_of middle) ≡ None
  threadless_after named none =
      still_none (first_key folder.id) None (Some (folder_record dir name folder)) (catalog_of old) (catalog_of middle) first.swap
      (some_text folder.id (folder_record dir name folder) named, tt) none

  pub folder_came : (new : Store) → IsDirRecordValue folder → RecordCame (folder_thread dir name folder) middle new → IsThreadRecordValue (new_thread kind.Folder dir name) → FolderCame dir name folder old new
  folder_came new value second thread_value = record {
    keeps = keeps_then ((folder_record dir name folder).0 ∷ []) ((folder_thread dir name folder).0 ∷ []) old middle new first.keeps second.keeps;
    between = catalog_of middle;
    item_came = first.swap;
    thread_came = second.swap;
    value = value;
    thread_value = thread_value;
    most = omega (arith, first.took.most, second.took.most, first.took.most_depth);
    most_depth = omega (arith, first.took.most_depth, second.took.most_depth);
  }

-- ---- the item under a key

pub item_at : (key : CatKey) (catalog : Catalog) → IfBody (λ body. is_item body ≡ true) (lookup cat_cmp key catalog) → (r : Record) × (record_at key catalog ≡ Some r) × (is_item r.1 ≡ true)
item_at key catalog there = by (lookup cat_cmp key catalog) refl there
  where
    by : (o : Option (List ℕ)) → lookup cat_cmp key catalog ≡ o → IfBody (λ body. is_item body ≡ true) o → (r : Record) × (record_at key catalog ≡ Some r) × (is_item r.1 ≡ true)
    by None e h = absurd h
    by (Some body) e h = let r = record_with key catalog body e in (r.0, r.1, subst (λ (b : List ℕ). is_item b ≡ true) (sym r.2) h)

passes_by_items : (id : ℕ) (o : Option Record) (r : Record) → o ≡ Some r → is_item r.1 ≡ true → passes (is_thread_of id) o ≡ false
passes_by_items id o r is item = ap (passes (is_thread_of id)) is ∙ ap (λ (b : Bool). b && eqb r.0.parent id) (item_no_thread r.1 item)

module _ (key : CatKey) (old : Store) (there : IfBody (λ body. is_item body ≡ true) (lookup cat_cmp key (catalog_of old))) where
  abbrev went : Option Record
  went = record_at key (catalog_of old)

  module _ (middle : Store) (first : RecordWent (record_at key (catalog_of old)) old middle) where
    pub records_after : Each IsRecord (catalog_of old) → Each IsRecord (catalog_of middle)
    records_after records = swapped_each IsRecord (record_at key (catalog_of old)) None (catalog_of old) (catalog_of middle) first.swap records tt

    same_thread : (id : ℕ) → thread_of (catalog_of middle) id ≡ thread_of (catalog_of old) id
    same_thread id =
        let item = item_at key (catalog_of old) there in
        passed_by (is_thread_of id) (record_at key (catalog_of old)) None (catalog_of old) (catalog_of middle) first.swap (passes_by_items id (record_at key (catalog_of old)) item.0 item.1 item.2) refl

    pub item_went : (id : ℕ) (new : Store) → RecordWent (thread_of (catalog_of middle) id) middle new → ItemWent key id old new
    item_went id new second = record {
      keeps = keeps_then [] [] old middle new first.keeps second.keeps;
      between = catalog_of middle;
      item_went = first.swap;
      thread_went = subst (λ (o : Option Record). Swaps o None (catalog_of middle) (catalog_of new)) (same_thread id) second.swap;
      took = record { free = omega (arith, first.took.free, second.took.free); depth = omega (arith, first.took.depth, second.took.depth) };
    }

module _ (here to : CatKey) (tie : is_eq (cat_cmp here to) ≡ true) where
  same_key : (r : Record) → has_key to r ≡ has_key here r
  same_key r = ap is_eq (sym (cat_cmp_total.congr here to r.0 (eq_is (cat_cmp here to) tie)))

  pub equal_lookup : (catalog : Catalog) → lookup cat_cmp to catalog ≡ lookup cat_cmp here catalog
  equal_lookup [] = refl
  equal_lookup (r ∷ rest) = (λ i. cond (same_key r i) (Some r.1) (lookup cat_cmp to rest)) ∙ ap (cond (has_key here r) (Some r.1)) (equal_lookup rest)

  pub equal_record : (catalog : Catalog) → record_at to catalog ≡ record_at here catalog
  equal_record [] = refl
  equal_record (r ∷ rest) = (λ i. cond (same_key r i) (Some r) (record_at to rest)) ∙ ap (cond (has_key here r) (Some r)) (equal_record rest)

pub equal_parents : (x y : CatKey) → is_eq (cat_cmp x y) ≡ true → x.parent ≡ y.parent
equal_parents x y e = elim (nat_cmp x.parent y.parent) as (λ (o : Ordering). nat_cmp x.parent y.parent ≡ o → is_eq (ordering_then o (name_cmp x.name y.name)) ≡ true → x.parent ≡ y.parent) [
  | Less ↦ λ is h. absurd (true≢false (sym h))
  | Equal ↦ λ is h. ranked x.parent y.parent Equal (sym is)
  | Greater ↦ λ is h. absurd (true≢false (sym h))
] refl e

-- ---- an item under another key

module _ (here to : CatKey) (old : Store) (body : List ℕ) (found : lookup cat_cmp here (catalog_of old) ≡ Some body) where
  abbrev its : (r : Record) × (record_at here (catalog_of old) ≡ Some r) × (r.1 ≡ body)
  its = record_with here (catalog_of old) body found

  -- the record as it comes
  comes : Some (to, body) ≡ option_map (with_key to) (record_at here (catalog_of old))
  comes = (λ i. Some (to, sym its.2 i)) ∙ sym (ap (λ (o : Option Record). option_map (with_key to) o) its.1)

  pub equal_no_longer : is_eq (cat_cmp here to) ≡ true → IsNoLonger body (lookup cat_cmp to (catalog_of old))
  equal_no_longer tie = subst (IsNoLonger body) (sym (equal_lookup here to tie (catalog_of old) ∙ found)) (omega arith)

  pub moved_in_place : is_eq (cat_cmp here to) ≡ true → (new : Store) → RecordSet (to, body) old new → RecordMoved here to old new
  moved_in_place tie new h = record {
    keeps = h.keeps;
    moved =
        inl
        (subst (λ (o : Option Record). Swaps (record_at here (catalog_of old)) o (catalog_of old) (catalog_of new)) comes
        (subst (λ (o : Option Record). Swaps o (Some (to, body)) (catalog_of old) (catalog_of new)) (equal_record here to tie (catalog_of old)) h.swap));
    most = omega (arith, h.free);
    most_depth = omega (arith, h.depth);
    in_place = λ e. h.free;
  }

  module _ (middle : Store) (first : RecordWent (record_at here (catalog_of old)) old middle) where
    pub root_between : 2 ≤ here.parent → HasRoot (catalog_of old) → HasRoot (catalog_of middle)
    root_between low has = root_stays (record_at here (catalog_of old)) None (catalog_of old) (catalog_of middle) first.swap (high (record_at here (catalog_of old)) refl) has
      where
        high : (o : Option Record) → record_at here (catalog_of old) ≡ o → (r : Record) → In r (list_of o) → 2 ≤ r.0.parent
        high None e r there = absurd there
        high (Some q) e r there =
            ⊎_elim
            (λ (is : q ≡ r).
            let has_it = (found_in (has_key here) (catalog_of old) q e).1 in
            omega (arith, low, equal_parents here q.0 has_it, ap (λ (x : Record). x.0.parent) is))
            (λ (none : ⊥). absurd none)
            there

    pub absent_between : lookup cat_cmp to (catalog_of old) ≡ None → lookup cat_cmp to (catalog_of middle) ≡ None
    absent_between none = still_none to (record_at here (catalog_of old)) None (catalog_of old) (catalog_of middle) first.swap tt none

    pub moved_along : is_eq (cat_cmp here to) ≡ false → (new : Store) → RecordCame (to, body) middle new → RecordMoved here to old new
    moved_along other new second = record {
      keeps = keeps_then [] (to ∷ []) old middle new first.keeps second.keeps;
      moved = inr (catalog_of middle, first.swap, subst (λ (o : Option Record). Swaps None o (catalog_of middle) (catalog_of new)) comes second.swap);
      most = omega (arith, first.took.free, first.took.depth, second.took.most);
      most_depth = omega (arith, first.took.depth, second.took.most_depth);
      in_place = λ tie. absurd (true≢false (sym tie ∙ other));
    }

-- ---- and its thread

module _ (r s : Option Record) (old new : Catalog) where
  rekeyed_each : (P : Record → Type 0) → Rekeyed r s old new → Each P old → Each P (list_of s) → Each P new
  rekeyed_each P (inl swap) each own = swapped_each P r s old new swap each own
  rekeyed_each P (inr two) each own = swapped_each P None s two.0 new two.2 (swapped_each P r None old two.0 two.1 each tt) own

  rekeyed_find : (p : Record → Bool) → Rekeyed r s old new → passes p r ≡ false → passes p s ≡ false → find p new ≡ find p old
  rekeyed_find p (inl swap) out in_ = passed_by p r s old new swap out in_
  rekeyed_find p (inr two) out in_ = passed_by p None s two.0 new two.2 refl in_ ∙ passed_by p r None old two.0 two.1 out refl

module _ (id : ℕ) (here to : CatKey) (old middle : Store) (there : IfBody (λ body. is_item body ≡ true) (lookup cat_cmp here (catalog_of old))) (first : RecordMoved here to old middle) where
  abbrev item : (r : Record) × (record_at here (catalog_of old) ≡ Some r) × (is_item r.1 ≡ true)
  item = item_at here (catalog_of old) there

  abbrev came : Option Record
  came = option_map (with_key to) (record_at here (catalog_of old))

  is_came : option_map (with_key to) (record_at here (catalog_of old)) ≡ Some (to, item.0.1)
  is_came = ap (λ (o : Option Record). option_map (with_key to) o) item.1

  own : (P : Record → Type 0) → P (to, item.0.1) → Each P (list_of (option_map (with_key to) (record_at here (catalog_of old))))
  own P h = subst (λ (o : Option Record). Each P (list_of o)) (sym is_came) (h, tt)

  pub records_then : 1 ≤ length to.name → Each IsRecord (catalog_of old) → Each IsRecord (catalog_of middle)
  records_then named records =
      rekeyed_each (record_at here (catalog_of old)) (option_map (with_key to) (record_at here (catalog_of old))) (catalog_of old) (catalog_of middle) IsRecord first.moved records (own IsRecord (inl (item.2, named)))

  pub threads_then : AreNamesSound (catalog_of old) → AreThreadsReadable (catalog_of middle)
  threads_then names =
      rekeyed_each (record_at here (catalog_of old)) (option_map (with_key to) (record_at here (catalog_of old))) (catalog_of old) (catalog_of middle)
      (λ (r : Record). IsTrue (is_thread r.1) → IsTrue (begins_thread r.1)) first.moved (readable_threads (catalog_of old) names)
      (own (λ (r : Record). IsTrue (is_thread r.1) → IsTrue (begins_thread r.1)) (λ thread. absurd (true≢false (sym thread ∙ item_no_thread item.0.1 item.2))))

  thread_then : thread_of (catalog_of middle) id ≡ thread_of (catalog_of old) id
  thread_then =
      rekeyed_find (record_at here (catalog_of old)) (option_map (with_key to) (record_at here (catalog_of old))) (catalog_of old) (catalog_of middle) (is_thread_of id) first.moved
      (passes_by_items id (record_at here (catalog_of old)) item.0 item.1 item.2)
      (passes_by_items id (option_map (with_key to) (record_at here (catalog_of old))) (to, item.0.1) is_came item.2)

  pub item_rekeyed : (new : Store) → ThreadTurned id to middle new → ItemRekeyed id here to old new
  item_rekeyed new second = record {
    keeps = keeps_then (to ∷ []) (first_key id ∷ []) old middle new first.keeps second.keeps;
    between = catalog_of middle;
    item_moved = first.moved;
    thread_set = subst (λ (o : Option Record). Swaps o (option_map (turned_record id to) o) (catalog_of middle) (catalog_of new)) thread_then second.swap;
    value = λ thread is. second.value thread (thread_then ∙ is);
    most = omega (arith, first.most, second.free);
    most_depth = omega (arith, first.most_depth, second.depth);
    in_place = λ tie. second.free ∙ first.in_place tie;
  }
