-- A file's record that was put with the flag, and then a thread that came or went.
use Rattle.std.proofs.Common.{◌≡◌, inl, inr, ⊎_elim, ◌≤◌, Bool, true, false, [], ◌∷◌, refl, ap, subst, arith, Option, Some, None}
use Rattle.std.specs.Prelude.{IsTrue}
use Rattle.std.proofs.lemmas.Bool.{or_right}
use Rattle.hfs_fields.specs.declared.key.CatKey.{CatKey}
use Rattle.hfs_fields.specs.declared.file_record.FileRecord.{FileRecord}
use Rattle.hfs_fields.specs.declared.thread_record.ThreadKind.TheVariants as kind
use Rattle.hfs_fields.specs.Keys.{cat_cmp}
use Rattle.hfs_fields.specs.Names.{is_item_name}
use Rattle.hfs_fields.specs.Records.{is_dir, is_file, new_thread}
use Rattle.hfs_fields.specs.RecordForms.{IsFileRecordValue, file_record_bytes, IsThreadRecordValue}
use Rattle.hfs_fields.specs.Each.{Each}
use Rattle.hfs_fields.specs.Members.{In}
use Rattle.hfs_fields.proofs.MemberLemmas.{found_in}
use Rattle.hfs_btree.specs.Pairs.{lookup}
use Rattle.hfs_btree.specs.Tree.{Store}
use Rattle.hfs_catalog.specs.Records.{Record}
use Rattle.hfs_catalog.specs.Lookups.{first_key, thread_of}
use Rattle.hfs_catalog.specs.Sound.{IsRecord}
use Rattle.hfs_catalog.specs.Tree.{catalog_of}
use Rattle.hfs_record_edits.specs.Finds.{has_key, record_at}
use Rattle.hfs_record_edits.proofs.FindLemmas.{some_text, still_none}
use Rattle.hfs_record_edits.proofs.KeepLemmas.{keeps_then}
use Rattle.hfs_record_edits.specs.RecordEdits.{RecordCame, RecordWent, RecordSet}
use Rattle.hfs_record_edits.specs.Roots.{HasRoot}
use Rattle.hfs_record_edits.proofs.RootLemmas.{root_stays}
use Rattle.hfs_record_edits.specs.Swaps.{list_of}
use Rattle.hfs_record_edits.proofs.SwapLemmas.{swapped_each}
use Rattle.hfs_record_edits.specs.FileIdLaws.{with_thread_flag}
use Rattle.hfs_call_patches.specs.FileIds.{flagged_file, file_thread, FileIdCame, FileIdWent}
use Rattle.hfs_record_edits.proofs.NewItems.{named_long}
use Rattle.hfs_record_edits.proofs.ItemSteps.{equal_parents}
use Rattle.hfs_record_edits.proofs.Made.{file-is}

-- the file's record as the program has it, which is the one with the flag
module _ (there : Bool) (key : CatKey) (file written : FileRecord) (same : written ≡ with_thread_flag there file) (named : IsTrue (is_item_name key.name)) (old middle : Store)
    (value : IsFileRecordValue written) (was_set : RecordSet (key, file_record_bytes written) old middle) where
  abbrev went : Option Record
  went = record_at key (catalog_of old)

  set : RecordSet (flagged_file there key file) old middle
  set = subst (λ (f : FileRecord). RecordSet (key, file_record_bytes f) old middle) same was_set

  flagged_value : IsFileRecordValue (with_thread_flag there file)
  flagged_value = subst IsFileRecordValue same value

  went_low : 2 ≤ key.parent → (o : Option Record) → record_at key (catalog_of old) ≡ o → (r : Record) → In r (list_of o) → 2 ≤ r.0.parent
  went_low low None e r there = absurd there
  went_low low (Some q) e r there = ⊎_elim
      (λ (here : q ≡ r). let parents = equal_parents key q.0 (found_in (has_key key) (catalog_of old) q e).1 in omega (arith, low, parents, ap (λ (x : Record). x.0.parent) here))
      (λ later. absurd later)
      there

  pub root_between : 2 ≤ key.parent → HasRoot (catalog_of old) → HasRoot (catalog_of middle)
  root_between low has = root_stays (record_at key (catalog_of old)) (Some (flagged_file there key file)) (catalog_of old) (catalog_of middle) set.swap (went_low low (record_at key (catalog_of old)) refl) has

  pub absent_between : lookup cat_cmp (first_key file.id) (catalog_of old) ≡ None → lookup cat_cmp (first_key file.id) (catalog_of middle) ≡ None
  absent_between none =
      still_none (first_key file.id) (record_at key (catalog_of old)) (Some (flagged_file there key file)) (catalog_of old) (catalog_of middle) set.swap
      (some_text file.id (flagged_file there key file) (named_long key.name named), tt) none

  pub records_between : Each IsRecord (catalog_of old) → Each IsRecord (catalog_of middle)
  records_between records =
      let bytes = file_record_bytes (with_thread_flag there file) in
      swapped_each IsRecord (record_at key (catalog_of old)) (Some (flagged_file there key file)) (catalog_of old) (catalog_of middle) set.swap records
      (inl (or_right (is_dir bytes) (is_file bytes) (file-is (with_thread_flag there file) flagged_value), named_long key.name named), tt)

-- ---- the thread of a file that got one

module _ (key : CatKey) (file written : FileRecord) (same : written ≡ with_thread_flag true file) (named : IsTrue (is_item_name key.name)) (old middle new : Store)
    (value : IsFileRecordValue written) (was_set : RecordSet (key, file_record_bytes written) old middle) where
  pub file_id_came : RecordCame (file_thread key file) middle new → IsThreadRecordValue (new_thread kind.File key.parent key.name) → FileIdCame key file old new
  file_id_came came thread_value = record {
    keeps = record {
      given = first_key file.id ∷ key ∷ [];
      keeps = keeps_then (key ∷ []) (first_key file.id ∷ []) old middle new was_set.keeps came.keeps;
      named = (inl refl, (inr named, tt));
    };
    between = catalog_of middle;
    file_set = (set true key file written same named old middle value was_set).swap;
    thread_came = came.swap;
    value = flagged_value true key file written same named old middle value was_set;
    thread_value = thread_value;
  }

-- ---- and of one that lost it

module _ (key : CatKey) (file written : FileRecord) (same : written ≡ with_thread_flag false file) (named : IsTrue (is_item_name key.name)) (old middle new : Store)
    (value : IsFileRecordValue written) (was_set : RecordSet (key, file_record_bytes written) old middle) where
  pub file_id_went : RecordWent (thread_of (catalog_of middle) file.id) middle new → FileIdWent key file old new
  file_id_went gone_thread = record {
    keeps = record {
      given = key ∷ [];
      keeps = keeps_then (key ∷ []) [] old middle new was_set.keeps gone_thread.keeps;
      named = (inr named, tt);
    };
    between = catalog_of middle;
    file_set = (set false key file written same named old middle value was_set).swap;
    thread_went = gone_thread.swap;
    value = flagged_value false key file written same named old middle value was_set;
  }
