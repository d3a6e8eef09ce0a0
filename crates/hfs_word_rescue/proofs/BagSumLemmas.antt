-- What is told of an image is in its bag.
use Rattle.std.proofs.Common.{◌≡◌, ℕ, ◌-◌, ◌^◌, Bool, false, if◌then◌else◌, true, List, [], ◌∷◌, map, min, zero, suc, Option, None, Some, sym, ap, subst, ◌∙◌}
use Rattle.std.specs.Prelude.{IsTrue, slice_get, slice_index_or}
use Rattle.hfs_fields.specs.declared.mdb.Mdb.{Mdb}
use Rattle.hfs_fields.specs.Records.{file_record_of, is_dir}
use Rattle.hfs_remains_forks.specs.Finds.{found_items, found_overflow, found_records}
use Rattle.hfs_texts.specs.NameLaws.{is_bytes}
use Rattle.hfs_remains_places.specs.Laws.{AreThings}
use Rattle.hfs_remains_places.specs.Things.{things_of}
use Rattle.hfs_remains_forks.specs.declared.shares.FileShares.{FileShares}
use Rattle.hfs_remains_forks.specs.Forks.{both_forks, fork_of}
use Rattle.hfs_remains_forks.specs.Records.{namings_of, thing_of}
use Rattle.hfs_remains_forks.specs.Verdicts.{item_shares, room_behind_item, shares_of}
use Rattle.hfs_remains.specs.declared.catalog.FoundRecord.{FoundRecord}
use Rattle.hfs_rescue_items.specs.declared.found.Found.{Found}
use Rattle.hfs_rescue_items.specs.Laws.{IsOfRecords}
use Rattle.hfs_rescue_items.specs.Sums.{files_at, folders_at, whole_at}
use Rattle.hfs_rescue_items.proofs.LawsProved.{payloads_have_their_sums, plans_count_items}
use Rattle.hfs_space.specs.Extents.{Overflow}
use Rattle.hfs_word_rescue.specs.Answers.{found_sums}
use Rattle.hfs_word_rescue.specs.Found.{IsFoundOf}
use Rattle.hfs_word_rescue.specs.Laws.{AreSumsOfBag}
use Rattle.hfs_word_rescue.proofs.SoundFoundLemmas.{dir-no-file}

same-item : (x y : FoundRecord) → Some x ≡ Some y → x ≡ y
same-item x y same = cc

no-item : {X : Type 0} (item : FoundRecord) → None ≡ Some item → X
no-item item none = cc

-- a folder has no forks
folder-none : (records : Overflow) (mdb : Mdb) (room : ℕ) (items : List FoundRecord) (i : ℕ) (item : FoundRecord) → slice_get items i ≡ Some item
    → both_forks item.entry.1 ≡ None → slice_index_or (shares_of records mdb room items) i None ≡ None
folder-none records mdb room [] i item there none = no-item item there
folder-none records mdb room (x ∷ items) zero item there none =
    ap (λ (y : FoundRecord). item_shares records mdb room y.old (both_forks y.entry.1)) (same-item x item there) ∙ ap (item_shares records mdb room item.old) none
folder-none records mdb room (x ∷ items) (suc i) item there none =
    folder-none records mdb (room_behind_item records mdb room (both_forks x.entry.1)) items i item there none

no-forks : (body : List ℕ) → is_dir body ≡ true → both_forks body ≡ None
no-forks body dir =
    let file = file_record_of body in
    ap (λ (b : Bool). if b then Some (fork_of file.id 0 file.«data», fork_of file.id 255 file.resource) else None) (dir-no-file body dir)

module _ (image : List ℕ) (limit : ℕ) (found : Found) (is : IsFoundOf image limit found) (things : AreThings found.places.now) where
  of-records : IsOfRecords found (found_records image found.mdb.now)
  of-records = record {
    places_are =
        is.places_are
        ∙ ap (λ (items : List FoundRecord). things_of (map thing_of items) (namings_of (found_records image found.mdb.now))) (sym is.items_are);
    things = things;
    folders = λ i item there dir.
        ap (λ (shares : List (Option FileShares)). slice_index_or shares i None) is.shares_are
        ∙ folder-none (found_overflow image found.mdb.now) found.mdb.now limit (found_items image found.mdb.now) i item
        (ap (λ (items : List FoundRecord). slice_get items i) (sym is.items_are) ∙ there) (no-forks item.entry.1 dir);
  }

  pub sums_of_bag : AreSumsOfBag image found (found_sums found)
  sums_of_bag =
      let records = found_records image found.mdb.now in
      let payload = payloads_have_their_sums image found records of-records in
      record {
        files_are = sym (plans_count_items found records of-records (files_at found));
        folders_are = sym (plans_count_items found records of-records (folders_at found));
        whole_are = sym (plans_count_items found records of-records (whole_at found));
        doubles_are = payload.doubles_are;
        bytes_are = ap (λ (n : ℕ). min n (2 ^ 64 - 1)) (sym payload.bytes_are);
      }
