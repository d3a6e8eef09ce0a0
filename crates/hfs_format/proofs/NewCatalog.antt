-- The catalog of a new volume is sound: the root folder and its thread.
use Rattle.std.proofs.Common.{◌≡◌, ℕ, ◌+◌, ◌-◌, inl, inr, Bool, true, false, cond, ◌&&◌, ◌||◌, List, [], ◌∷◌, Some, map, refl, sym, ap, subst, ◌∙◌, arith}
use Rattle.std.specs.Prelude.{IsTrue, ◌==◌, find}
use Rattle.std.specs.Ordering.{is_eq}
use Rattle.std.proofs.lemmas.List.{append-nil}
use Rattle.std.proofs.lemmas.Bool.{and_parts, leb-true, cond-true}
use Rattle.hfs_fields.specs.Names.{is_item_name}
use Rattle.hfs_fields.specs.Order.{same_name, name_order}
use Rattle.hfs_fields.specs.Records.{is_dir, is_file, is_item, is_thread, is_dir_thread, is_file_thread, begins_thread, item_id, dir_record_of, thread_record_of, new_dir, new_thread}
use Rattle.hfs_fields.specs.RecordForms.{dir_record_bytes, IsThreadRecordValue, thread_record_bytes}
use Rattle.hfs_fields.proofs.RecordFormLemmas.{is_dir-written, dir_record_of-written, length-thread_record_bytes, thread_record_of-written, begins_thread-written}
use Rattle.hfs_fields.specs.declared.dir_record.DirRecord.{DirRecord}
use Rattle.hfs_fields.specs.declared.thread_record.ThreadRecord.{ThreadRecord}
use Rattle.hfs_fields.specs.declared.thread_record.ThreadKind.TheVariants.{Folder}
use Rattle.hfs_fields.specs.Each.{Each}
use Rattle.hfs_btree.specs.Sound.{IsDistinct}
use Rattle.hfs_catalog.specs.Records.{items_of, has_id, item_with, has_thread, valence_of}
use Rattle.hfs_catalog.specs.Sound.{EachFolder, IsRecord, AreIdsSound, AreNamesSound, LeadsTo, ArePlacesSound, HasValence, counts_of, AreCountsSound}
use Rattle.hfs_format.specs.declared.layout.Layout.{Layout}
use Rattle.hfs_format.specs.NewMdb.{new_mdb}
use Rattle.hfs_format.specs.NewTrees.{root_directory}
use Rattle.hfs_format.proofs.NewVolumeLemmas.{IsNewVolume}
use Rattle.hfs_format.proofs.NewBlocks.{root_directory-value, root_thread-value}
use Rattle.hfs_format.proofs.NewFiles.{root_pair, root_thread_pair, new_catalog, new_catalog-rises}

absurd-from : {P : Type 0} (b : Bool) → b ≡ false → IsTrue b → P
absurd-from b fails holds = absurd (let e : true ≡ false = sym holds ∙ fails in cc)

module _ (volume : Layout) (ok : IsNewVolume volume) where
  -- ---- the two bodies

  abbrev root_body : List ℕ
  root_body = dir_record_bytes (root_directory volume.moment)

  abbrev thread_body : List ℕ
  thread_body = thread_record_bytes (new_thread Folder 1 volume.name)

  thread-value : IsThreadRecordValue (new_thread Folder 1 volume.name)
  thread-value = root_thread-value volume.name (omega (arith, ok.name))

  pub root-folder : is_dir root_body ≡ true
  root-folder = is_dir-written (root_directory volume.moment) (root_directory-value volume.moment ok.moment)

  pub root-no_file : is_file root_body ≡ false
  unfolding dir_record_bytes
  root-no_file = refl

  root-no_thread : is_thread root_body ≡ false
  unfolding dir_record_bytes
  root-no_thread = refl

  root-item : is_item root_body ≡ true
  root-item = λ i. root-folder i || is_file root_body

  thread-no_item : is_item thread_body ≡ false
  unfolding thread_record_bytes new_thread
  thread-no_item = refl

  thread-no_folder : is_dir thread_body ≡ false
  unfolding thread_record_bytes new_thread
  thread-no_folder = refl

  pub thread-no_file : is_file thread_body ≡ false
  unfolding thread_record_bytes new_thread
  thread-no_file = refl

  thread-of_folder : is_dir_thread thread_body ≡ true
  unfolding thread_record_bytes new_thread
  thread-of_folder = ap (λ n. n == 46) (length-thread_record_bytes (new_thread Folder 1 volume.name) thread-value)

  thread-is : is_thread thread_body ≡ true
  thread-is = ap (λ b. b || is_file_thread thread_body) thread-of_folder

  pub root-read : dir_record_of root_body ≡ root_directory volume.moment
  root-read =
      ap dir_record_of (sym (append-nil root_body)) ∙ dir_record_of-written (root_directory volume.moment) [] (root_directory-value volume.moment ok.moment)

  thread-read : thread_record_of thread_body ≡ new_thread Folder 1 volume.name
  thread-read = ap thread_record_of (sym (append-nil thread_body)) ∙ thread_record_of-written (new_thread Folder 1 volume.name) [] thread-value

  thread-begins : begins_thread thread_body ≡ true
  thread-begins = ap begins_thread (sym (append-nil thread_body)) ∙ begins_thread-written (new_thread Folder 1 volume.name) [] thread-value

  pub root-id : item_id root_body ≡ 2
  unfolding new_dir
  root-id = cond-true (is_dir root_body) _ _ root-folder ∙ ap (λ (d : DirRecord). d.id) root-read

  -- ---- what is looked up

  pub items_of-new : items_of (new_catalog volume) ≡ root_pair volume ∷ []
  items_of-new = λ i. cond (root-item i) (root_pair volume ∷ cond (thread-no_item i) (root_thread_pair volume ∷ []) []) (cond (thread-no_item i) (root_thread_pair volume ∷ []) [])

  item_with-new : item_with (new_catalog volume) 2 ≡ Some (root_pair volume)
  item_with-new = λ i. cond (root-item i && (root-id i == 2)) (Some (root_pair volume)) (find (has_id 2) (root_thread_pair volume ∷ []))

  has_thread-new : (id : ℕ) → id ≡ 2 → has_thread (new_catalog volume) id ≡ true
  has_thread-new id e =
      ap (has_thread (new_catalog volume)) e ∙ (λ i. (root-no_thread i && (1 == 2)) || ((thread-is i && (2 == 2)) || false))

  no_children : (id : ℕ) → id ≡ 2 → valence_of (new_catalog volume) id ≡ 0
  no_children id e =
      ap (valence_of (new_catalog volume)) e
      ∙ (λ i. 0 + cond (root-item i && (1 == 2)) 1 0 + cond (thread-no_item i && (2 == 2)) 1 0)

  -- ---- the parts

  pub new-records : Each IsRecord (new_catalog volume)
  new-records =
      let some = leb-true _ _ (and_parts _ _ (and_parts _ _ ok.item_name).0).0 in
      (inl (root-item, some), (inr (thread-is, refl), tt))

  pub new-ids : AreIdsSound 16 (new_catalog volume)
  new-ids = record {
    each = (λ h. inl (record { id = root-id; folder = root-folder; parent = refl }), (λ h. absurd-from _ thread-no_item h, tt));
    distinct = subst IsDistinct (sym (ap (map (λ r. item_id r.1)) items_of-new)) (tt, tt);
    root = (root_pair volume, item_with-new);
  }

  pub new-names : AreNamesSound (new_catalog volume)
  unfolding new_thread
  new-names = record {
    items = (λ h. ok.item_name, (λ h. absurd-from _ thread-no_item h, tt));
    threads = (
      λ h. absurd-from _ root-no_thread h,
      (λ h. (thread-begins, ap (λ (t : ThreadRecord). is_item_name t.name) thread-read ∙ ok.item_name), tt),
    );
  }

  leads : LeadsTo (root_pair volume) (root_thread_pair volume)
  unfolding new_thread
  leads = record {
    kind = thread-of_folder ∙ sym root-folder;
    parent = ap (λ (t : ThreadRecord). t.parent) thread-read;
    name = ap (λ (t : ThreadRecord). same_name volume.name t.name) thread-read ∙ ap is_eq (name_order.itself volume.name);
  }

  pub new-places : ArePlacesSound (new_catalog volume)
  new-places = record {
    rises = new_catalog-rises volume;
    parents = (λ h. inl root-id, (λ h. absurd-from _ thread-no_item h, tt));
    threaded = (λ h. has_thread-new _ root-id, (λ h. absurd-from _ thread-no_folder h, tt));
    threads = (λ h. absurd-from _ root-no_thread h, (λ h. (root_pair volume, item_with-new, leads), tt));
  }

  pub new-valences : EachFolder (HasValence (new_catalog volume)) (new_catalog volume)
  unfolding new_dir
  new-valences =
      let none = ap (λ (d : DirRecord). d.valence) root-read in
      (λ h. record { counted = none ∙ sym (no_children _ root-id); short = omega arith }, (λ h. absurd-from _ thread-no_folder h, tt))

  -- ---- the whole

  -- and the new master directory block counts it right
  pub new_counts-sound : AreCountsSound (new_mdb volume) (new_catalog volume)
  unfolding counts_of new_mdb
  new_counts-sound =
      let no_file = sym root-no_file in
      let no_thread_file = sym thread-no_file in
      let folder = sym root-folder in
      let no_folder = sym thread-no_folder in
      record {
        root_files = λ i. 0 + cond (no_file i && (1 == 2)) 1 0 + cond (no_thread_file i && (2 == 2)) 1 0;
        root_folders = λ i. 0 + cond (folder i && (1 == 2)) 1 0 + cond (no_folder i && (2 == 2)) 1 0;
        files = λ i. 0 + cond (no_file i) 1 0 + cond (no_thread_file i) 1 0;
        folders = λ i. 0 + cond (folder i) 1 0 + cond (no_folder i) 1 0 - 1;
      }
