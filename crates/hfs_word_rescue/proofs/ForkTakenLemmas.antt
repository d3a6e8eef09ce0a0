-- The bytes that are taken of a sound volume's forks are those that the volume has.
use Rattle.std.proofs.Common.{◌≡◌, ◌≢◌, ◌⊎◌, inl, inr, ⊎_elim, ℕ, Bool, true, false, not, cond, ◌&&◌, ◌==◌, if◌then◌else◌, List, Option, Some, None, Result, Ok, Err, refl, sym, ap, ◌∙◌}
use Rattle.std.specs.Prelude.{slice_get}
use Rattle.std.specs.Option.{option_and_then, option_map_or, is_some}
use Rattle.std.specs.Ordering.{is_eq}
use Rattle.std.proofs.lemmas.Bool.{and_from, eq-eqb, or_cases, true≢false}
use Rattle.hfs_fields.specs.Names.{is_item_name}
use Rattle.hfs_fields.specs.Order.{name_order, same_name}
use Rattle.hfs_fields.specs.Records.{is_dir, is_file, is_item, item_id, dir_record_of, file_record_of}
use Rattle.hfs_fields.specs.Each.{Each}
use Rattle.hfs_fields.proofs.MemberLemmas.{each_in}
use Rattle.hfs_model.specs.Children.{entries_of}
use Rattle.hfs_model.specs.Children as model
use Rattle.hfs_model.specs.Volume.{Entry}
use Rattle.hfs_model.specs.declared.call.Fork.{Fork}
use Rattle.hfs_model.specs.declared.call.Fork.TheVariants.{DataFork, ResFork}
use Rattle.hfs_model.specs.declared.reply.Reply.{Reply}
use Rattle.hfs_model.specs.declared.codes.TheConstants.{BAD_NAME, NOT_A_FOLDER, NOT_FOUND}
use Rattle.hfs_model.specs.Replies.{refusal}
use Rattle.hfs_catalog.specs.Items.{Contents, file_of, folder_of, item_of}
use Rattle.hfs_catalog.specs.Lookups.{child_named}
use Rattle.hfs_catalog.specs.Records.{Record, Catalog, has_thread, item_with, items_of as items_in}
use Rattle.hfs_catalog.specs.Sound.{HasPlace}
use Rattle.hfs_catalog.proofs.Found.{only}
use Rattle.hfs_space.specs.Owners.{forks_of_file}
use Rattle.hfs_space.specs.Sound.{IsForkSound}
use Rattle.hfs_check.specs.Parts.{Blocks, catalog_in, mdb_in, overflow_in}
use Rattle.hfs_check.specs.Sound.{AreBlocksSound}
use Rattle.hfs_check.specs.VolumeOf.{bytes_in, contents_in, volume_in}
use Rattle.hfs_items.specs.Queries.{AreEntries}
use Rattle.hfs_items.specs.Told.{file_named, is_folder, only_file, only_folder, pick}
use Rattle.hfs_items.proofs.QueryLawsProved.{catalog_answers-entries}
use Rattle.hfs_items.proofs.NamedFileLemmas.{answer_of, answer_of-file_named, forks_in}
use Rattle.hfs_items.proofs.QueriesLaws.{AreWholeBlocks}
use Rattle.hfs_image.specs.Forks.{fork_of_kind, named_fork}
use Rattle.hfs_remains_forks.specs.Forks.{fork_of}
use Rattle.hfs_remains_forks.specs.Laws.{HasBlocks, taken_bytes as fork_taken}
use Rattle.hfs_remains_forks.proofs.RemainsLawsProved.{sound_forks_are_whole}
use Rattle.hfs_word_rescue.proofs.ItemWayLemmas.{item-of}

-- ---- forks by name

kind-found : (contents : Contents) (catalog : Catalog) (fork : Fork) (r : Record)
    → answer_of Err (λ f. Ok (pick fork (contents f))) (only_file (Some r)) ≡ fork_of_kind fork (item_of contents catalog r).kind
unfolding item_of folder_of file_of
kind-found contents catalog fork r = elim (is_dir r.1) as (λ (b : Bool). ◌≡◌ {A = Result (List ℕ) Reply} (answer_of Err (λ f. Ok (pick fork (contents f))) (cond b (Err (refusal NOT_FOUND)) (Ok (file_record_of r.1))))
    (fork_of_kind fork (cond b (folder_of r.0 (dir_record_of r.1)) (file_of (has_thread catalog (file_record_of r.1).id) (contents (file_record_of r.1)) r.0 (file_record_of r.1))).kind)) [
      | true ↦ refl
      | false ↦ elim fork as (λ (f : Fork). ◌≡◌ {A = Result (List ℕ) Reply} (Ok (pick f (contents (file_record_of r.1))))
          (fork_of_kind f (file_of (has_thread catalog (file_record_of r.1).id) (contents (file_record_of r.1)) r.0 (file_record_of r.1)).kind)) [ DataFork ↦ refl | ResFork ↦ refl ]
    ]

fork-named : (contents : Contents) (catalog : Catalog) (es : List Entry) → AreEntries contents catalog es → (fork : Fork) (dir : ℕ) (name : List ℕ)
    → answer_of Err (λ f. Ok (pick fork (contents f))) (file_named catalog dir name) ≡ named_fork es dir name fork
unfolding named_fork
fork-named contents catalog es are fork dir name =
    answer_of-file_named contents catalog es are Err (λ f. Ok (pick fork (contents f))) (fork_of_kind fork) (kind-found contents catalog fork) dir name

module _ (total : ℕ) (blocks : Blocks) (whole : AreWholeBlocks total blocks) (h : AreBlocksSound total blocks) where
  abbrev catalog : Catalog
  catalog = catalog_in blocks

  module _ (i : ℕ) (r : Record) (is : slice_get (items_in catalog) i ≡ Some r) (other : item_id r.1 ≢ 2) where
    named : is_item_name r.0.name ≡ true
    named = let two = item-of catalog i r is in each_in (λ (q : Record). is_item q.1 ≡ true → is_item_name q.0.name ≡ true) catalog r h.names.records.items two.0 two.1

    folder-some : (o : Option Record) → item_with catalog r.0.parent ≡ o → option_map_or (λ (q : Record). is_dir q.1) o false ≡ true → is_folder catalog r.0.parent ≡ true
    folder-some None so dir = absurd (true≢false (sym dir))
    folder-some (Some q) so dir =
        ap (λ (o : Option Record). is_some (option_and_then only_folder o)) so ∙ ap (λ (b : Bool). is_some (if b then Some q else None)) dir

    folder-is : is_folder catalog r.0.parent ≡ true
    folder-is =
        let two = item-of catalog i r is in
        by (each_in (λ (q : Record). is_item q.1 ≡ true → (item_id q.1 ≡ 2) ⊎ HasPlace catalog q) catalog r h.places.records.parents two.0 two.1)
      where
        by : (item_id r.1 ≡ 2) ⊎ HasPlace catalog r → is_folder catalog r.0.parent ≡ true
        by (inl two) = absurd (other two)
        by (inr place) = folder-some (item_with catalog r.0.parent) refl place.parent

    child-is : child_named catalog r.0.parent r.0.name ≡ Some r
    child-is =
        let two = item-of catalog i r is in
        only catalog r.0.parent r.0.name r h.places.records.rises two.0
        (and_from (is_item r.1 && (r.0.parent == r.0.parent)) (same_name r.0.name r.0.name)
        (and_from (is_item r.1) (r.0.parent == r.0.parent) two.1 (eq-eqb r.0.parent r.0.parent refl))
        (ap is_eq (name_order.itself r.0.name)))

    module _ (file : is_dir r.1 ≡ false) where
      pub file-is : file_named catalog r.0.parent r.0.name ≡ Ok (file_record_of r.1)
      file-is =
          ap (λ (b : Bool). if not b then Err (refusal BAD_NAME) else if not (is_folder catalog r.0.parent) then Err (refusal NOT_A_FOLDER) else only_file (child_named catalog r.0.parent r.0.name)) named
          ∙ ap (λ (b : Bool). if not b then Err (refusal NOT_A_FOLDER) else only_file (child_named catalog r.0.parent r.0.name)) folder-is
          ∙ ap only_file child-is
          ∙ ap (λ (b : Bool). if b then Err (refusal NOT_FOUND) else Ok (file_record_of r.1)) file

      pub fork-is : (fork : Fork) → named_fork (entries_of (volume_in blocks)) r.0.parent r.0.name fork ≡ Ok (pick fork (contents_in blocks (file_record_of r.1)))
      fork-is fork =
          sym (fork-named (contents_in blocks) catalog (entries_of (volume_in blocks)) (catalog_answers-entries total blocks whole h) fork r.0.parent r.0.name)
          ∙ ap (answer_of Err (λ f. Ok (pick fork (contents_in blocks f)))) file-is

      forks-sound : Each (IsForkSound (mdb_in blocks) (overflow_in blocks)) (forks_of_file (file_record_of r.1))
      forks-sound = forks_in total blocks h r.0.parent r.0.name (file_record_of r.1) file-is

      -- what is taken is what the volume has
      pub data-taken : (image : List ℕ) → HasBlocks image total blocks → fork_taken total image (overflow_in blocks) (mdb_in blocks) (fork_of (file_record_of r.1).id 0 (file_record_of r.1).«data») ≡ pick DataFork (contents_in blocks (file_record_of r.1))
      unfolding contents_in bytes_in forks_of_file
      data-taken = (sound_forks_are_whole total blocks h (fork_of (file_record_of r.1).id 0 (file_record_of r.1).«data») forks-sound.0).bytes

      pub resource-taken : (image : List ℕ) → HasBlocks image total blocks → fork_taken total image (overflow_in blocks) (mdb_in blocks) (fork_of (file_record_of r.1).id 255 (file_record_of r.1).resource) ≡ pick ResFork (contents_in blocks (file_record_of r.1))
      unfolding contents_in bytes_in forks_of_file
      resource-taken = (sound_forks_are_whole total blocks h (fork_of (file_record_of r.1).id 255 (file_record_of r.1).resource) forks-sound.1.0).bytes

      pub file-there : is_file r.1 ≡ true
      file-there = ⊎_elim
          (λ (dir : is_dir r.1 ≡ true). absurd (true≢false (sym dir ∙ file)))
          (λ (so : is_file r.1 ≡ true). so)
          (or_cases (is_dir r.1) (is_file r.1) (item-of catalog i r is).1)
