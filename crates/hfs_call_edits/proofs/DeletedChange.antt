-- What a Delete answers, and the change that it makes of an edited volume.
use Rattle.std.proofs.Common.{◌≡◌, ℕ, ℤ, List, refl, sym, ◌∙◌, ap, subst, None, Ok, Err, Result}
use Rattle.std.specs.FinMap as map
use Rattle.hfs_fields.specs.declared.key.CatKey.{CatKey}
use Rattle.hfs_fields.specs.declared.dir_record.DirRecord.{DirRecord}
use Rattle.hfs_fields.specs.declared.file_record.FileRecord.{FileRecord}
use Rattle.hfs_fields.specs.declared.mdb.Mdb.{Mdb}
use Rattle.hfs_fields.specs.Counts.{with_counts}
use Rattle.hfs_blocks.specs.Layers.{Numbered, changes, over, AreWithin}
use Rattle.hfs_model.specs.declared.call.Call.TheVariants as call
use Rattle.hfs_model.specs.declared.reply.Value.TheVariants as answer
use Rattle.hfs_model.specs.Choices.{to_delete}
use Rattle.hfs_model.specs.Changes.{refused, change, delete, touched}
use Rattle.hfs_model.specs.Replies.{success}
use Rattle.hfs_model.specs.Step.{step}
use Rattle.hfs_model.specs.Volume.{Volume, Entry}
use Rattle.hfs_check.specs.Parts.{Blocks, mdb_in}
use Rattle.hfs_check.specs.Sound.{AreBlocksSound}
use Rattle.hfs_check.specs.VolumeOf.{volume_in}
use Rattle.hfs_record_edits.specs.Laws.{CatalogEditsAreSteps}
use Rattle.hfs_record_edits.specs.RemovalLaws.{without_folder}
use Rattle.hfs_call_patches.specs.Deleting.{MakesFolderDeletion, IsFolderDeletion, MakesFileDeletion, IsFileDeletion}
use Rattle.hfs_call_patches.specs.CallChanges.{IsChangeOf}
use Rattle.hfs_call_edits.specs.Edits.{IsEditOf}
use Rattle.hfs_call_patches.specs.declared.change.Change.{Change}
use Rattle.hfs_call_edits.proofs.Edited.{none_wanted}

module _ (v : Volume) (dir now : ℕ) (name : List ℕ) where
  pub delete_refused : (code : ℤ) → to_delete v dir name ≡ Err code → step v (call.Delete dir name now) ≡ refused v code
  unfolding delete
  delete_refused code e = ap (λ (c : Result Entry ℤ). change v c (λ e m. touched (map.remove m e.0) dir now) now) e

  pub delete_accepted : (entry : Entry) → to_delete v dir name ≡ Ok entry → (step v (call.Delete dir name now)).1 ≡ success answer.Nothing
  unfolding delete
  delete_accepted entry e = ap (λ (c : Result Entry ℤ). (change v c (λ e m. touched (map.remove m e.0) dir now) now).1) e

module _ {B : Type 0} (blocks : B → Blocks) (totals : B → ℕ) (value own : B) (view_is : own ≡ value) where
  pub folder_change : CatalogEditsAreSteps → (dir now : ℕ) (key : CatKey) (folder : DirRecord) (mdb counts : Mdb) (patch : Numbered) → mdb ≡ mdb_in (blocks value) → counts ≡ without_folder dir now mdb
      → AreBlocksSound (totals value) (blocks value) → AreWithin (changes patch) (totals own) → MakesFolderDeletion dir key folder now (blocks own) (over (changes patch) (blocks own))
      → IsFolderDeletion dir key folder now (totals value) (blocks value) (record { patch = patch; counts = counts; written = None; value = answer.Nothing })
  folder_change law dir now key folder mdb counts patch at is sound within makes name ch =
      let old = blocks value in
      let made = subst (λ (b : B). MakesFolderDeletion dir key folder now (blocks b) (over (changes patch) (blocks b))) view_is makes name ch in
      record {
        within = subst (λ (b : B). AreWithin (changes patch) (totals b)) view_is within;
        stepped = law (call.Delete dir name now) (without_folder dir now (mdb_in old)) (totals value) old (over (changes patch) old) sound made;
        zeros = tt;
        unwritten = λ other. refl;
        directory = made.edits.mdb ∙ ap (λ (m : Mdb). with_counts m (mdb_in old)) (sym (is ∙ ap (without_folder dir now) at));
        reply = delete_accepted (volume_in old) dir now name _ ch.choice.is;
      }

  pub file_change : (dir now : ℕ) (key : CatKey) (file : FileRecord) (counts : Mdb) (patch : Numbered) → AreWithin (changes patch) (totals own)
      → MakesFileDeletion dir key file now (totals own) (blocks own) counts (over (changes patch) (blocks own))
      → IsFileDeletion dir key file now (totals value) (blocks value) (record { patch = patch; counts = counts; written = None; value = answer.Nothing })
  file_change dir now key file counts patch within makes name ch =
      let made = subst (λ (b : B). MakesFileDeletion dir key file now (totals b) (blocks b) counts (over (changes patch) (blocks b))) view_is makes name ch in
      record {
        within = subst (λ (b : B). AreWithin (changes patch) (totals b)) view_is within;
        stepped = made.stepped;
        zeros = tt;
        unwritten = λ other. refl;
        directory = made.directory;
        reply = delete_accepted (volume_in (blocks value)) dir now name _ ch.choice.is;
      }

-- a change that is the call's is its edit, since a deletion needs no nodes
pub deletion_edit : (dir now total : ℕ) (name : List ℕ) (old : Blocks) (made : Change) → IsChangeOf (call.Delete dir name now) total old made → IsEditOf (call.Delete dir name now) total old (Ok made)
deletion_edit dir now total name old made is = record { enough = none_wanted (call.Delete dir name now) old (λ depth. refl); comes = is }
