-- What the calls on file IDs answer, and the changes that they are.
use Rattle.std.proofs.Common.{◌≡◌, ℕ, ℤ, true, false, List, refl, sym, ap, subst, None, Ok, Err, Result}
use Rattle.hfs_blocks.specs.Layers.{Numbered, changes, over, AreWithin}
use Rattle.hfs_model.specs.declared.call.Call.{Call}
use Rattle.hfs_model.specs.declared.call.Call.TheVariants as call
use Rattle.hfs_model.specs.declared.reply.Value.TheVariants as answer
use Rattle.hfs_model.specs.Changes.{refused, change}
use Rattle.hfs_model.specs.FileIds.{set_thread, to_create_file_id, to_delete_file_id, change_to_id, create_file_id, delete_file_id}
use Rattle.hfs_model.specs.Replies.{success}
use Rattle.hfs_model.specs.Step.{step}
use Rattle.hfs_model.specs.Volume.{Volume, Entry}
use Rattle.hfs_check.specs.Parts.{Blocks, mdb_in}
use Rattle.hfs_check.specs.Sound.{AreBlocksSound}
use Rattle.hfs_check.specs.VolumeOf.{volume_in}
use Rattle.hfs_record_edits.specs.Laws.{CatalogEditsAreSteps}
use Rattle.hfs_record_edits.specs.OnBlocks.{at_time}
use Rattle.hfs_record_edits.specs.SettingLaws.{MakesAt}
use Rattle.hfs_call_patches.specs.declared.change.Change.{Change}
use Rattle.hfs_call_edits.specs.Edits.{IsEditOf, wants_nodes}

module _ (v : Volume) (now : ℕ) where
  pub create_refused : (dir : ℕ) (name : List ℕ) (code : ℤ) → to_create_file_id v dir name ≡ Err code → step v (call.CreateFileId dir name now) ≡ refused v code
  unfolding create_file_id
  create_refused dir name code e = ap (λ (c : Result Entry ℤ). change_to_id v c (set_thread true) now) e

  pub create_accepted : (dir : ℕ) (name : List ℕ) (entry : Entry) → to_create_file_id v dir name ≡ Ok entry → (step v (call.CreateFileId dir name now)).1 ≡ success (answer.Id entry.0)
  unfolding create_file_id
  create_accepted dir name entry e = ap (λ (c : Result Entry ℤ). (change_to_id v c (set_thread true) now).1) e

  pub delete_refused : (id : ℕ) (code : ℤ) → to_delete_file_id v id ≡ Err code → step v (call.DeleteFileId id now) ≡ refused v code
  unfolding delete_file_id
  delete_refused id code e = ap (λ (c : Result Entry ℤ). change v c (set_thread false) now) e

  pub delete_accepted : (id : ℕ) (entry : Entry) → to_delete_file_id v id ≡ Ok entry → (step v (call.DeleteFileId id now)).1 ≡ success answer.Nothing
  unfolding delete_file_id
  delete_accepted id entry e = ap (λ (c : Result Entry ℤ). (change v c (set_thread false) now).1) e

-- a change that answers an ID, by a call that has the nodes that it needs
pub change_to : {B : Type 0} (blocks : B → Blocks) (totals : B → ℕ) (value own : B) (view_is : own ≡ value) → CatalogEditsAreSteps → (c : Call) → wants_nodes c (blocks value) ≡ false
    → (patch : Numbered) (now id : ℕ) (made : Change) → made ≡ record { patch = patch; counts = at_time now (mdb_in (blocks value)); written = None; value = answer.Id id }
    → AreBlocksSound (totals value) (blocks value) → AreWithin (changes patch) (totals own) → MakesAt c now (blocks own) (over (changes patch) (blocks own))
    → (step (volume_in (blocks value)) c).1 ≡ success (answer.Id id) → IsEditOf c (totals value) (blocks value) (Ok made)
change_to blocks totals value own view_is law c enough patch now id made is sound within makes reply =
    let new = over (changes patch) (blocks value) in
    let made_here = subst (λ b. MakesAt c now (blocks b) (over (changes patch) (blocks b))) view_is makes in
    subst (λ (m : Change). IsEditOf c (totals value) (blocks value) (Ok m)) (sym is) (record {
      enough = enough;
      comes = record {
        within = subst (λ b. AreWithin (changes patch) (totals b)) view_is within;
        stepped = law c (at_time now (mdb_in (blocks value))) (totals value) (blocks value) new sound made_here;
        zeros = tt;
        unwritten = λ other. refl;
        directory = made_here.edits.mdb;
        reply = reply;
      };
    })
