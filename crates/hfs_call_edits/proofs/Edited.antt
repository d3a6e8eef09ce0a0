-- What the fields of an edited volume say of its blocks, and what an edit answers.
use Rattle.std.proofs.Common.{◌≡◌, ℕ, ℤ, Bool, true, false, ◌&&◌, List, refl, sym, ◌∙◌, ap, subst, arith, None, Ok, Err, Result}
use Rattle.std.specs.Prelude.{nat_lt}
use Rattle.std.proofs.lemmas.Bool.{le-ltb}
use Rattle.hfs_fields.specs.declared.key.CatKey.{CatKey}
use Rattle.hfs_fields.specs.declared.dir_record.DirRecord.{DirRecord}
use Rattle.hfs_fields.specs.declared.file_record.FileRecord.{FileRecord}
use Rattle.hfs_fields.specs.declared.mdb.Mdb.{Mdb}
use Rattle.hfs_blocks.specs.declared.run.Run.{Run}
use Rattle.hfs_blocks.specs.Blocks.{nodes_in}
use Rattle.hfs_blocks.specs.Layers.{Numbered, changes, over, AreWithin}
use Rattle.hfs_btree.specs.Header.{depth_of, free_nodes}
use Rattle.hfs_space.proofs.TreeFileLemmas.{nodes_in-tree_blocks}
use Rattle.hfs_model.specs.declared.call.Call.{Call}
use Rattle.hfs_model.specs.declared.call.Call.TheVariants as call
use Rattle.hfs_model.specs.declared.reply.Value.TheVariants as answer
use Rattle.hfs_model.specs.Choices.{file_to_change, to_set_f_info, to_set_cat_info}
use Rattle.hfs_model.specs.Changes.{refused, change, set_f_info, set_cat_info, set_lock}
use Rattle.hfs_model.specs.Need.{need}
use Rattle.hfs_model.specs.Replies.{success, is_accepted}
use Rattle.hfs_model.specs.Step.{step}
use Rattle.hfs_model.specs.Volume.{Volume, Items, Entry}
use Rattle.hfs_check.specs.Parts.{Blocks, mdb_in, catalog_extents, catalog_nodes, catalog_blocks}
use Rattle.hfs_check.specs.Sound.{AreBlocksSound}
use Rattle.hfs_check.specs.VolumeOf.{volume_in}
use Rattle.hfs_record_edits.specs.Laws.{CatalogEditsAreSteps}
use Rattle.hfs_record_edits.specs.OnBlocks.{at_time}
use Rattle.hfs_record_edits.specs.SettingLaws.{MakesAt, lock_call}
use Rattle.hfs_call_patches.specs.declared.change.Change.{Change}
use Rattle.hfs_model.specs.declared.settings.ItemSettings.{ItemSettings}
use Rattle.hfs_call_patches.specs.Settings.{IsFileChoice, IsFolderChoice, set_cat_info_call}
use Rattle.hfs_call_edits.specs.Edits.{IsEditing, IsEditOf, HasNodes, wants_nodes}

-- ---- the volume of a view, and that of the field behind it

module _ {B : Type 0} (blocks : B → Blocks) (totals : B → ℕ) (value own : B) (view_is : own ≡ value) where
  module _ (mdb : Mdb) (extents catalog : List Run) (e : IsEditing (totals own) (blocks own) mdb extents catalog) where
    pub editing_now : IsEditing (totals value) (blocks value) mdb extents catalog
    editing_now = subst (λ (b : B). IsEditing (totals b) (blocks b) mdb extents catalog) view_is e

    pub nodes_now : nodes_in (blocks own) catalog ≡ catalog_nodes (blocks value)
    unfolding catalog_nodes catalog_blocks
    nodes_now =
        nodes_in-tree_blocks (blocks own) (mdb_in (blocks own)) (catalog_extents (blocks own)) (mdb_in (blocks own)).catalog_file_size catalog e.catalog_file.numbers
        ∙ ap (λ (b : B). catalog_nodes (blocks b)) view_is

  pub file_choice : (chosen : Volume → Result Entry ℤ) (key : CatKey) (file : FileRecord) → IsFileChoice (blocks value) (chosen (volume_in (blocks value))) key file
      → IsFileChoice (blocks own) (chosen (volume_in (blocks own))) key file
  file_choice chosen key file c = subst (λ (b : B). IsFileChoice (blocks b) (chosen (volume_in (blocks b))) key file) (sym view_is) c

  pub folder_choice : (chosen : Volume → Result Entry ℤ) (key : CatKey) (folder : DirRecord) → IsFolderChoice (blocks value) (chosen (volume_in (blocks value))) key folder
      → IsFolderChoice (blocks own) (chosen (volume_in (blocks own))) key folder
  folder_choice chosen key folder c = subst (λ (b : B). IsFolderChoice (blocks b) (chosen (volume_in (blocks b))) key folder) (sym view_is) c

-- ---- what the calls answer

module _ (v : Volume) (dir now : ℕ) (name : List ℕ) where
  change_refused : (chosen : Result Entry ℤ) (make : Entry → Items → Items) (code : ℤ) → chosen ≡ Err code → change v chosen make now ≡ refused v code
  change_refused chosen make code e = ap (λ (c : Result Entry ℤ). change v c make now) e

  change_accepted : (chosen : Result Entry ℤ) (make : Entry → Items → Items) (entry : Entry) → chosen ≡ Ok entry → (change v chosen make now).1 ≡ success answer.Nothing
  change_accepted chosen make entry e = ap (λ (c : Result Entry ℤ). (change v c make now).1) e

  pub f_info_refused : (info : List ℕ) (code : ℤ) → to_set_f_info v dir name ≡ Err code → step v (call.SetFInfo dir name info now) ≡ refused v code
  unfolding set_f_info
  f_info_refused info code e = change_refused _ _ code e

  pub f_info_accepted : (info : List ℕ) (entry : Entry) → to_set_f_info v dir name ≡ Ok entry → (step v (call.SetFInfo dir name info now)).1 ≡ success answer.Nothing
  unfolding set_f_info
  f_info_accepted info entry e = change_accepted _ _ entry e

  pub cat_info_refused : (s : ItemSettings) (code : ℤ) → to_set_cat_info v dir name ≡ Err code → step v (set_cat_info_call dir name s now) ≡ refused v code
  unfolding set_cat_info
  cat_info_refused s code e = change_refused _ _ code e

  pub cat_info_accepted : (s : ItemSettings) (entry : Entry) → to_set_cat_info v dir name ≡ Ok entry → (step v (set_cat_info_call dir name s now)).1 ≡ success answer.Nothing
  unfolding set_cat_info
  cat_info_accepted s entry e = change_accepted _ _ entry e

  pub lock_refused : (locked : Bool) (code : ℤ) → file_to_change v dir name ≡ Err code → step v (lock_call locked dir name now) ≡ refused v code
  unfolding set_lock
  lock_refused true code e = change_refused _ _ code e
  lock_refused false code e = change_refused _ _ code e

  pub lock_accepted : (locked : Bool) (entry : Entry) → file_to_change v dir name ≡ Ok entry → (step v (lock_call locked dir name now)).1 ≡ success answer.Nothing
  unfolding set_lock
  lock_accepted true entry e = change_accepted _ _ entry e
  lock_accepted false entry e = change_accepted _ _ entry e

-- ---- want of nodes

none_lacking : (a : Bool) (free n : ℕ) → n ≡ 0 → (a && nat_lt free n) ≡ false
none_lacking true free n none = ap (λ (k : ℕ). nat_lt free k) none ∙ le-ltb free 0 (omega arith)
none_lacking false free n none = refl

-- a call that needs no nodes meets no want of them
pub none_wanted : (c : Call) (old : Blocks) → ((depth : ℕ) → need c depth ≡ 0) → wants_nodes c old ≡ false
none_wanted c old none = none_lacking (is_accepted (step (volume_in old) c).1) (free_nodes (catalog_nodes old)) (need c (depth_of (catalog_nodes old))) (none (depth_of (catalog_nodes old)))

-- ---- edits of calls that need no nodes

module _ {B : Type 0} (blocks : B → Blocks) (totals : B → ℕ) (value own : B) (view_is : own ≡ value) where
  pub change_of : CatalogEditsAreSteps → (c : Call) → ((depth : ℕ) → need c depth ≡ 0) → (patch : Numbered) (now : ℕ) (made : Change) → made ≡ record { patch = patch; counts = at_time now (mdb_in (blocks value)); written = None; value = answer.Nothing }
      → AreBlocksSound (totals value) (blocks value) → AreWithin (changes patch) (totals own) → MakesAt c now (blocks own) (over (changes patch) (blocks own))
      → (step (volume_in (blocks value)) c).1 ≡ success answer.Nothing → IsEditOf c (totals value) (blocks value) (Ok made)
  change_of law c none patch now made is sound within makes reply =
      let new = over (changes patch) (blocks value) in
      let made_here = subst (λ (b : B). MakesAt c now (blocks b) (over (changes patch) (blocks b))) view_is makes in
      subst (λ (m : Change). IsEditOf c (totals value) (blocks value) (Ok m)) (sym is) (record {
        enough = none_wanted c (blocks value) none;
        comes = record {
          within = subst (λ (b : B). AreWithin (changes patch) (totals b)) view_is within;
          stepped = law c (at_time now (mdb_in (blocks value))) (totals value) (blocks value) new sound made_here;
          zeros = tt;
          unwritten = λ other. refl;
          directory = made_here.edits.mdb;
          reply = reply;
        };
      })

-- what refuses a call that needs no nodes
pub refusal_of : (c : Call) (old : Blocks) → ((depth : ℕ) → need c depth ≡ 0) → (code : ℤ) → step (volume_in old) c ≡ refused (volume_in old) code → HasNodes c old (step (volume_in old) c ≡ refused (volume_in old) code)
refusal_of c old none code is = record { enough = none_wanted c old none; comes = is }
