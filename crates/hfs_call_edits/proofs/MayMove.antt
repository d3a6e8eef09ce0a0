-- An item that CatMove chooses may come under the other folder; and what CatMove answers.
use Rattle.std.proofs.Common.{◌≡◌, eqb, ◌≤◌, ◌<◌, ◌+◌, ℕ, ℤ, Bool, List, sym, subst, None}
use Rattle.std.specs.Prelude.{IsTrue, Err, not, ◌&&◌, ◌^◌}
use Rattle.hfs_fields.specs.declared.key.CatKey.{CatKey}
use Rattle.hfs_fields.specs.Keys.{cat_cmp}
use Rattle.hfs_fields.specs.Names.{is_item_name}
use Rattle.hfs_fields.proofs.MemberLemmas.{each_in}
use Rattle.hfs_btree.specs.Pairs.{lookup}
use Rattle.hfs_model.specs.declared.call.Call.TheVariants as call
use Rattle.hfs_model.specs.declared.reply.Value.TheVariants as value
use Rattle.hfs_model.specs.Changes.{refused, cat_move}
use Rattle.hfs_model.specs.Choices.{to_move}
use Rattle.hfs_model.specs.Replies.{success}
use Rattle.hfs_model.specs.Step.{step}
use Rattle.hfs_model.specs.Volume.{Volume}
use Rattle.hfs_catalog.specs.Items.{item_of}
use Rattle.hfs_catalog.specs.Records.{Record}
use Rattle.hfs_catalog.specs.Tree.{catalog_of}
use Rattle.hfs_record_edits.specs.Rooms.{IsInFile, HasRoom}
use Rattle.hfs_record_edits.proofs.RootLemmas.{sound_has_root}
use Rattle.hfs_record_edits.specs.Swaps.{one_if}
use Rattle.hfs_check.proofs.LawTypes.{CatalogIsSound, TreesAreSound}
use Rattle.hfs_check.specs.Parts.{Blocks, mdb_in, catalog_nodes, catalog_in}
use Rattle.hfs_check.specs.Sound.{AreBlocksSound}
use Rattle.hfs_check.specs.VolumeOf.{contents_in, volume_in}
use Rattle.hfs_record_edits.proofs.BoundLaws.{CountsMove, MoveFits}
use Rattle.hfs_record_edits.specs.MoveLaws.{under_folder}
use Rattle.hfs_record_edits.proofs.PlaceLaws.{FolderIdIs, MoveIsFree}
use Rattle.hfs_record_edits.proofs.SettingLaws.{ChoiceStands}
use Rattle.hfs_items.proofs.FolderLemmas.{found_with}
use Rattle.hfs_call_patches.specs.declared.moving.Moving.{Moving}
use Rattle.hfs_call_patches.specs.Moving.{IsMoving, FitsCounts, CanMove}
use Rattle.hfs_call_patches.specs.Rekeyings.{CanRekey}
use Rattle.hfs_call_edits.proofs.StepMade.{change_refused, change_accepted}
use Rattle.hfs_call_edits.proofs.ItemThere.{item_there, own_there}

module _ (catalogs : CatalogIsSound) (total : ℕ) (old : Blocks) (h : AreBlocksSound total old) (dir : ℕ) (name : List ℕ) (new_dir : ℕ) (m : Moving) (c : IsMoving old dir name new_dir m) where
  abbrev r : Record
  r = c.choice.of

  abbrev id : ℕ
  id = c.choice.choice.id

  abbrev next : ℕ
  next = (mdb_in old).next_id

  abbrev key : CatKey
  key = (under_folder new_dir r).0

  pub can_move : TreesAreSound → ChoiceStands → FolderIdIs → MoveIsFree → IsInFile (catalog_nodes old) → HasRoom (catalog_nodes old) → CanRekey m.item (catalog_nodes old)
  unfolding catalog_in
  can_move trees stands ids free inside room =
      let sound = catalogs total old h in
      let found = found_with (catalog_of (catalog_nodes old)) id r c.choice.choice.was in
      let named : IsTrue (is_item_name r.0.name) = each_in _ (catalog_of (catalog_nodes old)) r sound.names.items found.there found.item in
      record {
        tree = (trees total old h).1;
        records = sound.records;
        names = sound.names;
        root = sound_has_root next (catalog_of (catalog_nodes old)) sound.ids;
        there = item_there old next sound r id c.choice.choice.was m.item.from m.item.to c.choice.own_key (stands total _ r old h c.choice.choice);
        own = own_there old next sound r id c.choice.choice.was m.item.from m.item.to c.choice.own_key m.item.id c.choice.own_id (stands total _ r old h c.choice.choice);
        low = subst (λ (n : ℕ). 2 ≤ n) (sym c.from_is) (ids total dir c.first old h c.left.folder);
        high = subst (λ (n : ℕ). 2 ≤ n) (sym c.to_is) (ids total new_dir c.second old h c.entered.folder);
        named = subst (λ (k : CatKey). IsTrue (is_item_name k.name)) c.choice.new_key named;
        absent = λ apart. subst (λ (k : CatKey). lookup cat_cmp k (catalog_of (catalog_nodes old)) ≡ None) c.choice.new_key (free total dir new_dir name r old h c.choice.choice);
        inside = inside;
        room = λ apart. room;
      }

-- ---- the item may be moved

module _ (catalogs : CatalogIsSound) (total : ℕ) (old : Blocks) (h : AreBlocksSound total old) (dir : ℕ) (name : List ℕ) (new_dir : ℕ) (m : Moving) (c : IsMoving old dir name new_dir m) (law : MoveFits) where
  fitting : CountsMove (mdb_in old) dir new_dir c.choice.of c.first c.second
  fitting = law total dir new_dir name c.choice.of c.first c.second old h c.choice.choice c.left.folder c.entered.folder

  abbrev FitBy : Bool × ℕ × ℕ → Type 0
  FitBy p = ((mdb_in old).root_files + one_if (not p.0 && eqb p.2 2) < 2 ^ 16) × ((mdb_in old).root_folders + one_if (p.0 && eqb p.2 2) < 2 ^ 16)
      × (one_if (not p.0 && eqb p.1 2) ≤ (mdb_in old).root_files) × (one_if (p.0 && eqb p.1 2) ≤ (mdb_in old).root_folders)

  pub fits_counts : FitsCounts (mdb_in old) m
  fits_counts =
      let f = fitting in
      let all = subst FitBy (λ i. (c.kind i, sym c.from_is i, sym c.to_is i)) (f.root_files, f.root_folders, f.files_left, f.folders_left) in
      record { root_files = all.0; root_folders = all.1; files_left = all.2; folders_left = all.3 }

  pub may_move : TreesAreSound → ChoiceStands → FolderIdIs → MoveIsFree → IsInFile (catalog_nodes old) → HasRoom (catalog_nodes old) → CanMove old m
  may_move trees stands ids free inside room =
      let f = fitting in
      record {
        dir = dir;
        name = name;
        new_dir = new_dir;
        is = c;
        can = can_move catalogs total old h dir name new_dir m c trees stands ids free inside room;
        fits = fits_counts;
        some = subst (λ (n : ℕ). 1 ≤ n) c.left.valence f.first;
        room = subst (λ (n : ℕ). n + 1 < 2 ^ 16) c.entered.valence f.second;
      }

-- ---- what is answered

pub move_refused : (v : Volume) (dir now new_dir : ℕ) (name : List ℕ) (code : ℤ) → to_move v dir name new_dir ≡ Err code → step v (call.CatMove dir name new_dir now) ≡ refused v code
unfolding cat_move
move_refused v dir now new_dir name code e = change_refused v now _ _ code e

pub move_accepted : (old : Blocks) (dir now new_dir : ℕ) (name : List ℕ) (m : Moving) → IsMoving old dir name new_dir m → (step (volume_in old) (call.CatMove dir name new_dir now)).1 ≡ success value.Nothing
unfolding cat_move
move_accepted old dir now new_dir name m c =
    change_accepted (volume_in old) now _ _ (c.choice.choice.id, item_of (contents_in old) (catalog_in old) c.choice.of) c.choice.choice.is
