-- An item that CatMove chooses makes under the other folder the step of CatMove.
use Rattle.std.proofs.Common.{◌≡◌, ◌+◌, ◌-◌, inl, inr, ℕ, List, [], ◌∷◌, ◌++◌, refl, sym, ◌∙◌, ap, subst}
use Rattle.std.specs.Prelude.{IsTrue}
use Rattle.hfs_fields.specs.declared.key.CatKey.{CatKey}
use Rattle.hfs_fields.specs.declared.mdb.Mdb.{Mdb}
use Rattle.hfs_fields.specs.Names.{is_item_name}
use Rattle.hfs_fields.specs.Records.{is_dir, dir_record_of}
use Rattle.hfs_fields.proofs.MemberLemmas.{each_in}
use Rattle.hfs_btree.specs.Tree.{Store}
use Rattle.hfs_model.specs.declared.call.Call.TheVariants as call
use Rattle.hfs_catalog.specs.Lookups.{first_key, thread_of}
use Rattle.hfs_catalog.specs.Records.{Record}
use Rattle.hfs_catalog.specs.Sound.{IsIndexKeyName}
use Rattle.hfs_catalog.specs.Tree.{catalog_of}
use Rattle.hfs_record_edits.specs.ItemEdits as edits
use Rattle.hfs_record_edits.proofs.KeepLemmas.{keeps_then}
use Rattle.hfs_check.proofs.LawTypes.{CatalogIsSound}
use Rattle.hfs_check.specs.Parts.{Blocks, mdb_in, catalog_nodes, catalog_in}
use Rattle.hfs_check.specs.Sound.{AreBlocksSound}
use Rattle.hfs_record_edits.proofs.ChangesLaws.{led_to}
use Rattle.hfs_record_edits.specs.Laws.{MakesStep}
use Rattle.hfs_record_edits.specs.MoveLaws.{under_folder, with_moved}
use Rattle.hfs_record_edits.proofs.MoveLaws.{CatMoveMakes, HasMovedItem}
use Rattle.hfs_record_edits.specs.OnBlocks.{HasTree}
use Rattle.hfs_record_edits.specs.PlaceLaws.{BothStand}
use Rattle.hfs_record_edits.proofs.PlaceLaws.{MoveLeavesFolders}
use Rattle.hfs_items.proofs.FolderLemmas.{found_with}
use Rattle.hfs_call_patches.specs.CatalogPatch.{HasCatalog, KeepsNamed}
use Rattle.hfs_call_patches.specs.declared.valences.FolderPlace.{FolderPlace}
use Rattle.hfs_call_patches.specs.declared.moving.Moving.{Moving}
use Rattle.hfs_call_patches.specs.Moving.{IsMoving, IsPlaceOf, MakesMove, counts_moved}
use Rattle.hfs_call_patches.specs.Valences.{StandAt, FoldersSet, ValencesSet}
use Rattle.hfs_call_patches.proofs.Rekeys.{item_moved, thread_set, thread_value}

module _ (catalogs : CatalogIsSound) (total : ℕ) (old : Blocks) (h : AreBlocksSound total old) (dir : ℕ) (name : List ℕ) (new_dir : ℕ) (m : Moving) (c : IsMoving old dir name new_dir m) where
  abbrev r : Record
  r = c.choice.of

  abbrev id : ℕ
  id = c.choice.choice.id

  abbrev next : ℕ
  next = (mdb_in old).next_id

  abbrev key : CatKey
  key = (under_folder new_dir r).0

  -- ---- behind the edit of the item

  module _ (leaves : MoveLeavesFolders) (s : Store) (rekeyed : edits.ItemRekeyed m.item.id m.item.from m.item.to (catalog_nodes old) s) where
    both : BothStand c.first c.second (catalog_of s)
    both =
        let sound = catalogs total old h in
        leaves total dir new_dir name r (led_to id key (thread_of (catalog_in old) id)) c.first c.second old rekeyed.between (catalog_of s) h c.choice.choice c.left.folder c.entered.folder
        (item_moved old next sound r id c.choice.choice.was m.item.from m.item.to c.choice.own_key m.item.id c.choice.own_id key c.choice.new_key s rekeyed)
        (thread_set old next sound r id c.choice.choice.was m.item.from m.item.to c.choice.own_key m.item.id c.choice.own_id key c.choice.new_key s rekeyed)

    pub stand_at : StandAt m.left m.entered (catalog_of s)
    stand_at = record {
      first = c.first;
      second = c.second;
      both = both;
      first_key = c.left.key;
      second_key = c.entered.key;
      first_dir = c.left.folder.folder;
      second_dir = c.entered.folder.folder;
    }

    -- a folder's key has a name that an index may have
    place_named : (d : ℕ) (q : Record) (place : FolderPlace) → IsPlaceOf old d place q → IsIndexKeyName place.key
    place_named d q place is =
        let found = found_with (catalog_in old) d q is.folder.was in
        let named : IsTrue (is_item_name q.0.name) = each_in _ (catalog_in old) q (catalogs total old h).names.items found.there found.item in
        subst IsIndexKeyName is.key (inr named)

    module _ (now : ℕ) (t : Store) (set : ValencesSet m.left m.entered now s t) where
      pub move_named : IsTrue (is_item_name m.item.to.name) → KeepsNamed (catalog_nodes old) t
      move_named named = record {
        given = (m.entered.key ∷ m.left.key ∷ []) ++ (first_key m.item.id ∷ m.item.to ∷ []);
        keeps = keeps_then (first_key m.item.id ∷ m.item.to ∷ []) (m.entered.key ∷ m.left.key ∷ []) (catalog_nodes old) s t rekeyed.keeps set.keeps;
        named = (place_named new_dir c.second m.entered c.entered, (place_named dir c.first m.left c.left, (inl refl, (inr named, tt))));
      }

      folders : FoldersSet c.first c.second (m.left.valence - 1) (m.entered.valence + 1) now (catalog_of s) (catalog_of t)
      folders = set.set c.first c.second both c.left.key c.entered.key

      own_folders : FoldersSet c.first c.second ((dir_record_of c.first.1).valence - 1) ((dir_record_of c.second.1).valence + 1) now (catalog_of s) (catalog_of t)
      own_folders = subst (λ (p : ℕ × ℕ). FoldersSet c.first c.second (p.0 - 1) (p.1 + 1) now (catalog_of s) (catalog_of t)) (λ i. (sym c.left.valence i, sym c.entered.valence i)) folders

      moved : HasMovedItem id dir new_dir r c.first c.second now (catalog_in old) (catalog_of t)
      moved =
          let sound = catalogs total old h in
          let set = own_folders in
          record {
            second = rekeyed.between;
            middle = catalog_of s;
            third = set.third;
            item_moved = item_moved old next sound r id c.choice.choice.was m.item.from m.item.to c.choice.own_key m.item.id c.choice.own_id key c.choice.new_key s rekeyed;
            thread_set = thread_set old next sound r id c.choice.choice.was m.item.from m.item.to c.choice.own_key m.item.id c.choice.own_id key c.choice.new_key s rekeyed;
            first_set = set.first_set;
            second_set = set.second_set;
            thread_value = thread_value old next sound r id c.choice.choice.was m.item.from m.item.to c.choice.own_key m.item.id c.choice.own_id key c.choice.new_key s rekeyed;
            left = c.left.folder;
            left_value = set.first_value;
            entered = c.entered.folder;
            entered_value = set.second_value;
          }

      counts_are : counts_moved m now (mdb_in old) ≡ with_moved (is_dir r.1) dir new_dir now (mdb_in old)
      counts_are = λ i. with_moved (sym c.kind i) (c.from_is i) (c.to_is i) now (mdb_in old)

      pub step_of : CatMoveMakes → (new : Blocks) → HasCatalog (counts_moved m now (mdb_in old)) (catalog_of t) old new → MakesStep (call.CatMove dir name new_dir now) (counts_moved m now (mdb_in old)) old new
      step_of law new closed =
          subst (λ (counts : Mdb). MakesStep (call.CatMove dir name new_dir now) counts old new) (sym counts_are)
          (law total now dir new_dir name r c.first c.second old new h c.choice.choice (record {
            moved = subst (HasMovedItem id dir new_dir r c.first c.second now (catalog_in old)) (sym closed.content) moved;
            tree = subst (λ (counts : Mdb). HasTree counts old new) counts_are closed.tree;
          }))

-- ---- the step

pub move_made : (catalogs : CatalogIsSound) (leaves : MoveLeavesFolders) (law : CatMoveMakes) (total : ℕ) (old new : Blocks) (s t : Store) (mdb counts : Mdb) (m : Moving) (now : ℕ) → AreBlocksSound total old
    → mdb ≡ mdb_in old → counts ≡ counts_moved m now mdb → edits.ItemRekeyed m.item.id m.item.from m.item.to (catalog_nodes old) s → ValencesSet m.left m.entered now s t
    → HasCatalog counts (catalog_of t) old new → MakesMove m now old new
move_made catalogs leaves law total old new s t mdb counts m now h own at rekeyed set closed dir name new_dir c =
    step_of catalogs total old h dir name new_dir m c leaves s rekeyed now t set law new (subst (λ (n : Mdb). HasCatalog n (catalog_of t) old new) (at ∙ ap (counts_moved m now) own) closed)
