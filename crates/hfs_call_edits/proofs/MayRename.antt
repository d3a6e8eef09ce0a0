-- An item that Rename chooses may come under its new name; and what Rename answers.
use Rattle.std.proofs.Common.{◌≡◌, ◌≤◌, ℕ, ℤ, Bool, true, false, List, refl, sym, ◌∙◌, ap, subst, None}
use Rattle.std.specs.Prelude.{Err}
use Rattle.std.specs.declared.cmp.Ordering.{Ordering}
use Rattle.std.specs.declared.cmp.Ordering.TheVariants.{Equal}
use Rattle.std.specs.Ordering.{nat_cmp, is_eq, ordering_then}
use Rattle.std.specs.Cmp.{nat_cmp_is}
use Rattle.std.proofs.lemmas.Bool.{true≢false}
use Rattle.hfs_fields.specs.declared.key.CatKey.{CatKey}
use Rattle.hfs_fields.specs.Keys.{cat_cmp}
use Rattle.hfs_fields.specs.Order.{name_cmp, same_name}
use Rattle.hfs_btree.specs.Pairs.{lookup}
use Rattle.hfs_model.specs.declared.call.Call.TheVariants as call
use Rattle.hfs_model.specs.declared.reply.Value.TheVariants as value
use Rattle.hfs_model.specs.Changes.{refused, rename}
use Rattle.hfs_model.specs.Choices.{to_rename}
use Rattle.hfs_model.specs.Replies.{success}
use Rattle.hfs_model.specs.Step.{step}
use Rattle.hfs_model.specs.Volume.{Volume}
use Rattle.hfs_catalog.specs.Records.{Record}
use Rattle.hfs_catalog.specs.Items.{item_of}
use Rattle.hfs_catalog.specs.Tree.{catalog_of}
use Rattle.hfs_record_edits.specs.Rooms.{IsInFile, HasRoom}
use Rattle.hfs_record_edits.proofs.RootLemmas.{sound_has_root}
use Rattle.hfs_check.proofs.LawTypes.{CatalogIsSound, TreesAreSound}
use Rattle.hfs_check.specs.Parts.{Blocks, mdb_in, catalog_nodes, catalog_in}
use Rattle.hfs_check.specs.Sound.{AreBlocksSound}
use Rattle.hfs_check.specs.VolumeOf.{contents_in, volume_in}
use Rattle.hfs_record_edits.proofs.PlaceLaws.{RenameIsFree}
use Rattle.hfs_record_edits.specs.SettingLaws.{with_name}
use Rattle.hfs_record_edits.proofs.SettingLaws.{ChoiceStands}
use Rattle.hfs_call_patches.specs.declared.rekeying.Rekeying.{Rekeying}
use Rattle.hfs_call_patches.specs.Rekeyings.{CanRekey}
use Rattle.hfs_call_edits.specs.ChoosingRenaming.{IsRenaming}
use Rattle.hfs_call_edits.proofs.StepMade.{change_refused, change_accepted}
use Rattle.hfs_call_edits.proofs.ItemThere.{item_there, own_there}
use Rattle.hfs_record_edits.proofs.FreeKeys.{same_through}

-- ---- keys

-- under one parent keys are as their names are
one_parent : (n : ℕ) (o : Ordering) → ordering_then (nat_cmp n n) o ≡ o
one_parent n o = ap (λ (q : Ordering). ordering_then q o) (sym (nat_cmp_is n n Equal refl))

module _ (trees : TreesAreSound) (catalogs : CatalogIsSound) (stands : ChoiceStands) (free : RenameIsFree) (total : ℕ) (old : Blocks) (h : AreBlocksSound total old)
    (dir : ℕ) (name new_name : List ℕ) (item : Rekeying) (c : IsRenaming old dir name new_name item) where
  abbrev r : Record
  r = c.choice.of

  abbrev new_key : CatKey
  new_key = (with_name new_name r).0

  orders : cat_cmp r.0 new_key ≡ cat_cmp item.from item.to
  orders = λ i. cat_cmp (c.choice.own_key i) (c.choice.new_key i)

  absent : is_eq (cat_cmp item.from item.to) ≡ false → lookup cat_cmp item.to (catalog_in old) ≡ None
  absent apart =
      subst (λ (key : CatKey). lookup cat_cmp key (catalog_in old) ≡ None) c.choice.new_key
      (free total dir name new_name r old h c.choice.choice (ap is_eq orders ∙ apart))

  -- to another case of its name the item comes in its place
  in_place : same_name name new_name ≡ true → is_eq (cat_cmp item.from item.to) ≡ true
  in_place same =
      sym (ap is_eq orders) ∙ ap is_eq (one_parent r.0.parent (name_cmp r.0.name new_name))
      ∙ same_through r.0.name name new_name (ap (λ (key : CatKey). same_name key.name name) c.choice.own_key ∙ c.alike) same

  room : (same_name name new_name ≡ false → HasRoom (catalog_nodes old)) → is_eq (cat_cmp item.from item.to) ≡ false → HasRoom (catalog_nodes old)
  room has apart = elim (same_name name new_name) as (λ (b : Bool). same_name name new_name ≡ b → HasRoom (catalog_nodes old)) [
    | true ↦ λ same. absurd (true≢false (sym (in_place same) ∙ apart))
    | false ↦ λ other. has other
  ] refl

  pub can_rename : IsInFile (catalog_nodes old) → (same_name name new_name ≡ false → HasRoom (catalog_nodes old)) → CanRekey item (catalog_nodes old)
  unfolding catalog_in
  can_rename inside has =
      let sound = catalogs total old h in
      let parents : item.from.parent ≡ item.to.parent = (λ i. (sym c.choice.own_key i).parent) ∙ (λ i. (c.choice.new_key i).parent) in
      record {
        tree = (trees total old h).1;
        records = sound.records;
        names = sound.names;
        root = sound_has_root (mdb_in old).next_id (catalog_of (catalog_nodes old)) sound.ids;
        there = item_there old (mdb_in old).next_id sound r c.choice.choice.id c.choice.choice.was item.from item.to c.choice.own_key (stands total _ r old h c.choice.choice);
        own = own_there old (mdb_in old).next_id sound r c.choice.choice.id c.choice.choice.was item.from item.to c.choice.own_key item.id c.choice.own_id (stands total _ r old h c.choice.choice);
        low = c.low;
        high = subst (λ (n : ℕ). 2 ≤ n) parents c.low;
        named = c.named;
        absent = absent;
        inside = inside;
        room = room has;
      }

-- ---- what is answered

pub rename_refused : (v : Volume) (dir now : ℕ) (name new_name : List ℕ) (code : ℤ) → to_rename v dir name new_name ≡ Err code → step v (call.Rename dir name new_name now) ≡ refused v code
unfolding rename
rename_refused v dir now name new_name code e = change_refused v now _ _ code e

pub rename_accepted : (old : Blocks) (dir now : ℕ) (name new_name : List ℕ) (item : Rekeying) → IsRenaming old dir name new_name item
    → (step (volume_in old) (call.Rename dir name new_name now)).1 ≡ success value.Nothing
unfolding rename
rename_accepted old dir now name new_name item c =
    change_accepted (volume_in old) now _ _ (c.choice.choice.id, item_of (contents_in old) (catalog_in old) c.choice.of) c.choice.choice.is
