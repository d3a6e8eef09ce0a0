-- A volume that is ready for a new item, and the edit that it is.
use Rattle.std.proofs.Common.{◌≡◌, ℕ, ◌<◌, ◌^◌, false, List, sym, subst, Ok}
use Rattle.hfs_fields.specs.declared.mdb.Mdb.{Mdb}
use Rattle.hfs_blocks.specs.declared.run.Run.{Run}
use Rattle.hfs_btree.specs.Header.{header_in}
use Rattle.hfs_model.specs.declared.call.Call.{Call}
use Rattle.hfs_model.specs.Choices.{to_create}
use Rattle.hfs_check.specs.Parts.{Blocks, catalog_nodes}
use Rattle.hfs_check.specs.VolumeOf.{volume_in}
use Rattle.hfs_call_patches.specs.declared.new_items.NewPlace.{NewPlace}
use Rattle.hfs_call_patches.specs.declared.change.Change.{Change}
use Rattle.hfs_call_edits.specs.Edits.{IsEditing, IsEditOf, wants_nodes}
use Rattle.hfs_call_patches.specs.CallChanges.{IsChangeOf}
use Rattle.hfs_call_patches.specs.ReadyPlaces.{IsPlace, IsReady}
use Rattle.hfs_call_edits.proofs.Wanting.{in_file}

-- the place under its own name
pub at_own_name : (old : Blocks) (dir : ℕ) (name : List ℕ) (place : NewPlace) → IsPlace old (to_create (volume_in old) dir name) dir name place → IsPlace old (to_create (volume_in old) dir place.name) dir place.name place
at_own_name old dir name place p = subst (λ (n : List ℕ). IsPlace old (to_create (volume_in old) dir n) dir n place) (sym p.own_name) p

module _ {B : Type 0} (blocks : B → Blocks) (totals : B → ℕ) (value own : B) (view_is : own ≡ value) where
  pub ready_for : (mdb : Mdb) (extents catalog : List Run) (dir : ℕ) (name : List ℕ) (place : NewPlace) → IsEditing (totals own) (blocks own) mdb extents catalog
      → IsPlace (blocks value) (to_create (volume_in (blocks value)) dir name) dir name place → (header_in (catalog_nodes (blocks value))).records < 2 ^ 32
      → IsReady (totals own) (blocks own) catalog mdb dir place
  ready_for mdb extents catalog dir name place editing chosen records = record {
    sound = editing.sound;
    file = editing.catalog_file;
    directory = editing.directory;
    chosen = subst (λ (b : B). IsPlace (blocks b) (to_create (volume_in (blocks b)) dir place.name) dir place.name place) (sym view_is) (at_own_name (blocks value) dir name place chosen);
    inside = in_file (totals own) (blocks own) editing.sound editing.few;
    records = subst (λ (b : B). (header_in (catalog_nodes (blocks b))).records < 2 ^ 32) (sym view_is) records;
  }

  -- a change of a call that has the nodes that it needs
  pub change_seen : (c : List ℕ → Call) (given name : List ℕ) (change : Change) → given ≡ name → IsChangeOf (c given) (totals own) (blocks own) change → wants_nodes (c name) (blocks value) ≡ false → IsEditOf (c name) (totals value) (blocks value) (Ok change)
  change_seen c given name change same is enough = record {
    enough = enough;
    comes = subst (λ (b : B). IsChangeOf (c name) (totals b) (blocks b) change) view_is (subst (λ (n : List ℕ). IsChangeOf (c n) (totals own) (blocks own) change) same is);
  }
