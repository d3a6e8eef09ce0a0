-- What holds of the calls that set what is said about an item, and its name. Each statement is what a function of src/settings.rt ensures.
use Rattle.std.specs.Prelude.{◌≡◌, ℕ, ℤ, Bool, true, false, List, Some, Result, Ok}
use Rattle.hfs_catalog.specs.Items.{item_of}
use Rattle.hfs_catalog.specs.Records.{Record, item_with}
use Rattle.hfs_model.specs.declared.call.Call.{Call}
use Rattle.hfs_model.specs.declared.call.Call.TheVariants as call
use Rattle.hfs_model.specs.Volume.{Entry}
use Rattle.hfs_check.specs.Parts.{Blocks, mdb_in, catalog_in}
use Rattle.hfs_check.specs.VolumeOf.{contents_in}
use Rattle.hfs_record_edits.specs.OnBlocks.{at_time}
use Rattle.hfs_record_edits.specs.Laws.{MakesStep}

-- ---- the item

-- a call chooses the item of this record
pub record IsChoice (old : Blocks) (chosen : Result Entry ℤ) (r : Record) : Type 0 where
  pub id : ℕ
  pub is : chosen ≡ Ok (id, item_of (contents_in old) (catalog_in old) r)
  pub was : item_with (catalog_in old) id ≡ Some r

-- ---- the calls

-- the edits make the call's step, at this moment
abbrev pub MakesAt : Call → ℕ → Blocks → Blocks → Type 0
MakesAt c now old new = MakesStep c (at_time now (mdb_in old)) old new

-- SetFLock or RstFLock
abbrev pub lock_call : Bool → ℕ → List ℕ → ℕ → Call
lock_call true dir name now = call.SetFLock dir name now
lock_call false dir name now = call.RstFLock dir name now

-- the item's record with another name
abbrev pub with_name : List ℕ → Record → Record
with_name new_name r = (record r.0 { name = new_name }, r.1)
