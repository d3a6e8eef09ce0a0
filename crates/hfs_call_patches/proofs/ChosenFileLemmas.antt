-- The record of a file that a call chooses.
use Rattle.std.proofs.Common.{◌≡◌, ℤ, Bool, cond, sym, ◌∙◌, ap, Result}
use Rattle.hfs_fields.specs.declared.key.CatKey.{CatKey}
use Rattle.hfs_fields.specs.declared.file_record.FileRecord.{FileRecord}
use Rattle.hfs_fields.specs.Records.{dir_record_of, file_record_of}
use Rattle.hfs_model.specs.Volume.{Entry}
use Rattle.hfs_catalog.proofs.FileRecords.{not-dir}
use Rattle.hfs_check.specs.Parts.{Blocks, catalog_in}
use Rattle.hfs_items.proofs.FolderLemmas.{found_with}
use Rattle.hfs_call_patches.specs.Settings.{IsFileChoice}

-- the ID in a file's record is the one under which it was chosen
pub file_id_is : (old : Blocks) (chosen : Result Entry ℤ) (key : CatKey) (f : FileRecord) (c : IsFileChoice old chosen key f) → f.id ≡ c.choice.id
file_id_is old chosen key f c =
    ap (λ (g : FileRecord). g.id) (sym c.own_file)
    ∙ sym (ap (λ (b : Bool). cond b (dir_record_of c.of.1).id (file_record_of c.of.1).id) (not-dir c.of.1 c.is))
    ∙ (found_with (catalog_in old) c.choice.id c.of c.choice.was).same
