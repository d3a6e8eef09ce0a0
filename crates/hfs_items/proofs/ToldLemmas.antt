-- Lemmas about the definitions of specs/Told.antt.
use Rattle.std.proofs.Common.{◌≡◌, Bool, true, false, cond, refl}
use Rattle.std.specs.Prelude.{ℕ, not, if◌then◌else◌}
use Rattle.hfs_model.specs.declared.codes.TheConstants.{NOT_A_FOLDER}
use Rattle.hfs_model.specs.declared.reply.Value.TheVariants as value
use Rattle.hfs_model.specs.declared.reply.Reply.{Reply}
use Rattle.hfs_model.specs.Replies.{refusal, success}
use Rattle.hfs_catalog.specs.Records.{Catalog, Record}
use Rattle.hfs_catalog.specs.Lookups.{catalog_item}
use Rattle.hfs_catalog.specs.declared.item.ItemRecord.TheVariants.{Folder, File}
use Rattle.hfs_fields.specs.Records.{is_dir, item_id, dir_record_of, file_record_of}
use Rattle.hfs_items.specs.Told.{body_info, child_infos, file_info, folder_info, is_folder, told}

abbrev pub listed : Catalog → ℕ → Reply
listed catalog dir =
    if not (is_folder catalog dir) then refusal NOT_A_FOLDER
    else success (value.Many (child_infos catalog dir))

pub told-id : (catalog : Catalog) (r : Record) → (told catalog r).id ≡ item_id r.1
unfolding catalog_item folder_info file_info
told-id catalog r =
    elim (is_dir r.1)
    as (λ (b : Bool). (body_info catalog r.0 (cond b (Folder (dir_record_of r.1)) (File (file_record_of r.1)))).id ≡ cond b (dir_record_of r.1).id (file_record_of r.1).id) [
      | true ↦ refl
      | false ↦ refl
    ]
