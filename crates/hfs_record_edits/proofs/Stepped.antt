-- Edits of the catalog that hold the items of a step make the step.
use Rattle.std.proofs.Common.{◌≡◌, ℕ, sym, ◌∙◌, subst}
use Rattle.hfs_fields.specs.declared.mdb.Mdb.{Mdb}
use Rattle.hfs_fields.specs.Records.{is_bit_set}
use Rattle.hfs_model.specs.declared.call.Call.{Call}
use Rattle.hfs_model.specs.Volume.{Volume, Items}
use Rattle.hfs_model.specs.Lawful.{AreLawful, IsLawful}
use Rattle.hfs_model.specs.Laws.{StepKeepsLawful}
use Rattle.hfs_model.specs.Step.{step}
use Rattle.hfs_space.proofs.LawTypes.{OwnedAreWithin}
use Rattle.hfs_catalog.specs.Sound.{IsSoundCatalog}
use Rattle.hfs_catalog.specs.Items.{items_in}
use Rattle.hfs_catalog.proofs.CatalogLawTypes.{ItemsAreRecords, SoundIsLawful}
use Rattle.hfs_check.specs.Parts.{Blocks, mdb_in, catalog_in}
use Rattle.hfs_check.specs.Sound.{AreBlocksSound}
use Rattle.hfs_check.proofs.LawTypes.{CatalogIsSound}
use Rattle.hfs_check.specs.VolumeOf.{contents_in, volume_in}
use Rattle.hfs_record_edits.proofs.OnBlockLemmas.{IsCatalogEdit}
use Rattle.hfs_record_edits.specs.Laws.{MakesStep, IsStepped, CatalogEditsAreSteps}
use Rattle.hfs_record_edits.proofs.FromLawful.{sound}
use Rattle.hfs_record_edits.proofs.Assembled.{edited_sound, edited_keeps}

module _ (records : ItemsAreRecords) (within : OwnedAreWithin) (catalogs : CatalogIsSound) (lawful : SoundIsLawful) (keeps : StepKeepsLawful)
    (c : Call) (counts : Mdb) (total : ℕ) (old new : Blocks) (h : AreBlocksSound total old) (m : MakesStep c counts old new) where
  old_lawful : IsLawful (volume_in old)
  unfolding volume_in
  old_lawful = lawful (contents_in old) (mdb_in old).next_id (catalog_in old) h.mdb.next_id (catalogs total old h)

  new_lawful : AreLawful (items_in (contents_in new) (catalog_in new)) counts.next_id
  new_lawful =
      let stepped : IsLawful (record (volume_in old) { items = m.items; next_id = counts.next_id; changed = counts.modified }) = subst IsLawful m.made (keeps (volume_in old) c old_lawful) in
      subst (λ (items : Items). AreLawful items counts.next_id) (sym m.held) stepped

  new_catalog : IsSoundCatalog counts.next_id (catalog_in new)
  new_catalog = sound records (contents_in new) counts.next_id (catalog_in new) m.near new_lawful

  edit : IsCatalogEdit counts old new
  edit = record {
    edits = m.edits;
    beside = m.beside;
    tree = m.tree;
    frame = m.frame;
    index = m.index;
    catalog = new_catalog;
    least = m.least;
    numbers = m.numbers;
    free = m.free;
    forks = m.forks;
    owned = m.owned;
  }

  abbrev volume_with : Items → Mdb → Volume
  volume_with items mdb = record { items = items; next_id = mdb.next_id; changed = mdb.modified; hardware_locked = is_bit_set 7 mdb.attributes.0; software_locked = is_bit_set 15 mdb.attributes.0; block_size = mdb.allocation_block_size }

  made_volume : volume_in new ≡ (step (volume_in old) c).0
  unfolding volume_in
  made_volume = (λ i. volume_with (m.held i) (m.edits.mdb i)) ∙ sym m.made

  pub stepped : IsStepped c total old new
  stepped = record {
    sound = edited_sound within counts total old new h edit;
    kept = edited_keeps within counts total old new h edit;
    volume = made_volume;
  }

pub catalog_edits_are_steps : ItemsAreRecords → OwnedAreWithin → CatalogIsSound → SoundIsLawful → StepKeepsLawful → CatalogEditsAreSteps
catalog_edits_are_steps records within catalogs lawful keeps c counts total old new h m = stepped records within catalogs lawful keeps c counts total old new h m
