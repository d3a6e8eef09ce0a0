-- The items of a sound image of bytes are called by bytes.
use Rattle.std.proofs.Common.{◌≡◌, inl, inr, ℕ, true, List, [], ◌∷◌, map, false, refl, sym, ap, subst, ◌∙◌}
use Rattle.std.specs.Prelude.{IsTrue}
use Rattle.hfs_blocks.specs.Blocks.{block_at, block_count}
use Rattle.hfs_catalog.specs.Records.{Record, Catalog}
use Rattle.hfs_catalog.proofs.Held.{has_record, item_name}
use Rattle.hfs_check.specs.Parts.{Blocks, catalog_in, mdb_in}
use Rattle.hfs_check.specs.Sound.{IsSound}
use Rattle.hfs_check.specs.VolumeOf.{contents_in, volume_in, volume_of}
use Rattle.hfs_check.proofs.LawsProved.{sound_images_are_lawful}
use Rattle.hfs_model.specs.declared.item.Item.{Item}
use Rattle.hfs_texts.specs.NameLaws.{is_bytes}
use Rattle.hfs_remains.specs.declared.catalog.FoundRecord.{FoundRecord}
use Rattle.hfs_remains.specs.CatalogRecords.{found}
use Rattle.hfs_remains.specs.Laws.{AreBytes, IsReadRecord}
use Rattle.hfs_remains.proofs.ByteLemmas.{block-bytes, bytes-pass, pass-bytes}
use Rattle.hfs_remains.proofs.LawsProved.{records_are_read, sound_catalog_is_found}
use Rattle.hfs_fields.specs.Each.{Each}
use Rattle.hfs_fields.specs.Members.{In}
use Rattle.hfs_word_take.specs.Laws.{AreNamed, SoundItemsArePlaced, SoundPathsAreTold}
use Rattle.hfs_word_take.proofs.PlacedItemLemmas.{bag-paths-told, items-placed}

-- what holds of all records that are found holds of each of the catalog's
of-each : (P : FoundRecord → Type 0) (catalog : Catalog) (r : Record) → Each P (map (found false) catalog) → In r catalog → P (found false r)
of-each P [] r all there = absurd there
of-each P (q ∷ catalog) r all (inl same) = subst (λ (x : Record). P (found false x)) same all.0
of-each P (q ∷ catalog) r all (inr there) = of-each P catalog r all.1 there

module _ (image : List ℕ) (bytes : IsTrue (is_bytes image)) (sound : IsSound image) where
  abbrev blocks : Blocks
  blocks = block_at image

  abbrev catalog : Catalog
  catalog = catalog_in blocks

  read : Each IsReadRecord (map (found false) catalog)
  read =
      subst (Each IsReadRecord) (sound_catalog_is_found (block_count image) blocks sound.blocks)
      (records_are_read (block_count image) blocks (mdb_in blocks) (block-bytes image (pass-bytes image bytes)))

  name-bytes : (r : Record) → In r catalog → is_bytes r.0.name ≡ true
  name-bytes r there = bytes-pass r.0.name (of-each IsReadRecord catalog r read there).name

  pub sound-named : AreNamed (volume_of image)
  unfolding volume_of volume_in
  sound-named id i has =
      let held = has_record (contents_in blocks) catalog id i has in
      subst (λ (name : List ℕ). is_bytes name ≡ true)
      (sym (item_name (contents_in blocks) catalog held.of) ∙ ap (λ (it : Item). it.name) held.is)
      (name-bytes held.of held.there)

pub sound-placed : SoundItemsArePlaced
sound-placed image bytes sound = items-placed (volume_of image) (sound_images_are_lawful image sound) (sound-named image bytes sound)

pub sound-told : SoundPathsAreTold
sound-told image bytes sound = bag-paths-told (volume_of image) (sound_images_are_lawful image sound) (sound-named image bytes sound)
