-- The items of a sound image are called by bytes, so the bag that `take` makes of it has paths of its own.
use Rattle.std.proofs.Common.{◌≡◌, ℕ, true, List, None, Some, ap, subst, sym, ◌∙◌}
use Rattle.std.specs.Prelude.{IsTrue, slice_get}
use Rattle.hfs_bag.proofs.PathLemmas.{bag_paths}
use Rattle.hfs_blocks.specs.Blocks.{block_at}
use Rattle.hfs_catalog.specs.Records.{Record, Catalog, items_of as items_in}
use Rattle.hfs_catalog.proofs.Held.{has_record, item_name}
use Rattle.hfs_check.specs.Parts.{catalog_in, mdb_in}
use Rattle.hfs_check.specs.Sound.{IsSound}
use Rattle.hfs_check.specs.VolumeOf.{contents_in, volume_in, volume_of}
use Rattle.hfs_check.proofs.LawsProved.{sound_images_are_lawful}
use Rattle.hfs_word_take.specs.Items.{bag_items, entries_in, table_text}
use Rattle.hfs_word_take.specs.Laws.{AreNamed}
use Rattle.hfs_word_take.proofs.LawsProved.{items_are_placed}
use Rattle.hfs_items.specs.ToldRows.{told_rows}
use Rattle.hfs_model.specs.declared.item.Item.{Item}
use Rattle.hfs_texts.specs.NameLaws.{is_bytes}
use Rattle.hfs_remains_places.specs.declared.things.Thing.{Thing}
use Rattle.hfs_remains_forks.proofs.RemainsLawsProved.{sound_are_things}
use Rattle.hfs_word_rescue.proofs.ItemWayLemmas.{inside, place-in, thing-is}
use Rattle.hfs_word_rescue.specs.Laws.{TakenPathsAreLawful}

module _ (image : List ℕ) (bytes : IsTrue (is_bytes image)) (sound : IsSound image) where
  abbrev catalog : Catalog
  catalog = catalog_in (block_at image)

  abbrev next : ℕ
  next = (mdb_in (block_at image)).next_id

  name-bytes : (i : ℕ) (r : Record) → slice_get (items_in catalog) i ≡ Some r → is_bytes r.0.name ≡ true
  name-bytes i r at =
      subst (λ (thing : Thing). is_bytes thing.name ≡ true) (thing-is catalog next sound.blocks.ids i r at)
      ((sound_are_things image sound bytes).each i (inside catalog next sound.blocks.ids i r at)).bytes

  named : AreNamed (volume_of image)
  unfolding volume_of volume_in
  named id i has =
      let found = has_record (contents_in (block_at image)) catalog id i has in
      let at = place-in catalog found.of found.there found.item in
      subst (λ (name : List ℕ). is_bytes name ≡ true)
      (sym (item_name (contents_in (block_at image)) catalog found.of) ∙ ap (λ (it : Item). it.name) found.is)
      (name-bytes at.0 found.of at.1)

pub taken-paths : TakenPathsAreLawful
taken-paths image facts bytes sound =
    bag_paths (bag_items (entries_in image)) (record { items = table_text (told_rows (entries_in image)); remains = None }) facts
    (items_are_placed (volume_of image) (sound_images_are_lawful image sound) (named image bytes sound))
