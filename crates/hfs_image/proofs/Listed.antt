-- What is told of a folder by what was gathered is what is told of it by the image.
use Rattle.std.proofs.Common.{◌≡◌, ℕ, ◌/◌, List, Option, Some, None, sym, ap, subst, ◌∙◌}
use Rattle.hfs_blocks.specs.Blocks.{block_at, block_count, length-block_at}
use Rattle.hfs_blocks.specs.Layers.{Numbered}
use Rattle.hfs_model.specs.Children.{entries_of}
use Rattle.hfs_model.specs.Reading.{list}
use Rattle.hfs_model.specs.declared.reply.Reply.{Reply}
use Rattle.hfs_catalog.specs.Records.{Catalog}
use Rattle.hfs_check.proofs.LawTypes.{NoBlocksFault}
use Rattle.hfs_check.specs.Parts.{catalog_in}
use Rattle.hfs_check.specs.Sound.{AreBlocksSound}
use Rattle.hfs_check.specs.VolumeOf.{contents_in, volume_of}
use Rattle.hfs_items.specs.declared.reply.Detail.TheVariants as detail
use Rattle.hfs_items.specs.Brief.{listed_in, without_ids}
use Rattle.hfs_items.proofs.DetailLemmas.{listed_in-brief}
use Rattle.hfs_items.specs.Queries.{AreEntries}
use Rattle.hfs_items.proofs.QueriesLaws.{RecordsAreEntries}
use Rattle.hfs_items.proofs.ReplyLemmas.{lists}
use Rattle.hfs_source.specs.Sparse.{sparse, IsOf}
use Rattle.hfs_items.proofs.LawTypes.{CatalogsTellTables}
use Rattle.hfs_items.specs.Levels.{Going, catalog_rows}
use Rattle.hfs_items.specs.ToldRows.{told_rows}
use Rattle.hfs_image.specs.Laws.{AnswerSame, HoldSame}
use Rattle.hfs_image.specs.Gathered.{HasNeeded, IsOfKnown}
use Rattle.hfs_image.proofs.GatheredLaws.{GatheredIsEnough}
use Rattle.hfs_image.specs.Known.{OfKnown}

-- the needed blocks of an image, which are those of a sound volume
module _ (law : NoBlocksFault) (enough : GatheredIsEnough) (answers : RecordsAreEntries) (bytes : List ℕ) (read : Numbered)
    (needed : HasNeeded (block_count bytes) read) (of : IsOf bytes read) (sound : AreBlocksSound (block_count bytes) (sparse read)) where
  same : AnswerSame (block_count bytes) (sparse read) (block_at bytes)
  same = enough (block_count bytes) bytes read needed of

  pub held : HoldSame (block_count bytes) (sparse read) (block_at bytes)
  held = same.held sound

  pub image-sound : AreBlocksSound (block_count bytes) (block_at bytes)
  image-sound = (law (block_count bytes) (block_at bytes)).0 (same.fault ∙ (law (block_count bytes) (sparse read)).1 sound)

  pub entries-are : AreEntries (contents_in (block_at bytes)) (catalog_in (block_at bytes)) (entries_of (volume_of bytes))
  unfolding volume_of
  entries-are = answers (block_count bytes) (block_at bytes) (length-block_at bytes) image-sound

  listed-is : (dir : ℕ) → listed_in detail.Brief (catalog_in (sparse read)) dir ≡ without_ids (list (entries_of (volume_of bytes)) dir)
  listed-is dir =
      ap (λ (catalog : Catalog). listed_in detail.Brief catalog dir) (sym held.catalog)
      ∙ listed_in-brief (catalog_in (block_at bytes)) dir
      ∙ ap without_ids (lists (contents_in (block_at bytes)) (catalog_in (block_at bytes)) (entries_of (volume_of bytes)) entries-are dir)

pub lists-known : NoBlocksFault → GatheredIsEnough → RecordsAreEntries → (known : Option (List ℕ)) (len : ℕ) (read : Numbered) → HasNeeded (len / 512) read
    → IsOfKnown known read → AreBlocksSound (len / 512) (sparse read) → (dir : ℕ) (reply : Reply) → reply ≡ listed_in detail.Brief (catalog_in (sparse read)) dir
    → OfKnown known len (λ bytes. reply ≡ without_ids (list (entries_of (volume_of bytes)) dir))
lists-known law enough answers None len read needed of sound dir reply e = tt
lists-known law enough answers (Some bytes) len read needed of sound dir reply e = λ same.
    e
    ∙ listed-is law enough answers bytes read (subst (λ (n : ℕ). HasNeeded (n / 512) read) (sym same) needed) of
    (subst (λ (n : ℕ). AreBlocksSound (n / 512) (sparse read)) (sym same) sound) dir

told-of : CatalogsTellTables → (bytes : List ℕ) → AreBlocksSound (block_count bytes) (block_at bytes) → catalog_rows (catalog_in (block_at bytes)) ≡ told_rows (entries_of (volume_of bytes))
unfolding volume_of
told-of tells bytes sound = tells (block_count bytes) (block_at bytes) (length-block_at bytes) sound

pub table-known : NoBlocksFault → GatheredIsEnough → RecordsAreEntries → CatalogsTellTables → (known : Option (List ℕ)) (len : ℕ) (read : Numbered) → HasNeeded (len / 512) read
    → IsOfKnown known read → AreBlocksSound (len / 512) (sparse read) → (records : Catalog) → records ≡ catalog_in (sparse read) → (inventory : Going)
    → inventory.left ≡ catalog_rows records → OfKnown known len (λ bytes. inventory.left ≡ told_rows (entries_of (volume_of bytes)))
table-known law enough answers tells None len read needed of sound records e inventory is = tt
table-known law enough answers tells (Some bytes) len read needed of sound records e inventory is = λ same.
    let needed' = subst (λ (n : ℕ). HasNeeded (n / 512) read) (sym same) needed in
    let sound' = subst (λ (n : ℕ). AreBlocksSound (n / 512) (sparse read)) (sym same) sound in
    is
    ∙ ap catalog_rows (e ∙ sym (held law enough answers bytes read needed' of sound').catalog)
    ∙ told-of tells bytes (image-sound law enough answers bytes read needed' of sound')
