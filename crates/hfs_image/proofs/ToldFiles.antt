-- What is told of an item by what was gathered is what is told of it by the image.
use Rattle.std.proofs.Common.{◌≡◌, ℕ, ◌/◌, List, Option, Some, None, sym, ap, subst, ◌∙◌}
use Rattle.hfs_blocks.specs.Blocks.{block_at, block_count}
use Rattle.hfs_blocks.specs.Layers.{Numbered}
use Rattle.hfs_model.specs.Children.{entries_of}
use Rattle.hfs_model.specs.Reading.{get_cat_info, get_dir_info}
use Rattle.hfs_model.specs.declared.reply.Reply.{Reply}
use Rattle.hfs_catalog.specs.Records.{Catalog}
use Rattle.hfs_check.proofs.LawTypes.{NoBlocksFault}
use Rattle.hfs_check.specs.Parts.{catalog_in}
use Rattle.hfs_check.specs.Sound.{AreBlocksSound}
use Rattle.hfs_check.specs.VolumeOf.{contents_in, volume_of}
use Rattle.hfs_items.proofs.QueriesLaws.{RecordsAreEntries}
use Rattle.hfs_items.proofs.ReplyLemmas.{cat_infos, dir_infos}
use Rattle.hfs_items.specs.Told.{cat_info, dir_info}
use Rattle.hfs_source.specs.Sparse.{sparse, IsOf}
use Rattle.hfs_image.specs.Gathered.{HasNeeded, IsOfKnown}
use Rattle.hfs_image.proofs.GatheredLaws.{GatheredIsEnough}
use Rattle.hfs_image.specs.Known.{OfKnown}
use Rattle.hfs_image.specs.Paths.{told_at, path_told}
use Rattle.hfs_image.proofs.Listed.{held, entries-are}

module _ (law : NoBlocksFault) (enough : GatheredIsEnough) (answers : RecordsAreEntries) (bytes : List ℕ) (read : Numbered)
    (needed : HasNeeded (block_count bytes) read) (of : IsOf bytes read) (sound : AreBlocksSound (block_count bytes) (sparse read)) where
  told-is : (dir : ℕ) (name : List ℕ) → cat_info (catalog_in (sparse read)) dir name ≡ get_cat_info (entries_of (volume_of bytes)) dir name
  told-is dir name =
      ap (λ (catalog : Catalog). cat_info catalog dir name) (sym (held law enough answers bytes read needed of sound).catalog)
      ∙ cat_infos (contents_in (block_at bytes)) (catalog_in (block_at bytes)) (entries_of (volume_of bytes)) (entries-are law enough answers bytes read needed of sound) dir name

  dir-is : (dir : ℕ) → dir_info (catalog_in (sparse read)) dir ≡ get_dir_info (entries_of (volume_of bytes)) dir
  dir-is dir =
      ap (λ (catalog : Catalog). dir_info catalog dir) (sym (held law enough answers bytes read needed of sound).catalog)
      ∙ dir_infos (contents_in (block_at bytes)) (catalog_in (block_at bytes)) (entries_of (volume_of bytes)) (entries-are law enough answers bytes read needed of sound) dir

  -- and so of the item of a path
  path-is : (names : List (List ℕ)) → told_at (cat_info (catalog_in (sparse read))) (dir_info (catalog_in (sparse read)) 2) names ≡ path_told (entries_of (volume_of bytes)) names
  path-is names = λ i. told_at (λ dir name. told-is dir name i) (dir-is 2 i) names

pub told-known : NoBlocksFault → GatheredIsEnough → RecordsAreEntries → (known : Option (List ℕ)) (len : ℕ) (read : Numbered) → HasNeeded (len / 512) read
    → IsOfKnown known read → AreBlocksSound (len / 512) (sparse read) → (dir : ℕ) (name : List ℕ) (reply : Reply) → reply ≡ cat_info (catalog_in (sparse read)) dir name
    → OfKnown known len (λ bytes. reply ≡ get_cat_info (entries_of (volume_of bytes)) dir name)
told-known law enough answers None len read needed of sound dir name reply e = tt
told-known law enough answers (Some bytes) len read needed of sound dir name reply e = λ same.
    e
    ∙ told-is law enough answers bytes read (subst (λ (n : ℕ). HasNeeded (n / 512) read) (sym same) needed) of
    (subst (λ (n : ℕ). AreBlocksSound (n / 512) (sparse read)) (sym same) sound) dir name

pub path-known : NoBlocksFault → GatheredIsEnough → RecordsAreEntries → (known : Option (List ℕ)) (len : ℕ) (read : Numbered) → HasNeeded (len / 512) read
    → IsOfKnown known read → AreBlocksSound (len / 512) (sparse read) → (names : List (List ℕ)) (reply : Reply)
    → reply ≡ told_at (cat_info (catalog_in (sparse read))) (dir_info (catalog_in (sparse read)) 2) names
    → OfKnown known len (λ bytes. reply ≡ path_told (entries_of (volume_of bytes)) names)
path-known law enough answers None len read needed of sound names reply e = tt
path-known law enough answers (Some bytes) len read needed of sound names reply e = λ same.
    e
    ∙ path-is law enough answers bytes read (subst (λ (n : ℕ). HasNeeded (n / 512) read) (sym same) needed) of
    (subst (λ (n : ℕ). AreBlocksSound (n / 512) (sparse read)) (sym same) sound) names
