-- The table of an image that was opened has its root.
use Rattle.std.proofs.Common.{◌≡◌, ◌≢◌, ℕ, ◌/◌, List, [], ◌∷◌, length, map, Some, refl, ap, subst, ◌∙◌, arith}
use Rattle.std.specs.List.{Contains}
use Rattle.hfs_blocks.specs.Blocks.{block_at}
use Rattle.hfs_catalog.proofs.CatalogLawsProved.{sound_is_lawful}
use Rattle.hfs_check.proofs.LawfulVolume.{sound_catalog}
use Rattle.hfs_check.proofs.LawsProved.{no_blocks_fault}
use Rattle.hfs_check.specs.Parts.{catalog_in, mdb_in}
use Rattle.hfs_check.specs.Sound.{AreBlocksSound}
use Rattle.hfs_check.specs.VolumeOf.{contents_in, volume_in, volume_of}
use Rattle.hfs_items.specs.Rows.{Row, table_of}
use Rattle.hfs_items.specs.ToldRows.{told_row}
use Rattle.hfs_items.proofs.TableLemmas.{tables_are_inventories}
use Rattle.hfs_model.specs.Children.{entries_of}
use Rattle.hfs_model.specs.Lawful.{IsLawful}
use Rattle.hfs_model.specs.Volume.{Entry, Volume}
use Rattle.hfs_model.proofs.Members.{in_from_contains}
use Rattle.hfs_image.proofs.LawsProved.{gathered_is_enough}
use Rattle.hfs_image.specs.Opened.{IsOpenedOf}
use Rattle.hfs_image.specs.declared.opening.NeededVolume.{NeededVolume}
use Rattle.hfs_source.specs.Sparse.{sparse}
use Rattle.hfs_image.specs.Seen.{IsOpenedBy}
use Rattle.hfs_word_take.specs.Items.{entries_in}
use Rattle.hfs_items.specs.ToldRows.{told_rows}

-- an image's table has a row
abbrev pub HasSomeRow : List ℕ → Type 0
HasSomeRow image = told_rows (entries_in image) ≢ []

-- the table of a lawful volume has a row
has-row : (v : Volume) → IsLawful v → table_of v ≢ []
has-row v h none =
    let root : Entry = (2, h.root.0) in
    let there = subst (λ (rows : List Row). Contains (map (λ (r : Row). r.entry) rows) root) none (((tables_are_inventories v h).each root).1 h.root.1) in
    in_from_contains [] root there.0 there.1 there.2

none-told : (es : List Entry) (rows : List Row) → map (told_row es) rows ≡ [] → rows ≡ []
none-told es [] none = refl
none-told es (r ∷ rows) none = absurd (omega (arith, ap length none))

-- blocks of a sound volume hold a lawful one
lawful-of : (image : List ℕ) (total : ℕ) → AreBlocksSound total (block_at image) → IsLawful (volume_of image)
unfolding volume_of volume_in
lawful-of image total sound =
    sound_is_lawful (contents_in (block_at image)) (mdb_in (block_at image)).next_id (catalog_in (block_at image)) sound.mdb.next_id (sound_catalog total (block_at image) sound)

-- an image whose needed blocks are those of a sound volume is sound itself
sound-of : (image : List ℕ) (total : ℕ) (volume : NeededVolume) → IsOpenedOf (Some image) total volume → AreBlocksSound total (block_at image)
sound-of image total volume opened =
    (no_blocks_fault total (block_at image)).0
    ((gathered_is_enough total image volume.read opened.needed opened.of).fault ∙ (no_blocks_fault total (sparse volume.read)).1 opened.sound)

-- so its table has a row
pub has_some_row : (image : List ℕ) (total : ℕ) (volume : NeededVolume) → IsOpenedOf (Some image) total volume → HasSomeRow image
has_some_row image total volume opened =
    λ none. has-row (volume_of image) (lawful-of image total (sound-of image total volume opened)) (none-told (entries_of (volume_of image)) (table_of (volume_of image)) none)

-- an image that was seen
pub row_of_seen : (volume : NeededVolume) (image : List ℕ) → IsOpenedBy volume image → HasSomeRow image
row_of_seen volume image is = has_some_row image (length image / 512) volume is
