-- Volumes that hold the same have the same page.
use Rattle.std.proofs.Common.{◌≡◌, ℕ, zero, suc, ◌+◌, ◌<◌, Bool, List, ◌∷◌, ◌++◌, length, map, Option, Result, Ok, Err, OnOk, OnErr, refl, sym, ap, subst, ◌∙◌, ◌/◌, arith}
use Rattle.std.specs.Io.KnownBytes.{Appends}
use Rattle.std.specs.List.{range_with_len}
use Rattle.hfs_space.specs.Bitmap.{is_used}
use Rattle.hfs_check.specs.Parts.{Blocks, mdb_in}
use Rattle.hfs_items.specs.Levels.{catalog_rows}
use Rattle.hfs_blocks.specs.Blocks.{block_at}
use Rattle.hfs_blocks.specs.Layers.{Numbered}
use Rattle.hfs_source.specs.Sparse.{sparse}
use Rattle.hfs_image.proofs.GatheredLaws.{GatheredIsEnough}
use Rattle.hfs_image.specs.Seen.{IsOpenedBy}
use Rattle.hfs_source.specs.Images.{OfEach}
use Rattle.hfs_image.specs.declared.opening.NeededVolume.{NeededVolume}
use Rattle.hfs_texts.specs.Writing.{AppendsFront}
use Rattle.hfs_image.specs.Laws.{HoldSame}
use Rattle.hfs_page.specs.ImagePages.{WritesPage, WritesPageFront, page_of}
use Rattle.hfs_page.specs.declared.parts.Holding.{Holding}
use Rattle.hfs_page.specs.Cells.{picture_cells}
use Rattle.hfs_page.specs.declared.page_texts.PageTexts.{PageTexts}
use Rattle.hfs_page.specs.Disk.{cells_in, holdings_in, page_in}
use Rattle.hfs_page.specs.Document.{back_text, front_text}
use Rattle.hfs_page.specs.Holdings.{volume_holdings}
use Rattle.hfs_page.specs.Items.{rows_text}
use Rattle.hfs_page.specs.Uses.{block_uses, unowned, use_by}

map-range : {A : Type 0} (f g : ℕ → A) (a n : ℕ) → ((k : ℕ) → k < a + n → f k ≡ g k) → map f (range_with_len a n) ≡ map g (range_with_len a n)
map-range f g a zero h = refl
map-range f g a (suc n) h = λ i. h a (omega arith) i ∷ map-range f g (a + 1) n (λ k lt. h k (omega (arith, lt))) i

-- where the same blocks are marked
uses-same : (holdings : List Holding) (p q : ℕ → Bool) (n : ℕ) → ((k : ℕ) → k < n → p k ≡ q k) → block_uses holdings p n ≡ block_uses holdings q n
unfolding block_uses
uses-same holdings p q n h =
    map-range (λ k. use_by holdings (unowned (p k)) k) (λ k. use_by holdings (unowned (q k)) k) 0 n
    (λ k lt. ap (λ (marked : Bool). use_by holdings (unowned marked) k) (h k (omega (arith, lt))))

module _ (total : ℕ) (old new : Blocks) (same : HoldSame total old new) where
  holdings-same : holdings_in new ≡ holdings_in old
  unfolding holdings_in
  holdings-same = λ i. volume_holdings (same.directory i) (same.overflow i) (same.catalog i)

  cells-same : cells_in new ≡ cells_in old
  unfolding cells_in
  cells-same =
      (λ i. picture_cells (block_uses (holdings-same i) (is_used new (same.directory i).bitmap_start) (same.directory i).allocation_blocks))
      ∙ ap picture_cells (uses-same (holdings_in old) (is_used new (mdb_in old).bitmap_start)
      (is_used old (mdb_in old).bitmap_start) (mdb_in old).allocation_blocks same.marks)

  pub page-same : (texts : PageTexts) (count : ℕ) → page_in texts count new ≡ page_in texts count old
  unfolding page_in
  page-same texts count =
      λ i. front_text texts count (same.directory i) ++ rows_text texts.image.base 0 (catalog_rows (same.catalog i)) ++ back_text texts (same.catalog i) (holdings-same i) (cells-same i)

-- what holds of the page of the blocks that were read holds of that of the image
pub image-page : (P : List ℕ → Type 0) (texts : PageTexts) (image : List ℕ) (volume : NeededVolume) → GatheredIsEnough → IsOpenedBy volume image
    → P (page_in texts (length image / 512) (sparse volume.read)) → P (page_of texts image)
image-page P texts image volume enough opened p =
    subst P (sym (page-same (length image / 512) (sparse volume.read) (block_at image)
    ((enough (length image / 512) image volume.read opened.needed opened.of).held opened.sound) texts (length image / 512))) p

-- ---- what was opened, of each of these images

module _ (enough : GatheredIsEnough) (Holds : List ℕ → Type 0) (volume : NeededVolume) (opened : OfEach Holds (IsOpenedBy volume))
    (texts : PageTexts) (now : Numbered) (is : now ≡ volume.read) (total : ℕ) (whole : total ≡ volume.count) where
  pages-same : (P : List ℕ → Type 0) → P (page_in texts total (sparse now)) → OfEach Holds (λ image. P (page_of texts image))
  pages-same P p = λ image h.
      image-page P texts image volume enough (opened image h)
      (subst (λ (n : ℕ). P (page_in texts n (sparse volume.read))) (whole ∙ (opened image h).whole)
      (subst (λ (read : Numbered). P (page_in texts total (sparse read))) is p))

  pub written-each : {T E : Type 0} (r : Result T E) (old new : Option (List ℕ)) → OnOk r (Appends old new (page_in texts total (sparse now)))
      → OnOk r (OfEach Holds (WritesPage texts old new))
  written-each (Ok x) old new h = pages-same (λ (bytes : List ℕ). Appends old new bytes) h
  written-each (Err e) old new h = tt

  pub part-each : {T E : Type 0} (r : Result T E) (old new : Option (List ℕ)) → OnErr r (AppendsFront old new (page_in texts total (sparse now)))
      → OnErr r (OfEach Holds (WritesPageFront texts old new))
  part-each (Ok x) old new h = tt
  part-each (Err e) old new h = pages-same (λ (bytes : List ℕ). AppendsFront old new bytes) h

-- what holds of what was opened holds of the blocks that are lent
pub lent : (P : ℕ → Numbered → Type 0) (total count : ℕ) (read now : Numbered) → count ≡ total → now ≡ read → P total read → P count now
lent P total count read now e f p = subst (λ (n : ℕ). P n now) (sym e) (subst (P total) (sym f) p)
