-- The page of a volume, out of its blocks.
use Rattle.std.specs.Prelude.{ℕ, List, ◌++◌}
use Rattle.hfs_space.specs.Bitmap.{is_used}
use Rattle.hfs_check.specs.Parts.{Blocks, catalog_in, mdb_in, overflow_in}
use Rattle.hfs_items.specs.Levels.{catalog_rows}
use Rattle.hfs_page.specs.declared.cells.Cell.{Cell}
use Rattle.hfs_page.specs.declared.page_texts.PageTexts.{PageTexts}
use Rattle.hfs_page.specs.declared.parts.Holding.{Holding}
use Rattle.hfs_page.specs.Cells.{picture_cells}
use Rattle.hfs_page.specs.Document.{back_text, front_text}
use Rattle.hfs_page.specs.Holdings.{volume_holdings}
use Rattle.hfs_page.specs.Items.{rows_text}
use Rattle.hfs_page.specs.Uses.{block_uses}

-- the extents with what their blocks are used for
unfoldable pub holdings_in : Blocks → List Holding
holdings_in blocks = volume_holdings (mdb_in blocks) (overflow_in blocks) (catalog_in blocks)

-- the cells of the picture
unfoldable pub cells_in : Blocks → List Cell
cells_in blocks = picture_cells (block_uses (holdings_in blocks) (is_used blocks (mdb_in blocks).bitmap_start) (mdb_in blocks).allocation_blocks)

-- the page of the volume in an image of so many blocks, with these texts
unfoldable pub page_in : PageTexts → ℕ → Blocks → List ℕ
page_in texts total blocks =
    front_text texts total (mdb_in blocks) ++ rows_text texts.image.base 0 (catalog_rows (catalog_in blocks)) ++ back_text texts (catalog_in blocks) (holdings_in blocks) (cells_in blocks)
