-- What a page says about what was found before the items.
use Rattle.std.specs.Prelude.{ℕ, ◌-◌, List, ◌++◌, codes}
use Rattle.hfs_fields.specs.declared.mdb.Mdb.{Mdb}
use Rattle.hfs_page.specs.declared.page_image.PageImage.{PageImage}
use Rattle.hfs_page.specs.Escapes.{escaped}
use Rattle.hfs_page.specs.Facts.{count_row, dates_text, image_rows}
use Rattle.hfs_page.specs.Texts.{told_number}
use Rattle.hfs_rescue_items.specs.declared.found.Found.{Found}
use Rattle.hfs_rescue_items.specs.Sums.{files_at, folders_at, of_all, whole_at}

-- the fault in words, and what it means
unfoldable pub fault_text : List ℕ → List ℕ → List ℕ
fault_text refusal meaning = codes "<p>" ++ escaped refusal ++ codes "</p>\n<p>" ++ escaped meaning ++ codes "</p>\n"

abbrev pub facts_start : List ℕ
facts_start =
    codes "<nav aria-label=\"On this page\"><a href=\"#list\">Items</a><a href=\"#blocks\">Blocks</a></nav>\n<dl>\n<div><dt>Check</dt><dd>refused</dd></div>\n"

-- so many files, of which so many are whole and so many damaged, and so many folders
unfoldable pub counts_text : ℕ → ℕ → ℕ → ℕ → List ℕ
counts_text files whole damaged folders =
    told_number (codes "<div><dt>Files found</dt><dd>") files ++ told_number (codes "</dd></div>\n<div><dt>Whole</dt><dd>") whole
    ++ told_number (codes "</dd></div>\n<div><dt>Damaged</dt><dd>") damaged ++ told_number (codes "</dd></div>\n<div><dt>Folders found</dt><dd>") folders
    ++ codes "</dd></div>\n"

abbrev pub sums_text : Found → List ℕ
sums_text found =
    counts_text (of_all found (files_at found)) (of_all found (whole_at found)) (of_all found (files_at found) - of_all found (whole_at found))
    (of_all found (folders_at found))

-- the blocks, as the directory has them
unfoldable pub blocks_rows : Mdb → List ℕ
blocks_rows mdb = count_row (codes "Allocation blocks") mdb.allocation_blocks ++ count_row (codes "Bytes of each block") mdb.allocation_block_size

unfoldable pub facts_text : PageImage → Found → List ℕ
facts_text image found =
    facts_start ++ image_rows image ++ sums_text found ++ dates_text found.mdb.now ++ blocks_rows found.mdb.now ++ codes "</dl>\n"
