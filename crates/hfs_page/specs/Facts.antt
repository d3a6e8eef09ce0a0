-- What a page says about a volume before its picture.
use Rattle.std.specs.Prelude.{ℕ, ◌*◌, List, [], ◌++◌, codes, Option, Some, None}
use Rattle.std.specs.Borrow.{Bor}
use Rattle.std.specs.Fmt.{decimal}
use Rattle.hfs_fields.specs.declared.mdb.Mdb.{Mdb}
use Rattle.hfs_page.specs.declared.page_image.PageImage.{PageImage}
use Rattle.hfs_page.specs.Escapes.{escaped}
use Rattle.hfs_page.specs.Sizes.{size_text}
use Rattle.hfs_page.specs.Texts.{date_text, told_number}

-- ---- the list of what the volume is

unfoldable pub row_head : List ℕ → List ℕ
row_head label = codes "<div><dt>" ++ label ++ codes "</dt><dd>"

unfoldable pub date_row : List ℕ → ℕ → List ℕ
date_row label date = row_head label ++ date_text date ++ codes "</dd></div>\n"

unfoldable pub count_row : List ℕ → ℕ → List ℕ
count_row label count = row_head label ++ decimal count ++ codes "</dd></div>\n"

-- in the unit that suits, and in bytes
unfoldable pub size_row : List ℕ → ℕ → List ℕ
size_row label bytes = row_head label ++ size_text bytes ++ told_number (codes " (") bytes ++ codes " bytes)</dd></div>\n"

-- of an image of so many blocks of 512 bytes
unfoldable pub lengths_text : ℕ → Mdb → List ℕ
lengths_text total mdb = size_row (codes "Length") (total * 512) ++ size_row (codes "Free") (mdb.free_blocks * mdb.allocation_block_size)

unfoldable pub dates_text : Mdb → List ℕ
dates_text mdb = date_row (codes "Created") mdb.created ++ date_row (codes "Modified") mdb.modified ++ date_row (codes "Backup") mdb.backup

unfoldable pub sizes_text : Mdb → List ℕ
sizes_text mdb =
    count_row (codes "Allocation blocks") mdb.allocation_blocks ++ count_row (codes "Bytes of each block") mdb.allocation_block_size
    ++ count_row (codes "Free blocks") mdb.free_blocks

unfoldable pub counts_text : Mdb → List ℕ
counts_text mdb = count_row (codes "Files") mdb.files ++ count_row (codes "Folders") mdb.folders

unfoldable pub text_row : List ℕ → List ℕ → List ℕ
text_row label text = row_head label ++ escaped text ++ codes "</dd></div>\n"

abbrev pub digest_row : Option (Bor (List ℕ)) → List ℕ
digest_row None = []
digest_row (Some digest) = text_row (codes "SHA-256") digest.now

-- how the image's file is called, and its digest where it was taken
unfoldable pub image_rows : PageImage → List ℕ
image_rows image = text_row (codes "Image") image.name.now ++ digest_row image.digest

-- links to the parts of the page; the volume is a sound one, since no other has more than its fault
unfoldable pub facts_start : List ℕ
facts_start =
    codes "<nav aria-label=\"On this page\"><a href=\"#list\">Items</a><a href=\"#blocks\">Blocks</a></nav>\n<dl>\n<div><dt>Check</dt><dd>sound</dd></div>\n"

unfoldable pub facts_text : PageImage → ℕ → Mdb → List ℕ
facts_text image total mdb = facts_start ++ image_rows image ++ lengths_text total mdb ++ dates_text mdb ++ counts_text mdb ++ sizes_text mdb ++ codes "</dl>\n"

-- ---- the beginning of a page, with its title in markup

-- up to the title: the page may ask for nothing, and has no icon
unfoldable pub start_text : List ℕ
start_text =
    codes "<!DOCTYPE html>\n<html lang=\"en\">\n<head>\n<meta charset=\"utf-8\">\n<meta name=\"viewport\" content=\"width=device-width\">\n<meta http-equiv=\"Content-Security-Policy\" content=\"default-src 'none'; style-src 'unsafe-inline'; script-src 'unsafe-inline'; img-src data:\">\n<link rel=\"icon\" href=\"data:,\">\n<title>"

unfoldable pub head_text : List ℕ → List ℕ → List ℕ
head_text style title =
    start_text ++ title ++ codes "</title>\n<style>" ++ style ++ codes "</style>\n</head>\n<body>\n<main>\n<h1>" ++ title ++ codes "</h1>\n"
