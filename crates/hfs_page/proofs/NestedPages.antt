-- The markup of pages nests.
use Rattle.std.proofs.Common.{◌≡◌, refl, ℕ, true, List, [], ◌∷◌, length, Option, Some, None, decimal}
use Rattle.std.specs.Prelude.{◌==◌, ◌+◌, ◌/◌, ◌%◌, ◌*◌, codes}
use Rattle.std.specs.Borrow.{Bor}
use Rattle.std.specs.Int.{div_ceil}
use Rattle.std.specs.List.{flat_map, list_all, slice_get}
use Rattle.hfs_fields.specs.declared.mdb.Mdb.{Mdb}
use Rattle.hfs_fields.specs.declared.extent.Extent.{Extent}
use Rattle.hfs_catalog.specs.Records.{Catalog, Record}
use Rattle.hfs_space.specs.declared.fork_kind.ForkKind.{ForkKind}
use Rattle.hfs_space.specs.declared.fork_kind.ForkKind.TheVariants.{Data, Resource}
use Rattle.hfs_texts.specs.PlainTexts.{plain_text}
use Rattle.hfs_items.specs.Levels.{catalog_rows}
use Rattle.hfs_items.specs.ToldRows.{ToldRow}
use Rattle.hfs_check.specs.Parts.{Blocks, catalog_in, mdb_in}
use Rattle.hfs_page.proofs.EscapeLemmas.{no-delimiters}
use Rattle.hfs_page.specs.declared.cells.Cell.{Cell}
use Rattle.hfs_page.specs.declared.page_image.PageImage.{PageImage}
use Rattle.hfs_page.specs.declared.page_texts.PageTexts.{PageTexts}
use Rattle.hfs_page.specs.declared.parts.BlockUse.{BlockUse}
use Rattle.hfs_page.specs.declared.parts.FileFork.{FileFork}
use Rattle.hfs_page.specs.declared.parts.Holding.{Holding}
use Rattle.hfs_page.specs.declared.parts.Part.{Part}
use Rattle.hfs_page.specs.declared.parts.Part.TheVariants as part
use Rattle.hfs_page.specs.Disk.{cells_in, holdings_in, page_in}
use Rattle.hfs_page.specs.Document.{back_text, end_text, front_text, refused_page, version_text, volume_name}
use Rattle.hfs_page.specs.Dress.{IsDress}
use Rattle.hfs_page.specs.Extents.{extent_text, extents_text, owned_text, placed_text}
use Rattle.hfs_page.specs.Facts as fact
use Rattle.hfs_page.specs.Facts.{digest_row, facts_text, head_text, image_rows, row_head}
use Rattle.hfs_page.specs.Items.{rows_text}
use Rattle.hfs_page.specs.Laws.{is_no_delimiter}
use Rattle.hfs_page.specs.Markup.{Leads}
use Rattle.hfs_page.specs.Nested.{RefusedPagesNest, VolumePagesNest}
use Rattle.hfs_page.specs.Parts.{rank}
use Rattle.hfs_page.specs.Picture as drawn
use Rattle.hfs_page.specs.Picture.{cells_text, fork_text, name_of, owner_text, part_text, picture_text}
use Rattle.hfs_page.specs.Texts.{shown, told_number}
use Rattle.hfs_page.proofs.MarkupLemmas.{At, Goes, Passes, ◌▹◌, at, constant, decimal-plain, goes-if, in-tag, inside, nested, tag-goes, text-goes}
use Rattle.hfs_page.proofs.NestedItems.{date-passes, decimal-passes, escaped-passes, number-passes, rows-pass, size-passes}

-- ---- facts

module _ (names : List (List ℕ)) where
  abbrev row : List (List ℕ)
  row = codes "dd" ∷ codes "div" ∷ names

  abbrev term : List (List ℕ)
  term = codes "dt" ∷ codes "div" ∷ names

  head-passes : (label : List ℕ) → list_all is_no_delimiter label ≡ true → Passes names row (row_head label)
  unfolding row_head
  head-passes label plain =
      constant (at names) (at term) (codes "<div><dt>") (λ outer. refl) ▹ text-goes term label plain ▹ constant (at term) (at row) (codes "</dt><dd>") (λ outer. refl)

  date-row-passes : (label : List ℕ) (date : ℕ) → list_all is_no_delimiter label ≡ true → Passes names names (fact.date_row label date)
  unfolding fact.date_row
  date-row-passes label date plain =
      head-passes label plain ▹ date-passes row date ▹ constant (at row) (at names) (codes "</dd></div>\n") (λ outer. refl)

  pub count-row-passes : (label : List ℕ) (count : ℕ) → list_all is_no_delimiter label ≡ true → Passes names names (fact.count_row label count)
  unfolding fact.count_row
  count-row-passes label count plain =
      head-passes label plain ▹ decimal-passes row count ▹ constant (at row) (at names) (codes "</dd></div>\n") (λ outer. refl)

  size-row-passes : (label : List ℕ) (bytes : ℕ) → list_all is_no_delimiter label ≡ true → Passes names names (fact.size_row label bytes)
  unfolding fact.size_row
  size-row-passes label bytes plain =
      head-passes label plain ▹ size-passes row bytes ▹ number-passes row row (codes " (") bytes (text-goes row (codes " (") refl)
      ▹ constant (at row) (at names) (codes " bytes)</dd></div>\n") (λ outer. refl)

  text-row-passes : (label text : List ℕ) → list_all is_no_delimiter label ≡ true → Passes names names (fact.text_row label text)
  unfolding fact.text_row
  text-row-passes label text plain =
      head-passes label plain ▹ escaped-passes row text ▹ constant (at row) (at names) (codes "</dd></div>\n") (λ outer. refl)

  digest-row-passes : (digest : Option (Bor (List ℕ))) → Passes names names (digest_row digest)
  digest-row-passes None = constant (at names) (at names) [] (λ outer. refl)
  digest-row-passes (Some digest) = text-row-passes (codes "SHA-256") digest.now refl

  pub image-rows-pass : (image : PageImage) → Passes names names (image_rows image)
  unfolding image_rows
  image-rows-pass image = text-row-passes (codes "Image") image.name.now refl ▹ digest-row-passes image.digest

  lengths-pass : (total : ℕ) (mdb : Mdb) → Passes names names (fact.lengths_text total mdb)
  unfolding fact.lengths_text
  lengths-pass total mdb =
      size-row-passes (codes "Length") (total * 512) refl ▹ size-row-passes (codes "Free") (mdb.free_blocks * mdb.allocation_block_size) refl

  pub dates-pass : (mdb : Mdb) → Passes names names (fact.dates_text mdb)
  unfolding fact.dates_text
  dates-pass mdb =
      date-row-passes (codes "Created") mdb.created refl ▹ date-row-passes (codes "Modified") mdb.modified refl ▹ date-row-passes (codes "Backup") mdb.backup refl

  blocks-pass : (mdb : Mdb) → Passes names names (fact.sizes_text mdb)
  unfolding fact.sizes_text
  blocks-pass mdb =
      count-row-passes (codes "Allocation blocks") mdb.allocation_blocks refl
      ▹ count-row-passes (codes "Bytes of each block") mdb.allocation_block_size refl
      ▹ count-row-passes (codes "Free blocks") mdb.free_blocks refl

  counts-pass : (mdb : Mdb) → Passes names names (fact.counts_text mdb)
  unfolding fact.counts_text
  counts-pass mdb = count-row-passes (codes "Files") mdb.files refl ▹ count-row-passes (codes "Folders") mdb.folders refl

-- what stands open in a page behind its head
abbrev pub body : List (List ℕ)
body = codes "main" ∷ codes "body" ∷ codes "html" ∷ []

abbrev pub facts : List (List ℕ)
facts = codes "dl" ∷ body

facts-pass : (image : PageImage) (total : ℕ) (mdb : Mdb) → Passes body body (facts_text image total mdb)
unfolding facts_text fact.facts_start
facts-pass image total mdb =
    constant (at body) (at facts) fact.facts_start (λ outer. refl) ▹ image-rows-pass facts image ▹ lengths-pass facts total mdb ▹ dates-pass facts mdb
    ▹ counts-pass facts mdb ▹ blocks-pass facts mdb ▹ constant (at facts) (at body) (codes "</dl>\n") (λ outer. refl)

abbrev in-title : List (List ℕ)
in-title = codes "title" ∷ codes "head" ∷ codes "html" ∷ []

abbrev in-style : List (List ℕ)
in-style = codes "style" ∷ codes "head" ∷ codes "html" ∷ []

abbrev in-heading : List (List ℕ)
in-heading = codes "h1" ∷ body

pub page-head-passes : (style title : List ℕ) → Leads [] [] style → list_all is_no_delimiter title ≡ true → Passes [] body (head_text style title)
unfolding head_text fact.start_text
page-head-passes style title clean plain =
    constant (at []) (at in-title) fact.start_text (λ outer. refl) ▹ text-goes in-title title plain ▹ constant (at in-title) (at in-style) (codes "</title>\n<style>") (λ outer. refl)
    ▹ inside in-style [] [] style clean ▹ constant (at in-style) (at in-heading) (codes "</style>\n</head>\n<body>\n<main>\n<h1>") (λ outer. refl)
    ▹ text-goes in-heading title plain ▹ constant (at in-heading) (at body) (codes "</h1>\n") (λ outer. refl)

-- ---- the picture

pub part-passes : (names : List (List ℕ)) (p : Part) → Passes names names (part_text p)
part-passes names part.BadBlocks = text-goes names (part_text part.BadBlocks) refl
part-passes names part.ExtentsTree = text-goes names (part_text part.ExtentsTree) refl
part-passes names part.Catalog = text-goes names (part_text part.Catalog) refl
part-passes names part.LaterExtents = text-goes names (part_text part.LaterExtents) refl
part-passes names part.FirstExtents = text-goes names (part_text part.FirstExtents) refl
part-passes names part.Stray = text-goes names (part_text part.Stray) refl
part-passes names part.Free = text-goes names (part_text part.Free) refl

pub fork-passes : (names : List (List ℕ)) (kind : ForkKind) → Passes names names (fork_text kind)
fork-passes names Data = text-goes names (fork_text Data) refl
fork-passes names Resource = text-goes names (fork_text Resource) refl

record-passes : (names : List (List ℕ)) (r : Option Record) → Passes names names (name_of r)
record-passes names None = text-goes names [] refl
record-passes names (Some r) = escaped-passes names (plain_text r.0.name)

owner-passes : (names : List (List ℕ)) (catalog : Catalog) (fork : Option FileFork) → Passes names names (owner_text catalog fork)
unfolding drawn.fork_owner_text
owner-passes names catalog None = text-goes names [] refl
owner-passes names catalog (Some fork) = fork-passes names fork.kind ▹ record-passes names (slice_get catalog fork.number)

use-passes : (names : List (List ℕ)) (catalog : Catalog) (used : BlockUse) → Passes names names (drawn.use_text catalog used)
unfolding drawn.use_text
use-passes names catalog used = part-passes names used.part ▹ owner-passes names catalog used.fork

pub range-passes : (names : List (List ℕ)) (first last : ℕ) → Passes names names (drawn.blocks_text first last)
unfolding drawn.blocks_text
range-passes names first last =
    goes-if (first == last) (number-passes names names (codes "Block ") first (text-goes names (codes "Block ") refl))
    (number-passes names names (codes "Blocks ") first (text-goes names (codes "Blocks ") refl)
    ▹ number-passes names names (codes " to ") last (text-goes names (codes " to ") refl))

module _ (names : List (List ℕ)) where
  abbrev tag : At
  tag = in-tag (codes "rect") names

  abbrev pub in-rect : List (List ℕ)
  in-rect = codes "title" ∷ codes "rect" ∷ names

  number-goes : (from : At) (label : List ℕ) (n : ℕ) → Goes from tag label → Goes from tag (told_number label n)
  unfolding told_number
  number-goes from label n goes = goes ▹ tag-goes (codes "rect") names (decimal n) (decimal-plain n)

  pub rect-passes : (place : ℕ) (p : Part) → Passes names in-rect (drawn.rect_head place p)
  unfolding drawn.rect_head
  rect-passes place p =
      number-goes (at names) (codes "<rect x=\"") (place % 64) (constant (at names) tag (codes "<rect x=\"") (λ outer. refl))
      ▹ number-goes tag (codes "\" y=\"") (place / 64) (constant tag tag (codes "\" y=\"") (λ outer. refl))
      ▹ number-goes tag (codes "\" width=\"1\" height=\"1\" class=\"p") (rank p) (constant tag tag (codes "\" width=\"1\" height=\"1\" class=\"p") (λ outer. refl))
      ▹ constant tag (at in-rect) (codes "\"><title>") (λ outer. refl)

  cell-passes : (catalog : Catalog) (place : ℕ) (cell : Cell) → Passes names names (drawn.cell_text catalog place cell)
  unfolding drawn.cell_text
  cell-passes catalog place cell =
      rect-passes place cell.used.part ▹ range-passes in-rect cell.first cell.last ▹ use-passes in-rect catalog cell.used
      ▹ constant (at in-rect) (at names) (codes "</title></rect>\n") (λ outer. refl)

  cells-pass : (catalog : Catalog) (place : ℕ) (cells : List Cell) → Passes names names (cells_text catalog place cells)
  cells-pass catalog place [] = text-goes names [] refl
  cells-pass catalog place (cell ∷ cells) = cell-passes catalog place cell ▹ cells-pass catalog (place + 1) cells

module _ (names : List (List ℕ)) where
  abbrev section : List (List ℕ)
  section = codes "section" ∷ names

  abbrev drawing : List (List ℕ)
  drawing = codes "svg" ∷ section

  abbrev drawing-start : List ℕ
  drawing-start = codes "<section id=\"blocks\">\n<h2>Blocks</h2>\n<svg id=\"picture\" role=\"group\" aria-label=\"The blocks of the disk\" viewBox=\"0 0 64 "

  picture-passes : (catalog : Catalog) (cells : List Cell) → Passes names section (picture_text catalog cells)
  unfolding picture_text told_number
  picture-passes catalog cells =
      (constant (at names) (in-tag (codes "svg") section) drawing-start (λ outer. refl)
      ▹ tag-goes (codes "svg") section (decimal (div_ceil (length cells) 64)) (decimal-plain (div_ceil (length cells) 64)))
      ▹ constant (in-tag (codes "svg") section) (at drawing) (codes "\">\n") (λ outer. refl) ▹ cells-pass drawing catalog 0 cells
      ▹ constant (at drawing) (at section) (codes "</svg>\n") (λ outer. refl)

-- ---- the extents

owned-passes : (names : List (List ℕ)) (fork : Option FileFork) (e : Extent) → Passes names names (owned_text fork e)
unfolding placed_text
owned-passes names None e = text-goes names [] refl
owned-passes names (Some fork) e =
    number-passes names names (codes " ") fork.file (text-goes names (codes " ") refl)
    ▹ number-passes names names (codes ":") e.first (text-goes names (codes ":") refl)
    ▹ number-passes names names (codes "+") e.count (text-goes names (codes "+") refl)

extent-passes : (names : List (List ℕ)) (h : Holding) → Passes names names (extent_text h)
extent-passes names h = goes-if (h.extent.count == 0) (text-goes names [] refl) (owned-passes names h.used.fork h.extent)

holdings-pass : (names : List (List ℕ)) (holdings : List Holding) → Passes names names (flat_map extent_text holdings)
holdings-pass names [] = text-goes names [] refl
holdings-pass names (h ∷ holdings) = extent-passes names h ▹ holdings-pass names holdings

pub extents-pass : (names : List (List ℕ)) (holdings : List Holding) → Passes names names (extents_text holdings)
unfolding extents_text
extents-pass names holdings =
    constant (at names) (at (codes "p" ∷ names)) (codes "<p id=\"extents\" hidden>") (λ outer. refl) ▹ holdings-pass (codes "p" ∷ names) holdings
    ▹ constant (at (codes "p" ∷ names)) (at names) (codes "</p>\n") (λ outer. refl)

-- ---- pages

pub version-passes : (names : List (List ℕ)) (version : List ℕ) → Passes names names (version_text version)
unfolding version_text
version-passes names version =
    constant (at names) (at (codes "footer" ∷ names)) (codes "<footer>Printed by hfs_tool ") (λ outer. refl) ▹ escaped-passes (codes "footer" ∷ names) version
    ▹ constant (at (codes "footer" ∷ names)) (at names) (codes "</footer>\n") (λ outer. refl)

module _ (texts : PageTexts) (dress : IsDress texts) where
  abbrev items : List (List ℕ)
  items = codes "ul" ∷ codes "section" ∷ body

  title-plain : (mdb : Mdb) → list_all is_no_delimiter (shown (volume_name mdb.volume_name)) ≡ true
  title-plain mdb = no-delimiters (plain_text (volume_name mdb.volume_name))

  front-passes : (total : ℕ) (mdb : Mdb) → Passes [] items (front_text texts total mdb)
  unfolding front_text
  front-passes total mdb =
      page-head-passes texts.style.now (shown (volume_name mdb.volume_name)) dress.style (title-plain mdb) ▹ facts-pass texts.image total mdb
      ▹ inside body [] (codes "section" ∷ []) texts.columns.now dress.columns
      ▹ constant (at (codes "section" ∷ body)) (at items) (codes "<ul id=\"items\">\n") (λ outer. refl)

  end-passes : Passes body [] (end_text texts)
  unfolding end_text
  end-passes =
      version-passes body texts.version.now ▹ inside body [] [] texts.script.now dress.script
      ▹ constant (at body) (at []) (codes "</main>\n</body>\n</html>\n") (λ outer. refl)

  back-passes : (catalog : Catalog) (holdings : List Holding) (cells : List Cell) → Passes items [] (back_text texts catalog holdings cells)
  unfolding back_text
  back-passes catalog holdings cells =
      constant (at items) (at body) (codes "</ul>\n</section>\n") (λ outer. refl) ▹ picture-passes body catalog cells
      ▹ extents-pass (codes "section" ∷ body) holdings ▹ inside body (codes "section" ∷ []) [] texts.legend.now dress.legend ▹ end-passes

  rows-inside : (rows : List ToldRow) → Passes items items (rows_text texts.image.base 0 rows)
  rows-inside rows = inside items [] [] (rows_text texts.image.base 0 rows) (rows-pass texts.image.base 0 rows).goes

  page-passes : (total : ℕ) (blocks : Blocks) → Passes [] [] (page_in texts total blocks)
  unfolding page_in
  page-passes total blocks =
      front-passes total (mdb_in blocks) ▹ rows-inside (catalog_rows (catalog_in blocks))
      ▹ back-passes (catalog_in blocks) (holdings_in blocks) (cells_in blocks)

  refused-passes : (refusal meaning : List ℕ) → Passes [] [] (refused_page texts refusal meaning)
  unfolding refused_page
  refused-passes refusal meaning =
      page-head-passes texts.style.now (codes "Refused") dress.style refl
      ▹ constant (at body) (at facts) (codes "<dl>\n<div><dt>Check</dt><dd>refused</dd></div>\n") (λ outer. refl) ▹ image-rows-pass facts texts.image
      ▹ constant (at facts) (at (codes "p" ∷ body)) (codes "</dl>\n<p>") (λ outer. refl) ▹ escaped-passes (codes "p" ∷ body) refusal
      ▹ constant (at (codes "p" ∷ body)) (at (codes "p" ∷ body)) (codes "</p>\n<p>") (λ outer. refl) ▹ escaped-passes (codes "p" ∷ body) meaning
      ▹ constant (at (codes "p" ∷ body)) (at body) (codes "</p>\n") (λ outer. refl) ▹ version-passes body texts.version.now
      ▹ constant (at body) (at []) (codes "</main>\n</body>\n</html>\n") (λ outer. refl)

pub volume-pages-nest : VolumePagesNest
volume-pages-nest texts dress total blocks = nested (page_in texts total blocks) (page-passes texts dress total blocks)

pub refused-pages-nest : RefusedPagesNest
refused-pages-nest texts dress refusal meaning = nested (refused_page texts refusal meaning) (refused-passes texts dress refusal meaning)
