-- The markup of a page of remains nests.
use Rattle.std.proofs.Common.{◌≡◌, ◌∙◌, ap, subst, refl, ℕ, suc, Bool, true, false, List, [], ◌∷◌, ◌++◌, length, Option, Some, None, decimal, arith}
use Rattle.std.specs.Prelude.{◌==◌, ◌+◌, ◌-◌, ◌&&◌, nat_lt, if◌then◌else◌, codes, min}
use Rattle.std.specs.Borrow.{Bor}
use Rattle.std.specs.Int.{div_ceil}
use Rattle.std.specs.List.{list_all, slice_get}
use Rattle.hfs_model.specs.declared.reply.Info.{Info}
use Rattle.hfs_model.specs.declared.reply.ItemKind.{ItemKind}
use Rattle.hfs_model.specs.declared.reply.ItemKind.TheVariants.{Folder, File}
use Rattle.hfs_texts.specs.PlainTexts.{plain_text}
use Rattle.hfs_fields.specs.declared.mdb.Mdb.{Mdb}
use Rattle.hfs_page.proofs.EscapeLemmas.{no-delimiters}
use Rattle.hfs_page.specs.declared.cells.Cell.{Cell}
use Rattle.hfs_page.specs.declared.page_image.PageImage.{PageImage}
use Rattle.hfs_page.specs.declared.parts.BlockUse.{BlockUse}
use Rattle.hfs_page.specs.declared.parts.FileFork.{FileFork}
use Rattle.hfs_page.specs.declared.parts.Part.{Part}
use Rattle.hfs_page.specs.declared.parts.Part.TheVariants as part
use Rattle.hfs_page.specs.Items.{closings, open_by, opening}
use Rattle.hfs_page.specs.Laws.{is_no_delimiter}
use Rattle.hfs_page.specs.Markup.{Leads}
use Rattle.hfs_page.specs.Texts.{date_text, shown, told_number}
use Rattle.hfs_page.proofs.MarkupLemmas.{Goes, Passes, ◌▹◌, at, constant, decimal-plain, goes-if, in-tag, inside, nested, tag-goes, text-goes}
use Rattle.hfs_page.proofs.NestedItems.{bold, closings-pass, date-passes, decimal-passes, escaped-passes, folders, folders-close, items-pass, line, link-end-passes, link-start-passes, linked, number-passes, opening-passes, sizes-pass, span, summary, type-passes}
use Rattle.hfs_page.proofs.NestedPages.{body, count-row-passes, dates-pass, extents-pass, facts, fork-passes, image-rows-pass, in-rect, page-head-passes, part-passes, range-passes, rect-passes, version-passes}
use Rattle.hfs_remains_places.specs.declared.things.Thing.{Thing}
use Rattle.hfs_remains_places.specs.Folders.{thing_at}
use Rattle.hfs_remains.specs.declared.catalog.FoundRecord.{FoundRecord}
use Rattle.hfs_remains_forks.specs.Verdicts.{verdicts_at}
use Rattle.hfs_rescue_items.specs.declared.found.Found.{Found}
use Rattle.hfs_rescue_items.specs.Found.{field_name, path_at, told_at}
use Rattle.hfs_rescue_items.specs.Sums.{files_at, folders_at, of_all, whole_at}
use Rattle.hfs_remains_places.specs.declared.verdict.Verdict.{Verdict}
use Rattle.hfs_remains_places.specs.Verdicts.{is_whole, verdict_text}
use Rattle.hfs_remains_page.specs.declared.remains_texts.RemainsTexts.{RemainsTexts}
use Rattle.hfs_remains_page.specs.declared.steps.Step.{Step}
use Rattle.hfs_remains_page.specs.Dress.{IsRemainsDress}
use Rattle.hfs_remains_page.specs.Facts as fact
use Rattle.hfs_remains_page.specs.Nested.{RemainsPagesNest}
use Rattle.hfs_remains_page.specs.Pages.{back_by, back_text, end_text, front_text, remains_page, style_text}
use Rattle.hfs_remains_page.specs.Pictures.{cell_text, cells_of, cells_text, found_part, holdings_of, item_name, owner_text, picture_text, use_text}
use Rattle.hfs_remains_page.specs.Rows as row
use Rattle.hfs_remains_page.specs.Rows.{added_row, depth_at, folder_row, info_row, item_row, kind_told, node_kind, node_row, open_behind, row_text, rows_text}
use Rattle.hfs_remains_page.specs.Trees.{lost_node, tree_order, volume_node}
use Rattle.hfs_remains_page.specs.Verdicts.{base_of, both_text, damaged_text, forks_text}

-- ---- what is told of an item

module _ (names : List (List ℕ)) where
  abbrev said : List (List ℕ)
  said = codes "em" ∷ names

  damaged-passes : (forks : Verdict × Verdict) → Passes names names (damaged_text forks)
  unfolding damaged_text
  damaged-passes forks =
      constant (at names) (at said) (codes "<em class=\"damaged\">data fork ") (λ outer. refl) ▹ escaped-passes said (verdict_text forks.0)
      ▹ text-goes said (codes "; resource fork ") refl ▹ escaped-passes said (verdict_text forks.1) ▹ constant (at said) (at names) (codes "</em>") (λ outer. refl)

  forks-pass : (forks : Option (Verdict × Verdict)) → Passes names names (forks_text forks)
  forks-pass None = text-goes names [] refl
  forks-pass (Some forks) =
      goes-if (is_whole forks.0 && is_whole forks.1) (constant (at names) (at names) (codes "<em>both forks whole</em>") (λ outer. refl)) (damaged-passes forks)

  when-passes : (date : ℕ) → Passes names names (row.when_text date)
  unfolding row.when_text
  when-passes date =
      goes-if (date == 0) (constant (at names) (at names) (codes "<span></span>") (λ outer. refl))
      (constant (at names) (at (span names)) (codes "<span>") (λ outer. refl) ▹ date-passes (span names) date
      ▹ constant (at (span names)) (at names) (codes "\n(modified)</span>") (λ outer. refl))

  file-name-passes : (base : Option (Bor (List ℕ))) (path : List ℕ) (info : Info) → Passes names names (row.file_name base path info)
  unfolding row.file_name
  file-name-passes base path info =
      constant (at names) (at (bold names)) (codes "<b>") (λ outer. refl) ▹ link-start-passes names base (codes "data/" ++ path)
      ▹ escaped-passes (linked names base) (plain_text info.name) ▹ link-end-passes names base ▹ constant (at (bold names)) (at names) (codes "</b>") (λ outer. refl)

  file-passes : (base : Option (Bor (List ℕ))) (path : List ℕ) (forks : Option (Verdict × Verdict)) (info : Info) → Passes names names (row.file_told base path forks info)
  unfolding row.file_told
  file-passes base path forks info =
      file-name-passes (base_of base forks) path info ▹ sizes-pass names info ▹ type-passes names info ▹ when-passes info.modified ▹ forks-pass forks

  folder-name-passes : (name : List ℕ) (inside : ℕ) → Passes names names (row.folder_name name inside)
  unfolding row.folder_name
  folder-name-passes name inside =
      constant (at names) (at (bold names)) (codes "<b>") (λ outer. refl) ▹ escaped-passes (bold names) (plain_text name)
      ▹ constant (at (bold names)) (at names) (codes "</b>") (λ outer. refl)
      ▹ number-passes names (span names) (codes "<span>") inside (constant (at names) (at (span names)) (codes "<span>") (λ outer. refl)) ▹ items-pass names inside

  folder-passes : (name : List ℕ) (inside date : ℕ) (note : List ℕ) → Passes names names note → Passes names names (row.folder_told name inside date note)
  unfolding row.folder_told
  folder-passes name inside date note clean =
      folder-name-passes name inside ▹ constant (at names) (at names) (codes "<span>folder</span>") (λ outer. refl) ▹ when-passes date ▹ clean

-- ---- rows

item-start-passes : (names : List (List ℕ)) (i : ℕ) → Passes names (line names) (row.item_start i)
unfolding row.item_start told_number
item-start-passes names i =
    (constant (at names) (in-tag (codes "li") names) (codes "<li id=\"i") (λ outer. refl) ▹ tag-goes (codes "li") names (decimal i) (decimal-plain i))
    ▹ constant (in-tag (codes "li") names) (at (line names)) (codes "\">") (λ outer. refl)

plain-start-passes : (names : List (List ℕ)) → Passes names (line names) (codes "<li>")
plain-start-passes names = constant (at names) (at (line names)) (codes "<li>") (λ outer. refl)

-- a beginning and a note that do no harm anywhere
record Starts (start : List ℕ) : Type 0 where
  passes : (names : List (List ℕ)) → Passes names (line names) start

record Notes (note : List ℕ) : Type 0 where
  passes : (names : List (List ℕ)) → Passes names names note

module _ (start name : List ℕ) (inside date : ℕ) (note : List ℕ) (starts : Starts start) (notes : Notes note) where
  nested-passes : (names : List (List ℕ)) (depth : ℕ) → Passes names (codes "ul" ∷ codes "details" ∷ line names) (row.nested_row start depth name inside date note)
  unfolding row.nested_row
  nested-passes names depth =
      starts.passes names ▹ opening-passes names depth inside ▹ folder-passes (summary names) name inside date note (notes.passes (summary names))
      ▹ constant (at (summary names)) (at (codes "ul" ∷ codes "details" ∷ line names)) (codes "</summary><ul>\n") (λ outer. refl)

  flat-passes : (names : List (List ℕ)) → Passes names names (row.flat_row start name inside date note)
  unfolding row.flat_row
  flat-passes names =
      starts.passes names ▹ folder-passes (line names) name inside date note (notes.passes (line names)) ▹ constant (at (line names)) (at names) (codes "</li>\n") (λ outer. refl)

  folder-by : (depth : ℕ) (test : Bool)
      → Passes (folders depth) (folders (if test then depth + 1 else depth)) (if test then row.nested_row start depth name inside date note else row.flat_row start name inside date note)
  folder-by depth true =
      let deeper : suc depth ≡ depth + 1 = omega arith in
      subst (λ (n : ℕ). Passes (folders depth) (folders n) (row.nested_row start depth name inside date note)) deeper (nested-passes (folders depth) depth)
  folder-by depth false = flat-passes (folders depth)

  folder-row-passes : (depth : ℕ) → Passes (folders depth) (folders (open_by Folder depth)) (folder_row start depth name inside date note)
  folder-row-passes depth = folder-by depth (nat_lt depth 100)

file-row-passes : (names : List (List ℕ)) (base : Option (Bor (List ℕ))) (found : Found) (i : ℕ) (info : Info) → Passes names names (row.file_row base found i info)
unfolding row.file_row
file-row-passes names base found i info =
    item-start-passes names i ▹ file-passes (line names) base (path_at found.places.now i) (verdicts_at found.salvage.now i) info
    ▹ constant (at (line names)) (at names) (codes "</li>\n") (λ outer. refl)

item-starts : (i : ℕ) → Starts (row.item_start i)
item-starts i = record { passes = λ names. item-start-passes names i }

plain-starts : Starts (codes "<li>")
plain-starts = record { passes = plain-start-passes }

no-note : Notes []
no-note = record { passes = λ names. text-goes names [] refl }

named-note : Notes row.named_note
named-note = record { passes = λ names. constant (at names) (at names) row.named_note (λ outer. refl) }

volume-note : Notes row.volume_note
volume-note = record { passes = λ names. constant (at names) (at names) row.volume_note (λ outer. refl) }

lost-note : Notes row.lost_note
lost-note = record { passes = λ names. constant (at names) (at names) row.lost_note (λ outer. refl) }

old-note : Notes row.old_note
old-note = record { passes = λ names. constant (at names) (at names) row.old_note (λ outer. refl) }

-- ---- nodes

info-passes : (kind : ItemKind) (base : Option (Bor (List ℕ))) (found : Found) (depth : ℕ) (step : Step) (info : Info)
    → Passes (folders depth) (folders (open_by kind depth)) (info_row kind base found depth step info)
info-passes Folder base found depth step info =
    folder-row-passes (row.item_start step.node) info.name step.inside info.modified [] (item-starts step.node) no-note depth
info-passes File base found depth step info = file-row-passes (folders depth) base found step.node info

item-passes : (base : Option (Bor (List ℕ))) (found : Found) (depth : ℕ) (step : Step) (told : Option Info)
    → Passes (folders depth) (folders (open_by (kind_told told) depth)) (item_row base found depth step told)
item-passes base found depth step None = text-goes (folders depth) [] refl
item-passes base found depth step (Some info) = info-passes info.kind base found depth step info

added-passes : (things : List Thing) (depth : ℕ) (volume : List ℕ) (step : Step) → Passes (folders depth) (folders (open_by Folder depth)) (added_row things depth volume step)
added-passes things depth volume step =
    goes-if (nat_lt step.node (length things))
    (folder-row-passes (codes "<li>") (thing_at things step.node).name step.inside 0 row.named_note plain-starts named-note depth)
    (goes-if (step.node == volume_node things)
    (folder-row-passes (codes "<li>") volume step.inside 0 row.volume_note plain-starts volume-note depth)
    (goes-if (step.node == lost_node things)
    (folder-row-passes (codes "<li>") (codes "Lost") step.inside 0 row.lost_note plain-starts lost-note depth)
    (folder-row-passes (codes "<li>") (codes "Old") step.inside 0 row.old_note plain-starts old-note depth)))

either : (base : Option (Bor (List ℕ))) (found : Found) (depth : ℕ) (step : Step) (test : Bool)
    → Passes (folders depth) (folders (open_by (if test then kind_told (told_at found.items.now step.node) else Folder) depth))
    (if test then item_row base found depth step (told_at found.items.now step.node) else added_row found.places.now depth (field_name found.mdb.now.volume_name) step)
either base found depth step true = item-passes base found depth step (told_at found.items.now step.node)
either base found depth step false = added-passes found.places.now depth (field_name found.mdb.now.volume_name) step

node-passes : (base : Option (Bor (List ℕ))) (found : Found) (depth : ℕ) (step : Step) → Passes (folders depth) (folders (open_by (node_kind found step) depth)) (node_row base found depth step)
unfolding node_row node_kind
node-passes base found depth step = either base found depth step (nat_lt step.node (length found.items.now))

row-passes : (base : Option (Bor (List ℕ))) (found : Found) (opened : ℕ) (step : Step) → Passes (folders opened) (folders (open_behind found opened step)) (row_text base found opened step)
unfolding row_text
row-passes base found opened step = folders-close opened (depth_at opened step) (omega arith) ▹ node-passes base found (depth_at opened step) step

rows-pass : (base : Option (Bor (List ℕ))) (found : Found) (opened : ℕ) (steps : List Step) → Passes (folders opened) [] (rows_text base found opened steps)
rows-pass base found opened [] =
    let all : opened - 0 ≡ opened = omega arith in
    subst (λ (n : ℕ). Passes (folders opened) [] (closings n)) all (folders-close opened 0 (omega arith))
rows-pass base found opened (step ∷ steps) = row-passes base found opened step ▹ rows-pass base found (open_behind found opened step) steps

-- ---- the picture

part-found : (names : List (List ℕ)) (p : Part) → Passes names names (found_part p)
part-found names part.BadBlocks = part-passes names part.BadBlocks
part-found names part.ExtentsTree = part-passes names part.ExtentsTree
part-found names part.Catalog = part-passes names part.Catalog
part-found names part.LaterExtents = part-passes names part.LaterExtents
part-found names part.FirstExtents = part-passes names part.FirstExtents
part-found names part.Stray = text-goes names (found_part part.Stray) refl
part-found names part.Free = text-goes names (found_part part.Free) refl

name-passes : (names : List (List ℕ)) (item : Option FoundRecord) → Passes names names (item_name item)
name-passes names None = text-goes names [] refl
name-passes names (Some item) = escaped-passes names (plain_text item.entry.0.name)

owner-passes : (names : List (List ℕ)) (items : List FoundRecord) (fork : Option FileFork) → Passes names names (owner_text items fork)
owner-passes names items None = text-goes names [] refl
owner-passes names items (Some fork) = fork-passes names fork.kind ▹ name-passes names (slice_get items fork.number)

use-passes : (names : List (List ℕ)) (items : List FoundRecord) (used : BlockUse) → Passes names names (use_text items used)
unfolding use_text
use-passes names items used = part-found names used.part ▹ owner-passes names items used.fork

cell-passes : (names : List (List ℕ)) (items : List FoundRecord) (place : ℕ) (cell : Cell) → Passes names names (cell_text items place cell)
unfolding cell_text
cell-passes names items place cell =
    rect-passes names place cell.used.part ▹ range-passes (in-rect names) cell.first cell.last ▹ use-passes (in-rect names) items cell.used
    ▹ constant (at (in-rect names)) (at names) (codes "</title></rect>\n") (λ outer. refl)

cells-pass : (names : List (List ℕ)) (items : List FoundRecord) (place : ℕ) (cells : List Cell) → Passes names names (cells_text items place cells)
cells-pass names items place [] = text-goes names [] refl
cells-pass names items place (cell ∷ cells) = cell-passes names items place cell ▹ cells-pass names items (place + 1) cells

module _ (names : List (List ℕ)) where
  abbrev section : List (List ℕ)
  section = codes "section" ∷ names

  abbrev drawing : List (List ℕ)
  drawing = codes "svg" ∷ section

  abbrev drawing-start : List ℕ
  drawing-start = codes "<section id=\"blocks\">\n<h2>Blocks</h2>\n<svg id=\"picture\" role=\"group\" aria-label=\"The blocks of the disk\" viewBox=\"0 0 64 "

  picture-passes : (items : List FoundRecord) (cells : List Cell) → Passes names section (picture_text items cells)
  unfolding picture_text told_number
  picture-passes items cells =
      (constant (at names) (in-tag (codes "svg") section) drawing-start (λ outer. refl)
      ▹ tag-goes (codes "svg") section (decimal (div_ceil (length cells) 64)) (decimal-plain (div_ceil (length cells) 64)))
      ▹ constant (in-tag (codes "svg") section) (at drawing) (codes "\">\n") (λ outer. refl) ▹ cells-pass drawing items 0 cells
      ▹ constant (at drawing) (at section) (codes "</svg>\n") (λ outer. refl)

-- ---- facts

fault-passes : (names : List (List ℕ)) (refusal meaning : List ℕ) → Passes names names (fact.fault_text refusal meaning)
unfolding fact.fault_text
fault-passes names refusal meaning =
    constant (at names) (at (codes "p" ∷ names)) (codes "<p>") (λ outer. refl) ▹ escaped-passes (codes "p" ∷ names) refusal
    ▹ constant (at (codes "p" ∷ names)) (at (codes "p" ∷ names)) (codes "</p>\n<p>") (λ outer. refl) ▹ escaped-passes (codes "p" ∷ names) meaning
    ▹ constant (at (codes "p" ∷ names)) (at names) (codes "</p>\n") (λ outer. refl)

module _ (names : List (List ℕ)) where
  abbrev value : List (List ℕ)
  value = codes "dd" ∷ codes "div" ∷ names

  counts-pass : (files whole damaged count : ℕ) → Passes names names (fact.counts_text files whole damaged count)
  unfolding fact.counts_text
  counts-pass files whole damaged count =
      number-passes names value (codes "<div><dt>Files found</dt><dd>") files (constant (at names) (at value) (codes "<div><dt>Files found</dt><dd>") (λ outer. refl))
      ▹ number-passes value value (codes "</dd></div>\n<div><dt>Whole</dt><dd>") whole (constant (at value) (at value) (codes "</dd></div>\n<div><dt>Whole</dt><dd>") (λ outer. refl))
      ▹ number-passes value value (codes "</dd></div>\n<div><dt>Damaged</dt><dd>") damaged (constant (at value) (at value) (codes "</dd></div>\n<div><dt>Damaged</dt><dd>") (λ outer. refl))
      ▹ number-passes value value (codes "</dd></div>\n<div><dt>Folders found</dt><dd>") count
      (constant (at value) (at value) (codes "</dd></div>\n<div><dt>Folders found</dt><dd>") (λ outer. refl))
      ▹ constant (at value) (at names) (codes "</dd></div>\n") (λ outer. refl)

  blocks-pass : (mdb : Mdb) → Passes names names (fact.blocks_rows mdb)
  unfolding fact.blocks_rows
  blocks-pass mdb =
      count-row-passes names (codes "Allocation blocks") mdb.allocation_blocks refl ▹ count-row-passes names (codes "Bytes of each block") mdb.allocation_block_size refl

facts-pass : (image : PageImage) (found : Found) → Passes body body (fact.facts_text image found)
unfolding fact.facts_text
facts-pass image found =
    constant (at body) (at facts) fact.facts_start (λ outer. refl) ▹ image-rows-pass facts image
    ▹ counts-pass facts (of_all found (files_at found)) (of_all found (whole_at found)) (of_all found (files_at found) - of_all found (whole_at found))
    (of_all found (folders_at found))
    ▹ dates-pass facts found.mdb.now ▹ blocks-pass facts found.mdb.now ▹ constant (at facts) (at body) (codes "</dl>\n") (λ outer. refl)

-- ---- pages

module _ (texts : RemainsTexts) (dress : IsRemainsDress texts) where
  abbrev items : List (List ℕ)
  items = codes "ul" ∷ codes "section" ∷ body

  style-leads : Leads [] [] (style_text texts)
  style-leads = (inside [] [] [] texts.page.style.now dress.shared_style ▹ inside [] [] [] texts.style.now dress.style).goes

  title-plain : (found : Found) → list_all is_no_delimiter (shown (field_name found.mdb.now.volume_name)) ≡ true
  title-plain found = no-delimiters (plain_text (field_name found.mdb.now.volume_name))

  front-passes : (refusal meaning : List ℕ) (found : Found) → Passes [] items (front_text texts refusal meaning found)
  unfolding front_text
  front-passes refusal meaning found =
      page-head-passes (style_text texts) (shown (field_name found.mdb.now.volume_name)) style-leads (title-plain found) ▹ fault-passes body refusal meaning
      ▹ facts-pass texts.page.image found ▹ inside body [] (codes "section" ∷ []) texts.columns.now dress.columns
      ▹ constant (at (codes "section" ∷ body)) (at items) (codes "<ul id=\"items\">\n") (λ outer. refl)

  end-passes : Passes body [] (end_text texts)
  unfolding end_text
  end-passes =
      version-passes body texts.page.version.now ▹ inside body [] [] texts.page.script.now dress.script
      ▹ constant (at body) (at []) (codes "</main>\n</body>\n</html>\n") (λ outer. refl)

  back-passes : (found : Found) → Passes items [] (back_text texts found)
  unfolding back_by
  back-passes found =
      constant (at items) (at body) (codes "</ul>\n</section>\n") (λ outer. refl) ▹ picture-passes body found.items.now (cells_of found)
      ▹ extents-pass (codes "section" ∷ body) (holdings_of found) ▹ inside body (codes "section" ∷ []) [] texts.legend.now dress.legend ▹ end-passes

  rows-inside : (found : Found) → Passes items items (rows_text texts.page.image.base found 0 (tree_order found.places.now))
  rows-inside found =
      inside items [] [] (rows_text texts.page.image.base found 0 (tree_order found.places.now)) (rows-pass texts.page.image.base found 0 (tree_order found.places.now)).goes

  page-passes : (refusal meaning : List ℕ) (found : Found) → Passes [] [] (remains_page texts refusal meaning found)
  unfolding remains_page
  page-passes refusal meaning found = front-passes refusal meaning found ▹ rows-inside found ▹ back-passes found

pub remains-pages-nest : RemainsPagesNest
remains-pages-nest texts dress refusal meaning found = nested (remains_page texts refusal meaning found) (page-passes texts dress refusal meaning found)
