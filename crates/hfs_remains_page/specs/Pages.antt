-- The page of what remains of an image that is refused.
use Rattle.std.specs.Prelude.{ℕ, List, ◌++◌, codes}
use Rattle.hfs_page.specs.declared.cells.Cell.{Cell}
use Rattle.hfs_page.specs.declared.parts.Holding.{Holding}
use Rattle.hfs_page.specs.Document.{version_text}
use Rattle.hfs_page.specs.Extents.{extents_text}
use Rattle.hfs_page.specs.Facts.{head_text}
use Rattle.hfs_page.specs.Texts.{shown}
use Rattle.hfs_remains.specs.declared.catalog.FoundRecord.{FoundRecord}
use Rattle.hfs_rescue_items.specs.declared.found.Found.{Found}
use Rattle.hfs_rescue_items.specs.Found.{field_name}
use Rattle.hfs_remains_page.specs.declared.remains_texts.RemainsTexts.{RemainsTexts}
use Rattle.hfs_remains_page.specs.Facts.{facts_text, fault_text}
use Rattle.hfs_remains_page.specs.Pictures.{cells_of, holdings_of, picture_text}
use Rattle.hfs_remains_page.specs.Rows.{rows_text}
use Rattle.hfs_remains_page.specs.Trees.{tree_order}

-- what pages of sound disks wear, and a few lines of its own
abbrev pub style_text : RemainsTexts → List ℕ
style_text texts = texts.page.style.now ++ texts.style.now

-- before the items: the volume's name, its fault in words, and what is known of it
unfoldable pub front_text : RemainsTexts → List ℕ → List ℕ → Found → List ℕ
front_text texts refusal meaning found =
    head_text (style_text texts) (shown (field_name found.mdb.now.volume_name)) ++ fault_text refusal meaning ++ facts_text texts.page.image found
    ++ texts.columns.now ++ codes "<ul id=\"items\">\n"

unfoldable pub end_text : RemainsTexts → List ℕ
end_text texts = version_text texts.page.version.now ++ texts.page.script.now ++ codes "</main>\n</body>\n</html>\n"

-- after the items: the picture, the extents of the files, the legend, and the end
unfoldable pub back_by : RemainsTexts → List FoundRecord → List Holding → List Cell → List ℕ
back_by texts items holdings cells =
    codes "</ul>\n</section>\n" ++ picture_text items cells ++ extents_text holdings ++ texts.legend.now ++ end_text texts

abbrev pub back_text : RemainsTexts → Found → List ℕ
back_text texts found = back_by texts found.items.now (holdings_of found) (cells_of found)

-- of an image with this fault, of which this was found, each item by one row
unfoldable pub remains_page : RemainsTexts → List ℕ → List ℕ → Found → List ℕ
remains_page texts refusal meaning found =
    front_text texts refusal meaning found ++ rows_text texts.page.image.base found 0 (tree_order found.places.now) ++ back_text texts found
