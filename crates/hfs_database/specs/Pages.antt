-- The page of a collection.
use Rattle.std.specs.Prelude.{ℕ, List, ◌++◌, codes}
use Rattle.sqlite_value.specs.Order.{Row}
use Rattle.hfs_page.specs.Escapes.{escaped}
use Rattle.hfs_page.specs.Facts.{head_text}
use Rattle.hfs_database.specs.declared.collection_texts.CollectionTexts.{CollectionTexts}
use Rattle.hfs_database.specs.PageLines.{contents_text, volumes_text}

-- what the page wears: what pages of disks wear, and a few lines of its own
abbrev pub style_text : CollectionTexts → List ℕ
style_text texts = texts.shared_style.now ++ texts.style.now

-- before the lines of volumes
unfoldable pub front_text : CollectionTexts → List ℕ
front_text texts = head_text (style_text texts) (escaped texts.name.now) ++ texts.columns.now

-- after the lines of contents: the version, the script, and the end
unfoldable pub end_text : CollectionTexts → List ℕ
end_text texts =
    codes "</ul>\n</section>\n<footer>Printed by hfs_collect " ++ escaped texts.version.now ++ codes "</footer>\n" ++ texts.script.now ++ codes "</main>\n</body>\n</html>\n"

-- with these rows of volumes, and these of contents
unfoldable pub collection_page : CollectionTexts → List Row → List Row → List ℕ
collection_page texts volumes contents =
    front_text texts ++ volumes_text texts.base 0 volumes ++ texts.between.now ++ contents_text contents ++ end_text texts
