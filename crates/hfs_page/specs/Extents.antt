-- The extents of files, for whoever looks up a file's blocks.
use Rattle.std.specs.Prelude.{ℕ, ◌==◌, if◌then◌else◌, List, [], ◌++◌, codes, Option, Some, None}
use Rattle.std.specs.List.{flat_map}
use Rattle.hfs_fields.specs.declared.extent.Extent.{Extent}
use Rattle.hfs_page.specs.declared.parts.FileFork.{FileFork}
use Rattle.hfs_page.specs.declared.parts.Holding.{Holding}
use Rattle.hfs_page.specs.Texts.{told_number}

-- the file's ID, the extent's first block, and how many it has
unfoldable pub placed_text : ℕ → Extent → List ℕ
placed_text file e = told_number (codes " ") file ++ told_number (codes ":") e.first ++ told_number (codes "+") e.count

abbrev pub owned_text : Option FileFork → Extent → List ℕ
owned_text None e = []
owned_text (Some fork) e = placed_text fork.file e

-- nothing of an extent of no block, or that is no file's
abbrev pub extent_text : Holding → List ℕ
extent_text h = if h.extent.count == 0 then [] else owned_text h.used.fork h.extent

unfoldable pub extents_text : List Holding → List ℕ
extents_text holdings = codes "<p id=\"extents\" hidden>" ++ flat_map extent_text holdings ++ codes "</p>\n"
