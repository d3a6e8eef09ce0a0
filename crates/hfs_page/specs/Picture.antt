-- The picture of a disk.
use Rattle.std.specs.Prelude.{ℕ, ◌+◌, ◌/◌, ◌%◌, ◌==◌, if◌then◌else◌, List, [], ◌∷◌, ◌++◌, length, codes, Option, Some, None}
use Rattle.std.specs.Int.{div_ceil}
use Rattle.std.specs.List.{slice_get}
use Rattle.hfs_catalog.specs.Records.{Catalog, Record}
use Rattle.hfs_space.specs.declared.fork_kind.ForkKind.{ForkKind}
use Rattle.hfs_space.specs.declared.fork_kind.ForkKind.TheVariants.{Data, Resource}
use Rattle.hfs_page.specs.declared.cells.Cell.{Cell}
use Rattle.hfs_page.specs.declared.parts.BlockUse.{BlockUse}
use Rattle.hfs_page.specs.declared.parts.FileFork.{FileFork}
use Rattle.hfs_page.specs.declared.parts.Part.{Part}
use Rattle.hfs_page.specs.declared.parts.Part.TheVariants as part
use Rattle.hfs_page.specs.Parts.{rank}
use Rattle.hfs_page.specs.Texts.{shown, told_number}

-- ---- what blocks are used for

abbrev pub part_text : Part → List ℕ
part_text part.BadBlocks = codes ": bad blocks"
part_text part.ExtentsTree = codes ": extents tree"
part_text part.Catalog = codes ": catalog"
part_text part.LaterExtents = codes ": later extent"
part_text part.FirstExtents = codes ": first extent"
part_text part.Stray = codes ": marked, and nobody has it"
part_text part.Free = codes ": free"

abbrev pub fork_text : ForkKind → List ℕ
fork_text Data = codes ", data fork of "
fork_text Resource = codes ", resource fork of "

-- the name of a record
abbrev pub name_of : Option Record → List ℕ
name_of None = []
name_of (Some r) = shown r.0.name

unfoldable pub fork_owner_text : Catalog → FileFork → List ℕ
fork_owner_text catalog fork = fork_text fork.kind ++ name_of (slice_get catalog fork.number)

abbrev pub owner_text : Catalog → Option FileFork → List ℕ
owner_text catalog None = []
owner_text catalog (Some fork) = fork_owner_text catalog fork

unfoldable pub use_text : Catalog → BlockUse → List ℕ
use_text catalog used = part_text used.part ++ owner_text catalog used.fork

-- ---- cells

-- the number of a cell's block, or of the first and the last of several
unfoldable pub blocks_text : ℕ → ℕ → List ℕ
blocks_text first last =
    if first == last then told_number (codes "Block ") first else told_number (codes "Blocks ") first ++ told_number (codes " to ") last

-- a cell's square: 64 are in a row
unfoldable pub rect_head : ℕ → Part → List ℕ
rect_head place part =
    told_number (codes "<rect x=\"") (place % 64) ++ told_number (codes "\" y=\"") (place / 64)
    ++ told_number (codes "\" width=\"1\" height=\"1\" class=\"p") (rank part) ++ codes "\"><title>"

unfoldable pub cell_text : Catalog → ℕ → Cell → List ℕ
cell_text catalog place cell =
    rect_head place cell.used.part ++ blocks_text cell.first cell.last ++ use_text catalog cell.used ++ codes "</title></rect>\n"

-- cells, of which the first is at this place
abbrev pub cells_text : Catalog → ℕ → List Cell → List ℕ
cells_text catalog place [] = []
cells_text catalog place (cell ∷ cells) = cell_text catalog place cell ++ cells_text catalog (place + 1) cells

unfoldable pub picture_text : Catalog → List Cell → List ℕ
picture_text catalog cells =
    told_number (codes "<section id=\"blocks\">\n<h2>Blocks</h2>\n<svg id=\"picture\" role=\"group\" aria-label=\"The blocks of the disk\" viewBox=\"0 0 64 ") (div_ceil (length cells) 64)
    ++ codes "\">\n" ++ cells_text catalog 0 cells ++ codes "</svg>\n"
