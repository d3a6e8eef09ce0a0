-- The picture of what was found: which blocks the trees and the forks have that were found.
use Rattle.std.specs.Prelude.{ℕ, ◌+◌, ◌-◌, ◌%◌, ◌==◌, not, false, if◌then◌else◌, List, [], ◌∷◌, ◌++◌, codes, length, Option, Some, None}
use Rattle.std.specs.Int.{div_ceil}
use Rattle.std.specs.List.{flat_map, range_with_len, slice_get}
use Rattle.std.specs.Option.{option_map_or}
use Rattle.hfs_fields.specs.declared.extent.Extent.{Extent}
use Rattle.hfs_page.specs.declared.cells.Cell.{Cell}
use Rattle.hfs_page.specs.declared.parts.BlockUse.{BlockUse}
use Rattle.hfs_page.specs.declared.parts.FileFork.{FileFork}
use Rattle.hfs_page.specs.declared.parts.Holding.{Holding}
use Rattle.hfs_page.specs.declared.parts.Part.{Part}
use Rattle.hfs_page.specs.declared.parts.Part.TheVariants as part
use Rattle.hfs_page.specs.Cells.{picture_cells}
use Rattle.hfs_page.specs.Holdings.{all_held, held_from}
use Rattle.hfs_page.specs.Picture.{blocks_text, fork_text, part_text, rect_head}
use Rattle.hfs_page.specs.Texts.{shown, told_number}
use Rattle.hfs_page.specs.Uses.{block_uses}
use Rattle.hfs_remains.specs.declared.catalog.FoundRecord.{FoundRecord}
use Rattle.hfs_remains.specs.TreeFiles.{FileBlocks}
use Rattle.hfs_remains_forks.specs.declared.shares.FileShares.{FileShares}
use Rattle.hfs_remains_forks.specs.Verdicts.{Salvaged, fork_share, share_used, shares_at}
use Rattle.hfs_rescue_items.specs.declared.found.Found.{Found}
use Rattle.hfs_space.specs.declared.fork_kind.ForkKind.{ForkKind}
use Rattle.hfs_space.specs.declared.fork_kind.ForkKind.TheVariants.{Data, Resource}

-- ---- blocks that follow one another

-- the piece that begins with a block and goes on with another piece
abbrev pub joined : ℕ → Extent → Option Extent
joined b e =
    if e.first == 0 then None else if not (e.first - 1 == b) then None else if e.count == 65535 then None else Some (record { first = b; count = e.count + 1 })

abbrev pub put_before : ℕ → Extent → List Extent → Option Extent → List Extent
put_before b e es None = record { first = b; count = 1 } ∷ e ∷ es
put_before b e es (Some both) = both ∷ es

-- a block before these pieces: the first one begins with it where it goes on there
abbrev pub with_block : ℕ → List Extent → List Extent
with_block b [] = record { first = b; count = 1 } ∷ []
with_block b (e ∷ es) = put_before b e es (joined b e)

-- a block that is missing is in no piece
abbrev pub with_place : Option ℕ → List Extent → List Extent
with_place None es = es
with_place (Some b) es = with_block b es

abbrev pub pieces : FileBlocks → List Extent
pieces [] = []
pieces (place ∷ places) = with_place place (pieces places)

-- ---- who has which blocks

-- the blocks of a fork of item i, as far as it is taken
abbrev pub fork_blocks : Salvaged → ForkKind → ℕ → FileBlocks
fork_blocks s kind i =
    option_map_or (λ (file : FileShares). share_used s.trees.total s.trees.overflow.now s.trees.mdb.now (fork_share kind file)) (shares_at s i) []

abbrev pub fork_held : Salvaged → ℕ → ForkKind → List Holding
fork_held s i kind = held_from part.FirstExtents (record { number = i; file = i % 4294967296; kind = kind }) (pieces (fork_blocks s kind i))

abbrev pub item_held : Salvaged → ℕ → List Holding
item_held s i = fork_held s i Data ++ fork_held s i Resource

-- the trees, and the forks of the first n items
unfoldable pub all_held_of : Salvaged → ℕ → List Holding
all_held_of s n =
    all_held part.ExtentsTree (pieces s.trees.extents_file.now) ++ all_held part.Catalog (pieces s.trees.catalog_file.now)
    ++ flat_map (item_held s) (range_with_len 0 n)

abbrev pub holdings_of : Found → List Holding
holdings_of found = all_held_of found.salvage.now (length found.items.now)

-- each block by the first of these that has it; no mark is looked at
unfoldable pub cells_of : Found → List Cell
cells_of found = picture_cells (block_uses (holdings_of found) (λ b. false) found.mdb.now.allocation_blocks)

-- ---- cells

abbrev pub item_name : Option FoundRecord → List ℕ
item_name None = []
item_name (Some item) = shown item.entry.0.name

abbrev pub owner_text : List FoundRecord → Option FileFork → List ℕ
owner_text items None = []
owner_text items (Some fork) = fork_text fork.kind ++ item_name (slice_get items fork.number)

-- of blocks that nothing has that was found it isn't known whether they are free
abbrev pub found_part : Part → List ℕ
found_part part.BadBlocks = part_text part.BadBlocks
found_part part.ExtentsTree = part_text part.ExtentsTree
found_part part.Catalog = part_text part.Catalog
found_part part.LaterExtents = part_text part.LaterExtents
found_part part.FirstExtents = part_text part.FirstExtents
found_part part.Stray = codes ": nothing that was found"
found_part part.Free = codes ": nothing that was found"

unfoldable pub use_text : List FoundRecord → BlockUse → List ℕ
use_text items used = found_part used.part ++ owner_text items used.fork

unfoldable pub cell_text : List FoundRecord → ℕ → Cell → List ℕ
cell_text items place cell =
    rect_head place cell.used.part ++ blocks_text cell.first cell.last ++ use_text items cell.used ++ codes "</title></rect>\n"

-- cells, of which the first is at this place
abbrev pub cells_text : List FoundRecord → ℕ → List Cell → List ℕ
cells_text items place [] = []
cells_text items place (cell ∷ cells) = cell_text items place cell ++ cells_text items (place + 1) cells

unfoldable pub picture_text : List FoundRecord → List Cell → List ℕ
picture_text items cells =
    told_number (codes "<section id=\"blocks\">\n<h2>Blocks</h2>\n<svg id=\"picture\" role=\"group\" aria-label=\"The blocks of the disk\" viewBox=\"0 0 64 ") (div_ceil (length cells) 64)
    ++ codes "\">\n" ++ cells_text items 0 cells ++ codes "</svg>\n"
