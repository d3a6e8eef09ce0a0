-- The cells of the picture of a disk.
use Rattle.std.specs.Prelude.{ℕ, ◌+◌, ◌-◌, ◌*◌, max, ◌==◌, find, List, [], ◌∷◌, length, map, take, drop, None, Option}
use Rattle.std.specs.List.{range_with_len}
use Rattle.std.specs.Int.{div_ceil}
use Rattle.std.specs.Option.{option_or, unwrap_or}
use Rattle.hfs_page.specs.declared.parts.BlockUse.{BlockUse}
use Rattle.hfs_page.specs.declared.parts.Part.{Part}
use Rattle.hfs_page.specs.declared.parts.Part.TheVariants.{Free}
use Rattle.hfs_page.specs.declared.cells.Cell.{Cell}
use Rattle.hfs_page.specs.Parts.{parts, rank}

-- the first block of the first of these parts that one of the blocks is
abbrev pub shown_by : List Part → List BlockUse → Option BlockUse
shown_by [] uses = None
shown_by (p ∷ ps) uses = option_or (find (λ used. rank used.part == rank p) uses) (shown_by ps uses)

abbrev pub no_use : BlockUse
no_use = record { part = Free; fork = None }

-- what is shown of blocks
unfoldable pub shown_use : List BlockUse → BlockUse
shown_use uses = unwrap_or (shown_by parts uses) no_use

-- the least number of blocks in a cell with which n blocks have no more than 4,096 cells
unfoldable pub blocks_per_cell : ℕ → ℕ
blocks_per_cell n = max (div_ceil n 4096) 1

-- the cell of so many of the blocks from this one on, or of as many as are left
abbrev pub cell_at : List BlockUse → ℕ → ℕ → Cell
cell_at uses per_cell first =
    record { first = first; last = first + length (take per_cell (drop first uses)) - 1; used = shown_use (take per_cell (drop first uses)) }

-- all cells of a picture
unfoldable pub picture_cells : List BlockUse → List Cell
picture_cells uses = map (λ k. cell_at uses (blocks_per_cell (length uses)) (k * blocks_per_cell (length uses))) (range_with_len 0 (div_ceil (length uses) (blocks_per_cell (length uses))))
