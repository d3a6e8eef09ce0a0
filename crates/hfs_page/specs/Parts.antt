-- The order of a disk's parts.
use Rattle.std.specs.Prelude.{ℕ, List, [], ◌∷◌}
use Rattle.hfs_page.specs.declared.parts.Part.{Part}
use Rattle.hfs_page.specs.declared.parts.Part.TheVariants.{BadBlocks, ExtentsTree, Catalog, LaterExtents, FirstExtents, Stray, Free}

-- the place of a part among all
abbrev pub rank : Part → ℕ
rank BadBlocks = 0
rank ExtentsTree = 1
rank Catalog = 2
rank LaterExtents = 3
rank FirstExtents = 4
rank Stray = 5
rank Free = 6

-- all parts in their order
abbrev pub parts : List Part
parts = BadBlocks ∷ ExtentsTree ∷ Catalog ∷ LaterExtents ∷ FirstExtents ∷ Stray ∷ Free ∷ []
