-- what is told behind the names so far
use Rattle.std.specs.Prelude.{◌≡◌, take}
use Rattle.std.specs.List.{fold}
use Rattle.hfs_catalog.specs.Tree.{catalog_of}
use Rattle.hfs_items.specs.Told.{cat_info}
use Rattle.hfs_image.specs.Paths.{told_next}
use Rattle.hfs_image.proofs.paths.told_behind.Given as goal

abbrev pub invariant-loop-name : goal.invariant-loop-name
invariant-loop-name g l = l.told ≡ fold (told_next (cat_info (catalog_of (g.N.Nodes.nodes l.nodes)))) l.fn.root (take l.name-index l.below)
