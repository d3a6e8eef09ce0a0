-- What is told of the first items.
use Rattle.std.proofs.Common.{◌≡◌, map, take}
use Rattle.hfs_catalog.specs.declared.item.CatalogItem.{CatalogItem}
use Rattle.hfs_catalog.specs.Tree.{catalog_of}
use Rattle.hfs_items.specs.Brief.{in_detail}
use Rattle.hfs_items.specs.Told.{item_info}
use Rattle.hfs_items.proofs.reading.infos.Given as goal

abbrev pub invariant-loop-item : goal.invariant-loop-item
invariant-loop-item g l = l.infos.items ≡ map (λ (item : CatalogItem). in_detail l.fn.detail (item_info (catalog_of (g.N.Nodes.nodes l.nodes)) item)) (take l.item-index l.item-items)
