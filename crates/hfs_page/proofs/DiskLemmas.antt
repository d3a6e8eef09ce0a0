-- What the nodes of both trees hold.
use Rattle.std.proofs.Common.{◌≡◌, sym, ap, ◌∙◌, List}
use Rattle.hfs_fields.specs.Keys.{cat_cmp}
use Rattle.hfs_fields.specs.declared.extent.Extent.{Extent}
use Rattle.hfs_fields.specs.declared.mdb.Mdb.{Mdb}
use Rattle.hfs_btree.specs.Pairs.{Rises}
use Rattle.hfs_btree.specs.Tree.{Store}
use Rattle.hfs_catalog.specs.Records.{Catalog}
use Rattle.hfs_catalog.specs.Tree.{IsCatalogTree, catalog_of}
use Rattle.hfs_space.specs.Owners.{catalog_fork, extents_in}
use Rattle.hfs_space.specs.Extents.{Overflow}
use Rattle.hfs_space.specs.TreeKeys.{overflow_of}
use Rattle.hfs_check.specs.Parts.{Blocks, catalog_extents, catalog_in, catalog_nodes, extents_nodes, mdb_in, overflow_in}
use Rattle.hfs_page.specs.Disk.{holdings_in}
use Rattle.hfs_page.specs.Holdings.{volume_holdings}

pub catalog-by : (blocks : Blocks) (nodes : Store) → nodes ≡ catalog_nodes blocks → catalog_of nodes ≡ catalog_in blocks
unfolding catalog_in
catalog-by blocks nodes e = ap catalog_of e

pub overflow-by : (blocks : Blocks) (nodes : Store) → nodes ≡ extents_nodes blocks → overflow_of nodes ≡ overflow_in blocks
unfolding overflow_in
overflow-by blocks nodes e = ap overflow_of e

pub catalog-file : (blocks : Blocks) (mdb : Mdb) (nodes : Store) (file : List Extent) → mdb ≡ mdb_in blocks → nodes ≡ extents_nodes blocks → file ≡ catalog_extents blocks
    → file ≡ extents_in (overflow_of nodes) (catalog_fork mdb)
unfolding catalog_extents
catalog-file blocks mdb nodes file is at same =
    same ∙ (λ i. extents_in (sym (overflow-by blocks nodes at) i) (catalog_fork (sym is i)))

pub records-rise : (blocks : Blocks) → IsCatalogTree (catalog_nodes blocks) → Rises cat_cmp (catalog_in blocks)
unfolding catalog_in
records-rise blocks tree = tree.ordered.rises

pub holdings-by : (blocks : Blocks) (mdb : Mdb) (overflow : Overflow) (records : Catalog) → mdb ≡ mdb_in blocks → overflow ≡ overflow_in blocks → records ≡ catalog_in blocks
    → volume_holdings mdb overflow records ≡ holdings_in blocks
unfolding holdings_in
holdings-by blocks mdb overflow records same of by = λ i. volume_holdings (same i) (of i) (by i)
