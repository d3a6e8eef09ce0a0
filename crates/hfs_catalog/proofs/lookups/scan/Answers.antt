use Rattle.std.proofs.Common.{◌∙◌, sym, ap}
use Rattle.hfs_fields.specs.declared.key.CatKey.{CatKey}
use Rattle.hfs_fields.specs.Keys.{cat_cmp}
use Rattle.hfs_btree.specs.Pairs.{pairs_from}
use Rattle.hfs_catalog.specs.Records.{Catalog, item_with}
use Rattle.hfs_catalog.specs.Tree.{catalog_of}
use Rattle.hfs_catalog.proofs.Steps.{scan_begins}
use Rattle.hfs_catalog.proofs.lookups.scan.Goals as goal

pub loop-walk-init : goal.loop-walk-init
loop-walk-init g c =
    scan_begins (catalog_of (g.N.Nodes.nodes c.args.nodes.now)) c.args.id
    ∙ ap (λ (ps : Catalog). item_with ps c.args.id) (sym (c.from-walk.ensures ∙ ap (λ (key : CatKey). pairs_from cat_cmp key (catalog_of (g.N.Nodes.nodes c.args.nodes.now))) c.first_key.ensures))
