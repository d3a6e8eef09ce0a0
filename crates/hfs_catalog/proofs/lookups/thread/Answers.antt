use Rattle.std.proofs.Common.{◌∙◌, ap}
use Rattle.hfs_fields.specs.declared.key.CatKey.{CatKey}
use Rattle.hfs_fields.specs.Keys.{cat_cmp}
use Rattle.hfs_btree.specs.Pairs.{pairs_from}
use Rattle.hfs_btree.specs.Lookups.{first_pair}
use Rattle.hfs_catalog.specs.Records.{Catalog}
use Rattle.hfs_catalog.specs.Tree.{catalog_of}
use Rattle.hfs_catalog.specs.Lookups.{thread_at}
use Rattle.hfs_catalog.proofs.Found.{thread_first}
use Rattle.hfs_catalog.proofs.lookups.thread.Goals as goal

pub returns : goal.returns
returns g c =
    c.thread_at.ensures
    ∙ ap (λ (ps : Catalog). thread_at c.args.id (first_pair ps))
    (c.from-walk.ensures ∙ ap (λ (key : CatKey). pairs_from cat_cmp key (catalog_of (g.N.Nodes.nodes c.args.nodes.now))) c.first_key.ensures)
    ∙ thread_first (catalog_of (g.N.Nodes.nodes c.args.nodes.now)) c.args.id c.requires.tree.ordered.rises c.requires.records c.requires.names
