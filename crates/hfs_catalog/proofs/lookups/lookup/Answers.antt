use Rattle.std.proofs.Common.{◌∙◌, ap}
use Rattle.hfs_btree.specs.Lookups.{first_pair}
use Rattle.hfs_catalog.specs.Records.{Catalog}
use Rattle.hfs_catalog.specs.Tree.{catalog_of}
use Rattle.hfs_catalog.specs.Lookups.{named_at}
use Rattle.hfs_catalog.proofs.Found.{named_first}
use Rattle.hfs_catalog.proofs.lookups.lookup.Goals as goal

pub returns : goal.returns
returns g c =
    c.named_at.ensures
    ∙ ap (λ (ps : Catalog). named_at c.args.dir c.args.name.now (first_pair ps)) c.from-walk.ensures
    ∙ named_first (catalog_of (g.N.Nodes.nodes c.args.nodes.now)) c.args.dir c.args.name.now c.requires.ordered.rises
