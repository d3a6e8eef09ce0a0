use Rattle.std.proofs.Common.{◌∙◌, sym, ap, Option}
use Rattle.std.specs.Option.{option_map}
use Rattle.hfs_catalog.specs.Records.{Record}
use Rattle.hfs_catalog.specs.Tree.{catalog_of}
use Rattle.hfs_catalog.specs.Lookups.{catalog_item}
use Rattle.hfs_catalog.proofs.Found.{by_its_thread}
use Rattle.hfs_catalog.proofs.lookups.by_id.Goals as goal

pub returns-in-Some : goal.returns-in-Some
returns-in-Some g c =
    c.lookup.ensures
    ∙ ap (λ (o : Option Record). option_map catalog_item o)
    (by_its_thread (catalog_of (g.N.Nodes.nodes c.args.nodes.now)) c.args.id c.in-Some.thread c.requires.places c.requires.ids (sym c.thread.ensures ∙ c.in-Some.is))
