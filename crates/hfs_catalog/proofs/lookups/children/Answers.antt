use Rattle.std.proofs.Common.{◌∙◌, sym, ap, subst, List, []}
use Rattle.hfs_fields.specs.declared.key.CatKey.{CatKey}
use Rattle.hfs_fields.specs.Keys.{cat_cmp}
use Rattle.hfs_btree.specs.Pairs.{pairs_from}
use Rattle.hfs_catalog.specs.declared.item.CatalogItem.{CatalogItem}
use Rattle.hfs_catalog.specs.Records.{Catalog}
use Rattle.hfs_catalog.specs.Tree.{catalog_of}
use Rattle.hfs_catalog.proofs.Steps.{IsListing, listing_begins, listing_ends}
use Rattle.hfs_catalog.proofs.lookups.children.Goals as goal

pub loop-walk-init : goal.loop-walk-init
loop-walk-init g c =
    let catalog = catalog_of (g.N.Nodes.nodes c.args.nodes.now) in
    subst (λ (found : List CatalogItem). IsListing catalog c.args.dir found c.from-walk.result) (sym c.new-found.ensures.items)
    (subst (λ (ps : Catalog). IsListing catalog c.args.dir [] ps) (sym (c.from-walk.ensures ∙ ap (λ (key : CatKey). pairs_from cat_cmp key catalog) c.first_key.ensures))
    (listing_begins catalog c.args.dir c.requires.ordered.rises))

pub returns : goal.returns
returns g c = listing_ends (catalog_of (g.N.Nodes.nodes c.args.nodes.now)) c.args.dir c.loop-walk.found.items c.loop-walk.walk (sym c.is_under.ensures ∙ c.loop-walk-test.false) c.loop-walk.invariant
