use Rattle.std.proofs.Common.{◌∙◌, sym, ap, subst}
use Rattle.hfs_fields.specs.declared.key.CatKey.{CatKey}
use Rattle.hfs_fields.specs.Keys.{cat_cmp}
use Rattle.hfs_btree.specs.Pairs.{pairs_from}
use Rattle.hfs_catalog.specs.Records.{Catalog}
use Rattle.hfs_catalog.specs.Tree.{catalog_of}
use Rattle.hfs_catalog.proofs.Steps.{IsApproach, approach_begins, approach_ends}
use Rattle.hfs_catalog.proofs.lookups.child_at.Goals as goal

pub loop-walk-init : goal.loop-walk-init
loop-walk-init g c =
    let catalog = catalog_of (g.N.Nodes.nodes c.args.nodes.now) in
    subst (λ (ps : Catalog). IsApproach catalog c.args.dir c.args.place c.args.place ps) (sym (c.from-walk.ensures ∙ ap (λ (key : CatKey). pairs_from cat_cmp key catalog) c.first_key.ensures))
    (approach_begins catalog c.args.dir c.args.place c.requires.ordered.rises)

pub returns : goal.returns
returns g c = approach_ends (catalog_of (g.N.Nodes.nodes c.args.nodes.now)) c.args.dir c.args.place c.loop-walk.left c.loop-walk.walk (sym c.is_under.ensures ∙ c.loop-walk-test.false) c.loop-walk.invariant
