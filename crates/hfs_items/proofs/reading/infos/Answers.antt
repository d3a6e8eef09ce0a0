use Rattle.std.proofs.Common.{◌∙◌}
use Rattle.hfs_catalog.specs.Tree.{catalog_of}
use Rattle.hfs_items.proofs.DetailLemmas.{all_infos}
use Rattle.hfs_items.proofs.reading.infos.Goals as goal

pub returns : goal.returns
returns g c =
    c.loop-item.invariant
    ∙ all_infos (catalog_of (g.N.Nodes.nodes c.args.nodes.now)) c.args.dir c.deref-item-items.result.now (c.deref-item-items.ensures.value ∙ c.in_ok-items.ensures) c.args.detail c.loop-item.item-index c.loop-item-test.false
