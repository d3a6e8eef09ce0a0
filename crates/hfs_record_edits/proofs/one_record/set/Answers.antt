use Rattle.hfs_fields.proofs.OutcomeLemmas.{on_ok}
use Rattle.hfs_fields.specs.Keys.{cat_cmp}
use Rattle.hfs_btree.specs.Pairs.{lookup}
use Rattle.hfs_btree_edits.proofs.ConditionLemmas.{no_longer-there}
use Rattle.hfs_catalog.specs.Tree.{catalog_of}
use Rattle.hfs_record_edits.proofs.Edits.{set}
use Rattle.hfs_record_edits.proofs.one_record.set.Goals as goal

pub returns-clause-set : goal.returns-clause-set
returns-clause-set g c =
    let old = g.N.Nodes.nodes c.args.nodes.now in
    on_ok c.replace.result _ _
    (set old (g.N.Nodes.nodes c.replace.new.nodes) c.requires.tree c.args.key.now c.args.body.now (no_longer-there c.args.body.now (lookup cat_cmp c.args.key.now (catalog_of old)) c.requires.there))
    c.replace.ensures.replaced
