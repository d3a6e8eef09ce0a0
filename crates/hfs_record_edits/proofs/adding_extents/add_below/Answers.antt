use Rattle.std.proofs.lemmas.Bool.{eq-eqb}
use Rattle.hfs_btree_edits.proofs.StoreLemmas.{on-ok}
use Rattle.hfs_record_edits.proofs.Adds.{ext-even, below-all, least-long, lower-absent, added-below}
use Rattle.hfs_record_edits.proofs.adding_extents.add_below.Goals as goal

pub put_least-requires-clause-below : goal.put_least-requires-clause-below
put_least-requires-clause-below g c =
    below-all (g.S.Nodes.nodes c.args.nodes.now) c.requires.tree c.args.key.now c.args.body.now (c.args.least.now, c.args.least_body.now) c.requires.least c.requires.some

pub put_least-requires-clause-even : goal.put_least-requires-clause-even
put_least-requires-clause-even g c = ext-even

pub insert-requires-clause-allowed : goal.insert-requires-clause-allowed
insert-requires-clause-allowed g c =
    eq-eqb _ _ (least-long (g.S.Nodes.nodes c.args.nodes.now) c.requires.tree c.args.key.now c.args.body.now (c.args.least.now, c.args.least_body.now) c.requires.least c.requires.some)

pub insert-requires-clause-absent : goal.insert-requires-clause-absent
insert-requires-clause-absent g c =
    lower-absent (g.S.Nodes.nodes c.args.nodes.now) c.requires.tree c.args.key.now c.args.body.now (c.args.least.now, c.args.least_body.now) c.requires.least c.requires.some (g.S.Nodes.nodes c.put_least.new.nodes)
    c.in_ok-put_least.ensures.lower

pub returns-clause-added : goal.returns-clause-added
returns-clause-added g c =
    on-ok _ _ c.insert.result
    (λ i. added-below (g.S.Nodes.nodes c.args.nodes.now) c.requires.tree c.args.key.now c.args.body.now (c.args.least.now, c.args.least_body.now) c.requires.least c.requires.some (g.S.Nodes.nodes c.put_least.new.nodes)
    c.in_ok-put_least.ensures.lower (g.S.Nodes.nodes c.insert.new.nodes) c.requires.beyond i)
    c.insert.ensures.inserted
