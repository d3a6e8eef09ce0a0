use Rattle.std.proofs.Common.{ℕ, ◌∙◌, ◌++◌, List, Vec, Global, ap, sym, arith, append-nil, map}
use Rattle.std.specs.List.{list_all}
use Rattle.hfs_btree.specs.Tree.{reads_at, key_at}
use Rattle.hfs_btree_checks.proofs.ShapeNode.{reads-above}
use Rattle.hfs_btree_checks.proofs.KeyPasses.{records-none, records-some}
use Rattle.hfs_btree_checks.proofs.key_levels.visit_keys.Goals as goal
use Rattle.hfs_btree_checks.proofs.key_levels.visit_keys.Goals.{then-above-gt0+in_ok-push_children, else-above-gt0}

pub returns-in_default-clause-pass : goal.returns-in_default-clause-pass
returns-in_default-clause-pass g c =
    sym (ap (list_all (λ entry. g.T.KeyTest.passes c.args.test.now (key_at g.K.Key c.args.above entry)))
    (records-none (g.N.Nodes.nodes c.args.nodes.now) c.args.n c.read.new.into c.in_default.field-0 c.read.ensures c.in_default.ensures.node))

pub returns-in_default-clause-below : goal.returns-in_default-clause-below
returns-in_default-clause-below g c = λ some.
    sym (ap (λ (es : List (List ℕ)). c.args.next.now.items ++ map g.K.Key.child es)
    (records-none (g.N.Nodes.nodes c.args.nodes.now) c.args.n c.read.new.into c.in_default.field-0 c.read.ensures c.in_default.ensures.node)
    ∙ append-nil c.args.next.now.items)

pub push_children-requires : goal.push_children-requires
push_children-requires g c =
    let is = records-some (g.N.Nodes.nodes c.args.nodes.now) c.args.n c.read.new.into c.in-Ok.node c.read.ensures c.in-Ok.ensures.node in
    reads-above g.K.Key c.args.above c.in-Ok.node.records c.if-above-gt0.true (ap (list_all (reads_at g.K.Key c.args.above)) (sym is) ∙ c.requires.whole)

pub all_pass-requires : goal.all_pass-requires
all_pass-requires g c =
    let is = records-some (g.N.Nodes.nodes c.args.nodes.now) c.args.n c.read.new.into c.in-Ok.node c.read.ensures c.in-Ok.ensures.node in
    ap (list_all (reads_at g.K.Key c.args.above)) (sym is) ∙ c.requires.whole

pub returns-clause-pass : goal.returns-clause-pass
returns-clause-pass g c =
    let is = records-some (g.N.Nodes.nodes c.args.nodes.now) c.args.n c.read.new.into c.in-Ok.node c.read.ensures c.in-Ok.ensures.node in
    c.all_pass.ensures ∙ ap (list_all (λ entry. g.T.KeyTest.passes c.args.test.now (key_at g.K.Key c.args.above entry))) (sym is)

pub returns-clause-below : goal.returns-clause-below
returns-clause-below g c = λ some.
    let is = records-some (g.N.Nodes.nodes c.args.nodes.now) c.args.n c.read.new.into c.in-Ok.node c.read.ensures c.in-Ok.ensures.node in
    elim c.if-above-gt0.branch [
      | then-above-gt0+in_ok-push_children w ↦
          ap (λ (v : Vec ℕ Global). v.items) w.next-is ∙ w.in_ok-push_children.ensures ∙ ap (λ (es : List (List ℕ)). c.args.next.now.items ++ map g.K.Key.child es) (sym is)
      | else-above-gt0 w ↦ absurd (omega arith)
    ]
