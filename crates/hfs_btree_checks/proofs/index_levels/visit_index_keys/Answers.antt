use Rattle.std.proofs.Common.{ℕ, ◌∙◌, ◌++◌, List, ap, sym, append-nil, map}
use Rattle.std.specs.List.{list_all}
use Rattle.hfs_btree_checks.proofs.KeyPasses.{on-ok, records-none, records-some}
use Rattle.hfs_btree_checks.proofs.index_levels.visit_index_keys.Goals as goal

pub returns-in_default-clause-keys : goal.returns-in_default-clause-keys
returns-in_default-clause-keys g c =
    sym (ap (λ (es : List (List ℕ)). c.args.keys.now.items ++ map g.K.Key.index_key es)
    (records-none (g.N.Nodes.nodes c.args.nodes.now) c.args.n c.read.new.into c.in_default.field-0 c.read.ensures c.in_default.ensures.node)
    ∙ append-nil c.args.keys.now.items)

pub returns-in_default-clause-below : goal.returns-in_default-clause-below
returns-in_default-clause-below g c =
    sym (ap (λ (es : List (List ℕ)). c.args.next.now.items ++ map g.K.Key.child es)
    (records-none (g.N.Nodes.nodes c.args.nodes.now) c.args.n c.read.new.into c.in_default.field-0 c.read.ensures c.in_default.ensures.node)
    ∙ append-nil c.args.next.now.items)

pub push_children-requires : goal.push_children-requires
push_children-requires g c =
    let is = records-some (g.N.Nodes.nodes c.args.nodes.now) c.args.n c.read.new.into c.in-Ok.node c.read.ensures c.in-Ok.ensures.node in
    ap (list_all g.K.Key.is_index) (sym is) ∙ c.requires.whole

pub push_keys-requires : goal.push_keys-requires
push_keys-requires g c =
    let is = records-some (g.N.Nodes.nodes c.args.nodes.now) c.args.n c.read.new.into c.in-Ok.node c.read.ensures c.in-Ok.ensures.node in
    ap (list_all g.K.Key.is_index) (sym is) ∙ c.requires.whole

pub returns-clause-keys : goal.returns-clause-keys
returns-clause-keys g c =
    let is = records-some (g.N.Nodes.nodes c.args.nodes.now) c.args.n c.read.new.into c.in-Ok.node c.read.ensures c.in-Ok.ensures.node in
    rw is c.push_keys.ensures

pub returns-clause-below : goal.returns-clause-below
returns-clause-below g c =
    let is = records-some (g.N.Nodes.nodes c.args.nodes.now) c.args.n c.read.new.into c.in-Ok.node c.read.ensures c.in-Ok.ensures.node in
    on-ok c.push_keys.result _ (c.in_ok-push_children.ensures ∙ ap (λ (es : List (List ℕ)). c.args.next.now.items ++ map g.K.Key.child es) (sym is))
