use Rattle.std.proofs.Common.{◌≡◌, ◌-◌, [], ◌∷◌, ◌++◌, ◌∙◌, ℕ, List, ap, sym, subst, arith, map}
use Rattle.std.specs.List.{flat_map}
use Rattle.hfs_fields.specs.Each.{Each}
use Rattle.hfs_btree.specs.Tree.{children, turn, records_in}
use Rattle.hfs_btree_checks.specs.Order.{index_keys_at}
use Rattle.hfs_btree_checks.specs.KeySteps.{IsKeyNode}
use Rattle.hfs_btree_checks.proofs.KeyPasses.{right-start, right-down, index-nodes, index-keys-more, index-keys-start, index-keys-end}
use Rattle.hfs_btree_checks.proofs.index_levels.index_keys.Goals as goal

pub loop-below-init : goal.loop-below-init
loop-below-init g c =
    let nodes = g.N.Nodes.nodes c.args.nodes.now in
    let one = c.in_ok-push.ensures.items ∙ ap (λ (ns : List ℕ). ns ++ c.read_header-header.result.root ∷ []) c.new-level.ensures.items in
    let level = c.push.new.self.items in
    record {
      same =
          index-keys-start g.K.Key nodes c.read_header-header.result c.read_header-header.ensures level one
          ∙ sym (ap (λ (ks : List g.row.K.Denot). ks ++ flat_map (index_keys_at g.K.Key nodes) (turn g.K.Key nodes c.read_header-header.result.depth level)) c.new-keys.ensures.items);
      right = right-start g.K.Key nodes c.requires c.read_header-header.result c.read_header-header.ensures level one;
    }

pub read_level_keys-requires : goal.read_level_keys-requires
read_level_keys-requires g c =
    let nodes = g.N.Nodes.nodes c.args.nodes.now in
    let below = c.loop-below.below in
    let P : List ℕ → Type 0 = λ ns. Each (IsKeyNode g.K.Key nodes 1) ns in
    subst P (sym c.deref.ensures.value) (index-nodes g.K.Key nodes below (below - 1) c.loop-below.level.items (omega arith) (omega arith) c.loop-below.invariant.right)

pub loop-below-preserved : goal.loop-below-preserved
loop-below-preserved g c =
    let nodes = g.N.Nodes.nodes c.args.nodes.now in
    let level = c.loop-below.level.items in
    let below = c.loop-below.below in
    let made = c.in_ok-level.level.items in
    let down : made ≡ flat_map (children g.K.Key nodes) level = c.in_ok-level.ensures.next ∙ ap (flat_map (children g.K.Key nodes)) c.deref.ensures.value in
    let keys = c.in_ok-level.ensures.keys ∙ ap (λ (ns : List ℕ). c.loop-below.keys.items ++ flat_map (λ n. map g.K.Key.index_key (records_in nodes n)) ns) c.deref.ensures.value in
    record {
      same =
          c.loop-below.invariant.same
          ∙ index-keys-more g.K.Key nodes below (below - 1) level c.loop-below.keys.items (omega arith) (omega arith)
          ∙ ap (λ (ks : List g.row.K.Denot). ks ++ flat_map (index_keys_at g.K.Key nodes) (turn g.K.Key nodes (below - 1) (flat_map (children g.K.Key nodes) level))) (sym keys)
          ∙ ap (λ (ns : List ℕ). c.read_level_keys.new.keys.items ++ flat_map (index_keys_at g.K.Key nodes) (turn g.K.Key nodes (below - 1) ns)) (sym down);
      right = right-down g.K.Key nodes below (below - 1) level made (omega arith) (λ _. down) c.loop-below.invariant.right;
    }

pub returns : goal.returns
returns g c = index-keys-end g.K.Key (g.N.Nodes.nodes c.args.nodes.now) c.loop-below.keys.items c.loop-below.below c.loop-below.level.items (omega arith) c.loop-below.invariant.same
