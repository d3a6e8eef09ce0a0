use Rattle.std.proofs.Common.{◌≡◌, ◌-◌, ◌<◌, [], ◌∷◌, ◌++◌, ◌∙◌, ℕ, List, ap, sym, subst, arith}
use Rattle.std.specs.List.{flat_map}
use Rattle.hfs_fields.specs.Each.{Each}
use Rattle.hfs_btree.specs.Tree.{children}
use Rattle.hfs_btree_checks.specs.ShapeSteps.{IsFault}
use Rattle.hfs_btree_checks.specs.KeySteps.{IsKeyNode, level_key_fault}
use Rattle.hfs_btree_checks.proofs.ShapeTurn.{passed-fault}
use Rattle.hfs_btree_checks.proofs.KeyPasses.{level-nodes, level-stops, level-goes, keys-start, right-start, right-down}
use Rattle.hfs_btree_checks.proofs.key_levels.check_keys.Goals as goal

pub loop-below-init : goal.loop-below-init
loop-below-init g c =
    let nodes = g.N.Nodes.nodes c.args.nodes.now in
    let one = c.in_ok-push.ensures.items ∙ ap (λ (ns : List ℕ). ns ++ c.read_header-header.result.root ∷ []) c.new-level.ensures.items in
    record {
      same = keys-start g.K.Key nodes (g.T.KeyTest.passes c.args.test.now) c.read_header-header.result c.read_header-header.ensures c.push.new.self.items one;
      right = right-start g.K.Key nodes c.requires c.read_header-header.result c.read_header-header.ensures c.push.new.self.items one;
    }

pub check_level_keys-requires : goal.check_level_keys-requires
check_level_keys-requires g c =
    let nodes = g.N.Nodes.nodes c.args.nodes.now in
    let below = c.loop-below.below in
    let P : List ℕ → Type 0 = λ ns. Each (IsKeyNode g.K.Key nodes (below - 1)) ns in
    subst P (sym c.deref.ensures.value) (level-nodes g.K.Key nodes below (below - 1) c.loop-below.level.items (omega arith) c.loop-below.invariant.right)

pub returns-in_err-level : goal.returns-in_err-level
returns-in_err-level g c =
    let nodes = g.N.Nodes.nodes c.args.nodes.now in
    let test = g.T.KeyTest.passes c.args.test.now in
    let below = c.loop-below.below in
    let e = c.in_err-level.field-0.0 in
    let P : List ℕ → Type 0 = λ ns. IsFault (level_key_fault g.K.Key nodes test (below - 1) ns) e in
    passed-fault c.from_residual-in_err-level.result e _ _ c.from_residual-in_err-level.ensures.1
    (level-stops g.K.Key nodes test below (below - 1) c.loop-below.level.items (omega arith) c.loop-below.invariant.same e (subst P c.deref.ensures.value c.in_err-level.ensures.fault))

pub loop-below-preserved : goal.loop-below-preserved
loop-below-preserved g c =
    let nodes = g.N.Nodes.nodes c.args.nodes.now in
    let test = g.T.KeyTest.passes c.args.test.now in
    let level = c.loop-below.level.items in
    let below = c.loop-below.below in
    let made = c.in_ok-level.level.items in
    let none = ap (level_key_fault g.K.Key nodes test (below - 1)) (sym c.deref.ensures.value) ∙ c.in_ok-level.ensures.right in
    let down : 0 < below - 1 → made ≡ flat_map (children g.K.Key nodes) level = λ some. c.in_ok-level.ensures.next some ∙ ap (flat_map (children g.K.Key nodes)) c.deref.ensures.value in
    record {
      same = level-goes g.K.Key nodes test below (below - 1) level (omega arith) c.loop-below.invariant.same made none down;
      right = right-down g.K.Key nodes below (below - 1) level made (omega arith) down c.loop-below.invariant.right;
    }
