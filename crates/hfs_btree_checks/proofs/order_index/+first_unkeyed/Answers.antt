use Rattle.std.proofs.Common.{◌≡◌, ℕ, suc, ◌-◌, ◌∷◌, [], length, get_or, Ok, Err, sym, ap, ◌∙◌, subst, arith}
use Rattle.std.proofs.lemmas.Bool.{cond-true, cond-false}
use Rattle.hfs_btree.specs.Tree.{records_of, level_below}
use Rattle.hfs_btree_checks.specs.Subtree.{IsSubtree}
use Rattle.hfs_btree.proofs.DecodedLemmas.{records-within}
use Rattle.hfs_btree_checks.proofs.ShapeNode.{decodes}
use Rattle.hfs_btree_checks.proofs.Subtrees.{subtree-some, index-at, child-at}
use Rattle.hfs_btree_checks.proofs.OrderTurn.{first, level-one, under-found, under-passed, under-end, under-node}
use Rattle.hfs_btree_checks.proofs.order_index.+first_unkeyed.Goals as goal

pub returns-then-found : goal.returns-then-found
returns-then-found g t c =
    sym (level-one g.K.Key (g.N.Nodes.nodes c.args.nodes.now) c.args.above c.args.at c.args.n c.read_subtree-found.result.keyed c.if-above-at.true c.read_subtree-found.ensures.keyed ∙ cond-true _ _ _ c.if-found.true)

pub returns-else-found : goal.returns-else-found
returns-else-found g t c =
    sym (level-one g.K.Key (g.N.Nodes.nodes c.args.nodes.now) c.args.above c.args.at c.args.n c.read_subtree-found.result.keyed c.if-above-at.true c.read_subtree-found.ensures.keyed ∙ cond-false _ _ _ c.if-found.false)

pub read-requires : goal.read-requires
read-requires g t c = let nodes = g.N.Nodes.nodes c.args.nodes.now in records-within nodes c.args.n (subtree-some g.K.Key nodes c.args.above c.args.n c.requires.tree)

pub unreachable-requires : goal.unreachable-requires
unreachable-requires g t c =
    let nodes = g.N.Nodes.nodes c.args.nodes.now in
    let is = decodes nodes c.args.n c.read.new.into (Err c.in_default.field-0) c.read.ensures c.in_default.ensures.node in
    let some = subtree-some g.K.Key nodes c.args.above c.args.n c.requires.tree in
    omega (arith, ap (λ r. length (records_of r)) is)

pub child_of-child-requires : goal.child_of-child-requires
child_of-child-requires g t c =
    let nodes = g.N.Nodes.nodes c.args.nodes.now in
    let is = decodes nodes c.args.n c.read.new.into (Ok c.in-Ok.node) c.read.ensures c.in-Ok.ensures.node in
    let low = c.requires.below in
    let up : c.args.above ≡ suc (c.args.above - 1) = omega arith in
    let len = c.len-i-end.ensures.count in
    rw c.record.ensures.bytes (index-at g.K.Key nodes (c.args.above - 1) c.in-Ok.node.records c.args.above c.args.n up (ap records_of is) c.requires.tree c.loop-i.i (omega arith))

pub first_unkeyed-below-requires : goal.first_unkeyed-below-requires
first_unkeyed-below-requires g t c κs within =
    let nodes = g.N.Nodes.nodes c.args.nodes.now in
    let is = decodes nodes c.args.n c.read.new.into (Ok c.in-Ok.node) c.read.ensures c.in-Ok.ensures.node in
    let low = c.requires.below in
    let up : c.args.above ≡ suc (c.args.above - 1) = omega arith in
    let len = c.len-i-end.ensures.count in
    let P : ℕ → Type 0 = λ n. IsSubtree g.K.Key nodes (c.args.above - 1) n in
    let less = c.decreases in (
      omega arith,
      (
        within.0,
        (
          within.1,
          (
            subst P (sym (c.child_of-child.ensures ∙ ap g.K.Key.child c.record.ensures.bytes))
                (child-at g.K.Key nodes (c.args.above - 1) c.in-Ok.node.records c.args.above c.args.n up (ap records_of is) c.requires.tree c.loop-i.i (omega arith)),
            omega arith,
          ),
        ),
      ),
    )

pub returns-then-is_some : goal.returns-then-is_some
returns-then-is_some g t c =
    let nodes = g.N.Nodes.nodes c.args.nodes.now in
    let k = c.args.at in
    let down = c.args.above - k - 1 in
    let es = c.in-Ok.node.records in
    let is = decodes nodes c.args.n c.read.new.into (Ok c.in-Ok.node) c.read.ensures c.in-Ok.ensures.node in
    let low = c.requires.below in
    let len = c.len-i-end.ensures.count in
    let lower : c.args.above - 1 - k ≡ down = omega arith in
    let child = c.child_of-child.ensures ∙ ap g.K.Key.child c.record.ensures.bytes in
    let same : c.first_unkeyed-below.result ≡ first g.K.Key nodes k (level_below g.K.Key nodes down (g.K.Key.child (get_or es c.loop-i.i []) ∷ [])) =
    c.first_unkeyed-below.ensures
    ∙ ap (λ (d : ℕ). first g.K.Key nodes k (level_below g.K.Key nodes d (c.child_of-child.result ∷ []))) lower
    ∙ ap (λ (m : ℕ). first g.K.Key nodes k (level_below g.K.Key nodes down (m ∷ []))) child in
    sym (
    under-node g.K.Key nodes k (c.args.above - k) down c.args.n es (omega arith) (ap records_of is)
    ∙ c.loop-i.invariant
    ∙ under-found g.K.Key nodes k down es c.loop-i.i (omega arith) c.first_unkeyed-below.result same (sym c.is_some.ensures ∙ c.if-is_some.true)
    )

pub loop-i-preserved : goal.loop-i-preserved
loop-i-preserved g t c =
    let nodes = g.N.Nodes.nodes c.args.nodes.now in
    let k = c.args.at in
    let down = c.args.above - k - 1 in
    let es = c.in-Ok.node.records in
    let low = c.requires.below in
    let len = c.len-i-end.ensures.count in
    let lower : c.args.above - 1 - k ≡ down = omega arith in
    let child = c.child_of-child.ensures ∙ ap g.K.Key.child c.record.ensures.bytes in
    let same : c.first_unkeyed-below.result ≡ first g.K.Key nodes k (level_below g.K.Key nodes down (g.K.Key.child (get_or es c.loop-i.i []) ∷ [])) =
    c.first_unkeyed-below.ensures
    ∙ ap (λ (d : ℕ). first g.K.Key nodes k (level_below g.K.Key nodes d (c.child_of-child.result ∷ []))) lower
    ∙ ap (λ (m : ℕ). first g.K.Key nodes k (level_below g.K.Key nodes down (m ∷ []))) child in
    c.loop-i.invariant ∙ under-passed g.K.Key nodes k down es c.loop-i.i (omega arith) c.first_unkeyed-below.result same (sym c.is_some.ensures ∙ c.if-is_some.false)

pub returns : goal.returns
returns g t c =
    let nodes = g.N.Nodes.nodes c.args.nodes.now in
    let k = c.args.at in
    let down = c.args.above - k - 1 in
    let es = c.in-Ok.node.records in
    let is = decodes nodes c.args.n c.read.new.into (Ok c.in-Ok.node) c.read.ensures c.in-Ok.ensures.node in
    let low = c.requires.below in
    let len = c.len-i-end.ensures.count in
    sym (
    under-node g.K.Key nodes k (c.args.above - k) down c.args.n es (omega arith) (ap records_of is)
    ∙ c.loop-i.invariant
    ∙ under-end g.K.Key nodes k down es c.loop-i.i (omega arith)
    )
