use Rattle.std.proofs.Common.{◌≡◌, ℕ, suc, ◌-◌, length, Ok, Err, sym, ap, ◌∙◌, subst, arith}
use Rattle.std.specs.Prelude.{◌&&◌}
use Rattle.hfs_btree.specs.Pairs.{Pairs}
use Rattle.hfs_btree.specs.Tree.{records_of, under}
use Rattle.hfs_btree_checks.specs.Subtree.{is_above, is_at_most, HasRange, IsSubtree, is_subtree_keyed}
use Rattle.hfs_btree.proofs.DecodedLemmas.{records-within}
use Rattle.hfs_btree_checks.proofs.ShapeNode.{decodes}
use Rattle.hfs_btree_checks.proofs.Subtrees.{subtree-some, leaf-records, leaf-under, index-at, child-at, seen-none, seen-more, seen-range, seen-keys, seen-all, under-is, keys-is, subtree-is}
use Rattle.hfs_btree_checks.proofs.order_index.+read_subtree.Goals as goal

pub read-requires : goal.read-requires
read-requires g t c = let nodes = g.N.Nodes.nodes c.args.nodes.now in records-within nodes c.args.n (subtree-some g.K.Key nodes c.args.above c.args.n c.requires)

pub unreachable-requires : goal.unreachable-requires
unreachable-requires g t c =
    let nodes = g.N.Nodes.nodes c.args.nodes.now in
    let is = decodes nodes c.args.n c.read.new.into (Err c.in_default.field-0) c.read.ensures c.in_default.ensures.node in
    let some = subtree-some g.K.Key nodes c.args.above c.args.n c.requires in
    omega (arith, ap (λ r. length (records_of r)) is)

pub leaf_range-requires : goal.leaf_range-requires
leaf_range-requires g t c =
    let nodes = g.N.Nodes.nodes c.args.nodes.now in
    let is = decodes nodes c.args.n c.read.new.into (Ok c.in-Ok.node) c.read.ensures c.in-Ok.ensures.node in
    leaf-records g.K.Key nodes c.args.above c.args.n c.in-Ok.node.records c.if-above-eq0.true (ap records_of is) c.requires

pub returns-then-above-eq0-clause-range : goal.returns-then-above-eq0-clause-range
returns-then-above-eq0-clause-range g t c =
    let nodes = g.N.Nodes.nodes c.args.nodes.now in
    let is = decodes nodes c.args.n c.read.new.into (Ok c.in-Ok.node) c.read.ensures c.in-Ok.ensures.node in
    let P : Pairs _ → Type 0 = λ ps. HasRange g.K.Key.compare c.leaf_range.result ps in
    subst P (sym (leaf-under g.K.Key nodes c.args.above c.args.n c.in-Ok.node.records c.if-above-eq0.true (ap records_of is))) c.leaf_range.ensures

pub loop-i-init : goal.loop-i-init
loop-i-init g t c = seen-none g.K.Key (g.N.Nodes.nodes c.args.nodes.now) (c.args.above - 1) c.in-Ok.node.records

pub index_entry-child-requires : goal.index_entry-child-requires
index_entry-child-requires g t c =
    let nodes = g.N.Nodes.nodes c.args.nodes.now in
    let is = decodes nodes c.args.n c.read.new.into (Ok c.in-Ok.node) c.read.ensures c.in-Ok.ensures.node in
    let up : c.args.above ≡ suc (c.args.above - 1) = omega arith in
    let len = c.len-i-end.ensures.count in
    rw c.record.ensures.bytes (index-at g.K.Key nodes (c.args.above - 1) c.in-Ok.node.records c.args.above c.args.n up (ap records_of is) c.requires c.loop-i.i (omega arith))

pub read_subtree-part-requires : goal.read_subtree-part-requires
read_subtree-part-requires g t c κs within =
    let nodes = g.N.Nodes.nodes c.args.nodes.now in
    let is = decodes nodes c.args.n c.read.new.into (Ok c.in-Ok.node) c.read.ensures c.in-Ok.ensures.node in
    let up : c.args.above ≡ suc (c.args.above - 1) = omega arith in
    let len = c.len-i-end.ensures.count in
    let P : ℕ → Type 0 = λ n. IsSubtree g.K.Key nodes (c.args.above - 1) n in
    let less = c.decreases in (
      omega arith,
      (
        within.0,
        (
          within.1,
          subst P (sym (ap (λ p. p.1) c.index_entry-child.ensures ∙ ap g.K.Key.child c.record.ensures.bytes))
              (child-at g.K.Key nodes (c.args.above - 1) c.in-Ok.node.records c.args.above c.args.n up (ap records_of is) c.requires c.loop-i.i (omega arith)),
        ),
      ),
    )

pub loop-i-preserved : goal.loop-i-preserved
loop-i-preserved g t c =
    let nodes = g.N.Nodes.nodes c.args.nodes.now in
    let k = c.args.above - 1 in
    let e = c.record.result.now in
    let read = c.index_entry-child.ensures in
    let len = c.len-i-end.ensures.count in
    let found = c.read_subtree-part.result in
    let P : ℕ → Type 0 = λ n. HasRange g.K.Key.compare found.range (under g.K.Key nodes k n) in
    seen-more g.K.Key nodes k c.in-Ok.node.records c.loop-i.i e (omega arith) c.record.ensures.bytes c.loop-i.range c.loop-i.before c.joined-range.result found.range c.loop-i.keyed c.loop-i.below
    c.is_between-right.result found.ordered c.loop-i.invariant
    (c.is_between-right.ensures ∙ ap (λ p. is_above g.K.Key.compare p.0 c.loop-i.before && is_at_most g.K.Key.compare p.0 found.range) read)
    (subst P (ap (λ p. p.1) read) c.read_subtree-part.ensures.range)
    (c.read_subtree-part.ensures.ordered ∙ ap (λ p. is_subtree_keyed g.K.Key nodes k p.1) read)
    c.joined-range.ensures

pub returns-clause-range : goal.returns-clause-range
returns-clause-range g t c =
    let nodes = g.N.Nodes.nodes c.args.nodes.now in
    let is = decodes nodes c.args.n c.read.new.into (Ok c.in-Ok.node) c.read.ensures c.in-Ok.ensures.node in
    let up : c.args.above ≡ suc (c.args.above - 1) = omega arith in
    let len = c.len-i-end.ensures.count in
    let P : Pairs _ → Type 0 = λ ps. HasRange g.K.Key.compare c.loop-i.range ps in
    subst P (sym (under-is g.K.Key nodes (c.args.above - 1) c.in-Ok.node.records c.args.above c.args.n up (ap records_of is)))
    (seen-range g.K.Key nodes (c.args.above - 1) c.in-Ok.node.records c.loop-i.i (omega arith) c.loop-i.range c.loop-i.before c.loop-i.keyed c.loop-i.below c.loop-i.invariant)

pub returns-clause-keyed : goal.returns-clause-keyed
returns-clause-keyed g t c =
    let nodes = g.N.Nodes.nodes c.args.nodes.now in
    let is = decodes nodes c.args.n c.read.new.into (Ok c.in-Ok.node) c.read.ensures c.in-Ok.ensures.node in
    let up : c.args.above ≡ suc (c.args.above - 1) = omega arith in
    let len = c.len-i-end.ensures.count in
    seen-keys g.K.Key nodes (c.args.above - 1) c.in-Ok.node.records c.loop-i.i (omega arith) c.loop-i.range c.loop-i.before c.loop-i.keyed c.loop-i.below c.loop-i.invariant
    ∙ sym (keys-is g.K.Key nodes (c.args.above - 1) c.in-Ok.node.records c.args.above c.args.n up (ap records_of is))

pub returns-clause-ordered : goal.returns-clause-ordered
returns-clause-ordered g t c =
    let nodes = g.N.Nodes.nodes c.args.nodes.now in
    let es = c.in-Ok.node.records in
    let k = c.args.above - 1 in
    let is = decodes nodes c.args.n c.read.new.into (Ok c.in-Ok.node) c.read.ensures c.in-Ok.ensures.node in
    let up : c.args.above ≡ suc (c.args.above - 1) = omega arith in
    let len = c.len-i-end.ensures.count in
    seen-all g.K.Key nodes k es c.loop-i.i (omega arith) c.loop-i.range c.loop-i.before c.loop-i.keyed c.loop-i.below c.loop-i.invariant
    ∙ sym (subtree-is g.K.Key nodes k es c.args.above c.args.n up (ap records_of is))
