use Rattle.std.proofs.Common.{◌+◌, arith, ap, length, get_or, [], sym, ◌∙◌}
use Rattle.hfs_btree.specs.declared.node.Node.{Node}
use Rattle.hfs_btree.proofs.DecodingLemmas.{length-records, get_or-records, count-inside, offset-inside, offset-rising, length-record}
use Rattle.hfs_btree.proofs.node_view.NodeView.record.Goals as goal

pub record_at-requires-clause-within : goal.record_at-requires-clause-within
record_at-requires-clause-within c =
    let count = sym (length-records c.self.inside.kind c.self.inside.bytes.now) ∙ ap (λ (n : Node). length n.records) c.self.view_is in
    omega (arith, count-inside c.self.inside.bytes.now c.self.invariant.inside)

pub record_at-requires-clause-rising : goal.record_at-requires-clause-rising
record_at-requires-clause-rising c =
    let count = sym (length-records c.self.inside.kind c.self.inside.bytes.now) ∙ ap (λ (n : Node). length n.records) c.self.view_is in
    offset-rising c.self.inside.bytes.now c.args.i c.self.invariant.rising (omega arith)

pub record_at-requires-clause-inside : goal.record_at-requires-clause-inside
record_at-requires-clause-inside c =
    let count = sym (length-records c.self.inside.kind c.self.inside.bytes.now) ∙ ap (λ (n : Node). length n.records) c.self.view_is in
    omega (arith, (offset-inside c.self.inside.bytes.now (c.args.i + 1) c.self.invariant.inside (omega arith)).1)

pub returns-clause-bytes : goal.returns-clause-bytes
returns-clause-bytes c =
    let count = sym (length-records c.self.inside.kind c.self.inside.bytes.now) ∙ ap (λ (n : Node). length n.records) c.self.view_is in
    c.record_at.ensures ∙ sym (get_or-records c.self.inside.kind c.self.inside.bytes.now c.args.i (omega arith)) ∙ ap (λ (n : Node). get_or n.records c.args.i []) c.self.view_is

pub returns-clause-short : goal.returns-clause-short
returns-clause-short c =
    let count = sym (length-records c.self.inside.kind c.self.inside.bytes.now) ∙ ap (λ (n : Node). length n.records) c.self.view_is in
    let low = offset-inside c.self.inside.bytes.now c.args.i c.self.invariant.inside (omega arith) in
    let high = offset-inside c.self.inside.bytes.now (c.args.i + 1) c.self.invariant.inside (omega arith) in
    rw (c.record_at.ensures) (length-record c.self.inside.bytes.now c.args.i (omega arith))
