use Rattle.std.proofs.Common.{refl, ◌≡◌, sym, ap, ◌∙◌, arith}
use Rattle.hfs_btree.specs.declared.header.Header.{Header}
use Rattle.hfs_btree.specs.Header.{depth_of}
use Rattle.hfs_btree_removal.proofs.LowerLoop.{lowered-none, lowered-more, lower-levels, lower-within, lower-count, lower-wide, lower-shallow}
use Rattle.hfs_btree_removal.proofs.top.lower_root.Goals as goal

pub loop-header-init : goal.loop-header-init
loop-header-init g c = record {
  lowered = lowered-none g.K.Key (g.S.Nodes.nodes c.args.nodes.now) c.requires;
  kept = refl;
  header = c.read_header-header.ensures;
}

pub read-requires : goal.read-requires
read-requires g c =
    lower-within g.K.Key (g.S.Nodes.nodes c.args.nodes.now) (g.S.Nodes.nodes c.loop-header.nodes) c.loop-header.invariant.lowered c.loop-header.header c.loop-header.invariant.header (let deep = c.loop-header-test.true in omega arith)

pub returns-then-count_in-ne1-clause-lowered : goal.returns-then-count_in-ne1-clause-lowered
returns-then-count_in-ne1-clause-lowered g c = c.loop-header.invariant.lowered

pub returns-then-count_in-ne1-clause-root : goal.returns-then-count_in-ne1-clause-root
returns-then-count_in-ne1-clause-root g c = λ deep.
    lower-wide g.K.Key (g.S.Nodes.nodes c.args.nodes.now) (g.S.Nodes.nodes c.loop-header.nodes) c.loop-header.invariant.lowered c.loop-header.header c.loop-header.invariant.header (let deep = c.loop-header-test.true in omega arith)
    c.read.new.into c.read.ensures c.count_in.result c.count_in.ensures c.if-count_in-ne1.true

pub lower_once-requires-clause-sound : goal.lower_once-requires-clause-sound
lower_once-requires-clause-sound g c = c.loop-header.invariant.lowered.keeps.sound

pub lower_once-requires-clause-header : goal.lower_once-requires-clause-header
lower_once-requires-clause-header g c = c.loop-header.invariant.header

pub lower_once-requires-clause-deep : goal.lower_once-requires-clause-deep
lower_once-requires-clause-deep g c =
    lower-levels g.K.Key (g.S.Nodes.nodes c.args.nodes.now) (g.S.Nodes.nodes c.loop-header.nodes) c.loop-header.invariant.lowered c.loop-header.header c.loop-header.invariant.header (let deep = c.loop-header-test.true in omega arith)

pub lower_once-requires-clause-one : goal.lower_once-requires-clause-one
lower_once-requires-clause-one g c =
    sym (lower-count g.K.Key (g.S.Nodes.nodes c.args.nodes.now) (g.S.Nodes.nodes c.loop-header.nodes) c.loop-header.invariant.lowered c.loop-header.header c.loop-header.invariant.header (let deep = c.loop-header-test.true in omega arith)
    c.read.new.into c.read.ensures c.count_in.result c.count_in.ensures)
    ∙ c.if-count_in-ne1.false

pub loop-header-smaller : goal.loop-header-smaller
loop-header-smaller g c =
    let was : c.loop-header.header.depth ≡ depth_of (g.S.Nodes.nodes c.loop-header.nodes) = ap (λ (h : Header). h.depth) c.loop-header.invariant.header in
    let is : c.read_header-header-in-loop-header.result.depth ≡ depth_of (g.S.Nodes.nodes c.lower_once.new.nodes) = ap (λ (h : Header). h.depth) c.read_header-header-in-loop-header.ensures in
    let less = c.in_ok-lower_once.ensures.depth in
    omega arith

pub loop-header-preserved : goal.loop-header-preserved
loop-header-preserved g c = record {
  lowered = lowered-more g.K.Key (g.S.Nodes.nodes c.args.nodes.now) (g.S.Nodes.nodes c.loop-header.nodes) (g.S.Nodes.nodes c.lower_once.new.nodes) c.requires c.loop-header.invariant.lowered
      c.in_ok-lower_once.ensures.keeps c.in_ok-lower_once.ensures.gains c.in_ok-lower_once.ensures.content c.in_ok-lower_once.ensures.depth c.in_ok-lower_once.ensures.free;
  kept = c.in_ok-lower_once.ensures.kept ∙ c.loop-header.invariant.kept;
  header = c.read_header-header-in-loop-header.ensures;
}

pub returns-clause-lowered : goal.returns-clause-lowered
returns-clause-lowered g c = c.loop-header.invariant.lowered

pub returns-clause-root : goal.returns-clause-root
returns-clause-root g c =
    let few = c.loop-header-test.false in
    lower-shallow g.K.Key (g.S.Nodes.nodes c.loop-header.nodes) c.loop-header.header c.loop-header.invariant.header (omega arith)
