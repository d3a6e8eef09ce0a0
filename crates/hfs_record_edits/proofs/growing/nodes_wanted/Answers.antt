-- The header says how many nodes are free, and how many levels and records there are.
use Rattle.std.proofs.Common.{arith}
use Rattle.hfs_record_edits.proofs.ExtentsRoomLemmas.{need-is, free-is, depth-is}
use Rattle.hfs_record_edits.proofs.growing.nodes_wanted.Goals as goal

pub returns-then-free-need : goal.returns-then-free-need
returns-then-free-need g c =
    let nodes = g.N.Nodes.nodes c.args.nodes.now in
    let h = c.read_header-header.result in
    let is = c.read_header-header.ensures in
    let need = need-is nodes c.requires h is c.args.coming in
    let free = free-is nodes c.requires h is in
    record {
      free = free;
      depth = depth-is nodes c.requires h is;
      few = omega (arith, need, free, c.extents_need-need.ensures, c.from-free.ensures, c.if-free-need.true);
    }

pub returns : goal.returns
returns g c =
    let nodes = g.N.Nodes.nodes c.args.nodes.now in
    let h = c.read_header-header.result in
    let is = c.read_header-header.ensures in
    let need = need-is nodes c.requires h is c.args.coming in
    let free = free-is nodes c.requires h is in
    omega (arith, need, free, c.extents_need-need.ensures, c.from-free.ensures, c.if-free-need.false)
