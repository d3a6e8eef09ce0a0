use Rattle.std.proofs.Common.{◌+◌}
use Rattle.hfs_btree_edits.proofs.StoreLemmas.{on-ok}
use Rattle.hfs_btree_insertion.proofs.Taken.{stray-there}
use Rattle.hfs_btree_insertion.proofs.CutWhole.{parent-index, branch-read, over-read, room-read, cut-read}
use Rattle.hfs_btree_insertion.proofs.level_cut.cut_level.Goals as goal

pub place_in_index-place-requires : goal.place_in_index-place-requires
place_in_index-place-requires g c =
    parent-index g.K.Key c.args.key.now c.args.above c.in_ok-m.m (g.S.Nodes.nodes c.args.nodes.now) (g.S.Nodes.nodes c.claim_node.new.nodes) c.requires.sound c.in_ok-m.ensures.claimed c.requires.deep
    c.node_at-parent.result 0 c.node_at-parent.new.bytes c.node_at-parent.ensures.node c.node_at-parent.ensures.bytes

pub cut_child-requires-clause-branch : goal.cut_child-requires-clause-branch
cut_child-requires-clause-branch g c =
    branch-read g.K.Key c.args.key.now c.args.above c.in_ok-m.m (g.S.Nodes.nodes c.args.nodes.now) (g.S.Nodes.nodes c.claim_node.new.nodes) c.requires.sound c.in_ok-m.ensures.claimed c.requires.deep
    c.node_at-parent.result c.place_in_index-place.result c.node_at-parent.new.bytes c.node_at-parent.ensures.node c.node_at-parent.ensures.bytes c.place_in_index-place.ensures

pub cut_child-requires-clause-within : goal.cut_child-requires-clause-within
cut_child-requires-clause-within g c =
    stray-there g.K.Key c.in_ok-m.m (g.S.Nodes.nodes c.args.nodes.now) (g.S.Nodes.nodes c.claim_node.new.nodes) (g.S.Nodes.nodes c.claim_node.new.nodes) c.in_ok-m.ensures.claimed c.requires.file

pub cut_child-requires-clause-over : goal.cut_child-requires-clause-over
cut_child-requires-clause-over g c =
    over-read g.K.Key c.args.key.now c.args.above c.in_ok-m.m (g.S.Nodes.nodes c.args.nodes.now) (g.S.Nodes.nodes c.claim_node.new.nodes) c.requires.sound c.in_ok-m.ensures.claimed c.requires.deep
    c.node_at-parent.result c.place_in_index-place.result c.node_at-parent.new.bytes c.node_at-parent.ensures.node c.node_at-parent.ensures.bytes c.place_in_index-place.ensures c.requires.over

pub cut_child-requires-clause-room : goal.cut_child-requires-clause-room
cut_child-requires-clause-room g c =
    room-read g.K.Key c.args.key.now c.args.above c.in_ok-m.m (g.S.Nodes.nodes c.args.nodes.now) (g.S.Nodes.nodes c.claim_node.new.nodes) c.requires.sound c.in_ok-m.ensures.claimed c.requires.deep
    c.node_at-parent.result c.place_in_index-place.result c.node_at-parent.new.bytes c.node_at-parent.ensures.node c.node_at-parent.ensures.bytes c.place_in_index-place.ensures (g.K.Key.INDEX_KEY_LEN + 5)
    c.requires.room

pub returns-clause-cut : goal.returns-clause-cut
returns-clause-cut g c =
    on-ok _ _ c.cut_child.result
    (λ cut. cut-read g.K.Key c.args.key.now c.args.above c.in_ok-m.m (g.S.Nodes.nodes c.args.nodes.now) (g.S.Nodes.nodes c.claim_node.new.nodes) c.requires.sound c.in_ok-m.ensures.claimed c.requires.deep
    c.node_at-parent.result c.place_in_index-place.result c.node_at-parent.new.bytes c.node_at-parent.ensures.node c.node_at-parent.ensures.bytes c.place_in_index-place.ensures c.args.len _ g.met.K.Key.total c.requires.low cut)
    c.cut_child.ensures.cut
