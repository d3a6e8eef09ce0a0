use Rattle.std.proofs.Common.{◌+◌}
use Rattle.hfs_btree_edits.proofs.StoreLemmas.{on-ok}
use Rattle.hfs_btree_insertion.proofs.Taken.{stray-there}
use Rattle.hfs_btree_insertion.proofs.CutWhole.{parent-index, branch-read, room-read}
use Rattle.hfs_btree_insertion.proofs.BegunWhole.{few-mid, begun-whole}
use Rattle.hfs_btree_insertion.proofs.leaf_begin.begin_leaf.Goals as goal

pub place_in_index-place-requires : goal.place_in_index-place-requires
place_in_index-place-requires g c =
    parent-index g.K.Key c.args.key.now 0 c.in_ok-m.m (g.S.Nodes.nodes c.args.nodes.now) (g.S.Nodes.nodes c.claim_node.new.nodes) c.requires.sound c.in_ok-m.ensures.claimed c.requires.deep
    c.node_at-parent.result 0 c.node_at-parent.new.bytes c.node_at-parent.ensures.node c.node_at-parent.ensures.bytes

pub begin_child-requires-clause-branch : goal.begin_child-requires-clause-branch
begin_child-requires-clause-branch g c =
    branch-read g.K.Key c.args.key.now 0 c.in_ok-m.m (g.S.Nodes.nodes c.args.nodes.now) (g.S.Nodes.nodes c.claim_node.new.nodes) c.requires.sound c.in_ok-m.ensures.claimed c.requires.deep
    c.node_at-parent.result c.place_in_index-place.result c.node_at-parent.new.bytes c.node_at-parent.ensures.node c.node_at-parent.ensures.bytes c.place_in_index-place.ensures

pub begin_child-requires-clause-within : goal.begin_child-requires-clause-within
begin_child-requires-clause-within g c =
    stray-there g.K.Key c.in_ok-m.m (g.S.Nodes.nodes c.args.nodes.now) (g.S.Nodes.nodes c.claim_node.new.nodes) (g.S.Nodes.nodes c.claim_node.new.nodes) c.in_ok-m.ensures.claimed c.requires.file

pub begin_child-requires-clause-room : goal.begin_child-requires-clause-room
begin_child-requires-clause-room g c =
    room-read g.K.Key c.args.key.now 0 c.in_ok-m.m (g.S.Nodes.nodes c.args.nodes.now) (g.S.Nodes.nodes c.claim_node.new.nodes) c.requires.sound c.in_ok-m.ensures.claimed c.requires.deep
    c.node_at-parent.result c.place_in_index-place.result c.node_at-parent.new.bytes c.node_at-parent.ensures.node c.node_at-parent.ensures.bytes c.place_in_index-place.ensures (g.K.Key.INDEX_KEY_LEN + 5) c.requires.room

pub begin_child-requires-clause-few : goal.begin_child-requires-clause-few
begin_child-requires-clause-few g c =
    few-mid g.K.Key g.met.K.Key.total c.args.key.now c.args.entry.items c.in_ok-m.m (g.S.Nodes.nodes c.args.nodes.now) (g.S.Nodes.nodes c.claim_node.new.nodes) c.requires.sound c.in_ok-m.ensures.claimed c.requires.deep
    c.requires.low c.requires.few

pub returns-clause-begun : goal.returns-clause-begun
returns-clause-begun g c =
    on-ok _ _ c.begin_child.result
    (λ h. begun-whole g.K.Key g.met.K.Key.total c.args.key.now c.args.entry.items c.in_ok-m.m (g.S.Nodes.nodes c.args.nodes.now) (g.S.Nodes.nodes c.claim_node.new.nodes) c.requires.sound c.in_ok-m.ensures.claimed
    c.requires.deep c.requires.low c.node_at-parent.result c.place_in_index-place.result c.node_at-parent.new.bytes c.node_at-parent.ensures.node c.node_at-parent.ensures.bytes c.place_in_index-place.ensures _
    c.requires.keyed c.requires.behind c.requires.absent h)
    c.begin_child.ensures.begun
