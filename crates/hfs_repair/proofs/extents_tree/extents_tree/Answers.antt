use Rattle.std.proofs.Common.{◌≡◌, ap, sym, subst, ◌∙◌, false}
use Rattle.std.specs.Prelude.{MatchOption}
use Rattle.hfs_blocks.specs.Blocks.{nodes_in}
use Rattle.hfs_space.specs.TreeKeys.{ext_keys}
use Rattle.hfs_repair.specs.Opened.{is_tree_right, IsTreeIn, are_extents_in_order}
use Rattle.hfs_repair.proofs.Openings.{extents-wrong, order-wrong, extents-right, tree-right}
use Rattle.hfs_repair.proofs.extents_tree.extents_tree.Goals as goal

pub returns-in_default : goal.returns-in_default
returns-in_default g c =
    let blocks = g.B.Blocks.blocks c.args.blocks.now in
    let mdb = c.args.mdb.now in
    extents-wrong blocks mdb
    (subst (λ o. MatchOption o (is_tree_right ext_keys blocks mdb mdb.extents_file mdb.extents_file_size ≡ false) (IsTreeIn ext_keys (g.B.Blocks.total c.args.blocks.now) blocks mdb mdb.extents_file mdb.extents_file_size)) c.in_default.is c.in_ok-tree.ensures)

pub returns-then-branch : goal.returns-then-branch
returns-then-branch g c =
    let blocks = g.B.Blocks.blocks c.args.blocks.now in
    let mdb = c.args.mdb.now in
    let total = g.B.Blocks.total c.args.blocks.now in
    let tree = subst (λ o. MatchOption o (is_tree_right ext_keys blocks mdb mdb.extents_file mdb.extents_file_size ≡ false) (IsTreeIn ext_keys total blocks mdb mdb.extents_file mdb.extents_file_size)) c.in-Some.is c.in_ok-tree.ensures in
    let same = ap (nodes_in blocks) c.deref.ensures.value ∙ tree.runs.same in
    (extents-right blocks mdb (tree-right ext_keys total blocks mdb mdb.extents_file mdb.extents_file_size _ tree) (sym (ap are_extents_in_order same) ∙ sym c.in_ok-are_in_order.ensures ∙ c.if-branch.true), tree)

pub returns-else-branch : goal.returns-else-branch
returns-else-branch g c =
    let blocks = g.B.Blocks.blocks c.args.blocks.now in
    let mdb = c.args.mdb.now in
    let total = g.B.Blocks.total c.args.blocks.now in
    let tree = subst (λ o. MatchOption o (is_tree_right ext_keys blocks mdb mdb.extents_file mdb.extents_file_size ≡ false) (IsTreeIn ext_keys total blocks mdb mdb.extents_file mdb.extents_file_size)) c.in-Some.is c.in_ok-tree.ensures in
    let same = ap (nodes_in blocks) c.deref.ensures.value ∙ tree.runs.same in
    order-wrong blocks mdb (sym (ap are_extents_in_order same) ∙ sym c.in_ok-are_in_order.ensures ∙ c.if-branch.false)
