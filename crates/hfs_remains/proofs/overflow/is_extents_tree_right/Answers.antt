use Rattle.std.proofs.Common.{◌≡◌, ℕ, Bool, Option, sym, ap, ◌∙◌, arith}
use Rattle.std.specs.Option.{is_none}
use Rattle.std.proofs.lemmas.List.FromFn.{length-map-range_with_len}
use Rattle.std.proofs.lemmas.Result.{IfOk-weaker}
use Rattle.hfs_check.specs.Answers.{Answers, extents_tree_fault}
use Rattle.hfs_check.specs.Faults.{check_fault}
use Rattle.hfs_check.specs.declared.mount_fault.MountFault.{MountFault}
use Rattle.hfs_remains.specs.TreeFiles.{first_nodes, node_at}
use Rattle.hfs_remains.specs.OverflowRecords.{is_extents_tree_right, extents_nodes}
use Rattle.hfs_check.proofs.CommonLemmas.{none-mapped}
use Rattle.hfs_remains.proofs.RightLemmas.{wrong-extents-file, right-extents-file}
use Rattle.hfs_remains.proofs.overflow.is_extents_tree_right.Goals as goal

pub returns-then-not-is_tree_file : goal.returns-then-not-is_tree_file
returns-then-not-is_tree_file g c =
    let mdb = c.args.nodes.now.mdb.now in
    sym (wrong-extents-file mdb (extents_nodes (g.B.Blocks.blocks c.args.nodes.now.blocks.now) mdb c.args.nodes.now.file.now) (sym c.is_tree_file.ensures ∙ c.if-not-is_tree_file.true))

pub check_extents_tree-requires : goal.check_extents_tree-requires
check_extents_tree-requires g c =
    let s = c.args.nodes.now in
    omega (arith, c.node_count.ensures, length-map-range_with_len (node_at (g.B.Blocks.blocks s.blocks.now) s.mdb.now s.file.now) 0 c.node_count.result)

pub returns : goal.returns
returns g c =
    let s = c.args.nodes.now in
    let blocks = g.B.Blocks.blocks s.blocks.now in
    let mdb = s.mdb.now in
    let size = mdb.extents_file_size in
    let fault = λ (n : ℕ). extents_tree_fault size (first_nodes blocks mdb s.file.now n) in
    let passed : Bool → Type 0 = λ right. (fault : Option MountFault) → Answers fault c.check_extents_tree.result → right ≡ is_none fault in
    let is : Bool → Type 0 = λ right. right ≡ is_extents_tree_right mdb (extents_nodes blocks mdb s.file.now) in
    IfOk-weaker c.has_passed.result passed is
    (λ right passed.
    passed (check_fault 3 (fault c.node_count.result)) c.check_extents_tree.ensures
    ∙ none-mapped 3 (fault c.node_count.result)
    ∙ ap (λ (n : ℕ). is_none (fault n)) c.node_count.ensures
    ∙ sym (right-extents-file mdb (extents_nodes blocks mdb s.file.now) (sym c.is_tree_file.ensures ∙ c.if-not-is_tree_file.false)))
    c.has_passed.ensures
