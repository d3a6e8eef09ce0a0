use Rattle.std.proofs.Common.{rules, ◌≡◌, ◌∙◌, sym, ap, ℕ, None}
use Rattle.hfs_check.specs.Answers.{IsFaultOf}
use Rattle.hfs_check.specs.Faults.{mdb_fault, blocks_fault}
use Rattle.hfs_check.proofs.Opened.{mdb_wrong, trees_wrong, behind_wrong, all_right}
use Rattle.hfs_check.proofs.LawsProved.{no_blocks_fault}
use Rattle.hfs_check.proofs.checking.checked_blocks.Goals as goal

pub returns-in-Some-clause-wrong : goal.returns-in-Some-clause-wrong
returns-in-Some-clause-wrong g c =
    let total = g.B.Blocks.total c.args.blocks.now in
    let blocks = g.B.Blocks.blocks c.args.blocks.now in
    let mdb = c.read_mdb-mdb.result in
    let same = c.mdb_fault.ensures ∙ ap (λ (n : ℕ). mdb_fault n mdb) c.count.ensures in
    mdb_wrong total blocks mdb c.in-Some.fault c.read_mdb-mdb.ensures (sym same ∙ c.in-Some.is)

pub returns-in_err-trees-clause-wrong : goal.returns-in_err-trees-clause-wrong
returns-in_err-trees-clause-wrong g c =
    let total = g.B.Blocks.total c.args.blocks.now in
    let blocks = g.B.Blocks.blocks c.args.blocks.now in
    let mdb = c.read_mdb-mdb.result in
    let same = c.mdb_fault.ensures ∙ ap (λ (n : ℕ). mdb_fault n mdb) c.count.ensures in
    let none : mdb_fault total mdb ≡ None = sym same ∙ c.in_default.is in
    let h : IsFaultOf (blocks_fault total blocks) c.in_err-trees.field-0.0 =
    trees_wrong total blocks mdb c.in_err-trees.field-0.0 c.read_mdb-mdb.ensures none c.in_err-trees.ensures.wrong in
    search rules

pub returns-in_err-owned-clause-wrong : goal.returns-in_err-owned-clause-wrong
returns-in_err-owned-clause-wrong g c =
    let total = g.B.Blocks.total c.args.blocks.now in
    let blocks = g.B.Blocks.blocks c.args.blocks.now in
    let mdb = c.read_mdb-mdb.result in
    let same = c.mdb_fault.ensures ∙ ap (λ (n : ℕ). mdb_fault n mdb) c.count.ensures in
    let none : mdb_fault total mdb ≡ None = sym same ∙ c.in_default.is in
    let h : IsFaultOf (blocks_fault total blocks) c.in_err-owned.field-0.0 =
    behind_wrong total blocks mdb c.in_err-owned.field-0.0 c.read_mdb-mdb.ensures none c.in_ok-trees.ensures.right c.in_err-owned.ensures.fault in
    search rules

pub returns-clause-sound : goal.returns-clause-sound
returns-clause-sound g c =
    let total = g.B.Blocks.total c.args.blocks.now in
    let blocks = g.B.Blocks.blocks c.args.blocks.now in
    let mdb = c.read_mdb-mdb.result in
    let same = c.mdb_fault.ensures ∙ ap (λ (n : ℕ). mdb_fault n mdb) c.count.ensures in
    let none : mdb_fault total mdb ≡ None = sym same ∙ c.in_default.is in
    (no_blocks_fault total blocks).0 (all_right total blocks mdb c.read_mdb-mdb.ensures none c.in_ok-trees.ensures.right c.in_ok-owned.ensures.fault)
