use Rattle.std.proofs.Common.{◌≡◌, ℕ, Bool, true, false, List, subst, ◌∙◌}
use Rattle.std.specs.Prelude.{IfOk, MatchOption}
use Rattle.hfs_image.specs.Gathered.{LieAt}
use Rattle.hfs_image.proofs.Found.{is-extents-tree, catalog-extents-are, catalog-file-is, catalog-blocks-are}
use Rattle.hfs_check.proofs.LawsProved.{no_extents_fault}
use Rattle.hfs_image.proofs.finding.right_catalog_runs.Goals as goal

pub fork_extents-requires : goal.fork_extents-requires
fork_extents-requires g c =
    is-extents-tree (g.B.Blocks.blocks c.args.blocks.now) c.args.mdb.now c.requires.is c.args.extents_tree.now c.requires.runs.numbers
    no_extents_fault c.requires.right

pub returns : goal.returns
returns g c =
    let blocks = g.B.Blocks.blocks c.args.blocks.now in
    let mdb = c.args.mdb.now in
    let same = c.deref.ensures.value ∙ c.in_ok-extents.ensures ∙ catalog-extents-are blocks mdb c.requires.is c.args.extents_tree.now c.requires.runs.numbers in
    subst (λ (q : Bool × List ℕ). IfOk c.file_runs.result (λ found. MatchOption found (q.0 ≡ false)
    (λ runs. (q.0 ≡ true) × LieAt (g.B.Blocks.total c.args.blocks.now) q.1 runs.items)))
    (λ i. (catalog-file-is blocks mdb c.requires.is _ same i, catalog-blocks-are blocks mdb c.requires.is _ same i)) c.file_runs.ensures
