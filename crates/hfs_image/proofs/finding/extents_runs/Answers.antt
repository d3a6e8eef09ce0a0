use Rattle.std.proofs.Common.{◌≡◌, ℕ, Bool, true, false, List, subst}
use Rattle.std.specs.Prelude.{IfOk, MatchOption}
use Rattle.hfs_image.specs.Gathered.{LieAt}
use Rattle.hfs_image.proofs.Found.{file-is, blocks-are}
use Rattle.hfs_image.proofs.finding.extents_runs.Goals as goal

pub returns : goal.returns
returns g c =
    let blocks = g.B.Blocks.blocks c.args.blocks.now in
    let mdb = c.args.mdb.now in
    subst (λ (q : Bool × List ℕ). IfOk c.file_runs.result (λ found. MatchOption found (q.0 ≡ false)
    (λ runs. (q.0 ≡ true) × LieAt (g.B.Blocks.total c.args.blocks.now) q.1 runs.items)))
    (λ i. (file-is blocks mdb c.requires.is i, blocks-are blocks mdb c.requires.is i)) c.file_runs.ensures
