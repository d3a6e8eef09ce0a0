-- All blocks are passed.
use Rattle.std.proofs.Common.{◌≡◌, ◌*◌, List, min, refl, sym, subst, arith}
use Rattle.hfs_fields.specs.declared.extent.Extent.{Extent}
use Rattle.hfs_space.specs.Bitmap.{is_used}
use Rattle.hfs_space.specs.FreeRuns.{AreFreeRuns, is_taken}
use Rattle.hfs_space.proofs.Running.{running-all}
use Rattle.hfs_space.proofs.Chosen.{runs-few}
use Rattle.hfs_space.proofs.free_run_lists.free_runs_beside.Goals as goal

pub returns-clause-runs : goal.returns-clause-runs
returns-clause-runs g c =
    let used = is_taken (is_used (g.B.Blocks.blocks c.args.bitmap.now.blocks.now) c.args.bitmap.now.start) c.args.taken in
    let n = c.args.bitmap.now.count in
    let last : min n (c.loop-byte.byte * 8) ≡ n = omega (arith, c.div_ceil-byte-end.ensures, c.loop-byte-test.false) in
    subst (λ (l : List Extent). AreFreeRuns used n l) (sym c.in_ok-push_run.ensures)
    (running-all used n (min n (c.loop-byte.byte * 8)) c.loop-byte.free c.loop-byte.runs.items c.loop-byte.invariant.running n last refl)

pub returns-clause-few : goal.returns-clause-few
returns-clause-few g c =
    runs-few (is_taken (is_used (g.B.Blocks.blocks c.args.bitmap.now.blocks.now) c.args.bitmap.now.start) c.args.taken) c.args.bitmap.now.count _ (omega arith)
    (returns-clause-runs g c)
