-- The runs have as many blocks as are free beside the row.
use Rattle.std.proofs.Common.{List, ap, ◌∙◌, arith}
use Rattle.hfs_fields.specs.declared.extent.Extent.{Extent}
use Rattle.hfs_space.specs.Bitmap.{is_used}
use Rattle.hfs_space.specs.Extents.{block_total}
use Rattle.hfs_space.specs.FreeRuns.{is_taken}
use Rattle.hfs_space.proofs.Chosen.{runs-total}
use Rattle.hfs_space.proofs.choosing.pieces_of_all.Goals as goal

pub returns-then-free-count : goal.returns-then-free-count
returns-then-free-count g c =
    let left = is_taken (is_used (g.B.Blocks.blocks c.args.bitmap.now.blocks.now) c.args.bitmap.now.start) c.args.row in (
      c.block_count-free.ensures ∙ ap (λ (l : List Extent). block_total l) c.deref.ensures.value ∙ runs-total left c.args.bitmap.now.count c.in_ok-runs.runs.items c.in_ok-runs.ensures.runs,
      c.if-free-count.true,
    )

pub returns : goal.returns
returns g c =
    let left = is_taken (is_used (g.B.Blocks.blocks c.args.bitmap.now.blocks.now) c.args.bitmap.now.start) c.args.row in
    let total =
    c.block_count-free.ensures ∙ ap (λ (l : List Extent). block_total l) c.deref.ensures.value ∙ runs-total left c.args.bitmap.now.count c.in_ok-runs.runs.items c.in_ok-runs.ensures.runs in
    let most = c.if-free-count.false in
    ((c.in_ok-runs.runs.items, c.in_ok-runs.ensures.runs, c.in_ok-pieces.ensures), omega (arith, total, most))
