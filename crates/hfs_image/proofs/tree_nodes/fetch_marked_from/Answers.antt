-- Those that lie side by side are read together.
use Rattle.std.proofs.Common.{◌+◌, ◌≤◌, ℕ, sym, subst}
use Rattle.std.specs.List.{range_with_len}
use Rattle.hfs_source.specs.Sparse.{HasEach}
use Rattle.hfs_image.proofs.Gathered.{reads-range, beside-read}
use Rattle.hfs_image.proofs.tree_nodes.fetch_marked_from.Goals as goal

pub fetch_range-requires : goal.fetch_range-requires
fetch_range-requires g c =
    subst (λ (m : ℕ). m + c.marked_beside-count.result ≤ 4294967296) (sym c.block_of.ensures.number) (c.marked_beside-count.ensures.inside 4294967296 c.requires.small)

pub returns-in_err-fetch_range-clause-reads : goal.returns-in_err-fetch_range-clause-reads
returns-in_err-fetch_range-clause-reads g c = λ total h.
    reads-range (g.S.BlockSource.image c.args.source.now) total c.args.read.now c.fetch_range.new.read c.block_of.result c.marked_beside-count.result
    (subst (λ (m : ℕ). m + c.marked_beside-count.result ≤ total) (sym c.block_of.ensures.number) (c.marked_beside-count.ensures.inside total h))
    c.in_err-fetch_range.ensures.grown c.in_err-fetch_range.ensures.stays c.in_err-fetch_range.ensures.within

pub returns-clause-has : goal.returns-clause-has
returns-clause-has g c =
    beside-read c.fetch_range.new.read c.args.tree.now.runs.now c.args.map.now c.args.n c.marked_beside-count.result c.marked_beside-count.ensures.beside
    (subst (λ (m : ℕ). HasEach c.fetch_range.new.read (range_with_len m c.marked_beside-count.result)) c.block_of.ensures.number c.in_ok-fetch_range.ensures.has)

pub returns-clause-reads : goal.returns-clause-reads
returns-clause-reads g c = λ total h.
    reads-range (g.S.BlockSource.image c.args.source.now) total c.args.read.now c.fetch_range.new.read c.block_of.result c.marked_beside-count.result
    (subst (λ (m : ℕ). m + c.marked_beside-count.result ≤ total) (sym c.block_of.ensures.number) (c.marked_beside-count.ensures.inside total h))
    c.in_ok-fetch_range.ensures.grown c.in_ok-fetch_range.ensures.stays c.in_ok-fetch_range.ensures.within
