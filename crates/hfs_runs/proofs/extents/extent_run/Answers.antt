-- The blocks of an extent are blocks of the volume.
use Rattle.std.proofs.Common.{◌≡◌, ◌+◌, ◌*◌, ◌<◌, arith}
use Rattle.std.specs.List.{range_with_len}
use Rattle.hfs_space.specs.Forks.{blocks_each, run_in}
use Rattle.hfs_space.proofs.ForkLengthLemmas.{extent-end}
use Rattle.hfs_runs.proofs.extents.extent_run.Goals as goal

pub returns-clause-blocks : goal.returns-clause-blocks
returns-clause-blocks c =
    let run = run_in c.args.mdb.now c.args.extent in
    let first : c.from.result + c.from-2.result * blocks_each c.args.mdb.now ≡ run.first = (λ t. c.from.ensures t + c.from-2.ensures t * blocks_each c.args.mdb.now) in
    let count : c.from-3.result * blocks_each c.args.mdb.now ≡ run.count = (λ t. c.from-3.ensures t * blocks_each c.args.mdb.now) in
    λ t. range_with_len (first t) (count t)

pub returns-clause-inside : goal.returns-clause-inside
returns-clause-inside c = λ total area.
    let some : 0 < c.args.extent.count = omega (arith, c.if-extent-eq0.false) in
    let end = extent-end c.args.mdb.now total c.args.extent area c.requires.within some in
    let first : c.from.result + c.from-2.result * blocks_each c.args.mdb.now ≡ c.args.mdb.now.allocation_start + c.args.extent.first * blocks_each c.args.mdb.now = (λ t. c.from.ensures t + c.from-2.ensures t * blocks_each c.args.mdb.now) in
    let count : c.from-3.result * blocks_each c.args.mdb.now ≡ c.args.extent.count * blocks_each c.args.mdb.now = (λ t. c.from-3.ensures t * blocks_each c.args.mdb.now) in
    omega (arith, end, first, count)
