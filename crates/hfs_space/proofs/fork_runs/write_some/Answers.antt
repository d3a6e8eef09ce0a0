-- The blocks that lie in one run with the first are written at once.
use Rattle.std.proofs.Common.{◌≡◌, ◌+◌, ◌-◌, ◌*◌, ◌/◌, ◌%◌, length, arith, rules}
use Rattle.std.specs.List.{flat_map}
use Rattle.hfs_blocks.specs.Blocks.{run_of}
use Rattle.hfs_blocks.specs.Layers.{changes, over}
use Rattle.hfs_space.proofs.Puts.{place-small, runs-length}
use Rattle.hfs_space.proofs.BlockSteps.{HasPart-blocks, KeepsBeside-blocks, some-long}
use Rattle.hfs_space.proofs.fork_runs.write_some.Goals as goal

pub overflow_add-at : goal.overflow_add-at
overflow_add-at g c = record { fits = omega (arith, runs-length c.args.runs.now, c.requires.runs.few, c.requires.fits, c.requires.some) }

pub overflow_cast-at : goal.overflow_cast-at
overflow_cast-at g c = record {
  fits = place-small c.args.runs.now (g.B.Blocks.total c.args.below.now) ((c.args.offset + c.args.done) / 512) c.requires.runs (omega (arith, c.requires.fits, c.requires.some));
}

pub put_blocks-requires-clause-within : goal.put_blocks-requires-clause-within
put_blocks-requires-clause-within g c =
    let long = some-long c.args.bytes.now c.args.done (512 * c.min.result) (omega (arith, c.requires.some, c.min.ensures)) in
    let inside = c.rest_of_run-rest.ensures.inside (g.B.Blocks.total c.args.below.now) c.requires.runs in
    omega (arith, long, inside, c.min.ensures)

pub returns-then-left-ge512-clause-part : goal.returns-then-left-ge512-clause-part
returns-then-left-ge512-clause-part g c =
    let below = g.B.Blocks.blocks c.args.below.now in
    let at = c.args.offset + c.args.done in
    let begins : (c.args.offset + c.args.done) % 512 ≡ 0 = search rules in
    HasPart-blocks (flat_map run_of c.args.runs.now) at c.rest_of_run-rest.result.first c.min.result _ (over (changes c.args.patch.now) below) (over (changes c.put_blocks.new.patch) below)
    c.requires.different begins (some-long c.args.bytes.now c.args.done (512 * c.min.result) (omega (arith, c.requires.some, c.min.ensures)))
    (omega (arith, c.rest_of_run-rest.ensures.within, c.min.ensures)) (λ i lt. c.rest_of_run-rest.ensures.numbers i (omega (arith, lt, c.min.ensures))) c.in_ok-put_blocks.ensures.part

pub returns-then-left-ge512-clause-beside : goal.returns-then-left-ge512-clause-beside
returns-then-left-ge512-clause-beside g c =
    let below = g.B.Blocks.blocks c.args.below.now in
    let at = c.args.offset + c.args.done in
    let begins : (c.args.offset + c.args.done) % 512 ≡ 0 = search rules in
    let long = some-long c.args.bytes.now c.args.done (512 * c.min.result) (omega (arith, c.requires.some, c.min.ensures)) in
    KeepsBeside-blocks (flat_map run_of c.args.runs.now) at c.rest_of_run-rest.result.first c.min.result _ (over (changes c.args.patch.now) below) (over (changes c.put_blocks.new.patch) below)
    c.requires.different begins long (omega (arith, c.rest_of_run-rest.ensures.within, c.min.ensures)) (λ i lt. c.rest_of_run-rest.ensures.numbers i (omega (arith, lt, c.min.ensures)))
    c.in_ok-put_blocks.ensures.part (length c.args.bytes.now - c.args.done) (omega (arith, long, c.requires.some, c.min.ensures))
