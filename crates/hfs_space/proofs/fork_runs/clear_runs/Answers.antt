-- One more part is cleared.
use Rattle.std.proofs.Common.{◌+◌, ◌≤◌, arith}
use Rattle.std.specs.List.{flat_map}
use Rattle.hfs_blocks.specs.Blocks.{run_of}
use Rattle.hfs_blocks.specs.Layers.{changes, over}
use Rattle.hfs_space.proofs.Puts.{runs-length}
use Rattle.hfs_space.proofs.PartSteps.{HasPart-zeros, KeepsBeside-more, zeros-fit, whole-next}
use Rattle.hfs_space.proofs.fork_runs.clear_runs.Goals as goal

pub overflow_add-at : goal.overflow_add-at
overflow_add-at g c = record { fits = omega (arith, runs-length c.args.runs.now, c.requires.runs.few, c.requires.fits, c.loop-done.invariant.few) }

pub returns-in_err-put_in_file-clause-within : goal.returns-in_err-put_in_file-clause-within
returns-in_err-put_in_file-clause-within g c = λ was. c.in_err-put_in_file.ensures.within (c.loop-done.invariant.within was)

pub loop-done-preserved : goal.loop-done-preserved
loop-done-preserved g c =
    let below = g.B.Blocks.blocks c.args.below.now in
    let ns = flat_map run_of c.args.runs.now in
    let old = over (changes c.args.patch.now) below in
    let mid = over (changes c.loop-done.patch) below in
    let new = over (changes c.put_in_file.new.patch) below in
    let done = c.loop-done.done in
    let more = c.in_one_block-more.result in
    let most : done + more ≤ c.args.count = omega (arith, c.in_one_block-more.ensures) in
    let one : more ≤ 512 = omega (arith, c.in_one_block-more.ensures) in
    record {
      few = most;
      begins = λ none. absurd (omega (arith, none, c.in_one_block-more.ensures, c.loop-done-test.true));
      part = HasPart-zeros ns c.args.offset c.args.count done more old mid new most one c.requires.fits c.loop-done.invariant.part c.in_ok-put_in_file.ensures.part;
      beside = KeepsBeside-more ns c.args.offset done _ c.args.count old mid new (zeros-fit done more c.args.count most one) c.loop-done.invariant.beside c.in_ok-put_in_file.ensures.beside;
      whole = λ some. whole-next c.args.patch.now c.loop-done.patch c.put_in_file.new.patch done c.loop-done.invariant.begins c.loop-done.invariant.whole c.in_ok-put_in_file.ensures.whole;
      within = λ was. c.in_ok-put_in_file.ensures.within (c.loop-done.invariant.within was);
    }
