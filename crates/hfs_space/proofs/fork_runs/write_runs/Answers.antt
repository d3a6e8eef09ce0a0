-- Some more bytes are written.
use Rattle.std.proofs.Common.{◌-◌, length, arith}
use Rattle.std.specs.List.{flat_map}
use Rattle.hfs_blocks.specs.Blocks.{run_of}
use Rattle.hfs_blocks.specs.Layers.{changes, over}
use Rattle.hfs_space.proofs.PartSteps.{KeepsBeside-more, whole-next}
use Rattle.hfs_space.proofs.BlockSteps.{HasPart-on}
use Rattle.hfs_space.proofs.fork_runs.write_runs.Goals as goal

pub returns-in_err-done-clause-within : goal.returns-in_err-done-clause-within
returns-in_err-done-clause-within g c = λ was. c.in_err-done.ensures.within (c.loop-done.invariant.within was)

pub loop-done-preserved : goal.loop-done-preserved
loop-done-preserved g c =
    let below = g.B.Blocks.blocks c.args.below.now in
    let ns = flat_map run_of c.args.runs.now in
    let old = over (changes c.args.patch.now) below in
    let mid = over (changes c.loop-done.patch) below in
    let new = over (changes c.write_some.new.patch) below in
    let done = c.loop-done.done in
    let end = c.in_ok-done.done in
    let further = c.in_ok-done.ensures.some in
    let most = c.in_ok-done.ensures.few in
    record {
      few = most;
      begins = λ none. absurd (omega (arith, none, further));
      part = HasPart-on ns c.args.offset c.args.bytes.now done end old mid new (omega (arith, further)) most c.requires.fits c.loop-done.invariant.part c.in_ok-done.ensures.part;
      beside = KeepsBeside-more ns c.args.offset done (length c.args.bytes.now - done) (length c.args.bytes.now) old mid new (omega (arith, c.loop-done.invariant.few)) c.loop-done.invariant.beside
          c.in_ok-done.ensures.beside;
      whole = λ some. whole-next c.args.patch.now c.loop-done.patch c.write_some.new.patch done c.loop-done.invariant.begins c.loop-done.invariant.whole c.in_ok-done.ensures.whole;
      within = λ was. c.in_ok-done.ensures.within (c.loop-done.invariant.within was);
    }
