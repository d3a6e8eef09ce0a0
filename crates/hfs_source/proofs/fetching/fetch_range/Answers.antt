-- Some more at a time.
use Rattle.std.proofs.Common.{◌-◌, ◌∙◌, IsSome, arith}
use Rattle.hfs_blocks.specs.Layers.{changes}
use Rattle.hfs_source.proofs.SparseLemmas.{grown-on}
use Rattle.hfs_source.proofs.Fetched.{some-more, each-range, stays-later}
use Rattle.hfs_source.proofs.Seen.{sees_on}
use Rattle.hfs_source.proofs.fetching.fetch_range.Goals as goal

pub returns-in_err-left-clause-stays : goal.returns-in_err-left-clause-stays
returns-in_err-left-clause-stays g c =
    stays-later (g.S.BlockSource.image c.args.source.now) (g.S.BlockSource.image c.loop-left.source) c.args.read.now c.loop-left.read c.fetch_some.new.read
    c.loop-left.invariant.image c.loop-left.invariant.stays c.in_err-left.ensures.stays

pub returns-in_err-left-clause-within : goal.returns-in_err-left-clause-within
returns-in_err-left-clause-within g c = λ total le within.
    c.in_err-left.ensures.within total (omega (arith, le, c.loop-left.invariant.few)) (c.loop-left.invariant.within total le within)

pub loop-left-preserved : goal.loop-left-preserved
loop-left-preserved g c =
    let step = c.in_ok-left.field-0 in
    record {
      few = omega (arith, c.loop-left.invariant.few);
      has = λ k lt.
          some-more c.loop-left.read c.fetch_some.new.read c.in_ok-left.ensures.grown c.args.first (c.args.count - c.loop-left.left) step c.loop-left.invariant.has
          c.in_ok-left.ensures.has.2 k (omega (arith, lt, c.loop-left.invariant.few, c.in_ok-left.ensures.has.1));
      grown = grown-on c.args.read.now c.loop-left.read c.fetch_some.new.read c.loop-left.invariant.grown c.in_ok-left.ensures.grown;
      stays = stays-later (g.S.BlockSource.image c.args.source.now) (g.S.BlockSource.image c.loop-left.source) c.args.read.now c.loop-left.read
          c.fetch_some.new.read c.loop-left.invariant.image c.loop-left.invariant.stays c.in_ok-left.ensures.stays;
      within = λ total le within.
          c.in_ok-left.ensures.within total (omega (arith, le, c.loop-left.invariant.few)) (c.loop-left.invariant.within total le within);
      image = c.in_ok-left.ensures.image ∙ c.loop-left.invariant.image;
      sees = sees_on c.loop-left.invariant.sees c.in_ok-left.ensures.sees;
    }

pub returns-clause-has : goal.returns-clause-has
returns-clause-has g c =
    each-range (λ n. IsSome (changes c.loop-left.read n)) c.args.first c.args.count
    (λ k lt. c.loop-left.invariant.has k (omega (arith, lt, c.loop-left-test.false)))

pub returns-in_err-left-clause-sees : goal.returns-in_err-left-clause-sees
returns-in_err-left-clause-sees g c = sees_on c.loop-left.invariant.sees c.in_err-left.ensures.sees
