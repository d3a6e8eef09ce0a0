-- Run by run.
use Rattle.std.proofs.Common.{◌∙◌, ◌≤◌, ◌+◌, ◌<◌, IsSome, arith, rules}
use Rattle.hfs_fields.proofs.ElementLemmas.{each-at}
use Rattle.hfs_blocks.specs.declared.run.Run.{Run}
use Rattle.hfs_blocks.specs.Layers.{changes}
use Rattle.hfs_source.proofs.SparseLemmas.{grown-on}
use Rattle.hfs_source.proofs.Fetched.{stays-later}
use Rattle.hfs_source.proofs.Seen.{sees_on}
use Rattle.hfs_runs.proofs.MoreRead.{each-run, one-run-more}
use Rattle.hfs_runs.proofs.forks.fetch_forks.Goals as goal

-- what a list answers behind its end
abbrev none : Run
none = record { first = 0; count = 0; before = 0 }

pub fetch_range-requires : goal.fetch_range-requires
fetch_range-requires g c =
    let few : c.args.count < 4294967296 = search rules in
    omega (arith, few, each-at (λ (run : Run). run.first + run.count ≤ c.args.count) c.args.runs.now c.loop-run.run-index none c.requires c.loop-run-test.true)

pub returns-in_err-fetch_range-clause-stays : goal.returns-in_err-fetch_range-clause-stays
returns-in_err-fetch_range-clause-stays g c =
    stays-later (g.S.BlockSource.image c.args.source.now) (g.S.BlockSource.image c.loop-run.source) c.args.read.now c.loop-run.read c.fetch_range.new.read
    c.loop-run.invariant.image c.loop-run.invariant.stays c.in_err-fetch_range.ensures.stays

pub returns-in_err-fetch_range-clause-within : goal.returns-in_err-fetch_range-clause-within
returns-in_err-fetch_range-clause-within g c = λ within.
    c.in_err-fetch_range.ensures.within c.args.count
    (each-at (λ (run : Run). run.first + run.count ≤ c.args.count) c.args.runs.now c.loop-run.run-index none c.requires c.loop-run-test.true)
    (c.loop-run.invariant.within within)

pub returns-in_err-fetch_range-clause-sees : goal.returns-in_err-fetch_range-clause-sees
returns-in_err-fetch_range-clause-sees g c = sees_on c.loop-run.invariant.sees c.in_err-fetch_range.ensures.sees

pub loop-run-preserved : goal.loop-run-preserved
loop-run-preserved g c = record {
  has = one-run-more c.loop-run.read c.fetch_range.new.read c.in_ok-fetch_range.ensures.grown c.args.runs.now c.loop-run.run-index none c.loop-run-test.true
      c.in_ok-fetch_range.ensures.has c.loop-run.invariant.has;
  grown = grown-on c.args.read.now c.loop-run.read c.fetch_range.new.read c.loop-run.invariant.grown c.in_ok-fetch_range.ensures.grown;
  stays = stays-later (g.S.BlockSource.image c.args.source.now) (g.S.BlockSource.image c.loop-run.source) c.args.read.now c.loop-run.read c.fetch_range.new.read
      c.loop-run.invariant.image c.loop-run.invariant.stays c.in_ok-fetch_range.ensures.stays;
  within = λ within.
      c.in_ok-fetch_range.ensures.within c.args.count
      (each-at (λ (run : Run). run.first + run.count ≤ c.args.count) c.args.runs.now c.loop-run.run-index none c.requires c.loop-run-test.true)
      (c.loop-run.invariant.within within);
  image = c.in_ok-fetch_range.ensures.image ∙ c.loop-run.invariant.image;
  sees = sees_on c.loop-run.invariant.sees c.in_ok-fetch_range.ensures.sees;
}

pub returns-clause-has : goal.returns-clause-has
returns-clause-has g c =
    each-run (λ n. IsSome (changes c.loop-run.read n)) c.args.runs.now
    (λ i none_at lt. c.loop-run.invariant.has i none_at (omega (arith, lt, c.loop-run-test.false)))
