-- Place by place.
use Rattle.std.proofs.Common.{◌∙◌, arith}
use Rattle.hfs_image.proofs.Gathered.{reads-on}
use Rattle.hfs_remains_forks.proofs.GatherLemmas.{file-read, places-more}
use Rattle.hfs_source.proofs.Seen.{sees_on}
use Rattle.hfs_remains_forks.proofs.gathering.fetch_file.Goals as goal

pub loop-i-preserved : goal.loop-i-preserved
loop-i-preserved g c = record {
  few = c.in_ok-i.ensures.few.1;
  has = places-more c.loop-i.read c.fetch_from.new.read c.in_ok-i.ensures.reads.grown c.args.mdb.now c.args.file.now c.loop-i.i c.in_ok-i.field-0
      c.in_ok-i.ensures.has c.loop-i.invariant.has;
  reads = reads-on (g.S.BlockSource.image c.args.source.now) (g.S.BlockSource.image c.loop-i.source) c.args.count c.args.read.now c.loop-i.read
      c.fetch_from.new.read c.loop-i.invariant.image c.loop-i.invariant.reads c.in_ok-i.ensures.reads;
  sees = sees_on c.loop-i.invariant.sees c.in_ok-i.ensures.sees;
  image = c.in_ok-i.ensures.image ∙ c.loop-i.invariant.image;
}

pub returns-clause-has : goal.returns-clause-has
returns-clause-has g c =
    file-read c.loop-i.read c.args.mdb.now c.args.file.now c.loop-i.i (omega (arith, c.loop-i-test.false)) c.loop-i.invariant.has

pub returns-in_err-i-clause-sees : goal.returns-in_err-i-clause-sees
returns-in_err-i-clause-sees g c = sees_on c.loop-i.invariant.sees c.in_err-i.ensures.sees
