-- One byte more.
use Rattle.std.proofs.Common.{[], ◌∷◌, List, take, get_or, sym, subst, ◌∙◌}
use Rattle.std.proofs.lemmas.List.{take_more}
use Rattle.hfs_image.proofs.Gathered.{reads-on}
use Rattle.hfs_repair.specs.declared.byte_put.BytePut.{BytePut}
use Rattle.hfs_copy.specs.Mended.{PutsBytes}
use Rattle.hfs_source.proofs.Seen.{sees_on}
use Rattle.hfs_copy.proofs.PutBlocks.{puts-more}
use Rattle.hfs_copy.proofs.laying.lay_puts.Goals as goal

-- what a list answers behind its end
abbrev none : BytePut
none = record { at = 0; byte = 0 }

pub returns-in_err-lay_put-clause-reads : goal.returns-in_err-lay_put-clause-reads
returns-in_err-lay_put-clause-reads g c =
    reads-on (g.S.BlockSource.image c.args.source.now) (g.S.BlockSource.image c.loop-put.source) c.args.count c.args.read.now c.loop-put.read c.lay_put.new.read
    c.loop-put.invariant.image c.loop-put.invariant.reads c.in_err-lay_put.ensures.reads

pub loop-put-preserved : goal.loop-put-preserved
loop-put-preserved g c = record {
  puts = subst (λ (ps : List BytePut). PutsBytes c.lay_put.new.read c.args.count ps [] c.lay_put.new.patch)
      (sym (take_more c.args.puts.now c.loop-put.put-index none c.loop-put-test.true))
      (puts-more c.loop-put.read c.lay_put.new.read c.args.count (take c.loop-put.put-index c.args.puts.now)
      (get_or c.args.puts.now c.loop-put.put-index none ∷ []) [] c.loop-put.patch c.lay_put.new.patch c.in_ok-lay_put.ensures.reads.grown
      (λ before. c.loop-put.invariant.within) c.loop-put.invariant.puts c.in_ok-lay_put.ensures.put);
  within = c.in_ok-lay_put.ensures.within c.loop-put.invariant.within;
  reads = reads-on (g.S.BlockSource.image c.args.source.now) (g.S.BlockSource.image c.loop-put.source) c.args.count c.args.read.now c.loop-put.read
      c.lay_put.new.read c.loop-put.invariant.image c.loop-put.invariant.reads c.in_ok-lay_put.ensures.reads;
  sees = sees_on c.loop-put.invariant.sees c.in_ok-lay_put.ensures.sees;
  image = c.in_ok-lay_put.ensures.image ∙ c.loop-put.invariant.image;
}

pub returns-in_err-lay_put-clause-sees : goal.returns-in_err-lay_put-clause-sees
returns-in_err-lay_put-clause-sees g c = sees_on c.loop-put.invariant.sees c.in_err-lay_put.ensures.sees
