use Rattle.std.proofs.Common.{◌<◌, ◌∙◌, arith}
use Rattle.hfs_image.proofs.Gathered.{reads-runs-on, marked-more}
use Rattle.hfs_image.proofs.TreeNodes.{marked-all}
use Rattle.hfs_source.proofs.Seen.{sees_on}
use Rattle.hfs_image.proofs.tree_nodes.fetch_marked.Goals as goal

pub returns-in_err-n-clause-reads : goal.returns-in_err-n-clause-reads
returns-in_err-n-clause-reads g c =
    reads-runs-on (g.S.BlockSource.image c.args.source.now) (g.S.BlockSource.image c.loop-n.source) c.args.tree.now.runs.now c.args.read.now c.loop-n.read
    c.fetch_marked_from.new.read c.loop-n.invariant.image c.loop-n.invariant.reads c.in_err-n.ensures.reads

pub loop-n-preserved : goal.loop-n-preserved
loop-n-preserved g c = record {
  few = c.in_ok-n.ensures.few.1;
  has = marked-more c.loop-n.read c.fetch_marked_from.new.read (c.in_ok-n.ensures.reads 4294967296 c.requires.small).grown c.args.tree.now.runs.now c.args.map.now c.loop-n.n
      c.in_ok-n.field-0 c.in_ok-n.ensures.has c.loop-n.invariant.has;
  reads = reads-runs-on (g.S.BlockSource.image c.args.source.now) (g.S.BlockSource.image c.loop-n.source) c.args.tree.now.runs.now c.args.read.now c.loop-n.read
      c.fetch_marked_from.new.read c.loop-n.invariant.image c.loop-n.invariant.reads c.in_ok-n.ensures.reads;
  image = c.in_ok-n.ensures.image ∙ c.loop-n.invariant.image;
  sees = sees_on c.loop-n.invariant.sees c.in_ok-n.ensures.sees;
}

pub returns-clause-has : goal.returns-clause-has
returns-clause-has g c =
    marked-all c.loop-n.read c.args.tree.now.runs.now c.args.map.now c.args.tree.now.nodes
    (λ k lt e. c.loop-n.invariant.has k (let below : k < c.loop-n.n = omega (arith, lt, c.loop-n-test.false) in below) e)

pub returns-in_err-n-clause-sees : goal.returns-in_err-n-clause-sees
returns-in_err-n-clause-sees g c = sees_on c.loop-n.invariant.sees c.in_err-n.ensures.sees
