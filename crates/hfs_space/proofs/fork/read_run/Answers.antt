-- A piece of one block is a piece of the run.
use Rattle.std.proofs.Common.{◌≡◌, ℕ, ◌-◌, ◌++◌, take, drop, ap, ◌∙◌, arith}
use Rattle.hfs_space.specs.Forks.{run_bytes}
use Rattle.hfs_space.proofs.PieceLemmas.{run-more, read-nothing}
use Rattle.hfs_space.proofs.fork.read_run.Goals as goal

pub loop-at-init : goal.loop-at-init
loop-at-init g c = record {
  after = omega arith;
  before = omega arith;
  read = read-nothing c.args.from c.args.bytes.now.items (drop c.args.from (run_bytes (g.B.Blocks.blocks c.args.blocks.now) c.args.run.first c.args.run.count));
}

pub loop-at-preserved : goal.loop-at-preserved
loop-at-preserved g c =
    let blocks = g.B.Blocks.blocks c.args.blocks.now in
    record {
      after = omega arith;
      before = omega (arith, c.min.ensures);
      read = run-more blocks (g.B.Blocks.total c.args.blocks.now) (λ n lt. g.met.B.Blocks.whole c.args.blocks.now n lt)
          c.args.run.first c.args.run.count c.args.from c.loop-at.at c.args.end c.min.result c.args.bytes.now.items c.loop-at.bytes.items c.extend_from_slice.new.self.items c.block.new.into
          c.requires.within c.loop-at.invariant.after c.loop-at-test.true c.requires.fits c.min.ensures c.loop-at.invariant.read c.block.ensures c.in_ok-extend_from_slice.ensures.items;
    }

pub returns : goal.returns
returns g c =
    let end : c.loop-at.at ≡ c.args.end = omega arith in
    c.loop-at.invariant.read ∙ ap (λ (x : ℕ). c.args.bytes.now.items ++ take (x - c.args.from) (drop c.args.from (run_bytes (g.B.Blocks.blocks c.args.blocks.now) c.args.run.first c.args.run.count))) end
