-- Node by node.
use Rattle.std.proofs.Common.{◌≡◌, ◌+◌, ◌-◌, ap, ◌∙◌, arith}
use Rattle.hfs_image.specs.TreeReads.{block_for}
use Rattle.hfs_image.proofs.Gathered.{beside-first, beside-more}
use Rattle.hfs_image.proofs.tree_nodes.marked_beside.Goals as goal

pub loop-m-init : goal.loop-m-init
loop-m-init c = record {
  first = c.from-first.ensures ∙ c.block_of.ensures.number;
  some = omega arith;
  beside = beside-first c.args.tree.now.runs.now c.args.n;
  inside = λ total h. omega (arith, c.block_of.ensures.inside total h, c.block_of.ensures.number);
}

pub loop-m-preserved : goal.loop-m-preserved
loop-m-preserved c =
    let runs = c.args.tree.now.runs.now in
    let n = c.args.n in
    let m = c.loop-m.m in
    let own : c.block_of-else-not-bit_at.result ≡ block_for runs n + (m - n) =
    omega (arith, c.if-from-place.false, c.from-else-not-bit_at.ensures, c.from.ensures, c.loop-m.invariant.first) in
    let place : m ≡ n + (m - n) = omega (arith, c.loop-m.invariant.some) in
    let here : block_for runs (n + (m - n)) ≡ block_for runs n + (m - n) =
    ap (block_for runs) (let back : n + (m - n) ≡ m = omega (arith, c.loop-m.invariant.some) in back)
    ∙ (let number : block_for runs m ≡ block_for runs n + (m - n) = omega (arith, own, c.block_of-else-not-bit_at.ensures.number) in number) in
    record {
      first = c.loop-m.invariant.first;
      some = omega (arith, c.loop-m.invariant.some);
      beside = λ k lt. beside-more runs n (m - n) c.loop-m.invariant.beside here k (omega (arith, lt, c.loop-m.invariant.some));
      inside = λ total h. omega (arith, c.block_of-else-not-bit_at.ensures.inside total h, own, c.loop-m.invariant.some);
    }

pub returns-clause-inside : goal.returns-clause-inside
returns-clause-inside c = λ total h. omega (arith, c.loop-m.invariant.inside total h, c.loop-m-test.false)
