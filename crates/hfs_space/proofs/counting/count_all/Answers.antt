-- One block more is one of zeros that isn't kept, or not.
use Rattle.std.proofs.Common.{ℕ, ◌+◌, ◌≤◌, length, sym, ap, ◌∙◌, arith}
use Rattle.hfs_blocks.specs.Layers.{Numbered, numbers}
use Rattle.hfs_space.specs.Changed.{blocks_below}
use Rattle.hfs_space.proofs.AllBlocks.{few_numbers, below-zero, below-within, flags-within, once-below, count_next, count_same}
use Rattle.hfs_space.proofs.counting.count_all.Goals.{then-is_zeros, else-is_zeros}
use Rattle.hfs_space.proofs.counting.count_all.Goals as goal

pub loop-n-init : goal.loop-n-init
loop-n-init c = c.len-count.ensures.len ∙ ap (λ (l : Numbered). length (numbers l)) (sym (below-zero c.args.kept.now c.args.flags.now))

pub is_zeros-requires-clause-small : goal.is_zeros-requires-clause-small
is_zeros-requires-clause-small c = flags-within c.args.kept.now c.args.flags.now 4294967296 c.loop-n.n c.requires

pub overflow_add-count : goal.overflow_add-count
overflow_add-count c =
    let kept = c.args.kept.now in
    let flags = c.args.flags.now in
    let few : length (numbers (blocks_below kept flags c.loop-n.n)) ≤ 4294967296 =
    few_numbers (blocks_below kept flags c.loop-n.n) 4294967296 (once-below kept flags c.len-count.ensures.different c.loop-n.n) (below-within kept flags 4294967296 c.loop-n.n c.requires) in
    let so_far = c.loop-n.invariant in
    omega (arith, few, so_far)

pub loop-n-preserved : goal.loop-n-preserved
loop-n-preserved c =
    let kept = c.args.kept.now in
    let flags = c.args.flags.now in
    elim c.if-is_zeros.branch [
      | then-is_zeros w ↦ w.count-is ∙ ap (λ (k : ℕ). k + 1) c.loop-n.invariant ∙ sym (count_next kept flags c.loop-n.n (sym c.is_zeros.ensures ∙ w.if-is_zeros.true))
      | else-is_zeros w ↦ w.count-is ∙ c.loop-n.invariant ∙ sym (count_same kept flags c.loop-n.n (sym c.is_zeros.ensures ∙ w.if-is_zeros.false))
    ]

pub returns-clause-different : goal.returns-clause-different
returns-clause-different c = once-below c.args.kept.now c.args.flags.now c.len-count.ensures.different (length c.args.flags.now)
