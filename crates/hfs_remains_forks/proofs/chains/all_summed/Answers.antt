use Rattle.std.proofs.Common.{◌++◌, ◌∷◌, [], sym, ◌∙◌, arith}
use Rattle.std.proofs.lemmas.List.FromFn.{map-range_with_len_more}
use Rattle.hfs_remains_forks.specs.Chains.{summed}
use Rattle.hfs_remains_forks.proofs.chains.all_summed.Goals as goal

pub loop-i-preserved : goal.loop-i-preserved
loop-i-preserved c =
    c.in_ok-push.ensures.items
    ∙ (λ t. c.loop-i.invariant t ++ c.summed.ensures t ∷ [])
    ∙ sym (map-range_with_len_more (summed c.args.sums.now c.args.jumps.now) 0 c.loop-i.i c.loop-i.i (omega arith))
