use Rattle.std.proofs.Common.{◌++◌, ◌∷◌, [], sym, ◌∙◌, arith}
use Rattle.std.proofs.lemmas.List.FromFn.{map-range_with_len_more}
use Rattle.hfs_remains_places.specs.Chains.{twice}
use Rattle.hfs_remains_places.proofs.chains.doubled.Goals as goal

pub loop-i-preserved : goal.loop-i-preserved
loop-i-preserved c =
    c.in_ok-push.ensures.items
    ∙ (λ t. c.loop-i.invariant t ++ c.twice.ensures t ∷ [])
    ∙ sym (map-range_with_len_more (twice c.args.jumps.now) 0 c.loop-i.i c.loop-i.i (omega arith))
