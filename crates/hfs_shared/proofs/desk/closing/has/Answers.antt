use Rattle.std.proofs.Common.{◌≡◌, ℕ, List, get_or, ap, ◌∙◌}
use borrow.Author.Count.{below_more}
use Rattle.hfs_shared.specs.Desks.{PassState, pass_state}
use Rattle.hfs_shared.proofs.desk.closing.has.Goals as goal

pub loop-pass-preserved : goal.loop-pass-preserved
loop-pass-preserved c =
    below_more (λ (k : ℕ). ((d : PassState) → get_or c.args.passes.now.items k d ≡ pass_state c.args.worker c.args.number) → ⊥) c.loop-pass.pass-index c.loop-pass.invariant
    (λ (all : (d : PassState) → get_or c.args.passes.now.items c.loop-pass.pass-index d ≡ pass_state c.args.worker c.args.number).
    c.if-is.ensures (c.pass-item.is ∙ ap (λ (l : List PassState). get_or l c.loop-pass.pass-index c.pass-item.result) c.deref-pass-items.ensures.value ∙ all c.pass-item.result))
