-- Item by item.
use Rattle.std.proofs.Common.{◌≡◌, ◌∙◌, sym, ap, subst, get_or, inl, inr, arith}
use Rattle.std.proofs.lemmas.Bool.{cases_lt}
use Rattle.std.proofs.lemmas.List.{get_or_read}
use Rattle.std.proofs.lemmas.Result.{err_from_is_err_and}
use Rattle.hfs_put_sources.specs.Items.{PlannedItem}
use Rattle.hfs_put.specs.Again.{AreUnchanged, IsUnchanged}
use Rattle.hfs_put.proofs.UnchangedFiles.{unless_more}
use Rattle.hfs_put.proofs.again.look_again.Goals as goal

pub loop-item-preserved : goal.loop-item-preserved
loop-item-preserved g c =
    let items = c.args.items.now in
    let place = c.loop-item.item-index in
    record {
      same = λ host held k d lt. elim (cases_lt k place) [
        | inl less ↦ c.loop-item.invariant.same host (c.in_ok-look_at_item.ensures.held host held) k d less
        | inr last ↦
            let here : place ≡ k = omega (arith, lt, last) in
            subst (λ (item : PlannedItem). IsUnchanged host item)
            (get_or_read items place c.item-item.result c.loop-item-test.true c.item-item.is d ∙ ap (λ j. get_or items j d) here)
            (c.in_ok-look_at_item.ensures.same host held)
      ];
      held = λ host held. c.loop-item.invariant.held host (c.in_ok-look_at_item.ensures.held host held);
      later = λ fault f. c.loop-item.invariant.later fault (c.in_ok-look_at_item.ensures.later fault f);
    }

pub returns-in_err-look_at_item-clause-failed : goal.returns-in_err-look_at_item-clause-failed
returns-in_err-look_at_item-clause-failed g c =
    let items = c.args.items.now in
    let place = c.loop-item.item-index in
    let item = c.item-item.result in
    let told = err_from_is_err_and c.from_residual.result c.from_residual.ensures.1 in
    rw (told.1, told.2)
    (unless_more (g.T.HostTree.Fails c.loop-item.tree) (g.T.HostTree.Fails c.args.tree.now) (g.T.HostTree.Holds c.look_at_item.new.tree)
    (λ host. IsUnchanged host item) (AreUnchanged items) _ c.loop-item.invariant.later
    (λ host all. subst (λ (own : PlannedItem). IsUnchanged host own)
    (sym (get_or_read items place item c.loop-item-test.true c.item-item.is item)) (all place item c.loop-item-test.true))
    c.in_err-look_at_item.ensures.failed)

pub returns-clause-same : goal.returns-clause-same
returns-clause-same g c = λ host held k d lt. c.loop-item.invariant.same host held k d (omega (arith, lt, c.loop-item-test.false))
