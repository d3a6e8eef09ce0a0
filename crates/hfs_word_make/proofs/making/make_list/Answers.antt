-- What was listed for the volume that is wanted, of the trees as they were left.
use Rattle.std.proofs.Common.{◌∙◌, inl, inr}
use Rattle.std.proofs.lemmas.Result.{err_from_is_err_and}
use Rattle.hfs_word_make.proofs.MadeLists.{listed-for, listed-then, made-list, unput-list, unverified-list}
use Rattle.hfs_word_put.proofs.Unread.{unlisted_before, unverified-before}
use Rattle.hfs_word_make.proofs.making.make_list.Goals as goal

pub returns-in_err-items-clause-fault : goal.returns-in_err-items-clause-fault
returns-in_err-items-clause-fault g c =
    let told = err_from_is_err_and c.from_residual-in_err-items.result c.from_residual-in_err-items.ensures.1 in
    rw (told.1, told.2)
    (inr (inr (inl (record {
      name = c.in_ok-name.name;
      named = λ host h. c.in_ok-name.ensures.name host (c.list_all_new.ensures.held host h);
      size = c.in_ok-size.size;
      sized = c.in_ok-size.ensures;
      unread = unlisted_before (g.T.HostTree.Fails c.made_name.new.tree) (g.T.HostTree.Fails c.args.tree.now) _ _ _ c.made_name.ensures.later c.in_err-items.ensures.fault;
    }))))

pub returns-in-Err-clause-fault : goal.returns-in-Err-clause-fault
returns-in-Err-clause-fault g c =
    let v = c.wanted_volume-wanted.ensures in
    unput-list _ (g.T.HostTree.Fails c.args.tree.now) (g.T.HostTree.Holds c.list_all_new.new.tree) _ _ _ _ _ _ c.in-Err.ensures.fault c.deref-3.ensures.value
    (listed-for (g.T.HostTree.Holds c.made_name.new.tree) _ _ _ _ _ _ _ _ _ c.in_ok-name.ensures.name c.list_all_new.ensures.held c.in_ok-size.ensures
    c.in_ok-items.ensures.listed v.name v.size (v.items ∙ c.deref-2.ensures.value) c.in_ok-new.ensures c.deref.ensures.value v.moment v.once)

pub returns-in-Ok-need_digests-clause-held : goal.returns-in-Ok-need_digests-clause-held
returns-in-Ok-need_digests-clause-held g c = λ host h. c.made_name.ensures.held host (c.list_all_new.ensures.held host (c.need_digests.ensures.held host h))

pub returns-clause-held : goal.returns-clause-held
returns-clause-held g c = λ host h. c.made_name.ensures.held host (c.list_all_new.ensures.held host (c.need_digests.ensures.held host h))

pub returns-in-Ok-need_digests-clause-made : goal.returns-in-Ok-need_digests-clause-made
returns-in-Ok-need_digests-clause-made g c =
    let v = c.wanted_volume-wanted.ensures in
    made-list (g.T.HostTree.Holds c.need_digests.new.tree) _ _ _ _ _ _ _ _ c.in-Ok.ensures.filled c.deref-3.ensures.value c.in-Ok-need_digests.ensures.right
    c.deref-4.ensures.value
    (listed-then (g.T.HostTree.Holds c.list_all_new.new.tree) _ _ _ _ _ c.need_digests.ensures.held
    (listed-for (g.T.HostTree.Holds c.made_name.new.tree) _ _ _ _ _ _ _ _ _ c.in_ok-name.ensures.name c.list_all_new.ensures.held c.in_ok-size.ensures
    c.in_ok-items.ensures.listed v.name v.size (v.items ∙ c.deref-2.ensures.value) c.in_ok-new.ensures c.deref.ensures.value v.moment v.once))

pub returns-clause-fault : goal.returns-clause-fault
returns-clause-fault g c =
    let v = c.wanted_volume-wanted.ensures in
    unverified-list _ (g.T.HostTree.Fails c.args.tree.now) (g.T.HostTree.Holds c.need_digests.new.tree) _ _ _ _ _ _ _ _ _ c.in-Ok.ensures.filled c.deref-3.ensures.value
    (unverified-before _ (g.T.HostTree.Fails c.args.tree.now) _ _ _ _ (λ why f. c.made_name.ensures.later why (c.list_all_new.ensures.later why f)) c.in-Err-need_digests.ensures.fault)
    c.deref-4.ensures.value
    (listed-then (g.T.HostTree.Holds c.list_all_new.new.tree) _ _ _ _ _ c.need_digests.ensures.held
    (listed-for (g.T.HostTree.Holds c.made_name.new.tree) _ _ _ _ _ _ _ _ _ c.in_ok-name.ensures.name c.list_all_new.ensures.held c.in_ok-size.ensures
    c.in_ok-items.ensures.listed v.name v.size (v.items ∙ c.deref-2.ensures.value) c.in_ok-new.ensures c.deref.ensures.value v.moment v.once))

pub returns-in-Ok-need_digests-clause-dated : goal.returns-in-Ok-need_digests-clause-dated
returns-in-Ok-need_digests-clause-dated g c = c.wanted_volume-wanted.ensures.dated
