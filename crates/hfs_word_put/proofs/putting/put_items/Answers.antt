-- What was listed is of each tree that holds when its digests were read, too.
use Rattle.std.proofs.Common.{◌≡◌, List, None, inr, subst}
use Rattle.hfs_put_sources.specs.Digests.{first_wrong}
use Rattle.hfs_put_sources.specs.Items.{PlannedItem}
use Rattle.hfs_put_sources.specs.Later.{told_at}
use Rattle.hfs_put_sources.specs.Trees.{OfEachTree}
use Rattle.hfs_word_put.specs.Listed.{IsUnverified}
use Rattle.hfs_word_put.specs.Put.{IsPutOn}
use Rattle.hfs_word_put.proofs.Unread.{unverified-before}
use Rattle.hfs_word_put.proofs.putting.put_items.Goals as goal

pub returns-in-Ok-clause-held : goal.returns-in-Ok-clause-held
returns-in-Ok-clause-held g c = λ host h. c.list_all.ensures.held host (c.need_digests.ensures.held host h)

pub returns-clause-held : goal.returns-clause-held
returns-clause-held g c = λ host h. c.list_all.ensures.held host (c.need_digests.ensures.held host h)

pub returns-in-Ok-clause-put : goal.returns-in-Ok-clause-put
returns-in-Ok-clause-put g c =
    let Hosts = g.T.HostTree.Holds c.need_digests.new.tree in
    let digests = c.in_ok-items.field-0.digests in
    let list = c.in_ok-list.list in
    let current = c.put_list.new.volume.current in
    record {
      digests = digests;
      listed = λ host h. c.in_ok-items.ensures.listed host (c.need_digests.ensures.held host h);
      verified = subst (λ (items : List PlannedItem). OfEachTree Hosts (λ host. first_wrong host (told_at digests) items ≡ None)) c.deref-2.ensures.value c.in-Ok.ensures.right;
      current = current;
      done = subst (λ (items : List PlannedItem). IsPutOn c.args.order.now c.args.volume.now.base current items list.blocks list.sums) c.deref.ensures.value c.in_ok-list.ensures.put;
    }

pub returns-clause-fault : goal.returns-clause-fault
returns-clause-fault g c =
    let Hosts = g.T.HostTree.Holds c.need_digests.new.tree in
    let digests = c.in_ok-items.field-0.digests in
    let Fails = g.T.HostTree.Fails c.args.tree.now in
    let wrong : IsUnverified Fails Hosts digests c.in_ok-items.field-0.items.items c.in-Err.fault =
    subst (λ (items : List PlannedItem). IsUnverified Fails Hosts digests items c.in-Err.fault) c.deref-2.ensures.value
    (unverified-before _ Fails _ _ _ _ c.list_all.ensures.later c.in-Err.ensures.fault) in
    inr (record {
      items = c.in_ok-items.field-0.items.items;
      digests = digests;
      listed = λ host h. c.in_ok-items.ensures.listed host (c.need_digests.ensures.held host h);
      why = inr wrong;
    })
