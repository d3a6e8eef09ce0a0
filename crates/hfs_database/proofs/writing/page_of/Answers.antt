-- The page is that of the rows that were listed; there is none if a listing wasn't answered.
use Rattle.std.proofs.Common.{◌≡◌, ◌∙◌, ap, inl, inr}
use Rattle.hfs_database.specs.Pages.{collection_page}
use Rattle.hfs_database.specs.Writing.{HasNoPage, IsUnlistedAfter}
use Rattle.hfs_database.proofs.FaultLemmas.{passed_on}
use Rattle.hfs_database.proofs.writing.page_of.Goals as goal

pub returns-clause-page : goal.returns-clause-page
returns-clause-page g c = record {
  asked = c.listed.new.collection.conn;
  volumes = c.in_ok-volumes.volumes.items;
  contents = c.in_ok-contents.contents.items;
  lists_volumes = c.in_ok-volumes.ensures.listed;
  lists_contents = c.in_ok-contents.ensures.listed;
  is = c.in_ok-page.ensures.page ∙ ap (λ rows. collection_page c.args.texts.now rows c.deref-2.result.now) c.deref.ensures.value
      ∙ ap (λ rows. collection_page c.args.texts.now c.in_ok-volumes.volumes.items rows) c.deref-2.ensures.value;
}

pub returns-in_err-volumes-clause-fault : goal.returns-in_err-volumes-clause-fault
returns-in_err-volumes-clause-fault g c =
    passed_on c.from_residual.result c.in_err-volumes.field-0.0 (HasNoPage g.S.Store c.args.collection.now.conn c.listed.new.collection.conn)
    c.from_residual.ensures.1 (inl c.in_err-volumes.ensures.fault)

pub returns-in_err-contents-clause-fault : goal.returns-in_err-contents-clause-fault
returns-in_err-contents-clause-fault g c =
    let unlisted : IsUnlistedAfter g.S.Store c.args.collection.now.conn c.listed-2.new.collection.conn c.in_err-contents.field-0.0 = record {
      asked = c.listed.new.collection.conn;
      volumes = c.in_ok-volumes.volumes.items;
      lists_volumes = c.in_ok-volumes.ensures.listed;
      unlisted = c.in_err-contents.ensures.fault;
    } in
    passed_on c.from_residual-in_err-contents.result c.in_err-contents.field-0.0 (HasNoPage g.S.Store c.args.collection.now.conn c.listed-2.new.collection.conn)
    c.from_residual-in_err-contents.ensures.1 (inr (inl unlisted))

pub returns-in_err-page-clause-fault : goal.returns-in_err-page-clause-fault
returns-in_err-page-clause-fault g c =
    passed_on c.from_residual-in_err-page.result c.in_err-page.field-0.0 (HasNoPage g.S.Store c.args.collection.now.conn c.listed-2.new.collection.conn)
    c.from_residual-in_err-page.ensures.1 (inr (inr c.in_err-page.ensures.memory))
