-- The fault of the page is the one that is passed on.
use Rattle.std.proofs.Common.{◌≡◌, Result, Err, subst}
use Rattle.std.specs.Prelude.{⊤}
use Rattle.hfs_database.specs.declared.fault.DatabaseFault.{DatabaseFault}
use Rattle.hfs_database.specs.declared.writing.CollectionFault.{CollectionFault}
use Rattle.hfs_database.specs.declared.writing.CollectionFault.TheVariants.{Database}
use Rattle.hfs_database.specs.Writing.{HasNoPage}
use Rattle.hfs_database.proofs.writing.write_collection_page.Goals as goal

same-fault : (a b : DatabaseFault) → ◌≡◌ {A = Result ⊤ CollectionFault} (Err (Database a)) (Err (Database b)) → a ≡ b
same-fault a b e = cc

pub returns-clause-fault : goal.returns-clause-fault
returns-clause-fault g c = λ fault same.
    subst (HasNoPage g.S.Store c.args.collection.now.conn c.page_of.new.collection.conn) (same-fault c.in-Err.fault fault same) c.in-Err.ensures.fault
