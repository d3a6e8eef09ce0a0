-- All were found, or none, and they were made; or what was found is why it is refused.
use Rattle.std.proofs.Common.{subst, inl, inr}
use Rattle.hfs_database.specs.declared.tables.Found.{Found}
use Rattle.hfs_database.specs.Tables.{FindsTables, IsRefusedFor}
use Rattle.hfs_database.proofs.FaultLemmas.{passed_on}
use Rattle.hfs_database.proofs.TableLemmas.{on_ok, refused_elsewhere, refused_unmade}
use Rattle.hfs_database.proofs.collection.want_tables.Goals as goal

pub returns-in-All-clause-tables : goal.returns-in-All-clause-tables
returns-in-All-clause-tables g c = inl (subst (λ (found : Found). FindsTables g.S.Store found c.args.conn.now c.find_tables.new.conn) c.in-All.is c.in_ok-find_tables.ensures.found)

pub returns-in-Nothing-clause-tables : goal.returns-in-Nothing-clause-tables
returns-in-Nothing-clause-tables g c =
    let none = subst (λ (found : Found). FindsTables g.S.Store found c.args.conn.now c.find_tables.new.conn) c.in-Nothing.is c.in_ok-find_tables.ensures.found in
    on_ok c.make_tables.result (λ made. inr (c.if-makes_tables.true, record { asked = c.find_tables.new.conn; finds = none; makes = made; leaves = c.make_tables.ensures.all_or_none })) c.make_tables.ensures.made

pub returns-in-Nothing-clause-refused : goal.returns-in-Nothing-clause-refused
returns-in-Nothing-clause-refused g c =
    let none = subst (λ (found : Found). FindsTables g.S.Store found c.args.conn.now c.find_tables.new.conn) c.in-Nothing.is c.in_ok-find_tables.ensures.found in
    refused_unmade g.S.Store c.args.makes_tables c.args.conn.now c.find_tables.new.conn c.make_tables.new.conn c.make_tables.result c.if-makes_tables.true none
    c.make_tables.ensures.all_or_none c.make_tables.ensures.fault c.make_tables.ensures.unmade

pub returns-in_err-find_tables-clause-refused : goal.returns-in_err-find_tables-clause-refused
returns-in_err-find_tables-clause-refused g c =
    let fault = c.in_err-find_tables.field-0.0 in
    passed_on c.from_residual.result fault (IsRefusedFor g.S.Store c.args.makes_tables c.args.conn.now c.find_tables.new.conn) c.from_residual.ensures.1
    (refused_elsewhere g.S.Store c.args.makes_tables c.args.conn.now c.find_tables.new.conn fault c.in_err-find_tables.ensures.fault (inl c.in_err-find_tables.ensures.unfound))
