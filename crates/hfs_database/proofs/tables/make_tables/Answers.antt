-- All texts were run in the transaction, and it was to be committed; or one of them can't be made, and the transaction was undone.
use Rattle.std.proofs.Common.{inl, inr, subst, rules}
use Rattle.sqlite.specs.Held.{Held}
use Rattle.hfs_database.specs.Tables.{FailsToCommitAll, FailsToMakeAll, FailsToMakeParts, HasMadeAll, HasUndoneMaking, LeavesTablesOrNone, MakesParts, all_parts}
use Rattle.hfs_database.proofs.FaultLemmas.{passed_on}
use Rattle.hfs_database.proofs.TableLemmas.{left_by_commit, made_all}
use Rattle.hfs_database.proofs.tables.make_tables.Goals as goal

pub returns-in-Ok-clause-made : goal.returns-in-Ok-clause-made
returns-in-Ok-clause-made g c =
    subst (λ (held : Held _). HasMadeAll g.S.Store c.args.conn.now held) (search rules)
    (made_all g.S.Store c.args.conn.now c.transaction-tx.result.conn.now c.make_parts.new.tx.conn.now c.commit.new.self.0 c.transaction-tx.ensures.begun c.in_ok-make_parts.ensures.done (λ clean. (c.in-Ok.ensures.ok clean).1))

pub returns-in-Ok-clause-all_or_none : goal.returns-in-Ok-clause-all_or_none
returns-in-Ok-clause-all_or_none g c =
    subst (λ (held : Held _). LeavesTablesOrNone g.S.Store c.args.conn.now held) (search rules)
    (left_by_commit g.S.Store c.args.conn.now c.transaction-tx.result.conn.now c.make_parts.new.tx.conn.now c.commit.new.self.0 c.transaction-tx.ensures.begun c.in_ok-make_parts.ensures.done c.make_parts.ensures.keeps c.commit.ensures.survives)

pub returns-in-Err-clause-all_or_none : goal.returns-in-Err-clause-all_or_none
returns-in-Err-clause-all_or_none g c =
    subst (λ (held : Held _). LeavesTablesOrNone g.S.Store c.args.conn.now held) (search rules)
    (left_by_commit g.S.Store c.args.conn.now c.transaction-tx.result.conn.now c.make_parts.new.tx.conn.now c.commit.new.self.0 c.transaction-tx.ensures.begun c.in_ok-make_parts.ensures.done c.make_parts.ensures.keeps c.commit.ensures.survives)

pub returns-in_err-make_parts-clause-unmade : goal.returns-in_err-make_parts-clause-unmade
returns-in_err-make_parts-clause-unmade g c =
    let fault = c.in_err-make_parts.field-0.0 in
    let undone : HasUndoneMaking g.S.Store c.args.conn.now c.drop-tx.new.self.0 fault = record {
      failed = c.make_parts.new.tx.conn.now;
      fails = subst (λ (held : Held _). FailsToMakeParts g.S.Store all_parts held c.make_parts.new.tx.conn.now fault) c.transaction-tx.ensures.begun c.in_err-make_parts.ensures.unmade;
      undone = c.drop-tx.ensures.undone;
    } in
    passed_on c.from_residual.result fault (FailsToMakeAll g.S.Store c.args.conn.now _) c.from_residual.ensures.1
    (subst (λ (held : Held _). FailsToMakeAll g.S.Store c.args.conn.now held fault) (search rules) (inr (inl undone)))

pub returns-in-Err-clause-unmade : goal.returns-in-Err-clause-unmade
returns-in-Err-clause-unmade g c =
    let uncommitted : FailsToCommitAll g.S.Store c.args.conn.now c.commit.new.self.0 c.writing_fault.result = record {
      made = c.make_parts.new.tx.conn.now;
      makes = subst (λ (held : Held _). MakesParts g.S.Store all_parts held c.make_parts.new.tx.conn.now) c.transaction-tx.ensures.begun c.in_ok-make_parts.ensures.done;
      uncommitted = ∣ (c.in-Err.error, c.writing_fault.ensures.fault, c.in-Err.ensures.err) ∣₁;
    } in
    subst (λ (held : Held _). FailsToMakeAll g.S.Store c.args.conn.now held c.writing_fault.result) (search rules) (inr (inr uncommitted))
