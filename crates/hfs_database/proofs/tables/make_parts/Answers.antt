-- Each text was run, one behind the other, up to one that can't be made.
use Rattle.std.proofs.Common.{subst, ℕ, List, [], codes}
use Rattle.sqlite.specs.Held.{state}
use Rattle.hfs_database.specs.Doing.{HasRun}
use Rattle.hfs_database.specs.Tables.{FailsToMake, FailsToMakeParts, all_parts, data_index, image_table, item_table, part_of, resource_index, volume_table}
use Rattle.hfs_database.proofs.FaultLemmas.{passed_on}
use Rattle.hfs_database.proofs.TableLemmas.{if_err, makes_five, on_ok, unmade_fifth, unmade_first, unmade_fourth, unmade_second, unmade_third}
use Rattle.hfs_database.proofs.tables.make_parts.Goals as goal

pub returns-clause-done : goal.returns-clause-done
returns-clause-done g c =
    on_ok c.make-5.result (λ last.
    makes_five g.S.Store c.args.tx.now.conn.now c.make.new.tx.conn.now c.make-2.new.tx.conn.now c.make-3.new.tx.conn.now c.make-4.new.tx.conn.now c.make-5.new.tx.conn.now
    (part_of (codes "image") image_table) (part_of (codes "volume") volume_table) (part_of (codes "item") item_table) (part_of (codes "item_data") data_index) (part_of (codes "item_resource") resource_index)
    (subst (λ (text : List ℕ). HasRun (state g.S.Store c.args.tx.now.conn.now) (state g.S.Store c.make.new.tx.conn.now) text []) c.image_table.ensures c.in_ok-make.ensures.done)
    (subst (λ (text : List ℕ). HasRun (state g.S.Store c.make.new.tx.conn.now) (state g.S.Store c.make-2.new.tx.conn.now) text []) c.volume_table.ensures c.in_ok-make-2.ensures.done)
    (subst (λ (text : List ℕ). HasRun (state g.S.Store c.make-2.new.tx.conn.now) (state g.S.Store c.make-3.new.tx.conn.now) text []) c.item_table.ensures c.in_ok-make-3.ensures.done)
    (subst (λ (text : List ℕ). HasRun (state g.S.Store c.make-3.new.tx.conn.now) (state g.S.Store c.make-4.new.tx.conn.now) text []) c.data_index.ensures c.in_ok-make-4.ensures.done)
    (subst (λ (text : List ℕ). HasRun (state g.S.Store c.make-4.new.tx.conn.now) (state g.S.Store c.make-5.new.tx.conn.now) text []) c.resource_index.ensures last)) c.make-5.ensures.done

pub returns-in_err-make-clause-unmade : goal.returns-in_err-make-clause-unmade
returns-in_err-make-clause-unmade g c =
    let fault = c.in_err-make.field-0.0 in
    passed_on c.from_residual.result fault (FailsToMakeParts g.S.Store all_parts c.args.tx.now.conn.now c.make.new.tx.conn.now) c.from_residual.ensures.1
    (unmade_first g.S.Store (part_of (codes "image") image_table) (part_of (codes "volume") volume_table) (part_of (codes "item") item_table) (part_of (codes "item_data") data_index) (part_of (codes "item_resource") resource_index) fault c.args.tx.now.conn.now c.make.new.tx.conn.now (subst (λ (text : List ℕ). FailsToMake (state g.S.Store c.args.tx.now.conn.now) (state g.S.Store c.make.new.tx.conn.now) text fault) c.image_table.ensures c.in_err-make.ensures.unmade))

pub returns-in_err-make-2-clause-unmade : goal.returns-in_err-make-2-clause-unmade
returns-in_err-make-2-clause-unmade g c =
    let fault = c.in_err-make-2.field-0.0 in
    passed_on c.from_residual-in_err-make-2.result fault (FailsToMakeParts g.S.Store all_parts c.args.tx.now.conn.now c.make-2.new.tx.conn.now) c.from_residual-in_err-make-2.ensures.1
    (unmade_second g.S.Store (part_of (codes "image") image_table) (part_of (codes "volume") volume_table) (part_of (codes "item") item_table) (part_of (codes "item_data") data_index) (part_of (codes "item_resource") resource_index) fault c.args.tx.now.conn.now c.make.new.tx.conn.now (subst (λ (text : List ℕ). HasRun (state g.S.Store c.args.tx.now.conn.now) (state g.S.Store c.make.new.tx.conn.now) text []) c.image_table.ensures c.in_ok-make.ensures.done) c.make-2.new.tx.conn.now (subst (λ (text : List ℕ). FailsToMake (state g.S.Store c.make.new.tx.conn.now) (state g.S.Store c.make-2.new.tx.conn.now) text fault) c.volume_table.ensures c.in_err-make-2.ensures.unmade))

pub returns-in_err-make-3-clause-unmade : goal.returns-in_err-make-3-clause-unmade
returns-in_err-make-3-clause-unmade g c =
    let fault = c.in_err-make-3.field-0.0 in
    passed_on c.from_residual-in_err-make-3.result fault (FailsToMakeParts g.S.Store all_parts c.args.tx.now.conn.now c.make-3.new.tx.conn.now) c.from_residual-in_err-make-3.ensures.1
    (unmade_third g.S.Store (part_of (codes "image") image_table) (part_of (codes "volume") volume_table) (part_of (codes "item") item_table) (part_of (codes "item_data") data_index) (part_of (codes "item_resource") resource_index) fault c.args.tx.now.conn.now c.make.new.tx.conn.now (subst (λ (text : List ℕ). HasRun (state g.S.Store c.args.tx.now.conn.now) (state g.S.Store c.make.new.tx.conn.now) text []) c.image_table.ensures c.in_ok-make.ensures.done) c.make-2.new.tx.conn.now (subst (λ (text : List ℕ). HasRun (state g.S.Store c.make.new.tx.conn.now) (state g.S.Store c.make-2.new.tx.conn.now) text []) c.volume_table.ensures c.in_ok-make-2.ensures.done) c.make-3.new.tx.conn.now (subst (λ (text : List ℕ). FailsToMake (state g.S.Store c.make-2.new.tx.conn.now) (state g.S.Store c.make-3.new.tx.conn.now) text fault) c.item_table.ensures c.in_err-make-3.ensures.unmade))

pub returns-in_err-make-4-clause-unmade : goal.returns-in_err-make-4-clause-unmade
returns-in_err-make-4-clause-unmade g c =
    let fault = c.in_err-make-4.field-0.0 in
    passed_on c.from_residual-in_err-make-4.result fault (FailsToMakeParts g.S.Store all_parts c.args.tx.now.conn.now c.make-4.new.tx.conn.now) c.from_residual-in_err-make-4.ensures.1
    (unmade_fourth g.S.Store (part_of (codes "image") image_table) (part_of (codes "volume") volume_table) (part_of (codes "item") item_table) (part_of (codes "item_data") data_index) (part_of (codes "item_resource") resource_index) fault c.args.tx.now.conn.now c.make.new.tx.conn.now (subst (λ (text : List ℕ). HasRun (state g.S.Store c.args.tx.now.conn.now) (state g.S.Store c.make.new.tx.conn.now) text []) c.image_table.ensures c.in_ok-make.ensures.done) c.make-2.new.tx.conn.now (subst (λ (text : List ℕ). HasRun (state g.S.Store c.make.new.tx.conn.now) (state g.S.Store c.make-2.new.tx.conn.now) text []) c.volume_table.ensures c.in_ok-make-2.ensures.done) c.make-3.new.tx.conn.now (subst (λ (text : List ℕ). HasRun (state g.S.Store c.make-2.new.tx.conn.now) (state g.S.Store c.make-3.new.tx.conn.now) text []) c.item_table.ensures c.in_ok-make-3.ensures.done) c.make-4.new.tx.conn.now (subst (λ (text : List ℕ). FailsToMake (state g.S.Store c.make-3.new.tx.conn.now) (state g.S.Store c.make-4.new.tx.conn.now) text fault) c.data_index.ensures c.in_err-make-4.ensures.unmade))

pub returns-clause-unmade : goal.returns-clause-unmade
returns-clause-unmade g c =
    if_err c.make-5.result (λ fault fails. unmade_fifth g.S.Store (part_of (codes "image") image_table) (part_of (codes "volume") volume_table) (part_of (codes "item") item_table) (part_of (codes "item_data") data_index) (part_of (codes "item_resource") resource_index) fault c.args.tx.now.conn.now c.make.new.tx.conn.now (subst (λ (text : List ℕ). HasRun (state g.S.Store c.args.tx.now.conn.now) (state g.S.Store c.make.new.tx.conn.now) text []) c.image_table.ensures c.in_ok-make.ensures.done) c.make-2.new.tx.conn.now (subst (λ (text : List ℕ). HasRun (state g.S.Store c.make.new.tx.conn.now) (state g.S.Store c.make-2.new.tx.conn.now) text []) c.volume_table.ensures c.in_ok-make-2.ensures.done) c.make-3.new.tx.conn.now (subst (λ (text : List ℕ). HasRun (state g.S.Store c.make-2.new.tx.conn.now) (state g.S.Store c.make-3.new.tx.conn.now) text []) c.item_table.ensures c.in_ok-make-3.ensures.done) c.make-4.new.tx.conn.now c.make-5.new.tx.conn.now (subst (λ (text : List ℕ). HasRun (state g.S.Store c.make-3.new.tx.conn.now) (state g.S.Store c.make-4.new.tx.conn.now) text []) c.data_index.ensures c.in_ok-make-4.ensures.done) (subst (λ (text : List ℕ). FailsToMake (state g.S.Store c.make-4.new.tx.conn.now) (state g.S.Store c.make-5.new.tx.conn.now) text fault) c.resource_index.ensures fails)) c.make-5.ensures.unmade
