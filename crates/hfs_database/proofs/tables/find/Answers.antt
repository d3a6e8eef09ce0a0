-- The parameters are the name and the text, and the answer's row tells, or doesn't.
use Rattle.std.proofs.Common.{Ok, Err, inl}
use Rattle.sqlite.specs.Held.{state}
use Rattle.hfs_database.specs.Tables.{find_part_text, part_of}
use Rattle.hfs_database.proofs.TableLemmas.{asked_by, if_ok, unfound_by}
use Rattle.hfs_database.proofs.tables.find.Goals as goal

pub returns-in-Ok-clause-found : goal.returns-in-Ok-clause-found
unfolding find_part_text
returns-in-Ok-clause-found g c =
    let asked = asked_by (state g.S.Store c.args.conn.now) (state g.S.Store c.query_row.new.self) (Ok c.in-Ok.row) c.as_bytes.ensures.value c.as_bytes-2.ensures.value c.in-Ok.ensures.row in
    if_ok c.told_in.result (λ found tells. (c.query_row.ensures.survives.limit, λ clean. (c.in-Ok.row, asked clean, tells))) c.told_in.ensures.tells

pub returns-in-Ok-clause-unfound : goal.returns-in-Ok-clause-unfound
unfolding find_part_text
returns-in-Ok-clause-unfound g c =
    unfound_by (state g.S.Store c.args.conn.now) (state g.S.Store c.query_row.new.self) (part_of c.args.name.now c.args.text.now) c.in-Ok.row
    (asked_by (state g.S.Store c.args.conn.now) (state g.S.Store c.query_row.new.self) (Ok c.in-Ok.row) c.as_bytes.ensures.value c.as_bytes-2.ensures.value c.in-Ok.ensures.row)
    c.told_in.result c.told_in.ensures.untold

pub returns-in-Err-clause-unfound : goal.returns-in-Err-clause-unfound
unfolding find_part_text
returns-in-Err-clause-unfound g c =
    inl
    ∣ (
      c.in-Err.error,
      c.opening_fault.ensures.fault,
      asked_by (state g.S.Store c.args.conn.now) (state g.S.Store c.query_row.new.self) (Err c.in-Err.error) c.as_bytes.ensures.value c.as_bytes-2.ensures.value c.in-Err.ensures.row,
    ) ∣₁
