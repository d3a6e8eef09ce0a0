-- The taker was given all rows, and no others; or one was refused.
use Rattle.std.proofs.Common.{◌∙◌, [], sym, subst, rules}
use Rattle.sqlite.specs.Held.{Held}
use Rattle.hfs_database.specs.Refusals.{IsUnwritten, RefusesOne}
use Rattle.hfs_database.specs.Transactions.{PutsAll}
use Rattle.hfs_database.proofs.RefusalLemmas.{refused_one}
use Rattle.hfs_database.proofs.RowLemmas.{puts_all}
use Rattle.hfs_database.proofs.taker.put_rows.Goals as goal

pub returns-in-Ok-clause-put : goal.returns-in-Ok-clause-put
returns-in-Ok-clause-put g c =
    let taker = c.give-given.new.taker in
    let before = c.over-taker.result in
    subst (λ (held : Held _). PutsAll g.S.Store (g.R.RowSource.Gives c.args.source.now c.give-given.new.self []) c.args.conn.now held) (search rules)
    (puts_all g.S.Store (g.R.RowSource.Gives c.args.source.now c.give-given.new.self) c.args.conn.now taker.history.now.start.value taker.conn.now before.history.now.given.rows taker.history.now.given.rows taker.last taker.failed
    c.over-taker.ensures.nothing (c.give-given.ensures.place ∙ c.over-taker.ensures.start) c.in-Ok.ensures.whole c.in-None.is taker.put)

pub returns-in-Some-clause-fault : goal.returns-in-Some-clause-fault
returns-in-Some-clause-fault g c =
    let taker = c.give-given.new.taker in
    let before = c.over-taker.result in
    let Begins = g.R.RowSource.Begins c.args.source.now c.give-given.new.self in
    subst (λ (held : Held _). IsUnwritten (RefusesOne g.S.Store (Begins []) c.args.conn.now held) c.from.result) (search rules)
    (subst (IsUnwritten (RefusesOne g.S.Store (Begins []) c.args.conn.now taker.conn.now)) (sym c.from.ensures)
    (refused_one g.S.Store Begins c.args.conn.now taker.history.now.start.value taker.conn.now before.history.now.given.rows taker.history.now.given.rows taker.failed c.in-Some.fault
    c.over-taker.ensures.nothing (c.give-given.ensures.place ∙ c.over-taker.ensures.start) c.give-given.ensures.part c.in-Some.is taker.refused))
