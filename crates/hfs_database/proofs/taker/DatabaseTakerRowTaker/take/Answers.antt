-- A row more, or a fault, after which no more is said.
use Rattle.std.proofs.Common.{◌≡◌, None, rules, sym, subst}
use Rattle.std.proofs.Math.Logic.{∥∥₁_map, ∥∥₁_map₂}
use Rattle.sqlite.specs.Held.{Held}
use Rattle.hfs_database.specs.Taken.{row_of}
use Rattle.hfs_database.specs.Refusals.{HasRefusedLast}
use Rattle.hfs_database.specs.Transactions.{HasPutSince, KeepsFile}
use Rattle.hfs_database.proofs.Keeping.{keeps_then}
use Rattle.hfs_database.proofs.RefusalLemmas.{put_on, refused_last}
use Rattle.hfs_database.proofs.taker.DatabaseTakerRowTaker.take.Goals as goal

pub invariant_of-self : goal.invariant_of-self
invariant_of-self g c =
    let self = c.args.self.now in
    let begun = self.history.now.start.value in
    let start = sym c.note.ensures.start in
    let row = row_of c.args.table c.args.values.now in
    let after = c.put_row-taken.new in
    let rows = c.note.new.self.given.rows in
    let fine : self.failed ≡ None = search rules in
    record {
      keeps = ∥∥₁_map self.keeps (λ kept. subst (λ (held : Held _). KeepsFile g.S.Store held after.conn) start
          (keeps_then g.S.Store begun self.conn.now after.conn kept c.put_row-taken.ensures.keeps));
      put = ∥∥₁_map self.put (λ was none. subst (λ (held : Held _). HasPutSince g.S.Store held rows after.conn after.last) start
          (put_on g.S.Store begun self.conn.now after.conn self.history.now.given.rows rows row self.last after.last c.note.ensures.given
          c.put_row-taken.result c.err-self.result c.err-self.ensures.value c.put_row-taken.ensures.done (was fine) none));
      refused = ∥∥₁_map₂ self.keeps self.put (λ kept was some. subst (λ (held : Held _). HasRefusedLast g.S.Store held rows after.conn) start
          (refused_last g.S.Store begun self.conn.now after.conn self.history.now.given.rows rows row self.last after.last c.note.ensures.given
          c.put_row-taken.result c.err-self.result c.err-self.ensures.value c.put_row-taken.ensures.refused kept c.put_row-taken.ensures.keeps (was fine) some));
    }
