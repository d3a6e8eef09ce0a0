-- A row more, or a fault, behind which no more is taken.
use Rattle.std.proofs.Common.{sym, subst, Bool, false, List}
use Rattle.std.proofs.Math.Logic.{∥∥₁_map}
use Rattle.hfs_database.specs.Taken.{TakenRow, row_of}
use Rattle.hfs_database.specs.UnderWay.{IsUnderWay}
use Rattle.hfs_database.proofs.Going.{failed, took}
use Rattle.hfs_database.proofs.text_taker.TextTakerRowTaker.take.Goals as goal

pub invariant_of-self : goal.invariant_of-self
invariant_of-self g c =
    let self = c.args.self.now in
    let start = g.W.Write.contents self.start.value in
    let before = g.W.Write.contents self.writer in
    record {
      underway = ∥∥₁_map self.underway (λ was.
          failed start before (g.W.Write.contents c.put_row.new.writer) self.text.items c.put_row.new.text.items self.form self.keys c.put_row.new.keys self.given.rows
          (subst (λ (b : Bool). IsUnderWay start before self.text.items self.form self.keys self.given.rows b) c.if-self.false was) c.in_err-put_row.ensures.part);
    }

pub invariant_of-self-2 : goal.invariant_of-self-2
invariant_of-self-2 g c =
    let self = c.args.self.now in
    let start = g.W.Write.contents self.start.value in
    let before = g.W.Write.contents self.writer in
    let after = g.W.Write.contents c.put_row.new.writer in
    record {
      underway = ∥∥₁_map self.underway (λ was.
          subst (λ (rows : List TakenRow). IsUnderWay start after c.put_row.new.text.items self.form c.put_row.new.keys rows false) (sym c.then-self.ensures)
          (took start before after self.text.items c.put_row.new.text.items self.form self.keys c.put_row.new.keys self.given.rows (row_of c.args.table c.args.values.now)
          (subst (λ (b : Bool). IsUnderWay start before self.text.items self.form self.keys self.given.rows b) c.if-self.false was)
          c.in_ok-put_row.ensures.put c.in_ok-put_row.ensures.keys));
    }
