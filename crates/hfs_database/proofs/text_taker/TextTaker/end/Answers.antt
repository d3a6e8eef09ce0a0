-- The end of an image, or a fault.
use Rattle.std.proofs.Common.{ap, subst, Bool, true}
use Rattle.std.proofs.Math.Logic.{∥∥₁_map, ∥∥₁_elim}
use Rattle.hfs_fields.proofs.OutcomeLemmas.{on_err}
use Rattle.hfs_database.specs.UnderWay.{IsUnderWay}
use Rattle.hfs_database.proofs.Going.{Appends_prop, begun, ended, ended_before, ended_part, has_not}
use Rattle.hfs_database.proofs.text_taker.TextTaker.end.Goals as goal

pub returns-then-self-clause-part : goal.returns-then-self-clause-part
returns-then-self-clause-part g c =
    let self = c.args.self.now in
    ∥∥₁_map self.underway (λ was.
    ended_before (g.W.Write.contents self.start.value) (g.W.Write.contents self.writer) self.text.items self.form self.keys self.given.rows self.has_failed c.args.is_whole was)

pub invariant_of-self : goal.invariant_of-self
invariant_of-self g c =
    let self = c.args.self.now in
    record {
      underway = ∣ begun (g.W.Write.contents c.of.result.value) (g.W.Write.contents c.write_end-ended.new.writer) c.write_end-ended.new.text.items self.form self.keys
          c.new-self.result.rows true (ap g.W.Write.contents c.of.ensures) c.new-self.ensures (λ wrong. has_not wrong) (λ wrong. has_not wrong) ∣₁;
    }

pub returns-in_err-ended-clause-part : goal.returns-in_err-ended-clause-part
returns-in_err-ended-clause-part g c =
    let self = c.args.self.now in
    let start = g.W.Write.contents self.start.value in
    let before = g.W.Write.contents self.writer in
    on_err c.from_residual.result _ (∥∥₁_map self.underway (λ was.
    ended_part start before (g.W.Write.contents c.write_end-ended.new.writer) self.text.items self.form self.keys self.given.rows c.args.is_whole
    (subst (λ (b : Bool). IsUnderWay start before self.text.items self.form self.keys self.given.rows b) c.if-self.false was) c.in_err-ended.ensures.part))

pub returns-clause-written : goal.returns-clause-written
returns-clause-written g c =
    let self = c.args.self.now in
    let start = g.W.Write.contents self.start.value in
    let before = g.W.Write.contents self.writer in
    let after = g.W.Write.contents c.write_end-ended.new.writer in
    ∥∥₁_elim self.underway (Appends_prop _ _ _) (λ was.
    ended start before after self.text.items self.form self.keys self.given.rows c.args.is_whole
    (subst (λ (b : Bool). IsUnderWay start before self.text.items self.form self.keys self.given.rows b) c.if-self.false was) c.in_ok-ended.ensures.written)
