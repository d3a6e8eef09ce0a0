-- The digits so far, and those of some bytes more.
use Rattle.std.proofs.Common.{◌+◌, ◌*◌, ◌/◌, ◌≤◌, ℕ, length, refl, subst, sym, ◌∙◌, arith}
use Rattle.std.proofs.KnownBytes.{Appends-nil}
use Rattle.hfs_fields.proofs.OutcomeLemmas.{on_err}
use Rattle.hfs_texts.specs.Lines.{hex_text}
use Rattle.hfs_runs.proofs.Digits.{some-front, some-more}
use Rattle.hfs_runs.proofs.written_answers.put_digits.Goals as goal

pub loop-done-init : goal.loop-done-init
unfolding hex_text
loop-done-init g c = record {
  within = omega arith;
  some = omega (arith, c.requires);
  room = omega arith;
  len = refl;
  written = Appends-nil (g.W.Write.contents c.args.writer.now);
}

pub returns-in_err-put_some-clause-err : goal.returns-in_err-put_some-clause-err
returns-in_err-put_some-clause-err g c =
    let order : c.loop-done.done ≤ c.loop-done.done + c.min.result = omega arith in
    on_err _ _ (some-front (g.W.Write.contents c.args.writer.now) (g.W.Write.contents c.loop-done.writer) (g.W.Write.contents c.put_some.new.writer)
    c.args.bytes.now c.loop-done.done (c.loop-done.done + c.min.result) order c.loop-done.invariant.written c.in_err-put_some.ensures.err)

pub loop-done-preserved : goal.loop-done-preserved
loop-done-preserved g c =
    let order : c.loop-done.done ≤ c.loop-done.done + c.min.result = omega arith in
    record {
      within = omega (arith, c.min.ensures, c.loop-done.invariant.within, c.loop-done-test.true);
      some = c.loop-done.invariant.some;
      room = subst (λ (n : ℕ). 2 * (length c.args.room.now / 2) ≤ n) (sym c.in_ok-put_some.ensures.room) c.loop-done.invariant.room;
      len = c.in_ok-put_some.ensures.room ∙ c.loop-done.invariant.len;
      written = some-more (g.W.Write.contents c.args.writer.now) (g.W.Write.contents c.loop-done.writer) (g.W.Write.contents c.put_some.new.writer)
          c.args.bytes.now c.loop-done.done (c.loop-done.done + c.min.result) order c.loop-done.invariant.written c.in_ok-put_some.ensures.ok;
    }
