use Rattle.std.proofs.Common.{◌<◌, ◌+◌, ℕ, length, sym, ap, ◌∙◌, subst, arith}
use borrow.Author.Count.{below_more}
use Rattle.std.proofs.lemmas.Grind.{get_or_default_zero}
use Rattle.hfs_shared.specs.Journals.{made_by}
use Rattle.hfs_shared.specs.Desks.{DeskState, pass_state}
use Rattle.hfs_shared.specs.Closings.{HasPass, AreAllPasses}
use Rattle.hfs_shared.proofs.desk.Desk.are_all.Goals as goal

pub returns-then-not-has : goal.returns-then-not-has
returns-then-not-has c = λ (a : AreAllPasses c.args.passes.now.items c.args.self.now.workers c.args.self.now.journal).
    let at = c.loop-at.at in
    let workers = ap (λ (s : DeskState). s.workers) c.self.view_is in
    let below : at < length c.self.inside.next.items = omega arith in
    let count = c.index.ensures ∙ get_or_default_zero c.self.inside.next.items at c.index.result.now below ∙ c.self.invariant.1.counts at below ∙ ap (λ (s : DeskState). made_by (at + 1) s.journal + 1) c.self.view_is in
    c.if-not-has.ensures (subst (λ (n : ℕ). HasPass c.args.passes.now.items (pass_state (at + 1) n)) (sym count) (a.each at (omega (arith, workers))))

pub loop-at-preserved : goal.loop-at-preserved
loop-at-preserved c =
    let at = c.loop-at.at in
    let below : at < length c.self.inside.next.items = omega arith in
    below_more (λ (w : ℕ). HasPass c.args.passes.now.items (pass_state (w + 1) (made_by (w + 1) c.self.inside.journal.items + 1))) at c.loop-at.invariant
    (subst (λ (n : ℕ). HasPass c.args.passes.now.items (pass_state (at + 1) n)) (c.index.ensures ∙ get_or_default_zero c.self.inside.next.items at c.index.result.now below ∙ c.self.invariant.1.counts at below) c.if-not-has.ensures)

pub returns : goal.returns
returns c =
    let workers = ap (λ (s : DeskState). s.workers) c.self.view_is in
    record {
      many = omega (arith, workers);
      each = λ w lt. subst (λ (s : DeskState). HasPass c.args.passes.now.items (pass_state (w + 1) (made_by (w + 1) s.journal + 1))) c.self.view_is (c.loop-at.invariant w (omega (arith, workers)));
    }
