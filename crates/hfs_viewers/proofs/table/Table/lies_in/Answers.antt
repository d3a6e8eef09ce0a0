use Rattle.std.proofs.Common.{◌≡◌, ℕ, suc, ◌-◌, sym, ◌∙◌, ap, arith}
use Rattle.std.specs.FinMap as finite
use Rattle.hfs_model.specs.Choices.{lies_in}
use Rattle.hfs_viewers.specs.Tables.{item_of, items_of}
use Rattle.hfs_viewers.proofs.Above.{reached, no_more, no_item, one_up}
use Rattle.hfs_viewers.proofs.table.Table.lies_in.Goals as goal

pub returns-then-left-eq0 : goal.returns-then-left-eq0
returns-then-left-eq0 c =
    sym (no_more (finite.entries (items_of c.args.self.now)) c.args.up c.loop-at.left c.loop-at.at (omega arith) (λ (e : c.loop-at.at ≡ c.args.up). omega (arith, e)))
    ∙ c.loop-at.invariant

pub returns-in_default : goal.returns-in_default
returns-in_default c =
    sym (no_item (finite.entries (items_of c.args.self.now)) c.args.up c.loop-at.left c.loop-at.at (λ (e : c.loop-at.at ≡ c.args.up). omega (arith, e)) c.in_default.ensures.entry)
    ∙ c.loop-at.invariant

pub loop-at-preserved : goal.loop-at-preserved
loop-at-preserved c =
    let t = c.args.self.now in
    let es = finite.entries (items_of t) in
    let left : suc (c.loop-at.left - 1) ≡ c.loop-at.left = omega arith in
    sym (one_up es c.args.up (c.loop-at.left - 1) c.loop-at.at (c.loop-at.at, item_of t.base t.mdb c.in-Some.row.now) (λ (e : c.loop-at.at ≡ c.args.up). omega (arith, e)) c.in-Some.ensures.entry)
    ∙ ap (λ (n : ℕ). lies_in es n c.loop-at.at c.args.up) left
    ∙ c.loop-at.invariant

pub returns : goal.returns
returns c = sym (reached (finite.entries (items_of c.args.self.now)) c.args.up c.loop-at.left c.loop-at.at (omega arith)) ∙ c.loop-at.invariant
