use Rattle.std.proofs.Common.{◌≡◌, ◌-◌, ◌∙◌, arith, subst}
use Rattle.std.proofs.lemmas.Grind.{get_or_default_zero}
use Rattle.hfs_shared.specs.Desks.{DeskState, wanted}
use Rattle.hfs_shared.proofs.Headline.{slice_index-next}
use Rattle.hfs_shared.proofs.desk.Desk.wanted.Goals as goal

pub returns : goal.returns
returns c =
    let l = c.self.inside in
    let some = c.if-worker-eq0.false in
    let low = c.if-worker-len.false in
    subst (λ (s : DeskState). c.index.result.now ≡ wanted s.workers s.journal c.args.worker) c.self.view_is
    (c.index.ensures
    ∙ get_or_default_zero l.next.items (c.args.worker - 1) c.index.result.now (omega (arith, some, low))
    ∙ slice_index-next l.next.items l.journal.items c.args.worker c.self.invariant.1 some (omega (arith, low)))
