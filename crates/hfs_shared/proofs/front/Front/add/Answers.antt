use Rattle.std.proofs.Common.{◌≡◌, ◌+◌, length, sym, ◌∙◌, ap}
use Rattle.hfs_shared.proofs.Adding.{adds_moves}
use Rattle.hfs_shared.proofs.front.Front.add.Goals as goal

pub compare_exchange-found-requires : goal.compare_exchange-found-requires
compare_exchange-found-requires c =
    let h = c.args.history.now.head_is in
    let same = c.again-seen.ensures in
    let offer = c.plain-offer.ensures in
    let pen = c.no_pen-pen.ensures in
    let named : c.again-seen.result.book ≡ c.args.history.now.head.book = ap (λ s. s.book) same ∙ ap (λ k. k.book) c.self.view_is ∙ sym c.requires in
    let len : length c.again-seen.result.log ≡ c.self.inside.changes + 1 = ap (λ s. length s.log) same ∙ c.self.invariant in (
      h.0,
      named,
      pen.0 ∙ named,
      offer.0,
      rw (h.1, pen.1, offer.1, offer.3) (adds_moves c.again-seen.result.log _ c.self.inside.changes len),
    )
