use Rattle.std.proofs.Common.{◌≡◌, ◌++◌, ◌∷◌, [], ap, ◌∙◌}
use Rattle.hfs_shared.specs.declared.item.Item.TheVariants.{Change}
use Rattle.hfs_shared.specs.Histories.{Known, known}
use Rattle.hfs_shared.proofs.Growing.{pair_settled, pair_more}
use Rattle.hfs_shared.proofs.copies.Copies.add.Goals as goal

pub invariant_of-self-2 : goal.invariant_of-self-2
invariant_of-self-2 c =
    let f = c.self.inside.front in
    let call = c.args.call in
    let head = c.self.inside.history.head.book in
    let before = c.settle.new.writer in
    let settled = pair_settled f head c.self.inside.writer.desk.shown.value before.desk.shown.value _ _ c.self.inside.owed c.settle.new.owed c.self.invariant
    (ap (λ d. d.shown.value) c.settle.ensures.desk) c.settle.ensures.pending in
    let is : c.add.new.self ≡ known f.book (f.list ++ Change call ∷ []) = c.if-not-add.ensures ∙ ap (λ (k : Known). known k.book (k.list ++ Change call ∷ [])) c.again-front.ensures in
    pair_more f c.add.new.self head before.desk.shown.value call
    c.hand_over.new.writer.desk.shown.value
    (ap (λ d. d.shown.value) c.hand_over.ensures.desk)
    _ _ c.settle.new.owed c.hand_over.result
    settled
    c.if-not-settle.ensures.none
    is
    c.again.result
    c.again.ensures
    c.hand_over.ensures.pending
