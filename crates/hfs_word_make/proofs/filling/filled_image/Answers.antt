-- As long as the nodes don't suffice there are more, and they aren't doubled 31 times.
use Rattle.std.proofs.Common.{Option, MatchOption, subst, arith}
use borrow.Author.Count.{below_more}
use Rattle.hfs_word_make.specs.declared.filling.FilledImage.{FilledImage}
use Rattle.hfs_word_make.specs.Doubled.{IsFullAt, IsPutAt}
use Rattle.hfs_word_make.proofs.DoublingLemmas.{never-31}
use Rattle.hfs_word_make.proofs.filling.filled_image.Goals as goal

pub loop-doubled-preserved : goal.loop-doubled-preserved
loop-doubled-preserved c =
    let wanted = c.args.wanted.now in
    let order = c.args.order.now in
    let items = c.args.items.now in
    let full =
    subst (λ (found : Option FilledImage).
    MatchOption found (IsFullAt wanted order items c.loop-doubled.doubled)
    (λ filled. IsPutAt wanted order items c.loop-doubled.doubled filled.image.planned filled.list))
    c.in_default.is c.in_ok-filled.ensures.put in
    below_more (IsFullAt wanted order items) c.loop-doubled.doubled c.loop-doubled.invariant full

pub unreachable-requires : goal.unreachable-requires
unreachable-requires c =
    let full = c.loop-doubled.invariant 31 (omega (arith, c.loop-doubled-test.false)) in
    never-31 c.args.wanted.now full.planned full.image
