use Rattle.std.proofs.Common.{◌≡◌, ap, ◌∙◌, subst, length}
use Rattle.std.specs.Prelude.{IfOk, All}
use Rattle.hfs_check.specs.VolumeOf.{volume_of}
use Rattle.hfs_shared.specs.Histories.{Known, known, opened}
use Rattle.hfs_shared.proofs.Growing.{pair_begun}
use Rattle.hfs_shared.proofs.copies.Copies.start.Goals as goal

pub invariant_of-copies : goal.invariant_of-copies
invariant_of-copies g c =
    let o = c.in_ok-writer.ensures in
    let same = c.seat_all-writer.ensures.writer in
    pair_begun _ _ _ _ c.open-front.ensures.book (ap (λ p. p.value) same.0 ∙ o.shows) (same.1 ∙ o.none)

pub returns-in-Ok-clause-viewers : goal.returns-in-Ok-clause-viewers
returns-in-Ok-clause-viewers g c =
    let f = c.open-front.result.0 in
    let seated = subst (λ r. IfOk r (λ v. (length v.items ≡ c.args.viewers) × All (λ (k : Known). k ≡ f) v.items)) c.in-Ok.is c.seat_all-writer.ensures.viewers in
    let is : f ≡ known f.book (opened (volume_of c.args.volume.now.current)) = λ i. known f.book (c.open-front.ensures.list i) in
    (seated.0, λ k d lt. seated.1 k d lt ∙ is)
