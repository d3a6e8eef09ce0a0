-- The extents that the fork had, those that are left, and its records.
use Rattle.std.proofs.Common.{◌≡◌, ℕ, ◌+◌, ◌*◌, ◌≤◌, List, length, take, drop, sym, ap, ◌∙◌, refl, subst, arith}
use Rattle.hfs_fields.specs.declared.extent.Extent.{Extent}
use Rattle.hfs_space.specs.Extents.{AreExtentsWithin, fork_byte, fork_extents}
use Rattle.hfs_space.specs.TreeKeys.{overflow_of}
use Rattle.hfs_record_edits.specs.Cuts.{cut, surplus}
use Rattle.hfs_record_edits.specs.Threes.{AreThrees, AreLeft}
use Rattle.hfs_record_edits.specs.Whole.{HasExtents, LastMayChange}
use Rattle.hfs_record_edits.proofs.ShortLemmas.{length-cut, may-change, shortened}
use Rattle.hfs_record_edits.proofs.TreeEdits.{edits-then}
use Rattle.hfs_record_edits.proofs.WholeLemmas.{whole-some, whole-threes}
use Rattle.hfs_record_edits.proofs.shortening.shorten_fork.Goals as goal

pub threes_left-requires-clause-some : goal.threes_left-requires-clause-some
threes_left-requires-clause-some g c =
    let old = g.S.Nodes.nodes c.args.nodes.now in
    let k = fork_byte c.args.fork in
    let all = fork_extents (overflow_of old) c.args.file k c.args.first.now in
    subst (λ (l : List Extent). 3 ≤ length l) (sym (c.deref-2.ensures.value ∙ c.in_ok-extents.ensures)) (whole-some c.args.file k c.args.first.now all old c.told-first (record { whole = c.requires.whole; extents = refl }))

pub threes_left-requires-clause-threes : goal.threes_left-requires-clause-threes
threes_left-requires-clause-threes g c =
    let old = g.S.Nodes.nodes c.args.nodes.now in
    let k = fork_byte c.args.fork in
    let all = fork_extents (overflow_of old) c.args.file k c.args.first.now in
    subst (λ (l : List Extent). AreThrees (drop 3 l)) (sym (c.deref-2.ensures.value ∙ c.in_ok-extents.ensures)) (whole-threes c.args.file k c.args.first.now all old c.told-first (record { whole = c.requires.whole; extents = refl }))

pub settle_last-requires-clause-within : goal.settle_last-requires-clause-within
settle_last-requires-clause-within g c =
    let was = ap (λ (l : List Extent). length l) c.deref-2.ensures.value in
    let is = ap (λ (l : List Extent). length l) (c.deref-3.ensures.value ∙ c.cut_all.ensures) in
    let same = length-cut c.from-3.result c.in_ok-extents.extents.items in
    let within = c.threes_left.ensures.within in
    omega (arith, was, is, same, within)

pub settle_last-requires-clause-last : goal.settle_last-requires-clause-last
settle_last-requires-clause-last g c =
    let old = g.S.Nodes.nodes c.args.nodes.now in
    let mid = g.S.Nodes.nodes c.cut_records.new.nodes in
    let k = fork_byte c.args.fork in
    let all = fork_extents (overflow_of old) c.args.file k c.args.first.now in
    let t = c.threes_left.result in
    let n = c.args.count in
    let left : AreLeft n all t = subst (λ (l : List Extent). AreLeft n l t) (c.deref-2.ensures.value ∙ c.in_ok-extents.ensures) (subst (λ (m : ℕ). AreLeft m c.deref-2.result.now t) c.from-2.ensures c.threes_left.ensures) in
    let is : c.deref-3.result.now ≡ cut n all = c.deref-3.ensures.value ∙ c.cut_all.ensures ∙ (λ i. cut (c.from-3.ensures i) (c.in_ok-extents.ensures i)) in
    subst (λ (l : List Extent). LastMayChange c.args.file k c.args.first.now l (3 * t + 3) mid) (sym is)
    (may-change c.args.file k c.args.first.now all n t old c.told-first (record { whole = c.requires.whole; extents = refl }) left mid c.in_ok-cut_records.ensures.own c.requires.few)

pub three_at-requires : goal.three_at-requires
three_at-requires g c =
    let was = ap (λ (l : List Extent). length l) c.deref-2.ensures.value in
    let is = ap (λ (l : List Extent). length l) (c.deref-4.ensures.value ∙ c.cut_all.ensures) in
    let same = length-cut c.from-3.result c.in_ok-extents.extents.items in
    let within = c.threes_left.ensures.within in
    omega (arith, was, is, same, within)

pub returns-clause-short : goal.returns-clause-short
returns-clause-short g c =
    let old = g.S.Nodes.nodes c.args.nodes.now in
    let mid = g.S.Nodes.nodes c.cut_records.new.nodes in
    let new = g.S.Nodes.nodes c.settle_last.new.nodes in
    let k = fork_byte c.args.fork in
    let all = fork_extents (overflow_of old) c.args.file k c.args.first.now in
    let t = c.threes_left.result in
    let n = c.args.count in
    let had = c.in_ok-extents.ensures in
    let left : AreLeft n all t = subst (λ (l : List Extent). AreLeft n l t) (c.deref-2.ensures.value ∙ had) (subst (λ (m : ℕ). AreLeft m c.deref-2.result.now t) c.from-2.ensures c.threes_left.ensures) in
    let made : c.cut_all.new.extents.items ≡ cut n all = c.cut_all.ensures ∙ (λ i. cut (c.from-3.ensures i) (had i)) in
    let more = c.in_ok-cut_records.ensures.shrunk.free in
    let same = c.in_ok-settle_last.ensures.room.free in
    shortened c.args.file k c.args.first.now n t (record { first = c.three_at.result; surplus = c.in_ok-lost.lost }) old mid new c.told-first (record { whole = c.requires.whole; extents = refl }) left
    (edits-then c.args.file k old mid new c.in_ok-cut_records.ensures.edits c.in_ok-settle_last.ensures.edits) (omega (arith, more, same))
    (subst (λ (l : List Extent). HasExtents c.args.file k (take 3 l) (take (3 * t + 3) l) new) (c.deref-3.ensures.value ∙ made) c.in_ok-settle_last.ensures.has)
    (c.three_at.ensures ∙ ap (take 3) (c.deref-4.ensures.value ∙ made))
    (c.in_ok-lost.ensures.extents ∙ (λ i. surplus (c.from.ensures i) ((c.deref.ensures.value ∙ had) i)))
    (λ m within. c.in_ok-lost.ensures.within m (subst (λ (l : List Extent). AreExtentsWithin m l) (sym (c.deref.ensures.value ∙ had)) within))
