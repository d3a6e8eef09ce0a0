-- The extents that the fork had, those that it comes to have, and its records.
use Rattle.std.proofs.Common.{◌≡◌, ℕ, ◌-◌, ◌/◌, List, length, take, sym, ap, ◌∙◌, refl, subst, arith}
use Rattle.hfs_fields.specs.declared.extent.Extent.{Extent}
use Rattle.hfs_space.specs.Extents.{fork_byte, fork_extents}
use Rattle.hfs_space.specs.TreeKeys.{overflow_of}
use Rattle.hfs_record_edits.specs.Need.{HasNodesFor}
use Rattle.hfs_record_edits.specs.Whole.{HasExtents}
use Rattle.hfs_record_edits.specs.Growing.{grown}
use Rattle.hfs_record_edits.proofs.TreeEdits.{edits-then}
use Rattle.hfs_record_edits.proofs.WholeLemmas.{es-long, es-some, es-few, es-threes, es-last, es-coming, es-small, has-grown}
use Rattle.hfs_record_edits.proofs.growing.lengthen_fork.Goals as goal

pub overflow_sub-coming : goal.overflow_sub-coming
overflow_sub-coming g c =
    let old = g.S.Nodes.nodes c.args.nodes.now in
    let k = fork_byte c.args.fork in
    let all = fork_extents (overflow_of old) c.args.file k c.args.first.now in
    let had = c.in_ok-extents.ensures in
    let is = c.in_ok-lengthen.ensures.extents ∙ ap (λ (l : List Extent). grown l c.args.pieces.now) had in
    let so : c.len-places.result ≡ length all = (let l = ap (λ (es : List Extent). length es) had in omega (arith, c.len-places.ensures, c.in_ok-extents.extents.ok.0, l)) in
    let long = es-long c.args.file k c.args.first.now c.args.pieces.now all c.lengthen.new.extents.items c.len-places.result old c.told-first (record { whole = c.requires.whole; extents = refl }) c.requires.some c.requires.few is so in
    omega (arith, long, c.len.ensures, c.lengthen.new.extents.ok.0)

pub overflow_cast-coming : goal.overflow_cast-coming
overflow_cast-coming g c =
    let old = g.S.Nodes.nodes c.args.nodes.now in
    let k = fork_byte c.args.fork in
    let all = fork_extents (overflow_of old) c.args.file k c.args.first.now in
    let had = c.in_ok-extents.ensures in
    let is = c.in_ok-lengthen.ensures.extents ∙ ap (λ (l : List Extent). grown l c.args.pieces.now) had in
    let so : c.len-places.result ≡ length all = (let l = ap (λ (es : List Extent). length es) had in omega (arith, c.len-places.ensures, c.in_ok-extents.extents.ok.0, l)) in
    let small = es-small c.args.file k c.args.first.now c.args.pieces.now all c.lengthen.new.extents.items c.len-places.result old c.told-first (record { whole = c.requires.whole; extents = refl }) c.requires.some c.requires.few is so in
    let count : c.len.result ≡ length c.lengthen.new.extents.items = omega (arith, c.len.ensures, c.lengthen.new.extents.ok.0) in
    let same = ap (λ (n : ℕ). (n - c.len-places.result) / 3) count in
    record { fits = omega (arith, small, same) }

pub settle_last-requires-clause-some : goal.settle_last-requires-clause-some
settle_last-requires-clause-some g c =
    let old = g.S.Nodes.nodes c.args.nodes.now in
    let k = fork_byte c.args.fork in
    let all = fork_extents (overflow_of old) c.args.file k c.args.first.now in
    let had = c.in_ok-extents.ensures in
    let is = c.in_ok-lengthen.ensures.extents ∙ ap (λ (l : List Extent). grown l c.args.pieces.now) had in
    let so : c.len-places.result ≡ length all = (let l = ap (λ (es : List Extent). length es) had in omega (arith, c.len-places.ensures, c.in_ok-extents.extents.ok.0, l)) in
    es-some c.args.file k c.args.first.now c.args.pieces.now all c.lengthen.new.extents.items c.len-places.result old c.told-first (record { whole = c.requires.whole; extents = refl }) c.requires.some c.requires.few is so

pub settle_last-requires-clause-within : goal.settle_last-requires-clause-within
settle_last-requires-clause-within g c =
    let old = g.S.Nodes.nodes c.args.nodes.now in
    let k = fork_byte c.args.fork in
    let all = fork_extents (overflow_of old) c.args.file k c.args.first.now in
    let had = c.in_ok-extents.ensures in
    let is = c.deref.ensures.value ∙ c.in_ok-lengthen.ensures.extents ∙ ap (λ (l : List Extent). grown l c.args.pieces.now) had in
    let so : c.len-places.result ≡ length all = (let l = ap (λ (es : List Extent). length es) had in omega (arith, c.len-places.ensures, c.in_ok-extents.extents.ok.0, l)) in
    es-long c.args.file k c.args.first.now c.args.pieces.now all c.deref.result.now c.len-places.result old c.told-first (record { whole = c.requires.whole; extents = refl }) c.requires.some c.requires.few is so

pub settle_last-requires-clause-last : goal.settle_last-requires-clause-last
settle_last-requires-clause-last g c =
    let old = g.S.Nodes.nodes c.args.nodes.now in
    let k = fork_byte c.args.fork in
    let all = fork_extents (overflow_of old) c.args.file k c.args.first.now in
    let had = c.in_ok-extents.ensures in
    let is = c.deref.ensures.value ∙ c.in_ok-lengthen.ensures.extents ∙ ap (λ (l : List Extent). grown l c.args.pieces.now) had in
    let so : c.len-places.result ≡ length all = (let l = ap (λ (es : List Extent). length es) had in omega (arith, c.len-places.ensures, c.in_ok-extents.extents.ok.0, l)) in
    es-last c.args.file k c.args.first.now c.args.pieces.now all c.deref.result.now c.len-places.result old c.told-first (record { whole = c.requires.whole; extents = refl }) c.requires.some c.requires.few is so

pub add_records-requires-clause-some : goal.add_records-requires-clause-some
add_records-requires-clause-some g c =
    let old = g.S.Nodes.nodes c.args.nodes.now in
    let k = fork_byte c.args.fork in
    let all = fork_extents (overflow_of old) c.args.file k c.args.first.now in
    let had = c.in_ok-extents.ensures in
    let is = c.in_ok-lengthen.ensures.extents ∙ ap (λ (l : List Extent). grown l c.args.pieces.now) had in
    let so : c.len-places.result ≡ length all = (let l = ap (λ (es : List Extent). length es) had in omega (arith, c.len-places.ensures, c.in_ok-extents.extents.ok.0, l)) in
    es-some c.args.file k c.args.first.now c.args.pieces.now all c.lengthen.new.extents.items c.len-places.result old c.told-first (record { whole = c.requires.whole; extents = refl }) c.requires.some c.requires.few is so

pub add_records-requires-clause-within : goal.add_records-requires-clause-within
add_records-requires-clause-within g c =
    let old = g.S.Nodes.nodes c.args.nodes.now in
    let k = fork_byte c.args.fork in
    let all = fork_extents (overflow_of old) c.args.file k c.args.first.now in
    let had = c.in_ok-extents.ensures in
    let is = c.deref-2.ensures.value ∙ c.in_ok-lengthen.ensures.extents ∙ ap (λ (l : List Extent). grown l c.args.pieces.now) had in
    let so : c.len-places.result ≡ length all = (let l = ap (λ (es : List Extent). length es) had in omega (arith, c.len-places.ensures, c.in_ok-extents.extents.ok.0, l)) in
    es-long c.args.file k c.args.first.now c.args.pieces.now all c.deref-2.result.now c.len-places.result old c.told-first (record { whole = c.requires.whole; extents = refl }) c.requires.some c.requires.few is so

pub add_records-requires-clause-threes : goal.add_records-requires-clause-threes
add_records-requires-clause-threes g c =
    let old = g.S.Nodes.nodes c.args.nodes.now in
    let k = fork_byte c.args.fork in
    let all = fork_extents (overflow_of old) c.args.file k c.args.first.now in
    let had = c.in_ok-extents.ensures in
    let is = c.deref-2.ensures.value ∙ c.in_ok-lengthen.ensures.extents ∙ ap (λ (l : List Extent). grown l c.args.pieces.now) had in
    let so : c.len-places.result ≡ length all = (let l = ap (λ (es : List Extent). length es) had in omega (arith, c.len-places.ensures, c.in_ok-extents.extents.ok.0, l)) in
    es-threes c.args.file k c.args.first.now c.args.pieces.now all c.deref-2.result.now c.len-places.result old c.told-first (record { whole = c.requires.whole; extents = refl }) c.requires.some c.requires.few is so

pub add_records-requires-clause-few : goal.add_records-requires-clause-few
add_records-requires-clause-few g c =
    let old = g.S.Nodes.nodes c.args.nodes.now in
    let k = fork_byte c.args.fork in
    let all = fork_extents (overflow_of old) c.args.file k c.args.first.now in
    let had = c.in_ok-extents.ensures in
    let is = c.deref-2.ensures.value ∙ c.in_ok-lengthen.ensures.extents ∙ ap (λ (l : List Extent). grown l c.args.pieces.now) had in
    let so : c.len-places.result ≡ length all = (let l = ap (λ (es : List Extent). length es) had in omega (arith, c.len-places.ensures, c.in_ok-extents.extents.ok.0, l)) in
    es-few c.args.file k c.args.first.now c.args.pieces.now all c.deref-2.result.now c.len-places.result old c.told-first (record { whole = c.requires.whole; extents = refl }) c.requires.some c.requires.few is so

pub three_at-requires : goal.three_at-requires
three_at-requires g c =
    let old = g.S.Nodes.nodes c.args.nodes.now in
    let k = fork_byte c.args.fork in
    let all = fork_extents (overflow_of old) c.args.file k c.args.first.now in
    let had = c.in_ok-extents.ensures in
    let is = c.deref-3.ensures.value ∙ c.in_ok-lengthen.ensures.extents ∙ ap (λ (l : List Extent). grown l c.args.pieces.now) had in
    let so : c.len-places.result ≡ length all = (let l = ap (λ (es : List Extent). length es) had in omega (arith, c.len-places.ensures, c.in_ok-extents.extents.ok.0, l)) in
    let whole : HasExtents c.args.file k c.args.first.now all old = record { whole = c.requires.whole; extents = refl } in
    let some = es-some c.args.file k c.args.first.now c.args.pieces.now all c.deref-3.result.now c.len-places.result old c.told-first whole c.requires.some c.requires.few is so in
    let long = es-long c.args.file k c.args.first.now c.args.pieces.now all c.deref-3.result.now c.len-places.result old c.told-first whole c.requires.some c.requires.few is so in
    omega (arith, some, long)

pub returns-clause-grown : goal.returns-clause-grown
returns-clause-grown g c =
    let old = g.S.Nodes.nodes c.args.nodes.now in
    let mid = g.S.Nodes.nodes c.settle_last.new.nodes in
    let last = g.S.Nodes.nodes c.add_records.new.nodes in
    let k = fork_byte c.args.fork in
    let all = fork_extents (overflow_of old) c.args.file k c.args.first.now in
    let es = c.lengthen.new.extents.items in
    let had = c.in_ok-extents.ensures in
    let is = c.in_ok-lengthen.ensures.extents ∙ ap (λ (l : List Extent). grown l c.args.pieces.now) had in
    let so : c.len-places.result ≡ length all = (let l = ap (λ (e : List Extent). length e) had in omega (arith, c.len-places.ensures, c.in_ok-extents.extents.ok.0, l)) in
    let coming = es-coming c.args.file k c.args.first.now c.args.pieces.now all es c.len-places.result old c.told-first (record { whole = c.requires.whole; extents = refl }) c.requires.some c.requires.few is so in
    let count : c.len.result ≡ length es = omega (arith, c.len.ensures, c.lengthen.new.extents.ok.0) in
    let now : c.three_at.result ≡ take 3 es = c.three_at.ensures ∙ ap (take 3) c.deref-3.ensures.value in
    let has : HasExtents c.args.file k (take 3 es) es last = subst (λ (l : List Extent). HasExtents c.args.file k (take 3 l) l last) c.deref-2.ensures.value c.in_ok-add_records.ensures.has in
    has-grown c.args.file k c.args.first.now c.three_at.result c.args.pieces.now old last c.requires.whole c.requires.some
    (edits-then c.args.file k old mid last c.in_ok-settle_last.ensures.edits c.in_ok-add_records.ensures.edits)
    (subst (λ (l : List Extent). HasExtents c.args.file k c.three_at.result l last) is (subst (λ (l : List Extent). HasExtents c.args.file k l es last) (sym now) has))
    (subst (λ (n : ℕ). HasNodesFor n old) (ap (λ (n : ℕ). (n - c.len-places.result) / 3) count ∙ coming) c.in_default.ensures)
