-- One more piece.
use Rattle.std.proofs.Common.{◌≡◌, ℕ, ◌+◌, ◌<◌, List, drop, get_or, sym, ap, ◌∙◌, subst, arith}
use Rattle.hfs_fields.specs.declared.extent.Extent.{Extent}
use Rattle.hfs_space.specs.Extents.{extent_blocks}
use Rattle.hfs_record_edits.specs.Lengthened as spec
use Rattle.hfs_record_edits.proofs.AddLemmas.{AreUsedTo, used_places-used, piece-used, lengthened-blocks, lengthened-next, lengthened-end}
use Rattle.hfs_record_edits.proofs.lengthening.lengthen.Goals as goal

pub loop-i-init : goal.loop-i-init
loop-i-init c =
    let old = c.args.extents.now.items in
    let used : c.used_places-used.result ≡ spec.used_places old = c.used_places-used.ensures ∙ ap (λ (es : List Extent). spec.used_places es) c.deref.ensures.value in
    record {
      few = omega arith;
      to = subst (λ (k : ℕ). AreUsedTo old k) (sym used) (used_places-used old);
      more = λ t. spec.lengthened old (used t) c.args.pieces.now;
    }

pub loop-i-preserved : goal.loop-i-preserved
loop-i-preserved c =
    let i = c.loop-i.i in
    let es = c.loop-i.extents.items in
    let used = c.loop-i.used in
    let piece = get_or c.args.pieces.now i spec.none in
    let some : 0 < piece.count = c.requires.some i spec.none c.loop-i-test.true in
    let made = c.in_ok-used.ensures.extents in
    let now = c.in_ok-used.ensures.used in
    record {
      few = omega (arith, c.loop-i-test.true);
      to = subst (λ (l : List Extent). AreUsedTo l c.in_ok-used.used) (sym made)
          (subst (λ (k : ℕ). AreUsedTo (spec.with_piece es used piece) k) (sym now) (piece-used es used piece c.loop-i.invariant.to some));
      more = (λ t. spec.lengthened (made t) (now t) (drop (i + 1) c.args.pieces.now)) ∙ lengthened-next c.args.pieces.now i spec.none es used c.loop-i-test.true ∙ c.loop-i.invariant.more;
    }

pub returns-clause-blocks : goal.returns-clause-blocks
returns-clause-blocks c =
    let old = c.args.extents.now.items in
    ap (λ (l : List Extent). extent_blocks l)
    (sym (lengthened-end c.args.pieces.now c.loop-i.i c.loop-i.extents.items c.loop-i.used (omega (arith, c.loop-i-test.false))) ∙ c.loop-i.invariant.more)
    ∙ lengthened-blocks c.args.pieces.now old (spec.used_places old) (used_places-used old) c.requires.some
