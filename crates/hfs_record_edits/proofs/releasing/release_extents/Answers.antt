use Rattle.std.proofs.Common.{◌≡◌, ◌+◌, ◌≤◌, sym, subst, arith, get_or, take}
use Rattle.hfs_blocks.specs.Layers.{Numbered, changes, over, AreWithin}
use Rattle.hfs_fields.specs.declared.extent.Extent.{Extent}
use Rattle.hfs_record_edits.specs.Released.{HasReleasedOver}
use Rattle.hfs_record_edits.proofs.ReleasedMore.{released-none, next-released, next-empty}
use Rattle.hfs_record_edits.proofs.releasing.release_extents.Goals.{then-extent-gt0+in_ok-release, else-extent-gt0}
use Rattle.hfs_record_edits.proofs.releasing.release_extents.Goals as goal

pub loop-i-init : goal.loop-i-init
loop-i-init g c = record {
  released = released-none c.args.bitmap.now.start c.args.bitmap.now.count (over (changes c.args.patch.now) (g.B.Blocks.blocks c.args.bitmap.now.blocks.now));
  within = λ was. was;
}

pub returns-in_err-release-clause-within : goal.returns-in_err-release-clause-within
returns-in_err-release-clause-within g c = λ was. c.in_err-release.ensures.within (c.loop-i.invariant.within was)

pub loop-i-preserved : goal.loop-i-preserved
loop-i-preserved g c =
    let start = c.args.bitmap.now.start in
    let total = c.args.bitmap.now.count in
    let below = g.B.Blocks.blocks c.args.bitmap.now.blocks.now in
    let es = c.args.extents.now in
    let i = c.loop-i.i in
    let none : Extent = record { first = 0; count = 0 } in
    let e = get_or es i none in
    let old = over (changes c.args.patch.now) below in
    let mid = over (changes c.loop-i.patch) below in
    let Q = λ (p : Numbered). HasReleasedOver below start total (take (i + 1) es) c.args.patch.now p in
    let W = λ (p : Numbered). AreWithin (changes c.args.patch.now) (g.B.Blocks.total c.args.bitmap.now.blocks.now) → AreWithin (changes p) (g.B.Blocks.total c.args.bitmap.now.blocks.now) in
    elim c.if-extent-gt0.branch [
      | then-extent-gt0+in_ok-release w ↦
          let inside : e.first + e.count ≤ total = c.requires i none c.loop-i-test.true w.if-extent-gt0.true in
          let more = next-released start total es i c.loop-i-test.true old mid (over (changes w.release.new.patch) below) c.loop-i.invariant.released w.in_ok-release.ensures.cleared w.in_ok-release.ensures.others inside in
          record { released = subst Q (sym w.patch-is) more; within = subst W (sym w.patch-is) (λ was. w.in_ok-release.ensures.within (c.loop-i.invariant.within was)) }
      | else-extent-gt0 w ↦
          let not_some = w.if-extent-gt0.false in
          let empty : e.count ≡ 0 = omega (arith, not_some) in
          let more = next-empty start total es i c.loop-i-test.true old mid mid c.loop-i.invariant.released empty in
          record { released = subst Q (sym w.patch-is) more; within = subst W (sym w.patch-is) c.loop-i.invariant.within }
    ]
