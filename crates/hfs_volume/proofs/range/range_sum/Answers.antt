-- Piece by piece.
use Rattle.std.proofs.Common.{◌≡◌, ℕ, ◌+◌, ◌/◌, ◌%◌, ◌≤◌, ◌++◌, length, take, drop, refl, arith, subst}
use Rattle.std.proofs.lemmas.List.{length-append, length-drop, length-take}
use Rattle.hfs_source.specs.Sums.{sum_from, sum_of}
use Rattle.hfs_source.specs.Images.{IsRangeOf}
use Rattle.hfs_volume.specs.InFile.{OfRangePiece}
use Rattle.hfs_volume.proofs.RangePieces.{range-narrows, sum-next, sum-none}
use Rattle.hfs_volume.proofs.WrittenLemmas.{fact-next, fact-all}
use Rattle.hfs_volume.proofs.range.range_sum.Goals as goal

pub loop-done-init : goal.loop-done-init
loop-done-init g c = record {
  few = omega arith;
  even = λ lt. refl;
  room = refl;
  sum = λ image held long. sum-none;
  narrows = λ file held. held;
}

pub loop-done-preserved : goal.loop-done-preserved
loop-done-preserved g c =
    let done = c.loop-done.done in
    let count = c.min-count.result in
    let range = c.args.range in
    let even : done % 512 ≡ 0 = c.loop-done.invariant.even c.loop-done-test.true in
    let fits : done + count ≤ range.len = omega (arith, c.min-count.ensures, c.loop-done.invariant.few) in
    let long : length (take count c.loop-done.buffer) ≡ count =
    omega (arith, c.min-count.ensures, length-take count c.loop-done.buffer, c.loop-done.invariant.room, c.requires.room) in
    let Held = g.S.PlacedBytes.Holds c.loop-done.source in
    let Holds = g.S.PlacedBytes.Holds c.sum_piece.new.source in
    let sum = c.loop-done.sum in
    let more = c.in_ok-sum.sum in
    record {
      few = fits;
      even = λ lt. omega (arith, lt, c.min-count.ensures, even);
      room = (let whole : length (c.sum_piece.new.piece ++ drop count c.loop-done.buffer) ≡ length c.args.buffer.now =
          omega (
            arith,
            length-append c.sum_piece.new.piece (drop count c.loop-done.buffer),
            length-drop count c.loop-done.buffer,
            c.in_ok-sum.ensures.room,
            long,
            c.min-count.ensures,
            c.loop-done.invariant.room,
            c.requires.room,
          ) in whole);
      sum = fact-next range.len c.args.changed.now done count (done / 512) refl even fits (λ lt. omega (arith, lt, c.min-count.ensures))
          c.requires.within
          (IsRangeOf Held range.start range.len) (IsRangeOf Holds range.start range.len)
          (range-narrows Holds Held range.start range.len c.in_ok-sum.ensures.narrows)
          (λ bytes. sum ≡ sum_from 0 bytes) (λ bytes. more ≡ sum_from sum bytes) (λ bytes. more ≡ sum_from 0 bytes)
          (λ bytes all before own. sum-next sum more done count bytes even (omega (arith, all, fits)) before own)
          c.loop-done.invariant.sum
          (subst (λ (n : ℕ). OfRangePiece Holds range c.args.changed.now (done / 512) n (λ bytes. more ≡ sum_from sum bytes))
          long c.in_ok-sum.ensures.sum);
      narrows = λ file held. c.loop-done.invariant.narrows file (c.in_ok-sum.ensures.narrows file held);
    }

pub returns-clause-sum : goal.returns-clause-sum
returns-clause-sum g c =
    fact-all (IsRangeOf (g.S.PlacedBytes.Holds c.loop-done.source) c.args.range.start c.args.range.len) c.args.range.len c.args.changed.now
    c.loop-done.done (λ bytes. c.loop-done.sum ≡ sum_of bytes) (omega (arith, c.loop-done-test.false)) c.requires.within c.loop-done.invariant.sum
