-- Piece by piece.
use Rattle.std.proofs.Common.{◌*◌, Some, refl, arith, rules}
use Rattle.sha2.specs.Hashers.{Holds256}
use Rattle.hfs_word_take.proofs.DigestLemmas.{more-added}
use Rattle.hfs_word_take.proofs.digest.add_all.Goals as goal

pub loop-place-preserved : goal.loop-place-preserved
loop-place-preserved g c =
    let before = c.loop-place.invariant in
    let at = before.at c.loop-place-test.true in
    let one = c.in_ok-place.ensures in
    record {
      few = omega (arith, before.few, one.few);
      at = λ below. omega (arith, at, one.whole (omega (arith, below)), c.in_ok-first.ensures);
      each = λ image h. more-added (Some image) (Some image) refl c.loop-place.place (512 * c.loop-place.first) c.in_ok-place.field-0 _ at refl
          (Holds256 c.loop-place.digest) (Holds256 c.add_piece.new.digest) (before.each image (one.narrows image h)) (one.each image h);
      narrows = λ image h. before.narrows image (one.narrows image h);
      room = search rules;
    }
