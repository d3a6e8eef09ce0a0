-- the digest holds the bytes before the place, where the next block begins if there is one
use Rattle.std.proofs.Common.{◌≡◌, ◌*◌, ◌-◌, ◌<◌, ◌≤◌, length, take}
use Rattle.sha2.specs.Hashers.{Holds256}
use Rattle.hfs_source.specs.Images.{OfEach}
use Rattle.hfs_word_take.proofs.digest.add_all.Given as goal

abbrev pub invariant-loop-place : goal.invariant-loop-place
invariant-loop-place g l = record {
  few : l.place ≤ l.len;
  at : l.place < l.len → 512 * l.first ≡ l.place;
  each : OfEach (g.B.ImageBlocks.Holds l.image) (λ image. Holds256 l.digest (take l.place image));
  narrows : OfEach (g.B.ImageBlocks.Holds l.image) (g.B.ImageBlocks.Holds l.fn.image);
  room : length l.buffer ≡ 65536;
}

abbrev pub decreases-loop-place : goal.decreases-loop-place
decreases-loop-place g l = l.len - l.place
