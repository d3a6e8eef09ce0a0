-- The first blocks were read.
use Rattle.std.specs.Prelude.{◌≡◌, ℕ, ◌+◌, ◌-◌, ◌<◌, ◌≤◌, IsSome}
use Rattle.hfs_blocks.specs.Layers.{changes, AreWithin}
use Rattle.hfs_source.specs.Sparse.{HasGrown, StaysOf}
use Rattle.hfs_source.specs.Seen.{SeesMore}
use Rattle.hfs_source.proofs.fetching.fetch_range.Given as goal

abbrev pub invariant-loop-left : goal.invariant-loop-left
invariant-loop-left g l = record {
  few : l.left ≤ l.count;
  has : (k : ℕ) → k < l.count - l.left → IsSome (changes l.read (l.first + k));
  grown : HasGrown l.initial.read l.read;
  stays : StaysOf (g.S.BlockSource.image l.initial.source) l.initial.read l.read;
  within : (total : ℕ) → l.first + l.count ≤ total → AreWithin (changes l.initial.read) total → AreWithin (changes l.read) total;
  image : g.S.BlockSource.image l.source ≡ g.S.BlockSource.image l.initial.source;
  sees : SeesMore (g.S.BlockSource.Holds l.initial.source) (g.S.BlockSource.Holds l.source) l.initial.read l.read;
}

abbrev pub decreases-loop-left : goal.decreases-loop-left
decreases-loop-left g l = l.left
