-- What two images agree on gives a fork the same blocks, findings and bytes.
use Rattle.std.proofs.Common.{◌≡◌, ℕ, zero, suc, ◌+◌, ◌*◌, ◌/◌, ◌&&◌, if◌then◌else◌, List, [], ◌∷◌, ◌++◌, map, take, length, replicate, Some, None, refl, ap, ◌∙◌, arith}
use Rattle.std.specs.Prelude.{nat_lt, nat_le, min}
use Rattle.std.specs.Int.{div_ceil}
use Rattle.std.specs.List.{flat_map}
use Rattle.hfs_fields.specs.declared.mdb.Mdb.{Mdb}
use Rattle.hfs_space.specs.Extents.{Overflow, extent_blocks}
use Rattle.hfs_remains.specs.Allocation.{is_there}
use Rattle.hfs_remains.specs.TreeFiles.{FileBlocks}
use Rattle.hfs_remains.specs.declared.catalog.FoundRecord.{FoundRecord}
use Rattle.hfs_remains_places.specs.Laws.{AreItems}
use Rattle.hfs_remains_forks.specs.declared.forks.Fork.{Fork}
use Rattle.hfs_remains_forks.specs.Records.{thing_of}
use Rattle.hfs_remains_forks.specs.Forks.{blocks_for, fork_blocks, there, fork_places, fork_length, missing_in}
use Rattle.hfs_remains_forks.specs.ForkBytes.{place_bytes}
use Rattle.hfs_remains_forks.specs.Laws.{AgreeOnBlocks, AgreeOnFork, AgreeOnBytes, IsSameFork, ForksAreTheirBlocks, taken_bytes}

module _ (total : ℕ) (one other : Mdb) (blocks : AgreeOnBlocks one other) where
  there-same : (b : ℕ) → there total one b ≡ there total other b
  unfolding is_there
  there-same b = λ i. if nat_lt b (blocks.count i) && nat_le (blocks.start i + (b + 1) * (blocks.size i / 512)) total then Some b else None

  module _ (first second : List ℕ) where
    -- the bytes of the same blocks
    bytes-same : (places : FileBlocks) → AgreeOnBytes first second one other places → flat_map (place_bytes first one) places ≡ flat_map (place_bytes second other) places
    unfolding place_bytes
    bytes-same [] same = refl
    bytes-same (None ∷ places) same =
        let rest = bytes-same places (λ i b at. same (suc i) b at) in
        λ i. replicate (blocks.size i) 0 ++ rest i
    bytes-same (Some b ∷ places) same =
        let rest = bytes-same places (λ i c at. same (suc i) c at) in
        let here = same 0 b refl in
        λ i. here i ++ rest i

  module _ (records others : Overflow) (fork second : Fork) (same : AgreeOnFork records others one other fork second) where
    wanted-same : blocks_for one fork.len ≡ blocks_for other second.len
    wanted-same = λ i. div_ceil (same.len i) (blocks.size i)

    blocks-same : fork_blocks records one fork ≡ fork_blocks others other second
    unfolding fork_blocks
    blocks-same = λ i. take (wanted-same i) (extent_blocks (same.extents i))

    places-same : fork_places total records one fork ≡ fork_places total others other second
    unfolding fork_places
    places-same = λ i. map (λ b. there-same b i) (blocks-same i)

    length-same : fork_length records one fork ≡ fork_length others other second
    unfolding fork_length
    length-same = λ i. min (same.len i) (length (blocks-same i) * blocks.size i)

    taken-same : (first later : List ℕ) → AgreeOnBytes first later one other (fork_places total records one fork)
        → taken_bytes total first records one fork ≡ taken_bytes total later others other second
    taken-same first later bytes =
        ap (take (fork_length records one fork)) (bytes-same first later (fork_places total records one fork) bytes)
        ∙ (λ i. take (length-same i) (flat_map (place_bytes later other) (places-same i)))

    pub fork-same : IsSameFork total records others one other fork second
    fork-same = record {
      places = places-same;
      len = length-same;
      cut = λ used later. λ i. if nat_lt (length-same i) (same.len i) then Some (length-same i) else None;
      missing = λ used later. λ i. missing_in (blocks.size i) (length-same i) (places-same i);
      bytes = taken-same;
    }

pub forks-same : ForksAreTheirBlocks
forks-same total records others one other fork second blocks same = fork-same total one other blocks records others fork second same

-- items aren't folders that only a thread names
pub are-items : (items : List FoundRecord) → AreItems (map thing_of items)
are-items [] i within = absurd (omega (arith, within))
are-items (item ∷ items) zero within = refl
are-items (item ∷ items) (suc i) within = are-items items i (omega (arith, within))
