-- The first bytes of a block more came.
use Rattle.std.proofs.Common.{true, rules, ◌≡◌, ◌-◌, min, refl}
use Rattle.hfs_remains_forks.specs.ForkBytes.{fork_bytes}
use Rattle.hfs_remains_forks.proofs.ForkByteLemmas.{fork_more}
use Rattle.hfs_bag.specs.Forks.{pieces_bytes}
use Rattle.hfs_rescue_items.proofs.pieces.pieces_of.Goals as goal

pub loop-place-preserved : goal.loop-place-preserved
loop-place-preserved c image =
    let first : c.min-count.result ≡ min c.loop-place.left c.args.mdb.now.allocation_block_size = search rules in
    fork_more image c.args.mdb.now (fork_bytes image c.args.mdb.now c.args.length c.args.places.now) c.args.places.now (pieces_bytes true image c.loop-place.pieces.items)
    (pieces_bytes true image c.push_place.new.pieces.items) c.loop-place.left c.min-count.result (c.loop-place.left - c.min-count.result) c.loop-place.place-index _ _ c.loop-place-test.true refl
    (c.loop-place.invariant image) first (c.in_ok-push_place.ensures.bytes image) refl
