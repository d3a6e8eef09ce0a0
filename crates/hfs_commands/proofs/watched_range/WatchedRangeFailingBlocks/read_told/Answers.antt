-- A block's place is its number times 512.
use Rattle.std.proofs.Common.{◌≡◌, ℕ, ◌*◌, OnOk, subst, arith}
use Rattle.hfs_source.specs.Images.{HasAt, IsRangeOf, OfEach}
use Rattle.hfs_commands.proofs.watched_range.WatchedRangeFailingBlocks.read_told.Goals as goal

pub returns-clause-seen : goal.returns-clause-seen
returns-clause-seen g c =
    let now = c.read_at.new.self in
    let at : c.from.result * 512 ≡ 512 * c.args.first = omega (arith, c.from.ensures) in
    let Holds = IsRangeOf (g.S.PlacedBytes.Holds now.bytes) now.start now.len in
    subst (λ (place : ℕ). OnOk c.read_at.result (OfEach Holds (HasAt place c.read_at.new.into))) at c.read_at.ensures.read
