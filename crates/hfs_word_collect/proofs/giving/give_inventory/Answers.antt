-- No row is left.
use Rattle.std.proofs.Common.{◌≡◌, ◌∙◌, false, rules}
use Rattle.hfs_word_collect.specs.Counts.{file_total}
use Rattle.hfs_word_collect.proofs.Counting.{files_all}
use Rattle.hfs_word_collect.proofs.FailingReads.{read_handed_on}
use Rattle.hfs_word_collect.proofs.giving.give_inventory.Goals as goal

pub returns-clause-counted : goal.returns-clause-counted
returns-clause-counted g c =
    let last : c.in_ok-give_next.field-0 ≡ false = search rules in
    files_all c.give_next.new.counts.files (file_total c.args.inventory.now.left) c.give_next.new.inventory.left (c.in_ok-give_next.ensures.counted ∙ c.loop.invariant.counted) (c.in_ok-give_next.ensures.ended last)

pub returns-in_err-give_next-clause-failed : goal.returns-in_err-give_next-clause-failed
returns-in_err-give_next-clause-failed g c =
    read_handed_on (g.S.PlacedBlocks.Holds c.give_next.new.image) (g.S.PlacedBlocks.Fails c.loop.image) (g.S.PlacedBlocks.Fails c.args.image.now)
    c.from_residual.result c.in_err-give_next.field-0.0 c.loop.invariant.later c.from_residual.ensures.1 c.in_err-give_next.ensures.failed
