-- one more block
use Rattle.std.proofs.Common.{false}
use Rattle.hfs_page.specs.Uses.{unowned}
use Rattle.hfs_remains_page.proofs.PieceLemmas.{uses_more}
use Rattle.hfs_remains_page.proofs.pictures.no_uses.Goals as goal

pub loop-block-preserved : goal.loop-block-preserved
loop-block-preserved c =
    uses_more (unowned false) c.loop-block._block c.loop-block.uses.items c.push.new.self.items c.loop-block.invariant c.in_ok-push.ensures.items
