use Rattle.std.proofs.Common.{◌∙◌}
use Rattle.hfs_shared.proofs.Growing.{opening_publishes}
use Rattle.hfs_shared.proofs.copies.open_writer.Goals as goal

pub publish_as-writer-requires : goal.publish_as-writer-requires
publish_as-writer-requires g c next is = let h = c.in-Ok.ensures in opening_publishes _ _ c.args.front.now _ next _ (h.0 ∙ c.in_ok-first.ensures) h.1 is
