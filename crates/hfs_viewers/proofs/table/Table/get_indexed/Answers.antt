use Rattle.std.proofs.Common.{◌∙◌, sym}
use Rattle.hfs_viewers.specs.Tables.{items_of}
use Rattle.hfs_viewers.proofs.LookedUp.{below_next}
use Rattle.hfs_viewers.proofs.table.Table.get_indexed.Goals as goal

pub info_at-requires-clause-below : goal.info_at-requires-clause-below
info_at-requires-clause-below c = below_next (items_of c.args.self.now) c.args.self.now.next_id c.args.dir c.next_id-next.ensures.small c.requires.lawful (sym c.is_folder.ensures ∙ c.if-not-is_folder.false)
