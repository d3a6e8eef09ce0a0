use Rattle.std.proofs.Common.{refl, ◌∙◌}
use Rattle.hfs_viewers.proofs.Created.{no_extents}
use Rattle.hfs_viewers.proofs.edits.no_fork.Goals as goal

pub returns-clause-within : goal.returns-clause-within
returns-clause-within c mdb = no_extents mdb _ (c.new-extents.ensures ∙ c.new.ensures.items) c.untouched-pieces.ensures.base_len c.untouched-pieces.ensures.pieces
