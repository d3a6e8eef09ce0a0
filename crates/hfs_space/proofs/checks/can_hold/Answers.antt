use Rattle.std.proofs.Common.{◌∙◌}
use Rattle.hfs_space.proofs.Rooms.{holds-inside, holds-outside}
use Rattle.hfs_space.proofs.checks.can_hold.Goals as goal

pub returns-then-are_within : goal.returns-then-are_within
returns-then-are_within c = holds-inside c.args.mdb.now c.args.extents.now c.args.bytes c.are_within.result c.have_room.result c.are_within.ensures c.if-are_within.true c.have_room.ensures

pub returns-else-are_within : goal.returns-else-are_within
returns-else-are_within c = c.if-are_within.false ∙ holds-outside c.args.mdb.now c.args.extents.now c.args.bytes c.are_within.result c.are_within.ensures c.if-are_within.false
