-- The blocks that are held stand before what is cut.
use Rattle.hfs_source.proofs.ReadingIn.{same-by, trimmed-block}
use Rattle.hfs_source.proofs.held.Held.trim.Goals as goal

pub returns-clause-same : goal.returns-clause-same
returns-clause-same c =
    same-by c.args.self.now.bytes.items c.truncate.new.self.items c.args.self.now.places.entries c.args.self.now.count c.requires.placed
    (trimmed-block c.args.self.now.bytes.items c.truncate.new.self.items c.args.self.now.count c.truncate.ensures.items)
