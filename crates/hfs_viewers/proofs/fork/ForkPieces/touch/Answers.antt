-- The base's fork is one piece.
use Rattle.std.proofs.Common.{refl}
use Rattle.hfs_viewers.proofs.EditedPieces.{first-piece}
use Rattle.hfs_viewers.proofs.fork.ForkPieces.touch.Goals as goal

pub returns-clause-ok : goal.returns-clause-ok
returns-clause-ok c = first-piece c.args.self.now _ c.requires c.if-self.false refl refl c.in_ok-push.ensures.ok
