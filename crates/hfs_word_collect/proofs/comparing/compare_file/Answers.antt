-- What the database has of the path decides how the file stands to it.
use Rattle.std.proofs.Common.{subst, Option}
use Rattle.sqlite.specs.Held.{state}
use Rattle.hfs_database.specs.Asking.{IsKnown}
use Rattle.hfs_database.specs.declared.comparing.KnownImage.{KnownImage}
use Rattle.hfs_word_collect.proofs.Comparisons.{compared_known}
use Rattle.hfs_word_collect.proofs.comparing.compare_file.Goals as goal

pub returns-in-Some-clause-compared : goal.returns-in-Some-clause-compared
returns-in-Some-clause-compared g c =
    compared_known c.compare_known.result (g.S.PlacedBytes.Holds c.compare_known.new.source) (state g.D.Store c.args.collection.now.conn)
    (state g.D.Store c.known_image.new.collection.conn) c.args.path.now c.in-Some.known
    (subst (λ (row : Option KnownImage). IsKnown (state g.D.Store c.args.collection.now.conn) (state g.D.Store c.known_image.new.collection.conn) c.args.path.now row) c.in-Some.is c.in_ok-known.ensures.known)
    c.compare_known.ensures.compared
