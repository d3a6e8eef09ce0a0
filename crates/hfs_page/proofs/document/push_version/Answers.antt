-- piece by piece
use Rattle.std.proofs.Common.{◌++◌}
use Rattle.std.specs.Prelude.{codes}
use Rattle.hfs_page.specs.Escapes.{escaped}
use Rattle.hfs_page.specs.Document.{version_text}
use Rattle.hfs_page.proofs.Joins.{joined, joined-ok}
use Rattle.hfs_page.proofs.document.push_version.Goals as goal

pub returns : goal.returns
unfolding version_text
returns c = joined-ok c.push_bytes-2.result _ _ _ ((codes "<footer>Printed by hfs_tool ") ++ (escaped c.args.version.now)) (codes "</footer>\n") (joined _ _ _ (codes "<footer>Printed by hfs_tool ") (escaped c.args.version.now) c.in_ok-push_bytes.ensures c.in_ok-push_escaped.ensures) c.push_bytes-2.ensures
