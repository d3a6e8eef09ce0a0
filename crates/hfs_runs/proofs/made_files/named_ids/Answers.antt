-- Line by line.
use Rattle.std.proofs.Common.{subst}
use Rattle.hfs_check.specs.Parts.{catalog_in}
use Rattle.hfs_scripts.specs.declared.lines.ScriptLine.{ScriptLine}
use Rattle.hfs_source.specs.Sparse.{sparse}
use Rattle.hfs_runs.specs.NamedForks.{GainsIdOf}
use Rattle.hfs_runs.proofs.MadeFiles.{ids-next}
use Rattle.hfs_runs.proofs.made_files.named_ids.Goals as goal

pub loop-line-preserved : goal.loop-line-preserved
loop-line-preserved c =
    ids-next (catalog_in (sparse c.args.read.now)) c.args.lines.now c.loop-line.line-index c.line-item.result c.loop-line.ids.entries c.push_id.new.ids.entries
    c.loop-line-test.true c.loop-line.invariant
    (subst (λ (line : ScriptLine). GainsIdOf (catalog_in (sparse c.args.read.now)) line.call c.loop-line.ids.entries c.push_id.new.ids.entries) c.line-item.is
    c.in_ok-push_id.ensures)
