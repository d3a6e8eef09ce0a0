-- Line by line.
use Rattle.std.proofs.Common.{subst}
use Rattle.hfs_fields.specs.declared.file_record.FileRecord.{FileRecord}
use Rattle.hfs_check.specs.Parts.{catalog_in}
use Rattle.hfs_scripts.specs.declared.lines.ScriptLine.{ScriptLine}
use Rattle.hfs_runs.specs.NamedForks.{AreAmong, OfNamed, blocks_of_runs, file_blocks}
use Rattle.hfs_source.specs.Sparse.{sparse}
use Rattle.hfs_runs.proofs.ForkPlaces.{named-next}
use Rattle.hfs_runs.proofs.forks.named_forks.Goals as goal

pub loop-line-preserved : goal.loop-line-preserved
loop-line-preserved c = record {
  within = c.in_ok-push_named.ensures.within c.loop-line.invariant.within;
  named = named-next (sparse c.args.working.now.read) c.args.lines.now c.loop-line.line-index c.line-item.result c.loop-line.runs.items c.push_named.new.runs.items
      c.loop-line-test.true c.in_ok-push_named.ensures.gained c.loop-line.invariant.named
      (subst (λ (line : ScriptLine). OfNamed (catalog_in (sparse c.args.working.now.read))
      (λ (file : FileRecord). AreAmong (file_blocks (sparse c.args.working.now.read) file) (blocks_of_runs c.push_named.new.runs.items)) line.call) c.line-item.is
      c.in_ok-push_named.ensures.forks);
  met = c.in_ok-push_named.ensures.met;
}
