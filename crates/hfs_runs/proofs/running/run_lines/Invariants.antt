use Rattle.hfs_runs.specs.Jobs.{plan_of}
use Rattle.hfs_runs.proofs.running.run_lines.Given as goal

-- the parts that were just made, and the calls of the lines
abbrev pub ghosts-run_shared : goal.ghosts-run_shared
ghosts-run_shared g a = record { book = a.parts.book; base = a.parts.base; plan = plan_of a.script }
