use Rattle.std.proofs.Common.{None}
use Rattle.hfs_refused_memory.proofs.working.works_as_said.Given as goal

-- the parts that were just made
abbrev pub ghosts-run_all : goal.ghosts-run_all
ghosts-run_all g a = record { book = a.parts.book; base = a.parts.base; plan = None }
