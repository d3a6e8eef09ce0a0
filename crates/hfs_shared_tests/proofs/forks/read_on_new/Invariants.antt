use Rattle.std.proofs.Common.{None}
use Rattle.hfs_shared_tests.proofs.forks.read_on_new.Given as goal

-- the parts that were just made
abbrev pub ghosts-read_and_closed : goal.ghosts-read_and_closed
ghosts-read_and_closed g a = record { book = a.parts.book; base = a.parts.base; plan = None }
