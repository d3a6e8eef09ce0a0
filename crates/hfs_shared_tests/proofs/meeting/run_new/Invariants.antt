use Rattle.std.proofs.Common.{None}
use Rattle.hfs_shared_tests.proofs.meeting.run_new.Given as goal

-- the parts that were just made
abbrev pub ghosts-run_parts : goal.ghosts-run_parts
ghosts-run_parts g a = record { book = a.parts.book; base = a.parts.base; plan = None }
