use Rattle.std.proofs.Common.{None}
use Rattle.hfs_shared_tests.proofs.closing.shared_again.Given as goal

-- the parts that were just made
abbrev pub ghosts-closed_after : goal.ghosts-closed_after
ghosts-closed_after g a = record { book = a.parts.book; base = a.parts.base; plan = None }
