use Rattle.std.proofs.Common.{None}
use Rattle.hfs_shared_tests.proofs.passes.refused_on_new.Given as goal

-- the parts that were just made
abbrev pub ghosts-refused : goal.ghosts-refused
ghosts-refused g a = record { book = a.parts.book; base = a.parts.base; plan = None }
