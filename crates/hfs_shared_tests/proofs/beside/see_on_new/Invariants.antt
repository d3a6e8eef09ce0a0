use Rattle.std.proofs.Common.{None}
use Rattle.hfs_shared_tests.proofs.beside.see_on_new.Given as goal

-- the parts that were just made
abbrev pub ghosts-see : goal.ghosts-see
ghosts-see g a = record { book = a.parts.book; base = a.parts.base; plan = None }
