use Rattle.std.proofs.Common.{None}
use Rattle.hfs_shared_tests.proofs.telling.learned_on_new.Given as goal

-- the parts that were just made
abbrev pub ghosts-learned : goal.ghosts-learned
ghosts-learned g a = record { book = a.parts.book; base = a.parts.base; plan = None }
