use Rattle.std.proofs.Common.{None}
use Rattle.hfs_shared_tests.proofs.telling.shown_on_new.Given as goal

-- the parts that were just made
abbrev pub ghosts-shown_by_publish : goal.ghosts-shown_by_publish
ghosts-shown_by_publish g a = record { book = a.parts.book; base = a.parts.base; plan = None }
