use Rattle.std.proofs.Common.{None}
use Rattle.hfs_refused_memory.proofs.showing.shows_as_said.Given as goal

-- the parts that were just made
abbrev pub ghosts-show_all : goal.ghosts-show_all
ghosts-show_all g a = record { book = a.parts.book; base = a.parts.base; plan = None }
