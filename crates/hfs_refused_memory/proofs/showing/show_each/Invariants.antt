use Rattle.std.specs.Prelude.{◌≡◌}
use Rattle.hfs_refused_memory.proofs.showing.show_each.Given as goal

-- it is a viewer of the shared volume
abbrev pub invariant-loop-i : goal.invariant-loop-i
invariant-loop-i g l = l.viewer.book ≡ g.K.Session.book
