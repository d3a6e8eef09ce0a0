use Rattle.std.proofs.Common.{◌≡◌, ◌++◌, take}
use Rattle.hfs_shared.specs.Journals.{changes}
use Rattle.hfs_shared.specs.Pairs.{pair}
use Rattle.hfs_shared.proofs.pair.Pair.add_entries.Given as goal

abbrev pub invariant-loop-at : goal.invariant-loop-at
invariant-loop-at l = l.self ≡ pair l.initial.self.book (l.initial.self.all ++ changes (take l.at l.entries)) l.initial.self.shown
