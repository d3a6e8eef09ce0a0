use Rattle.std.proofs.Common.{◌≡◌, map, take}
use Rattle.hfs_model.specs.Children.{children}
use Rattle.hfs_model.specs.Replies.{info_of}
use Rattle.hfs_store.proofs.entries.infos.Given as goal

abbrev pub invariant-loop-at : goal.invariant-loop-at
invariant-loop-at l = l.found.items ≡ map (info_of l.entries) (children (take l.at l.entries) l.dir)
