-- the first of all is the first of those that are still to come
use Rattle.std.proofs.Common.{◌≡◌, ◌-◌, length}
use Rattle.hfs_rescue_items.specs.Paths.{first_from, has_path}
use Rattle.hfs_rescue_items.proofs.paths.first_with.Given as goal

abbrev pub invariant-loop-i : goal.invariant-loop-i
invariant-loop-i l =
    first_from (has_path l.found l.path) 0 (length l.found.items.now) ≡ first_from (has_path l.found l.path) l.i (length l.found.items.now - l.i)
