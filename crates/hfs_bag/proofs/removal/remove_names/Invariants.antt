-- of the names so far, what they name is removed; what is left is a text
use denote.Text.{Utf8}
use denote.Shadow.{shadow}
use Rattle.std.proofs.Common.{◌≡◌, ℕ, List, ◌++◌, length}
use Rattle.hfs_bag.specs.Listings.{ended_names, with_removals}
use Rattle.hfs_bag.proofs.removal.remove_names.Given as goal

abbrev pub invariant-loop-name : goal.invariant-loop-name
invariant-loop-name g l =
    shadow (Utf8 l.rest) × ((first : List (List ℕ)) × (ended_names l.fn.names ≡ first ++ ended_names l.rest)
    × (g.Y.FileSystem.did l.system ≡ with_removals l.fn.folder first (g.Y.FileSystem.did l.fn.system)))

abbrev pub decreases-loop-name : goal.decreases-loop-name
decreases-loop-name g l = length l.rest
