-- the names so far were read in pieces, and what each piece names is removed
use Rattle.std.proofs.Common.{◌≡◌, ℕ, List}
use Rattle.hfs_bag.specs.Listings.{listing}
use Rattle.hfs_bag.proofs.removal.remove_to_folder.Given as goal

abbrev pub invariant-loop : goal.invariant-loop
invariant-loop g l = (pieces : List (List ℕ)) × (g.Y.FileSystem.did l.system ≡ listing l.fn.folder pieces (g.Y.FileSystem.did l.fn.system))
