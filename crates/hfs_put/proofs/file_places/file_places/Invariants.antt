-- The places of the files so far.
use Rattle.std.specs.BTreeMap as tree
use Rattle.std.specs.Ordering.{nat_cmp}
use Rattle.hfs_put.proofs.ForkRunLists.{ArePlacesSoFar}
use Rattle.hfs_put.proofs.file_places.file_places.Given as goal

abbrev pub invariant-loop-place : goal.invariant-loop-place
invariant-loop-place l = ArePlacesSoFar l.items l.ids l.place (tree.get nat_cmp l.places)
