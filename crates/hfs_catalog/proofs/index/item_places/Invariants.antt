use Rattle.std.proofs.Common.{◌≡◌, ℕ, take}
use Rattle.hfs_catalog.specs.Indexes.{number_of, item_place}
use Rattle.hfs_catalog.proofs.index.item_places.Given as goal

abbrev pub invariant-loop-i : goal.invariant-loop-i
invariant-loop-i l = (id : ℕ) → number_of l.places id ≡ item_place (take l.i l.records) id
