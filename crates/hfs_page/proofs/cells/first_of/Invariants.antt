-- none of the blocks so far is of the part
use Rattle.std.proofs.Common.{◌≡◌, drop}
use Rattle.std.specs.Prelude.{◌==◌, find}
use Rattle.hfs_page.specs.Parts.{rank}
use Rattle.hfs_page.proofs.cells.first_of.Given as goal

abbrev pub invariant-loop-used : goal.invariant-loop-used
invariant-loop-used l = find (λ u. rank u.part == rank l.part) l.uses ≡ find (λ u. rank u.part == rank l.part) (drop l.used-index l.uses)
