-- no block is of one of the parts so far
use Rattle.std.proofs.Common.{◌≡◌, drop}
use Rattle.hfs_page.specs.Cells.{shown_by}
use Rattle.hfs_page.proofs.cells.shown_by.Given as goal

abbrev pub invariant-loop-part : goal.invariant-loop-part
invariant-loop-part l = shown_by l.parts l.uses ≡ shown_by (drop l.part-index l.parts) l.uses
