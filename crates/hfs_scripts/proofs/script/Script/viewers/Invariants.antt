-- the greatest number so far
use Rattle.std.proofs.Common.{◌≡◌, take}
use Rattle.std.specs.Prelude.{max}
use Rattle.std.specs.List.{fold}
use Rattle.hfs_scripts.specs.Callers.{viewer_number}
use Rattle.hfs_scripts.proofs.script.Script.viewers.Given as goal

abbrev pub invariant-loop-line : goal.invariant-loop-line
invariant-loop-line l = l.most ≡ fold (λ most line. max most (viewer_number line.caller)) 1 (take l.line-index l.line-items)
