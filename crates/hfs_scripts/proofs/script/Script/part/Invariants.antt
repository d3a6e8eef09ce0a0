-- the lines so far are parted
use Rattle.std.proofs.Common.{◌≡◌}
use Rattle.hfs_scripts.specs.Callers.{calls_of, lines_of_others}
use Rattle.hfs_scripts.proofs.script.Script.part.Given as goal

abbrev pub invariant-loop-line : goal.invariant-loop-line
invariant-loop-line l = record { calls : l.calls.items ≡ calls_of l.caller l.yielded; others : l.others.items ≡ lines_of_others l.caller l.yielded }
