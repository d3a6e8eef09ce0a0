-- what was written, and the run behind it, make the whole with what is still to come
use Rattle.std.proofs.Common.{◌≡◌, ◌-◌, ◌≤◌, List, ℕ, ◌++◌, take, drop}
use Rattle.std.specs.Fmt.{HasWritten, IsPlainFormatter}
use Rattle.std.specs.Str.{IsCharBoundary}
use Rattle.hfs_commands.specs.Paths.{path_text}
use Rattle.hfs_commands.proofs.paths.write_path.Given as goal

abbrev pub invariant-loop-at : goal.invariant-loop-at
invariant-loop-at g l =
    (l.start ≤ l.at) × IsCharBoundary l.fn.path l.start × (done : List ℕ)
    × (done ++ (take (l.at - l.start) (drop l.start l.fn.path) ++ path_text (drop l.at l.fn.path)) ≡ path_text l.fn.path)
    × (IsPlainFormatter l.initial.f → HasWritten g.W.Write.write_str_gives l.initial.f done l.f)
