-- The callers of a script and the calls of each.
use Rattle.std.specs.Prelude.{ℕ, ◌==◌, Bool, false, not, List, map, filter, max}
use Rattle.std.specs.List.{fold}
use Rattle.hfs_model.specs.declared.call.Call.{Call}
use Rattle.hfs_scripts.specs.declared.lines.Caller.{Caller}
use Rattle.hfs_scripts.specs.declared.lines.Caller.TheVariants.{Worker, Viewer}
use Rattle.hfs_scripts.specs.declared.lines.ScriptLine.{ScriptLine}

-- whether both are one caller
abbrev pub is_same : Caller → Caller → Bool
is_same (Worker a) (Worker b) = a == b
is_same (Viewer a) (Viewer b) = a == b
is_same (Worker a) (Viewer b) = false
is_same (Viewer a) (Worker b) = false

-- a worker's number, 0 of a viewer
abbrev pub worker_number : Caller → ℕ
worker_number (Worker number) = number
worker_number (Viewer number) = 0

-- a viewer's number, 0 of a worker
abbrev pub viewer_number : Caller → ℕ
viewer_number (Worker number) = 0
viewer_number (Viewer number) = number

-- as many workers as the greatest worker's number says, at least one
unfoldable pub workers : List ScriptLine → ℕ
workers lines = fold (λ most line. max most (worker_number line.caller)) 1 lines

-- as many viewers as the greatest viewer's number says, at least one
unfoldable pub viewers : List ScriptLine → ℕ
viewers lines = fold (λ most line. max most (viewer_number line.caller)) 1 lines

-- the calls of a caller, in order
unfoldable pub calls_of : Caller → List ScriptLine → List Call
calls_of caller lines = map (λ line. line.call) (filter (λ line. is_same line.caller caller) lines)

-- the lines of other callers, in order
unfoldable pub lines_of_others : Caller → List ScriptLine → List ScriptLine
lines_of_others caller lines = filter (λ line. not (is_same line.caller caller)) lines
