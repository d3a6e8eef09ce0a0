-- The items that the lines of a script name, and whether their forks are read before it runs.
use Rattle.std.specs.Prelude.{Bool, ◌||◌, List, map}
use Rattle.std.specs.List.{list_any}
use Rattle.hfs_model.specs.declared.call.Call.{Call}
use Rattle.hfs_model.specs.Step.{is_writing}
use Rattle.hfs_scripts.specs.declared.lines.ScriptLine.{ScriptLine}
use Rattle.hfs_model.specs.Alike.{reads_fork}

-- whether the call reads or writes a fork
abbrev pub uses_fork : Call → Bool
uses_fork c = reads_fork c || is_writing c

-- whether forks are read for these lines: one of them reads or writes a fork
abbrev pub read_forks : List ScriptLine → Bool
read_forks lines = list_any (λ (line : ScriptLine). uses_fork line.call) lines

-- the calls of these lines
abbrev pub line_calls : List ScriptLine → List Call
line_calls lines = map (λ (line : ScriptLine). line.call) lines
