-- Scripts of one worker.
use Rattle.std.specs.Prelude.{◌≡◌, ℕ, List, [], Ok}
use Rattle.hfs_model.specs.declared.call.Call.{Call}
use Rattle.hfs_scripts.specs.declared.lines.ScriptLine.{ScriptLine}
use Rattle.hfs_scripts.specs.declared.lines.Caller.TheVariants.{Worker}
use Rattle.hfs_scripts.specs.Callers.{calls_of, lines_of_others}
use Rattle.hfs_scripts.specs.Scripts.{script_of}

-- the bytes are a script of worker 1 alone, who makes these calls, its changes at this moment
pub record AreCallsOf (now : ℕ) (script : List ℕ) (calls : List Call) : Type 0 where
  pub lines : List ScriptLine
  pub reads : script_of now script ≡ Ok lines
  pub alone : lines_of_others (Worker 1) lines ≡ []
  pub are : calls ≡ calls_of (Worker 1) lines
