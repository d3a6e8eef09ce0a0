use Rattle.std.proofs.Common.{◌≡◌, ◌<◌, ℕ, length, get_or, map, take}
use Rattle.hfs_scripts.specs.declared.lines.Caller.{Caller}
use Rattle.hfs_scripts.specs.declared.lines.ScriptLine.{ScriptLine}
use Rattle.hfs_runs.specs.declared.numbering.Asked.{Asked}
use Rattle.hfs_runs.specs.Asking.{IsSmall, asked_at, counted, times}
use Rattle.hfs_runs.proofs.numbering.number_lines.Given as goal

-- the lines so far are numbered, and counted for each caller
abbrev pub invariant-loop-line : goal.invariant-loop-line
invariant-loop-line l = record {
  many : length l.numbered.items ≡ l.line-index;
  each : (place : ℕ) (none : Caller) (nothing : Asked) → place < l.line-index
      → get_or l.numbered.items place nothing ≡ asked_at (map (λ (line : ScriptLine). line.caller) l.lines) place (get_or (map (λ (line : ScriptLine). line.caller) l.lines) place none);
  counts : (c : Caller) → IsSmall c → counted l.workers l.viewers c ≡ times c (take l.line-index (map (λ (line : ScriptLine). line.caller) l.lines));
}
