-- Each caller of a script with its own calls.
use Rattle.std.specs.Prelude.{◌≡◌, ℕ, ◌+◌, ◌<◌, Bool, true, false, List, Some, length, get_or}
use Rattle.std.specs.List.{list_any}
use Rattle.hfs_model.specs.declared.call.Call.{Call}
use Rattle.hfs_scripts.specs.declared.lines.Caller.{Caller}
use Rattle.hfs_scripts.specs.declared.lines.Caller.TheVariants.{Worker, Viewer}
use Rattle.hfs_scripts.specs.declared.lines.ScriptLine.{ScriptLine}
use Rattle.hfs_scripts.specs.Callers.{calls_of}
use Rattle.hfs_shared.specs.Plans.{Plan}

-- each that was made has what was given for it
abbrev pub HaveEach : {A B : Type 0} → (B → A) → List A → List B → Type 0
HaveEach {A} {B} part given made = (i : ℕ) (b : B) (a : A) → i < length given → part (get_or made i b) ≡ get_or given i a

-- each of so many has the script's calls of its caller, counted from 1
abbrev pub HaveCalls : {B : Type 0} → (B → List Call) → (ℕ → Caller) → ℕ → List ScriptLine → List B → Type 0
HaveCalls {B} part caller count script made = (i : ℕ) (b : B) → i < count → part (get_or made i b) ≡ calls_of (caller (i + 1)) script

-- what these lines plan for each worker: its calls, in their order
abbrev pub plan_of : List ScriptLine → Plan
plan_of lines = Some (λ worker. calls_of (Worker worker) lines)

-- the second script has the viewers' calls of the first
abbrev pub HasViewersOf : List ScriptLine → List ScriptLine → Type 0
HasViewersOf first second = (n : ℕ) → calls_of (Viewer n) second ≡ calls_of (Viewer n) first

-- whether the caller is a viewer
abbrev pub is_viewer : Caller → Bool
is_viewer (Worker number) = false
is_viewer (Viewer number) = true

-- whether a line is a viewer's
abbrev pub has_viewer : List ScriptLine → Bool
has_viewer lines = list_any (λ (line : ScriptLine). is_viewer line.caller) lines
