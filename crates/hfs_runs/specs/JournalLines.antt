-- What the journal of a run has of the script's lines and of the replies to them.
use Rattle.std.specs.Prelude.{◌≡◌, ℕ, ℤ, ◌+◌, ◌<◌, ◌==◌, Bool, List, length, map, filter, take}
use Rattle.hfs_model.specs.declared.call.Call.{Call}
use Rattle.hfs_model.specs.declared.journal.Entry.{Entry}
use Rattle.hfs_volume.specs.Image.{ImageValue}
use Rattle.hfs_scripts.specs.declared.lines.Caller.TheVariants.{Worker}
use Rattle.hfs_scripts.specs.declared.lines.ScriptLine.{ScriptLine}
use Rattle.hfs_scripts.specs.Callers.{calls_of, workers}
use Rattle.hfs_runs.specs.Codes.{reply_codes}
use Rattle.hfs_runs.specs.Runs.{AreLinesRun}
use Rattle.hfs_runs.specs.Tellings.{ToldReplies}

-- the calls that a worker made, in the order of the journal
abbrev pub entry_calls : ℕ → List Entry → List Call
entry_calls worker journal = map (λ (e : Entry). e.call) (filter (λ (e : Entry). e.worker == worker) journal)

-- the calls of a worker in the journal of a run are the first of its lines' calls, in their order, as many as it got replies
abbrev pub JournalsHaveTheLines : Type 0
JournalsHaveTheLines =
    (image : List ℕ) (lines : List ScriptLine) (volume : ImageValue) (text : List ℕ) (whole shown : Bool) (told : ToldReplies)
    (ran : AreLinesRun image lines volume text whole shown told) (place : ℕ) → place < workers lines
    → entry_calls (place + 1) ran.journal ≡ take (length (ran.replies (Worker (place + 1)))) (calls_of (Worker (place + 1)) lines)

-- the codes of a worker's calls, in the order of the journal
abbrev pub entry_codes : ℕ → List Entry → List ℤ
entry_codes worker journal = map (λ (e : Entry). e.code) (filter (λ (e : Entry). e.worker == worker) journal)

-- the codes of a worker's calls in the journal of a run, in their order, are those of the replies that it got
abbrev pub JournalsHaveTheCodes : Type 0
JournalsHaveTheCodes =
    (image : List ℕ) (lines : List ScriptLine) (volume : ImageValue) (text : List ℕ) (whole shown : Bool) (told : ToldReplies)
    (ran : AreLinesRun image lines volume text whole shown told) (place : ℕ) → place < workers lines
    → entry_codes (place + 1) ran.journal ≡ reply_codes (ran.replies (Worker (place + 1)))
