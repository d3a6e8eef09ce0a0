-- What a run of a script makes.
use Rattle.std.specs.Prelude.{◌≡◌, ℕ, ◌+◌, ◌<◌, ◌⊎◌, Bool, true, List, map, length, get_or, Some, Ok, Err, string_bytes}
use Rattle.logbook.specs.Pages.{Book}
use Rattle.hfs_model.specs.declared.call.Call.{Call}
use Rattle.hfs_model.specs.declared.reply.Reply.{Reply}
use Rattle.hfs_model.specs.declared.journal.Entry.{Entry}
use Rattle.hfs_model.specs.Volume.{Volume}
use Rattle.hfs_model.specs.Runs.{after}
use Rattle.hfs_check.specs.Agree.{AgreesBut}
use Rattle.hfs_check.specs.Faults.{fault_of}
use Rattle.hfs_check.specs.Sound.{IsSound}
use Rattle.hfs_check.specs.VolumeOf.{volume_of}
use Rattle.hfs_volume.specs.Image.{ImageValue}
use Rattle.hfs_scripts.specs.declared.fault.ScriptFault.TheVariants as read
use Rattle.hfs_scripts.specs.declared.lines.Caller.{Caller}
use Rattle.hfs_scripts.specs.declared.lines.Caller.TheVariants.{Worker, Viewer}
use Rattle.hfs_scripts.specs.declared.lines.ScriptLine.{ScriptLine}
use Rattle.hfs_scripts.specs.Callers.{calls_of, workers, viewers}
use Rattle.hfs_scripts.specs.Scripts.{script_of}
use Rattle.hfs_shared.specs.Histories.{Known, known, opened}
use Rattle.hfs_shared.specs.Journals.{IsLegal, made_by}
use Rattle.hfs_shared.specs.Closings.{HasNoOthers, IsClosed}
use Rattle.hfs_shared.specs.declared.done.Done.{Done}
use Rattle.hfs_shared.specs.Desks.{pass_state}
use Rattle.hfs_shared.specs.Plans.{Plan, ArePlanned}
use Rattle.hfs_shared.specs.Stages.{HaveMadeOf, stage_of}
use Rattle.hfs_shared.specs.Works.{IsDone}
use Rattle.hfs_runs.specs.declared.script_fault.ScriptFault.{ScriptFault}
use Rattle.hfs_runs.specs.declared.script_fault.ScriptFault.TheVariants as run
use Rattle.hfs_runs.specs.declared.numbering.Asked.{Asked}
use Rattle.hfs_runs.specs.declared.running.Made.{Made}
use Rattle.hfs_runs.specs.declared.running.Ran.{Ran}
use Rattle.hfs_runs.specs.declared.running.RanInPieces.{RanInPieces}
use Rattle.hfs_runs.specs.Answers.{AreAnswered, answers_text, is_whole, kept_replies, worker_replies}
use Rattle.hfs_runs.specs.Asking.{AreNumbered}
use Rattle.hfs_runs.specs.Codes.{AreCoded}
use Rattle.hfs_runs.specs.Jobs.{has_viewer, plan_of}
use Rattle.hfs_runs.specs.Pieces.{text_of_pieces}
use Rattle.hfs_runs.specs.Standing.{AllStand}
use Rattle.hfs_runs.specs.Tellings.{AllBegin, AreToldWhole, OfEach, ToldReplies}
use Rattle.hfs_runs.specs.Views.{AreReads}

-- ---- faults

-- the bytes are a script
abbrev pub IsScript : ℕ → List ℕ → Type 0
IsScript now script = (lines : List ScriptLine) × (script_of now script ≡ Ok lines)

-- the bytes are a script, and a line is a viewer's
abbrev pub IsViewersScript : ℕ → List ℕ → Type 0
IsViewersScript now script = (lines : List ScriptLine) × (script_of now script ≡ Ok lines) × (has_viewer lines ≡ true)

-- why an image was not mounted for a run: memory was refused, or the image is
abbrev pub IsMountFault : List ℕ → ScriptFault → Type 0
IsMountFault image run.TooLarge = ⊥
IsMountFault image (run.Line place) = ⊥
IsMountFault image (run.Refused why) = fault_of image ≡ Some why
IsMountFault image run.NoPlace = ⊥
IsMountFault image run.Memory = Unit {0}

-- why a volume was not shared for a run of these lines: one of them is a viewer's, which had no place, or memory was refused
abbrev pub IsStartFault : List ScriptLine → ScriptFault → Type 0
IsStartFault lines fault = ((fault ≡ run.NoPlace) × (has_viewer lines ≡ true)) ⊎ (fault ≡ run.Memory)

-- why a script was not run on an image: memory was refused; or the script doesn't read; or it does, and the image is refused;
-- or both are good, a line is a viewer's, and a viewer had no place
abbrev pub IsRunFault : ℕ → List ℕ → List ℕ → ScriptFault → Type 0
IsRunFault now script image run.TooLarge = script_of now script ≡ Err read.TooLarge
IsRunFault now script image (run.Line place) = script_of now script ≡ Err (read.Line place)
IsRunFault now script image (run.Refused why) = IsScript now script × (fault_of image ≡ Some why)
IsRunFault now script image run.NoPlace = IsViewersScript now script × IsSound image
IsRunFault now script image run.Memory = Unit {0}

-- ---- runs

-- a worker made its calls on what this image became, all of them or those before its first fault, and these are the replies, each that of
-- the call after some entries of a legal journal, each of which has the planned call
abbrev pub IsWorked : Book → List ℕ → Plan → ℕ → List Call → List Reply → Done → Type 0
IsWorked book image plan worker calls replies done =
    (map (λ reply. reply.0) done.replies.items ≡ replies) × IsDone book image plan (pass_state worker 1) calls done

-- these are the replies to the first of a viewer's calls, each on a published list that begins with the one before it
abbrev pub IsViewedFrom : Book → Volume → List Call → List Reply → Type 0
IsViewedFrom book opening calls replies = (seen : Known) × AreReads calls (known book (opened opening)) replies seen

-- a shared volume of workers with this plan was closed with their passes when they had ended, and handed out; each entry of its journal has the
-- code of the reply that its worker got under its number, and the viewer that it was closed by had learned all that workers were given
pub record IsHandedOut (base : List ℕ) (plan : Plan) (volume : ImageValue) (dones : List Done) : Type 0 where
  pub journal : List Entry
  pub shown : ℕ
  pub before : Known
  pub afterwards : Known
  pub closed : IsClosed base volume journal shown (map (λ (done : Done). done.pass) dones) before afterwards
  pub planned : ArePlanned plan journal
  pub coded : AreCoded (worker_replies dones) journal
  pub learned : OfEach (AllBegin before.list) dones

-- what a run of these lines on an image made: the volume afterwards, the text of the answers, whether all lines were answered, whether each
-- change was shown at once, and what workers were told. The volume's image agrees with the given one, except for the blocks of forks that
-- calls of a legal journal wrote, which made it one after the other, and its volume is the one after that journal, which has as many entries
-- of each worker as it got replies, and none of anybody else; each entry's call is that of one line, which its worker and number tell,
-- and its code that of the reply to this line. Each change was shown at once exactly where each list that a worker was given
-- covers all calls that were made until then, otherwise some list covers fewer; where it was, each reply to a worker is in that journal.
pub record AreLinesRun (image : List ℕ) (lines : List ScriptLine) (volume : ImageValue) (text : List ℕ) (whole shown : Bool) (told : ToldReplies) : Type 0 where
  pub book : Book
  pub journal : List Entry
  pub dones : List Done
  pub replies : Caller → List Reply
  pub asked : List Asked
  pub numbered : AreNumbered (map (λ (line : ScriptLine). line.caller) lines) asked
  pub text_is : text ≡ answers_text replies asked
  pub whole_is : whole ≡ is_whole replies asked
  pub answered : AreAnswered whole replies lines
  pub base_is : volume.base ≡ image
  pub agrees : AgreesBut volume.written image volume.current
  pub wrote : HaveMadeOf image journal (stage_of volume)
  pub legal : IsLegal (volume_of image) journal
  pub follows : volume_of volume.current ≡ after (volume_of image) journal
  pub made : (place : ℕ) → place < workers lines → made_by (place + 1) journal ≡ length (replies (Worker (place + 1)))
  pub others : HasNoOthers (workers lines) journal
  pub planned : ArePlanned (plan_of lines) journal
  pub coded : AreCoded (λ worker. replies (Worker worker)) journal
  pub many : length dones ≡ workers lines
  pub worked : (place : ℕ) (none : Done) → place < workers lines
      → IsWorked book image (plan_of lines) (place + 1) (calls_of (Worker (place + 1)) lines) (replies (Worker (place + 1))) (get_or dones place none)
  pub viewed : (place : ℕ) → place < viewers lines → IsViewedFrom book (volume_of image) (calls_of (Viewer (place + 1)) lines) (replies (Viewer (place + 1)))
  pub told_is : told ≡ map (λ (done : Done). done.replies) dones
  pub shown_is : AreToldWhole shown dones
  pub stands : shown ≡ true → (place : ℕ) → place < workers lines → AllStand image journal (calls_of (Worker (place + 1)) lines) (replies (Worker (place + 1)))

-- the same, where what workers were told isn't handed out
abbrev pub AreLinesRunUntold : List ℕ → List ScriptLine → ImageValue → List ℕ → Bool → Bool → Type 0
AreLinesRunUntold image lines volume text whole shown = (told : ToldReplies) × AreLinesRun image lines volume text whole shown told

-- the same of what the program hands out
abbrev pub AreLinesRunAs : List ℕ → List ScriptLine → Ran → Type 0
AreLinesRunAs image lines ran = AreLinesRunUntold image lines ran.volume (string_bytes ran.text) ran.whole ran.shown

-- the same, where the answers are in pieces
abbrev pub AreLinesRunInPieces : List ℕ → List ScriptLine → RanInPieces → Type 0
AreLinesRunInPieces image lines ran = AreLinesRun image lines ran.volume (text_of_pieces ran.answers) ran.whole ran.shown ran.answers.replies.workers.items

-- the same of what was made, before the answers have their text
abbrev pub AreLinesMade : List ℕ → List ScriptLine → Made → Type 0
AreLinesMade image lines made =
    AreLinesRun image lines made.volume (answers_text (kept_replies made.replies) made.lines.items) (is_whole (kept_replies made.replies) made.lines.items) made.shown
    made.replies.workers.items

-- a script reads as lines, and these were run on a sound image
pub record IsScriptRun (now : ℕ) (script image : List ℕ) (volume : ImageValue) (text : List ℕ) (whole shown : Bool) : Type 0 where
  pub lines : List ScriptLine
  pub reads : script_of now script ≡ Ok lines
  pub sound : IsSound image
  pub ran : AreLinesRunUntold image lines volume text whole shown

-- the same of what the program hands out
abbrev pub IsScriptRunAs : ℕ → List ℕ → List ℕ → Ran → Type 0
IsScriptRunAs now script image ran = IsScriptRun now script image ran.volume (string_bytes ran.text) ran.whole ran.shown
