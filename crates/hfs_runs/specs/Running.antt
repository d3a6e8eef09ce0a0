-- Runs of scripts on images of which only what they need is read.
use Rattle.std.specs.Prelude.{◌≡◌, ℕ, ◌≤◌, ◌/◌, ◌⊎◌, Bool, true, List, length, None}
use Rattle.std.specs.Borrow.{Bor}
use Rattle.hfs_blocks.specs.Layers.{Numbered}
use Rattle.hfs_runs.specs.Jobs.{has_viewer}
use Rattle.hfs_runs.specs.NamedForks.{HasNamedForks}
use Rattle.hfs_runs.specs.NeededRuns.{IsRunOver}
use Rattle.hfs_runs.specs.Naming.{line_calls, read_forks}
use Rattle.hfs_runs.specs.OnImage.{AreAllOnImage, HoldsMade, IsLinesCopy}
use Rattle.hfs_runs.specs.ScriptFaults.{fault_of_script}
use Rattle.hfs_runs.specs.Tellings.{ToldReplies}
use Rattle.hfs_scripts.specs.declared.fault.ScriptFault.{ScriptFault}
use Rattle.hfs_scripts.specs.declared.lines.ScriptLine.{ScriptLine}
use Rattle.hfs_scripts.specs.Scripts.{script_of, IsFaultOf}
use Rattle.hfs_source.specs.Seen.{IsSeen}
use Rattle.hfs_source.specs.Sparse.{sparse, IsOf}
use Rattle.hfs_volume.specs.Image.{copy_of, patched}
use Rattle.hfs_copy.specs.Working.{IsWorkingCopy}
use Rattle.hfs_commands.specs.declared.fault.Fault.{Fault}
use Rattle.hfs_commands.specs.declared.fault.Fault.TheVariants as fault
use Rattle.hfs_runs.specs.RunFaults.{fault_of_run}

-- why bytes were not read as a script
abbrev pub IsScriptFault : ℕ → List ℕ → Fault → Type 0
IsScriptFault now bytes why = (fault : ScriptFault) × IsFaultOf (script_of now bytes) fault × (why ≡ fault_of_run (fault_of_script fault))

-- lines were run on a copy of an image of so many bytes, which has the forks that they may read or write. What was read is of each of these images. Of
-- each image that has what was read the copy has the working blocks and these forks, what workers were answered is what that image answers, and what goes out, laid
-- over it, makes what the run's calls make of its volume, but for the bytes of forks that no line names.
pub record IsNeededRunOf (Holds : List ℕ → Type 0) (len : ℕ) (lines : List ScriptLine) (patch : Numbered) (text : List ℕ) (whole shown : Bool) (told : ToldReplies) : Type 0 where
  pub read : Numbered
  pub ran : IsRunOver read len lines patch text whole shown told
  pub forks : read_forks lines ≡ true → HasNamedForks (sparse read) lines read
  pub seen : IsSeen Holds read
  pub same : (image : List ℕ) → length image ≡ len → IsOf image read → IsLinesCopy lines (copy_of read len) image
  pub answered : (image : List ℕ) → length image ≡ len → IsOf image read
      → AreAllOnImage lines (copy_of read len) image ran.over.volume text whole shown told ran.over.ran
  pub copy : (image : List ℕ) → length image ≡ len → IsOf image read → IsWorkingCopy (copy_of read len) image
  pub made : (image : List ℕ) → length image ≡ len → IsOf image read → read_forks lines ≡ true
      → HoldsMade (line_calls lines) ran.over.ran.journal (copy_of read len) image (patched patch image)

-- why lines were not run: the image was not read; one of them is a viewer's, which had no place; or memory was refused
abbrev pub IsNeededFault : List ScriptLine → Bor (List ℕ) → Fault → Type 0
IsNeededFault lines path why = (why ≡ fault.CannotRead path) ⊎ ((why ≡ fault.NoPlace) × (has_viewer lines ≡ true)) ⊎ (why ≡ fault.NoMemory)
