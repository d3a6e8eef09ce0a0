-- What a run of a script made of an image of which only what it needs was read.
use Rattle.std.specs.Prelude.{◌≡◌, ℕ, ◌⊎◌, true, false, Bool, List, [], ◌++◌, length}
use Rattle.hfs_fields.specs.Each.{Each}
use Rattle.hfs_blocks.specs.Blocks.{block_at}
use Rattle.hfs_blocks.specs.Layers.{Numbered}
use Rattle.hfs_check.specs.VolumeOf.{volume_of}
use Rattle.hfs_model.specs.declared.call.Call.{Call}
use Rattle.hfs_source.specs.Sparse.{sparse, IsOf}
use Rattle.hfs_volume.specs.Image.{ImageValue, copy_of, patched}
use Rattle.hfs_model.specs.Alike.{AreAlike}
use Rattle.hfs_model.specs.Named.{KeepsNamed}
use Rattle.hfs_copy.specs.Working.{CarriesOverBut}
use Rattle.hfs_scripts.specs.declared.lines.ScriptLine.{ScriptLine}
use Rattle.hfs_runs.specs.Pieces.{text_of_pieces}
use Rattle.hfs_runs.specs.Runs.{AreLinesRun}
use Rattle.hfs_runs.specs.Tellings.{ToldReplies}
use Rattle.hfs_copy.specs.GivenBack.{IsGivenBack}
use Rattle.hfs_runs.specs.NamedForks.{HasNamedForks, IsForkBlock}
use Rattle.hfs_runs.specs.Naming.{line_calls, read_forks}
use Rattle.hfs_runs.specs.declared.needed_running.NeededRan.{NeededRan}

-- lines were run on a copy, and these blocks make of it what the run made
pub record AreLinesRunOver (copy : List ℕ) (lines : List ScriptLine) (patch : Numbered) (text : List ℕ) (whole shown : Bool) (told : ToldReplies) : Type 0 where
  pub volume : ImageValue
  pub ran : AreLinesRun copy lines volume text whole shown told
  pub makes : volume.current ≡ patched patch copy

-- copy and image hold the same, before these blocks are laid over both and then, except for the bytes of forks of files whose IDs are not kept
pub record CarriesForks (keep : ℕ → Bool) (calls : List Call) (patch : Numbered) (copy image : List ℕ) : Type 0 where
  pub named : KeepsNamed keep calls (volume_of copy)
  pub alike : AreAlike keep (volume_of copy) (volume_of image)
  pub laid : AreAlike keep (volume_of (patched patch copy)) (volume_of (patched patch image))

-- the block is one of a fork of a file that is kept; or one that was given back, which is zeros
abbrev pub IsOwnZeros : (ℕ → Bool) → ImageValue → ℕ → Type 0
IsOwnZeros keep volume n = IsForkBlock (block_at volume.current) (λ id. keep id ≡ true) n ⊎ IsGivenBack volume n

-- Lines were run on what was read of an image of so many bytes, and these blocks go out. Laid over each image that has what was read they agree with it
-- except for the blocks of forks that calls wrote, and for blocks of zeros, of which there are none where no line reads or writes a fork: those of forks of
-- some files, and those that no file has and that the volume keeps as changed. Where the forks were read that the lines name, the forks of these same
-- files are the image's before the run, and then what the run made of the copy; the lines' files and those that were made are among them.
pub record IsRunOver (read : Numbered) (len : ℕ) (lines : List ScriptLine) (patch : Numbered) (text : List ℕ) (whole shown : Bool) (told : ToldReplies) : Type 0 where
  pub over : AreLinesRunOver (copy_of read len) lines patch text whole shown told
  pub keep : ℕ → Bool
  pub zeros : List ℕ
  pub own : Each (IsOwnZeros keep over.volume) zeros
  pub none : read_forks lines ≡ false → zeros ≡ []
  pub carried : (image : List ℕ) → length image ≡ len → IsOf image read → CarriesOverBut (over.volume.written ++ zeros) patch (copy_of read len) image
  pub forks : (image : List ℕ) → length image ≡ len → IsOf image read → read_forks lines ≡ true → HasNamedForks (sparse read) lines read
      → CarriesForks keep (line_calls lines) patch (copy_of read len) image

-- the same of what the program hands out
abbrev pub IsRunOverAs : Numbered → ℕ → List ScriptLine → NeededRan → Type 0
IsRunOverAs read len lines ran = IsRunOver read len lines ran.patch (text_of_pieces ran.answers) ran.whole ran.shown ran.answers.replies.workers.items
