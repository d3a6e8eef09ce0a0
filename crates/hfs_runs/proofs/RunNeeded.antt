-- What was read of an image for a run, and what the run made of it.
use Rattle.std.proofs.Common.{◌≡◌, ◌⊎◌, inl, inr, ⊎_elim, ℕ, ◌/◌, Bool, true, List, length, Some, None, sym, ap, subst, ◌∙◌}
use Rattle.std.specs.Borrow.{Bor}
use Rattle.hfs_blocks.specs.Layers.{Numbered}
use Rattle.hfs_check.specs.Sound.{IsSound, IsImageLength}
use Rattle.hfs_source.specs.Images.{OfEach}
use Rattle.hfs_source.specs.Seen.{IsSeen, SeesMore}
use Rattle.hfs_runs.specs.declared.needed_running.NeededRan.{NeededRan}
use Rattle.hfs_runs.specs.Jobs.{has_viewer}
use Rattle.hfs_runs.specs.NamedForks.{HasNamedForks}
use Rattle.hfs_runs.specs.Naming.{read_forks}
use Rattle.hfs_runs.specs.OnImage.{IsLinesCopy}
use Rattle.hfs_runs.proofs.ForksOfLines.{named_forks_are_the_images}
use Rattle.hfs_runs.proofs.OnImage.{saved_is_made, workers_read_the_image}
use Rattle.hfs_runs.specs.NeededRuns.{IsRunOver, IsRunOverAs}
use Rattle.hfs_runs.specs.declared.script_fault.ScriptFault.{ScriptFault}
use Rattle.hfs_runs.specs.declared.script_fault.ScriptFault.TheVariants as run
use Rattle.hfs_runs.specs.Pieces.{text_of_pieces}
use Rattle.hfs_runs.specs.Runs.{IsStartFault}
use Rattle.hfs_runs.specs.Tellings.{ToldReplies}
use Rattle.hfs_scripts.specs.declared.lines.ScriptLine.{ScriptLine}
use Rattle.hfs_source.specs.Sparse.{sparse, IsOf}
use Rattle.hfs_volume.specs.Image.{copy_of}
use Rattle.hfs_volume.proofs.CopyLemmas.{length-copy}
use Rattle.hfs_copy.specs.declared.opening.WorkingVolume.{WorkingVolume}
use Rattle.hfs_copy.specs.Opened.{IsRunnable, IsWorkingOf}
use Rattle.hfs_copy.proofs.ReadWork.{opened-sound, opened-copy}
use Rattle.hfs_commands.specs.declared.fault.Fault.{Fault}
use Rattle.hfs_commands.specs.declared.fault.Fault.TheVariants as fault
use Rattle.hfs_runs.specs.RunFaults.{fault_of_run}
use Rattle.hfs_runs.specs.Running.{IsNeededFault, IsNeededRunOf}

pub started : (lines : List ScriptLine) (path : Bor (List ℕ)) (why : ScriptFault) (told : Fault) → told ≡ fault_of_run why → IsStartFault lines why → IsNeededFault lines path told
started lines path why told is start = ⊎_elim
    (λ (no_place : (why ≡ run.NoPlace) × (has_viewer lines ≡ true)). inr (inl (is ∙ ap fault_of_run no_place.0, no_place.1)))
    (λ (memory : why ≡ run.Memory). inr (inr (is ∙ ap fault_of_run memory)))
    start

module _ (Held Holds : List ℕ → Type 0) (len : ℕ) (old new : WorkingVolume) (is : IsRunnable Held len old) where
  pub mountable-old : IsWorkingOf None old.count old
  mountable-old = subst (λ (n : ℕ). IsWorkingOf None n old) (sym is.is.whole) is.is

  right : IsImageLength len
  right = subst IsImageLength (length-copy old.read len is.is.within) is.sound.len

  module _ (is-new : IsWorkingOf None old.count new) where
    pub mountable-new : IsWorkingOf None (len / 512) new
    mountable-new = subst (λ (n : ℕ). IsWorkingOf None n new) is.is.whole is-new

    pub sound-new : IsSound (copy_of new.read len)
    sound-new = opened-sound None len right new mountable-new

    -- an image that has what was read, as the one whose bytes are known
    working-of : (image : List ℕ) → IsOf image new.read → IsWorkingOf (Some image) (len / 512) new
    working-of image of = record {
      whole = mountable-new.whole;
      working = mountable-new.working;
      within = mountable-new.within;
      of = of;
      sound = mountable-new.sound;
      directory = mountable-new.directory;
      trees = mountable-new.trees;
    }

    -- the forks that lines name are those of each image that has what was read
    lines-copy : (lines : List ScriptLine) → (read_forks lines ≡ true → HasNamedForks (sparse new.read) lines new.read) → (image : List ℕ) → length image ≡ len
        → IsOf image new.read → IsLinesCopy lines (copy_of new.read len) image
    lines-copy lines forks image long of = named_forks_are_the_images lines len new image mountable-new right forks long of

    pub needed-run : (lines : List ScriptLine) (patch : Numbered) (text : List ℕ) (all shown : Bool) (told : ToldReplies) (ran : NeededRan) → patch ≡ ran.patch → text ≡ text_of_pieces ran.answers
        → all ≡ ran.whole → shown ≡ ran.shown → told ≡ ran.answers.replies.workers.items → IsRunOverAs new.read len lines ran
        → (read_forks lines ≡ true → HasNamedForks (sparse new.read) lines new.read) → IsSeen Holds new.read
        → IsNeededRunOf Holds len lines patch text all shown told
    needed-run lines patch text all shown told ran same-patch same-text same-all same-shown same-told over forks seen = record {
      read = new.read;
      ran = here;
      forks = forks;
      seen = seen;
      same = lines-copy lines forks;
      answered = λ image long of.
          workers_read_the_image (copy_of new.read len) image lines here.over.volume text all shown told (lines-copy lines forks image long of) here.over.ran;
      copy = λ image long of. opened-copy (Some image) len right new (working-of image of) long;
      made = λ image long of used.
          saved_is_made (copy_of new.read len) image lines patch text all shown told here.over here.keep (here.forks image long of used (forks used));
    }
      where
        here : IsRunOver new.read len lines patch text all shown told
        here = subst (λ (l : ToldReplies). IsRunOver new.read len lines patch text all shown l) (sym same-told)
            (subst (λ (b : Bool). IsRunOver new.read len lines patch text all b ran.answers.replies.workers.items) (sym same-shown)
            (subst (λ (b : Bool). IsRunOver new.read len lines patch text b ran.shown ran.answers.replies.workers.items) (sym same-all)
            (subst (λ (t : List ℕ). IsRunOver new.read len lines patch t ran.whole ran.shown ran.answers.replies.workers.items) (sym same-text)
            (subst (λ (p : Numbered). IsRunOver new.read len lines p (text_of_pieces ran.answers) ran.whole ran.shown ran.answers.replies.workers.items)
            (sym same-patch) over))))

-- what was read of each image, and forks since, is of each that holds when it was looked at again
pub seen-then : {first fetched looked : List ℕ → Type 0} {old new : Numbered} → IsSeen first old → SeesMore first fetched old new → OfEach looked fetched → IsSeen looked new
seen-then seen sees narrows = λ image h. sees.stays image (narrows image h) (seen image (sees.held image (narrows image h)))

pub held-then : {first fetched looked : List ℕ → Type 0} {old new : Numbered} → SeesMore first fetched old new → OfEach looked fetched → OfEach looked first
held-then sees narrows = λ image h. sees.held image (narrows image h)
