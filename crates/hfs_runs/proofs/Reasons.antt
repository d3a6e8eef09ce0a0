-- Why a script was not run, out of the reason of the step that failed.
use Rattle.std.proofs.Common.{◌≡◌, ◌≢◌, ◌⊎◌, inl, inr, ℕ, true, List, Some, Result, Ok, Err, refl, sym, subst, ⊎_elim}
use Rattle.std.specs.Prelude.{IfOk, IfErr}
use Rattle.hfs_check.specs.declared.mount_fault.MountFault.{MountFault}
use Rattle.hfs_check.specs.declared.mount_fault.MountFault.TheVariants as mount
use Rattle.hfs_check.specs.Answers.{IsFaultOf}
use Rattle.hfs_check.specs.Faults.{fault_of}
use Rattle.hfs_check.specs.Sound.{IsSound}
use Rattle.hfs_scripts.specs.declared.fault.ScriptFault.{ScriptFault as ReadFault}
use Rattle.hfs_scripts.specs.declared.fault.ScriptFault.TheVariants as read
use Rattle.hfs_scripts.specs.declared.lines.ScriptLine.{ScriptLine}
use Rattle.hfs_scripts.specs.Scripts.{script_of, IsFaultOf as IsReadFault}
use Rattle.hfs_runs.specs.declared.script_fault.ScriptFault.{ScriptFault}
use Rattle.hfs_runs.specs.declared.script_fault.ScriptFault.TheVariants as run
use Rattle.hfs_runs.specs.ScriptFaults.{fault_of_script}
use Rattle.hfs_runs.specs.Jobs.{has_viewer}
use Rattle.hfs_runs.specs.Runs.{IsScript, IsMountFault, IsRunFault, IsStartFault}

-- ---- of mounting

refused : (image : List ℕ) (why : MountFault) (fault : ScriptFault) → why ≢ mount.Memory → IsFaultOf (fault_of image) why → fault ≡ run.Refused why → IsMountFault image fault
refused image why fault other h same = subst (IsMountFault image) (sym same) (⊎_elim (λ (e : why ≡ mount.Memory). absurd (other e)) (λ (s : fault_of image ≡ Some why). s) h)

-- what of_mount makes of the fault of an image
pub mount_refused : (image : List ℕ) (why : MountFault) (fault : ScriptFault) → IsFaultOf (fault_of image) why → (why ≡ mount.Memory → fault ≡ run.Memory)
    → (why ≢ mount.Memory → fault ≡ run.Refused why) → IsMountFault image fault
mount_refused image mount.TooLarge fault h memory other = (let two : mount.TooLarge ≢ mount.Memory = λ e. absurd (cc e) in refused image mount.TooLarge fault two h (other two))
mount_refused image mount.Short fault h memory other = (let two : mount.Short ≢ mount.Memory = λ e. absurd (cc e) in refused image mount.Short fault two h (other two))
mount_refused image mount.NoMacDisk fault h memory other = (let two : mount.NoMacDisk ≢ mount.Memory = λ e. absurd (cc e) in refused image mount.NoMacDisk fault two h (other two))
mount_refused image (mount.BadMdb test) fault h memory other = (let two : mount.BadMdb test ≢ mount.Memory = λ e. absurd (cc e) in refused image (mount.BadMdb test) fault two h (other two))
mount_refused image (mount.Check number place) fault h memory other =
    let two : mount.Check number place ≢ mount.Memory = λ e. absurd (cc e) in
    refused image (mount.Check number place) fault two h (other two)
mount_refused image mount.Memory fault h memory other = subst (IsMountFault image) (sym (memory refl)) tt

-- ---- of a run

pub read_fault : (now : ℕ) (script image : List ℕ) (why : ReadFault) → IsReadFault (script_of now script) why → IsRunFault now script image (fault_of_script why)
read_fault now script image read.TooLarge h = h
read_fault now script image (read.Line place) h = h
read_fault now script image read.Memory h = tt

pub mount_fault : (now : ℕ) (script image : List ℕ) (fault : ScriptFault) → IsScript now script → IsMountFault image fault → IsRunFault now script image fault
mount_fault now script image run.TooLarge reads h = absurd h
mount_fault now script image (run.Line place) reads h = absurd h
mount_fault now script image (run.Refused why) reads h = (reads, h)
mount_fault now script image run.NoPlace reads h = absurd h
mount_fault now script image run.Memory reads h = tt

-- viewers read where a line is a viewer's
pub read_start : (lines : List ScriptLine) → has_viewer lines ≡ true → (fault : ScriptFault) → (fault ≡ run.NoPlace) ⊎ (fault ≡ run.Memory) → IsStartFault lines fault
read_start lines used fault h = ⊎_elim (λ (e : fault ≡ run.NoPlace). inl (e, used)) (λ (e : fault ≡ run.Memory). inr e) h

pub start_fault : (now : ℕ) (script image : List ℕ) (lines : List ScriptLine) → script_of now script ≡ Ok lines → IsSound image → (fault : ScriptFault) → IsStartFault lines fault
    → IsRunFault now script image fault
start_fault now script image lines reads sound fault h = ⊎_elim
    (λ (e : (fault ≡ run.NoPlace) × (has_viewer lines ≡ true)). subst (IsRunFault now script image) (sym e.0) ((lines, reads, e.1), sound))
    (λ (e : fault ≡ run.Memory). subst (IsRunFault now script image) (sym e) tt)
    h

pub memory_fault : (now : ℕ) (script image : List ℕ) (fault : ScriptFault) → fault ≡ run.Memory → IsRunFault now script image fault
memory_fault now script image fault e = subst (IsRunFault now script image) (sym e) tt

-- ---- of results

pub ok_is : {T E : Type 0} (r : Result T E) (x : T) (P : T → Type 0) → r ≡ Ok x → IfOk r P → P x
ok_is {T = T} {E = E} r x P is h = subst (λ (o : Result T E). IfOk o P) is h
