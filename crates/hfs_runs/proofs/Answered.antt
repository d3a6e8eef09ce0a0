-- What a call comes to, by whether it writes a fork.
use Rattle.std.proofs.Common.{◌≡◌, true, false, List, ℕ, sym, true≢false}
use Rattle.hfs_model.specs.declared.call.Call.{Call}
use Rattle.hfs_model.specs.declared.call.Call.TheVariants as call
use Rattle.hfs_model.specs.Changes.{Outcome}
use Rattle.hfs_model.specs.Step.{is_writing}
use Rattle.hfs_volume.specs.Serving.{IsForkOutcome, IsOutcomeIn, within_nodes}

pub other-outcome : (image : List ℕ) (c : Call) (o : Outcome) → IsOutcomeIn image c o → is_writing c ≡ false → o ≡ within_nodes image c
other-outcome image (call.GetDirInfo dir) o h e = h
other-outcome image (call.GetCatInfo dir name) o h e = h
other-outcome image (call.GetIndexed dir index) o h e = h
other-outcome image (call.List dir) o h e = h
other-outcome image (call.ReadFork dir name fork offset count) o h e = h
other-outcome image (call.Create dir name now) o h e = h
other-outcome image (call.DirCreate dir name now) o h e = h
other-outcome image (call.Delete dir name now) o h e = h
other-outcome image (call.Rename dir name new_name now) o h e = h
other-outcome image (call.CatMove dir name new_dir now) o h e = h
other-outcome image (call.SetFInfo dir name info now) o h e = h
other-outcome image (call.SetCatInfo dir name created modified backup info now) o h e = h
other-outcome image (call.SetFLock dir name now) o h e = h
other-outcome image (call.RstFLock dir name now) o h e = h
other-outcome image (call.CreateFileId dir name now) o h e = h
other-outcome image (call.DeleteFileId id now) o h e = h
other-outcome image (call.ResolveFileId id) o h e = h
other-outcome image (call.SetEof dir name fork length now) o h e = absurd (true≢false e)
other-outcome image (call.WriteFork dir name fork offset bytes now) o h e = absurd (true≢false e)

pub fork-outcome : (image : List ℕ) (c : Call) (o : Outcome) → IsOutcomeIn image c o → is_writing c ≡ true → IsForkOutcome image c o
fork-outcome image (call.GetDirInfo dir) o h e = absurd (true≢false (sym e))
fork-outcome image (call.GetCatInfo dir name) o h e = absurd (true≢false (sym e))
fork-outcome image (call.GetIndexed dir index) o h e = absurd (true≢false (sym e))
fork-outcome image (call.List dir) o h e = absurd (true≢false (sym e))
fork-outcome image (call.ReadFork dir name fork offset count) o h e = absurd (true≢false (sym e))
fork-outcome image (call.Create dir name now) o h e = absurd (true≢false (sym e))
fork-outcome image (call.DirCreate dir name now) o h e = absurd (true≢false (sym e))
fork-outcome image (call.Delete dir name now) o h e = absurd (true≢false (sym e))
fork-outcome image (call.Rename dir name new_name now) o h e = absurd (true≢false (sym e))
fork-outcome image (call.CatMove dir name new_dir now) o h e = absurd (true≢false (sym e))
fork-outcome image (call.SetFInfo dir name info now) o h e = absurd (true≢false (sym e))
fork-outcome image (call.SetCatInfo dir name created modified backup info now) o h e = absurd (true≢false (sym e))
fork-outcome image (call.SetFLock dir name now) o h e = absurd (true≢false (sym e))
fork-outcome image (call.RstFLock dir name now) o h e = absurd (true≢false (sym e))
fork-outcome image (call.CreateFileId dir name now) o h e = absurd (true≢false (sym e))
fork-outcome image (call.DeleteFileId id now) o h e = absurd (true≢false (sym e))
fork-outcome image (call.ResolveFileId id) o h e = absurd (true≢false (sym e))
fork-outcome image (call.SetEof dir name fork length now) o h e = h
fork-outcome image (call.WriteFork dir name fork offset bytes now) o h e = h
