-- From the edits of a fork to those of a call.
use Rattle.std.proofs.Common.{◌≡◌, ℕ, ◌+◌, ℤ, Bool, true, false, List, [], length, refl, sym, ◌∙◌, ap, subst, Option, Some, None, Ok, Err, Result, true≢false}
use Rattle.std.specs.Prelude.{max, IsTrue, IfOk}
use Rattle.hfs_model.specs.declared.call.Call.{Call}
use Rattle.hfs_model.specs.declared.call.Call.TheVariants as call
use Rattle.hfs_model.specs.declared.call.Fork.{Fork}
use Rattle.hfs_model.specs.declared.journal.Want.{Want}
use Rattle.hfs_model.specs.declared.journal.Want.TheVariants as want
use Rattle.hfs_model.specs.Changes.{Outcome, refused}
use Rattle.hfs_model.specs.Choices.{to_set_f_info}
use Rattle.hfs_model.specs.ForkCalls.{file_to_write, set_eof, write_fork}
use Rattle.hfs_model.specs.Replies.{is_accepted, success}
use Rattle.hfs_model.specs.Step.{step, is_writing}
use Rattle.hfs_model.specs.Volume.{Volume, Entry}
use Rattle.hfs_fields.specs.declared.file_record.FileRecord.{FileRecord}
use Rattle.hfs_check.specs.Parts.{Blocks, mdb_in, catalog_nodes}
use Rattle.hfs_check.specs.VolumeOf.{volume_in}
use Rattle.hfs_call_patches.specs.CallChanges.{IsChangeOf, Makes, changed, written_blocks}
use Rattle.hfs_call_patches.specs.declared.change.Change.{Change}
use Rattle.hfs_call_patches.specs.Files.{fork_of}
use Rattle.hfs_call_patches.specs.Settings.{IsFileChoice}
use Rattle.hfs_call_patches.specs.Calls.{AreFoundIn, IsForkEdit, IsForkChangeOf, IsSetEofEdit, IsWriteForkEdit}
use Rattle.hfs_call_patches.specs.Found.{IsFoundFile, FindsFile}
use Rattle.hfs_call_patches.specs.Wanting.{MeetsWant, IsWanting}
use Rattle.hfs_call_patches.specs.declared.choosing.FoundFile.{FoundFile}
use Rattle.hfs_call_patches.specs.declared.volume.ForkRefusal.{ForkRefusal}
use Rattle.hfs_call_patches.specs.declared.volume.ForkRefusal.TheVariants as fork_refusal
use Rattle.hfs_call_edits.specs.declared.editing.Refusal.{Refusal}
use Rattle.hfs_call_edits.specs.declared.editing.Refusal.TheVariants as refusal
use Rattle.hfs_call_edits.specs.Placed.{file_chosen, IsFilePlaced}
use Rattle.hfs_call_edits.specs.Edits.{ChoosesFileBy, IsEditOf, HasForkRoom, HasForkWritten, IsForkWanting, IsWantOf, wants_nodes}
use Rattle.hfs_call_edits.specs.ForkWants.{MeetsForkWant, MeetsWantOf, edit_of, length_with}
use Rattle.hfs_call_edits.specs.ForkWrites.{WritesFork, WritesForkOf}
use Rattle.hfs_call_edits.proofs.Edited.{none_wanted}

-- ---- the file

-- a file may be written where its first Finder bytes may be set
pub set_as_written : (v : Volume) (dir : ℕ) (name : List ℕ) → to_set_f_info v dir name ≡ file_to_write v dir name
unfolding to_set_f_info
set_as_written v dir name = refl

pub finds_file : (old : Blocks) (dir : ℕ) (name : List ℕ) (r : Result FoundFile ℤ) → ChoosesFileBy (λ v. to_set_f_info v dir name) old (file_chosen r) → IfOk r (IsFilePlaced (catalog_nodes old)) → FindsFile old (file_to_write (volume_in old) dir name) r
finds_file old dir name (Ok f) chosen place = record {
  choice = subst (λ (entry : Result Entry ℤ). IsFileChoice old entry f.key f.file) (set_as_written (volume_in old) dir name) chosen.choice;
  place = place;
}
finds_file old dir name (Err code) chosen place = sym (set_as_written (volume_in old) dir name) ∙ chosen

-- what a call finds is one of the volume's files
pub found_in : (old : Blocks) (chosen : Result Entry ℤ) (r : Result FoundFile ℤ) → FindsFile old chosen r → AreFoundIn old r
found_in old chosen (Ok f) is = record { chosen = chosen; is = is }
found_in old chosen (Err code) is = tt

-- ---- calls that write no fork

-- they want nothing of one
pub wants_none : (c : Call) (old : Blocks) → is_writing c ≡ false → MeetsForkWant c old None
wants_none (call.SetEof dir name fork length now) old e = absurd (true≢false e)
wants_none (call.WriteFork dir name fork offset bytes now) old e = absurd (true≢false e)
wants_none (call.GetDirInfo dir) old e = refl
wants_none (call.GetCatInfo dir name) old e = refl
wants_none (call.GetIndexed dir index) old e = refl
wants_none (call.List dir) old e = refl
wants_none (call.ReadFork dir name fork offset count) old e = refl
wants_none (call.Create dir name now) old e = refl
wants_none (call.DirCreate dir name now) old e = refl
wants_none (call.Delete dir name now) old e = refl
wants_none (call.Rename dir name new_name now) old e = refl
wants_none (call.CatMove dir name new_dir now) old e = refl
wants_none (call.SetFInfo dir name info now) old e = refl
wants_none (call.SetCatInfo dir name created modified backup info now) old e = refl
wants_none (call.SetFLock dir name now) old e = refl
wants_none (call.RstFLock dir name now) old e = refl
wants_none (call.CreateFileId dir name now) old e = refl
wants_none (call.DeleteFileId id now) old e = refl
wants_none (call.ResolveFileId id) old e = refl

pub other_room : {E : Type 0} (c : Call) (total : ℕ) (old : Blocks) → is_writing c ≡ false → (r : Result (Result Change Refusal) E) → IfOk r (HasForkRoom c total old)
other_room c total old other (Ok (Ok change)) = wants_none c old other
other_room c total old other (Ok (Err (refusal.Code code))) = λ writes. absurd (true≢false (sym writes ∙ other))
other_room c total old other (Ok (Err (refusal.Want wanting))) = tt
other_room c total old other (Err e) = tt

-- they write no block of one
writes_none : (c : Call) (written : List ℕ) (old new : Blocks) → is_writing c ≡ false → written ≡ [] → WritesFork c written old new
writes_none (call.SetEof dir name fork length now) written old new e none = absurd (true≢false e)
writes_none (call.WriteFork dir name fork offset bytes now) written old new e none = absurd (true≢false e)
writes_none (call.GetDirInfo dir) written old new e none = none
writes_none (call.GetCatInfo dir name) written old new e none = none
writes_none (call.GetIndexed dir index) written old new e none = none
writes_none (call.List dir) written old new e none = none
writes_none (call.ReadFork dir name fork offset count) written old new e none = none
writes_none (call.Create dir name now) written old new e none = none
writes_none (call.DirCreate dir name now) written old new e none = none
writes_none (call.Delete dir name now) written old new e none = none
writes_none (call.Rename dir name new_name now) written old new e none = none
writes_none (call.CatMove dir name new_dir now) written old new e none = none
writes_none (call.SetFInfo dir name info now) written old new e none = none
writes_none (call.SetCatInfo dir name created modified backup info now) written old new e none = none
writes_none (call.SetFLock dir name now) written old new e none = none
writes_none (call.RstFLock dir name now) written old new e none = none
writes_none (call.CreateFileId dir name now) written old new e none = none
writes_none (call.DeleteFileId id now) written old new e none = none
writes_none (call.ResolveFileId id) written old new e none = none

pub other_written : {E : Type 0} (c : Call) (total : ℕ) (old : Blocks) → is_writing c ≡ false → (r : Result (Result Change Refusal) E) → IfOk r (IsEditOf c total old) → IfOk r (HasForkWritten c total old)
other_written c total old other (Ok (Ok change)) edit = writes_none c (written_blocks change.written) old (changed old change) other (ap written_blocks (edit.comes.unwritten other))
other_written c total old other (Ok (Err why)) edit = tt
other_written c total old other (Err e) edit = tt

-- ---- calls that write one

-- the size of a block is the model's
pub block_size_is : (old : Blocks) → (volume_in old).block_size ≡ (mdb_in old).allocation_block_size
unfolding volume_in
block_size_is old = refl

module _ (c : Call) (fork : Fork) (len : FileRecord → ℕ) (offset : ℕ) (part : List ℕ) (dir : ℕ) (name : List ℕ) (total : ℕ) (old : Blocks) (made : Outcome) (is : step (volume_in old) c ≡ made) (writes : is_writing c ≡ true) (none : wants_nodes c old ≡ false)
    (meets : (want : Option Want) → MeetsWantOf fork (file_to_write (volume_in old) dir name) len old want → MeetsForkWant c old want) (found : Result FoundFile ℤ) (finds : FindsFile old (file_to_write (volume_in old) dir name) found) where
  found_is : (f : FoundFile) → found ≡ Ok f → IsFoundFile old (file_to_write (volume_in old) dir name) f
  found_is f e = subst (λ (r : Result FoundFile ℤ). FindsFile old (file_to_write (volume_in old) dir name) r) e finds

  change_of : (change : Change) (f : FoundFile) → IsForkChangeOf made fork f (len f.file) offset part total old change → IsChangeOf c total old change
  change_of change f has = record {
    within = has.within;
    zeros = has.zeros;
    stepped = record { sound = has.become.sound; kept = has.become.kept; volume = has.become.volume ∙ ap (λ (o : Outcome). o.0) (sym is) };
    unwritten = λ other. absurd (true≢false (sym writes ∙ other));
    directory = has.directory;
    reply = ap (λ (o : Outcome). o.1) is ∙ has.reply;
  }

  wanted_of : (w : Want) → IsForkEdit made found fork (λ f. len f.file) offset part total old (Err (fork_refusal.Want w)) → IsForkWanting c old w
  wanted_of w edit = record {
    accepted = ap (λ (o : Outcome). is_accepted o.1) is ∙ edit.3;
    meets = meets (Some w) (record { key = edit.0.key; file = edit.0.file; choice = (found_is edit.0 edit.1).choice; meets = edit.2.meets; told = edit.2.told });
  }

  pub fork_edit : (r : Result Change ForkRefusal) → IsForkEdit made found fork (λ f. len f.file) offset part total old r → IsEditOf c total old (edit_of r)
  fork_edit (Ok change) edit = record { enough = none; comes = change_of change edit.0 edit.3 }
  fork_edit (Err (fork_refusal.Code code)) edit = record { enough = none; comes = is ∙ edit.0 }
  fork_edit (Err (fork_refusal.Want (want.Nodes free depth))) edit = absurd edit.2.told
  fork_edit (Err (fork_refusal.Want (want.Room free wanted))) edit = wanted_of (want.Room free wanted) edit
  fork_edit (Err (fork_refusal.Want (want.ExtentNodes free depth))) edit = wanted_of (want.ExtentNodes free depth) edit

  pub fork_room : (r : Result Change ForkRefusal) → IsForkEdit made found fork (λ f. len f.file) offset part total old r → HasForkRoom c total old (edit_of r)
  fork_room (Ok change) edit =
      meets None (record { key = edit.0.key; file = edit.0.file; choice = (found_is edit.0 edit.1).choice; meets = edit.2; told = tt })
  fork_room (Err (fork_refusal.Code code)) edit = λ w. ap (λ (o : Outcome). is_accepted o.1) is ∙ edit.1
  fork_room (Err (fork_refusal.Want w)) edit = tt

  pub fork_written : (writes_of : (written : List ℕ) (new : Blocks) → WritesForkOf fork (file_to_write (volume_in old) dir name) len offset part written old new → WritesFork c written old new) (r : Result Change ForkRefusal)
      → IsForkEdit made found fork (λ f. len f.file) offset part total old r → HasForkWritten c total old (edit_of r)
  fork_written writes_of (Ok change) edit = writes_of (written_blocks change.written) (changed old change) (record {
    key = edit.0.key;
    was = edit.0.file;
    choice = (found_is edit.0 edit.1).choice;
    file = edit.3.file;
    value = edit.3.value;
    stands = edit.3.stands;
    own = edit.3.own;
    laid = edit.3.laid;
  })
  fork_written writes_of (Err (fork_refusal.Code code)) edit = tt
  fork_written writes_of (Err (fork_refusal.Want w)) edit = tt

-- ---- SetEof

module _ (dir : ℕ) (name : List ℕ) (fork : Fork) (len now total : ℕ) (old : Blocks) (found : Result FoundFile ℤ) (finds : FindsFile old (file_to_write (volume_in old) dir name) found) (r : Result Change ForkRefusal)
    (edit : IsSetEofEdit found fork len now total old r) where
  abbrev set_eof_call : Call
  set_eof_call = call.SetEof dir name fork len now

  abbrev set_eof_made : Outcome
  set_eof_made = set_eof (mdb_in old).allocation_block_size (volume_in old) dir name fork len now

  set_eof_step : step (volume_in old) set_eof_call ≡ set_eof_made
  set_eof_step = ap (λ (n : ℕ). set_eof n (volume_in old) dir name fork len now) (block_size_is old)

  pub set_eof_edit : IsEditOf set_eof_call total old (edit_of r)
  set_eof_edit =
      fork_edit set_eof_call fork (λ file. len) 0 [] dir name total old set_eof_made set_eof_step refl (none_wanted set_eof_call old (λ depth. refl)) (λ want meets. meets) found finds r (edit dir name finds)

  pub set_eof_room : HasForkRoom set_eof_call total old (edit_of r)
  set_eof_room =
      fork_room set_eof_call fork (λ file. len) 0 [] dir name total old set_eof_made set_eof_step refl (none_wanted set_eof_call old (λ depth. refl)) (λ want meets. meets) found finds r (edit dir name finds)

  pub set_eof_written : HasForkWritten set_eof_call total old (edit_of r)
  set_eof_written =
      fork_written set_eof_call fork (λ file. len) 0 [] dir name total old set_eof_made set_eof_step refl (none_wanted set_eof_call old (λ depth. refl)) (λ want meets. meets) found finds (λ written new h. h) r (edit dir name finds)

-- ---- WriteFork

module _ (dir : ℕ) (name : List ℕ) (fork : Fork) (offset : ℕ) (bytes : List ℕ) (now total : ℕ) (old : Blocks) (found : Result FoundFile ℤ) (finds : FindsFile old (file_to_write (volume_in old) dir name) found)
    (r : Result Change ForkRefusal) (edit : IsWriteForkEdit found fork offset bytes now total old r) where
  abbrev write_fork_call : Call
  write_fork_call = call.WriteFork dir name fork offset bytes now

  abbrev write_fork_made : Outcome
  write_fork_made = write_fork (mdb_in old).allocation_block_size (volume_in old) dir name fork offset bytes now

  write_fork_step : step (volume_in old) write_fork_call ≡ write_fork_made
  write_fork_step = ap (λ (n : ℕ). write_fork n (volume_in old) dir name fork offset bytes now) (block_size_is old)

  pub write_fork_edit : IsEditOf write_fork_call total old (edit_of r)
  write_fork_edit =
      fork_edit write_fork_call fork (length_with fork offset bytes) offset bytes dir name total old write_fork_made write_fork_step refl (none_wanted write_fork_call old (λ depth. refl)) (λ want meets. meets) found finds r
      (edit dir name finds)

  pub write_fork_room : HasForkRoom write_fork_call total old (edit_of r)
  write_fork_room =
      fork_room write_fork_call fork (length_with fork offset bytes) offset bytes dir name total old write_fork_made write_fork_step refl (none_wanted write_fork_call old (λ depth. refl)) (λ want meets. meets) found finds r
      (edit dir name finds)

  pub write_fork_written : HasForkWritten write_fork_call total old (edit_of r)
  write_fork_written =
      fork_written write_fork_call fork (length_with fork offset bytes) offset bytes dir name total old write_fork_made write_fork_step refl (none_wanted write_fork_call old (λ depth. refl)) (λ want meets. meets) found finds
      (λ written new h. h) r (edit dir name finds)
