-- From the edits of a fork to the calls.
use Rattle.std.proofs.Common.{◌≡◌, ℕ, ◌+◌, ◌≤◌, ℤ, List, [], length, sym, ◌∙◌, ap, subst, arith, false, Ok, Err, Result}
use Rattle.std.specs.Prelude.{max, IsTrue}
use Rattle.hfs_fields.specs.declared.file_record.FileRecord.{FileRecord}
use Rattle.hfs_fields.specs.declared.key.CatKey.{CatKey}
use Rattle.hfs_fields.specs.Keys.{cat_cmp}
use Rattle.hfs_fields.specs.RecordForms.{file_record_bytes}
use Rattle.hfs_btree_edits.specs.Edits.{with_replaced}
use Rattle.hfs_model.specs.declared.call.Fork.{Fork}
use Rattle.hfs_model.specs.declared.journal.Want.{Want}
use Rattle.hfs_model.specs.declared.reply.Reply.{Reply}
use Rattle.hfs_model.specs.declared.reply.Value.{Value}
use Rattle.hfs_model.specs.declared.reply.Value.TheVariants as value
use Rattle.hfs_model.specs.Changes.{Outcome, refused, change}
use Rattle.hfs_model.specs.Replies.{success, is_accepted}
use Rattle.hfs_model.specs.Volume.{Volume, Entry, Items}
use Rattle.hfs_check.specs.Parts.{Blocks, mdb_in, catalog_in}
use Rattle.hfs_check.specs.Sound.{AreBlocksSound}
use Rattle.hfs_check.specs.VolumeOf.{volume_in}
use Rattle.std.specs.FinMap as map
use Rattle.hfs_model.specs.Forks.{resized, written, fork_bytes, item_with_fork}
use Rattle.hfs_model.specs.ForkCalls.{to_set_eof, to_write_fork, set_eof, write_fork}
use Rattle.hfs_call_patches.specs.Files.{fork_of}
use Rattle.hfs_call_patches.specs.Laid.{AreFull}
use Rattle.hfs_call_patches.specs.Laws.{HasBecome}
use Rattle.hfs_call_patches.specs.CallEdits.{SetsFork, HasLaid}
use Rattle.hfs_call_patches.proofs.LawsProved.{edits_are_set_eof, edits_are_write_fork, edits_leave_no_old_byte}
use Rattle.hfs_call_patches.specs.CallChanges.{written_blocks, changed}
use Rattle.hfs_call_patches.specs.declared.change.Change.{Change}
use Rattle.hfs_model.proofs.Refusals.{not_done, set_eof_told, write_fork_told}
use Rattle.hfs_call_patches.specs.Calls.{HasResized, IsResized, IsForkChangeOf, IsSetEofEdit, IsWriteForkEdit}
use Rattle.hfs_call_patches.specs.Found.{IsFoundFile, AreWholeSound, ChoosesSetEof, ChoosesWriteFork, IsWritable}
use Rattle.hfs_call_patches.specs.Wanting.{IsWanting}
use Rattle.hfs_call_patches.specs.declared.volume.ForkRefusal.TheVariants as refusal
use Rattle.hfs_call_patches.specs.declared.choosing.FoundFile.{FoundFile}

-- ---- the replies

changed_by : (v : Volume) (make : Entry → Items → Items) (now : ℕ) (r s : Result Entry ℤ) → r ≡ s → change v r make now ≡ change v s make now
changed_by v make now r s e = ap (λ (x : Result Entry ℤ). change v x make now) e

abbrev set_eof_makes : ℕ → Fork → ℕ → ℕ → Entry → Items → Items
set_eof_makes size fork length now e m = map.insert m e.0 (item_with_fork size fork (resized length (fork_bytes fork e.1.kind)) now e.1)

abbrev write_fork_makes : ℕ → Fork → ℕ → List ℕ → ℕ → Entry → Items → Items
write_fork_makes size fork offset bytes now e m = map.insert m e.0 (item_with_fork size fork (written offset bytes (fork_bytes fork e.1.kind)) now e.1)

pub set_eof_refused : (size : ℕ) (v : Volume) (dir : ℕ) (name : List ℕ) (fork : Fork) (length now : ℕ) (code : ℤ) → to_set_eof v dir name length ≡ Err code → set_eof size v dir name fork length now ≡ refused v code
unfolding set_eof
set_eof_refused size v dir name fork length now code e = changed_by v (set_eof_makes size fork length now) now _ _ e

pub set_eof_not : (size : ℕ) (v : Volume) (dir : ℕ) (name : List ℕ) (fork : Fork) (length now : ℕ) (code : ℤ) → to_set_eof v dir name length ≡ Err code → is_accepted (set_eof size v dir name fork length now).1 ≡ false
set_eof_not size v dir name fork length now code e = ap (λ (o : Outcome). is_accepted o.1) (set_eof_refused size v dir name fork length now code e) ∙ not_done code ((set_eof_told v dir name length).told code e)

pub set_eof_done : (size : ℕ) (v : Volume) (dir : ℕ) (name : List ℕ) (fork : Fork) (length now : ℕ) (x : Entry) → to_set_eof v dir name length ≡ Ok x → (set_eof size v dir name fork length now).1 ≡ success value.Nothing
unfolding set_eof
set_eof_done size v dir name fork length now x e = ap (λ (o : Outcome). o.1) (changed_by v (set_eof_makes size fork length now) now _ _ e)

pub write_fork_refused : (size : ℕ) (v : Volume) (dir : ℕ) (name : List ℕ) (fork : Fork) (offset : ℕ) (bytes : List ℕ) (now : ℕ) (code : ℤ) → to_write_fork v dir name fork offset bytes ≡ Err code → write_fork size v dir name fork offset bytes now ≡ refused v code
unfolding write_fork
write_fork_refused size v dir name fork offset bytes now code e = changed_by v (write_fork_makes size fork offset bytes now) now _ _ e

pub write_fork_not : (size : ℕ) (v : Volume) (dir : ℕ) (name : List ℕ) (fork : Fork) (offset : ℕ) (bytes : List ℕ) (now : ℕ) (code : ℤ) → to_write_fork v dir name fork offset bytes ≡ Err code → is_accepted (write_fork size v dir name fork offset bytes now).1 ≡ false
write_fork_not size v dir name fork offset bytes now code e = ap (λ (o : Outcome). is_accepted o.1) (write_fork_refused size v dir name fork offset bytes now code e) ∙ not_done code ((write_fork_told v dir name fork offset bytes).told code e)

pub write_fork_done : (size : ℕ) (v : Volume) (dir : ℕ) (name : List ℕ) (fork : Fork) (offset : ℕ) (bytes : List ℕ) (now : ℕ) (x : Entry) → to_write_fork v dir name fork offset bytes ≡ Ok x → (write_fork size v dir name fork offset bytes now).1 ≡ success value.Nothing
unfolding write_fork
write_fork_done size v dir name fork offset bytes now x e = ap (λ (o : Outcome). o.1) (changed_by v (write_fork_makes size fork offset bytes now) now _ _ e)

pub accepted : (r : Reply) → r ≡ success value.Nothing → IsTrue (is_accepted r)
accepted r e = ap is_accepted e

-- ---- which answer it is

pub has_resized : (f : FoundFile) (fork : Fork) (len offset : ℕ) (part : List ℕ) (now total : ℕ) (old : Blocks) (r : Result Change Want) (c : Change) → r ≡ Ok c → IsResized f fork len offset part now total old r → HasResized f fork len offset part now total old c
has_resized f fork len offset part now total old r c e h = subst (λ (x : Result Change Want). IsResized f fork len offset part now total old x) e h

pub is_wanting : (f : FoundFile) (fork : Fork) (len offset : ℕ) (part : List ℕ) (now total : ℕ) (old : Blocks) (r : Result Change Want) (want : Want) → r ≡ Err want → IsResized f fork len offset part now total old r → IsWanting fork f.file len old want
is_wanting f fork len offset part now total old r want e h = subst (λ (x : Result Change Want). IsResized f fork len offset part now total old x) e h

-- ---- the change

module _ (total : ℕ) (old : Blocks) (h : AreBlocksSound total old) (full : AreFull total old) (f : FoundFile) (fork : Fork) (len offset : ℕ) (part : List ℕ) (now : ℕ) (c : Change) (has : HasResized f fork len offset part now total old c)
    (chosen : Result Entry ℤ) (is : IsFoundFile old chosen f) (made : Outcome) (reply : made.1 ≡ success value.Nothing) (starts : offset ≤ (fork_of fork f.file).length) (fits : offset + length part ≤ len)
    (become : SetsFork fork is.choice.of len now offset part (written_blocks c.written) old (changed old c) → HasBecome (written_blocks c.written) made.0 total old (changed old c)) where
  sets : SetsFork fork is.choice.of len now offset part (written_blocks c.written) old (changed old c)
  sets = has.sets chosen is

  pub change_of : IsForkChangeOf made fork f len offset part total old c
  change_of = record {
    within = has.within;
    zeros = has.zeros;
    become = become sets;
    directory = has.directory;
    reply = reply ∙ ap (λ (x : Value). success x) (sym has.nothing);
    file = sets.file;
    value = sets.set.value;
    stands = sets.set.content ∙ ap (λ (k : CatKey). with_replaced cat_cmp k (file_record_bytes sets.file) (catalog_in old)) is.choice.own_key;
    own = sets.are_written.own;
    laid = subst (λ (x : FileRecord). HasLaid fork x sets.file len offset part old (changed old c)) is.choice.own_file
        (edits_leave_no_old_byte total chosen fork is.choice.of len now offset part (written_blocks c.written) old (changed old c) h full is.choice.choice
        (subst (λ (x : FileRecord). offset ≤ (fork_of fork x).length) (sym is.choice.own_file) starts) fits sets);
  }

-- ---- SetEof

module _ (total : ℕ) (old : Blocks) (found : Result FoundFile ℤ) (fork : Fork) (len now : ℕ) where
  abbrev set_eof_made : ℕ → List ℕ → Outcome
  set_eof_made dir name = set_eof (mdb_in old).allocation_block_size (volume_in old) dir name fork len now

  pub set_eof_code : (code : ℤ) → ChoosesSetEof found len (Err code) → IsSetEofEdit found fork len now total old (Err (refusal.Code code))
  set_eof_code code chooses dir name finds = (
    set_eof_refused (mdb_in old).allocation_block_size (volume_in old) dir name fork len now code (chooses old dir name finds),
    set_eof_not (mdb_in old).allocation_block_size (volume_in old) dir name fork len now code (chooses old dir name finds),
  )

  module _ (f : FoundFile) (is : found ≡ Ok f) (chooses : ChoosesSetEof found len (Ok f)) where
    set_eof_reply : (dir : ℕ) (name : List ℕ) → IsFoundFile old (to_set_eof (volume_in old) dir name len) f → (set_eof_made dir name).1 ≡ success value.Nothing
    set_eof_reply dir name there = set_eof_done (mdb_in old).allocation_block_size (volume_in old) dir name fork len now _ there.choice.choice.is

    pub set_eof_want : (want : Want) → IsWanting fork f.file len old want → IsSetEofEdit found fork len now total old (Err (refusal.Want want))
    set_eof_want want meets dir name finds = (f, is, meets, accepted _ (set_eof_reply dir name (chooses old dir name finds)))

    pub set_eof_change : AreBlocksSound total old → AreFull total old → (c : Change) → HasResized f fork len 0 [] now total old c → IsSetEofEdit found fork len now total old (Ok c)
    set_eof_change h full c has dir name finds =
        let there : IsFoundFile old (to_set_eof (volume_in old) dir name len) f = chooses old dir name finds in (
          f,
          is,
          has.enough,
          change_of total old h full f fork len 0 [] now c has (to_set_eof (volume_in old) dir name len) there (set_eof_made dir name) (set_eof_reply dir name there) (omega arith) (omega arith)
              (edits_are_set_eof total dir name fork len now there.choice.of (written_blocks c.written) old (changed old c) h full there.choice.choice),
        )

-- ---- WriteFork

module _ (total : ℕ) (old : Blocks) (h : AreBlocksSound total old) (full : AreFull total old) (found : Result FoundFile ℤ) (fork : Fork) (offset : ℕ) (bytes : List ℕ) (now : ℕ) where
  abbrev write_fork_made : ℕ → List ℕ → Outcome
  write_fork_made dir name = write_fork (mdb_in old).allocation_block_size (volume_in old) dir name fork offset bytes now

  whole : AreWholeSound total old
  whole = record { sound = h; whole = full }

  pub write_fork_code : (code : ℤ) → ChoosesWriteFork found fork offset bytes (Err code) → IsWriteForkEdit found fork offset bytes now total old (Err (refusal.Code code))
  write_fork_code code chooses dir name finds = (
    write_fork_refused (mdb_in old).allocation_block_size (volume_in old) dir name fork offset bytes now code (chooses total old dir name whole finds),
    write_fork_not (mdb_in old).allocation_block_size (volume_in old) dir name fork offset bytes now code (chooses total old dir name whole finds),
  )

  module _ (f : FoundFile) (writable : IsWritable found fork offset bytes f) (chooses : ChoosesWriteFork found fork offset bytes (Ok f)) (len : ℕ) (len_is : len ≡ max (fork_of fork f.file).length (offset + length bytes)) where
    write_fork_reply : (dir : ℕ) (name : List ℕ) → IsFoundFile old (to_write_fork (volume_in old) dir name fork offset bytes) f → (write_fork_made dir name).1 ≡ success value.Nothing
    write_fork_reply dir name there = write_fork_done (mdb_in old).allocation_block_size (volume_in old) dir name fork offset bytes now _ there.choice.choice.is

    pub write_fork_want : (want : Want) → IsWanting fork f.file len old want → IsWriteForkEdit found fork offset bytes now total old (Err (refusal.Want want))
    write_fork_want want meets dir name finds =
        (f, writable.is, subst (λ (n : ℕ). IsWanting fork f.file n old want) len_is meets, accepted _ (write_fork_reply dir name (chooses total old dir name whole finds)))

    pub write_fork_change : (c : Change) → HasResized f fork len offset bytes now total old c → IsWriteForkEdit found fork offset bytes now total old (Ok c)
    write_fork_change c has dir name finds =
        let there : IsFoundFile old (to_write_fork (volume_in old) dir name fork offset bytes) f = chooses total old dir name whole finds in
        let as_long : HasResized f fork (max (fork_of fork f.file).length (offset + length bytes)) offset bytes now total old c = subst (λ (n : ℕ). HasResized f fork n offset bytes now total old c) len_is has in (
          f,
          writable.is,
          as_long.enough,
          change_of total old h full f fork (max (fork_of fork f.file).length (offset + length bytes)) offset bytes now c as_long (to_write_fork (volume_in old) dir name fork offset bytes) there (write_fork_made dir name)
              (write_fork_reply dir name there) writable.starts (omega arith)
              (λ sets. edits_are_write_fork total dir name fork offset bytes now there.choice.of (written_blocks c.written) old (changed old c) h full there.choice.choice
              (subst (λ (x : FileRecord). SetsFork fork there.choice.of (max (fork_of fork x).length (offset + length bytes)) now offset bytes (written_blocks c.written) old (changed old c)) (sym there.choice.own_file) sets)),
        )
