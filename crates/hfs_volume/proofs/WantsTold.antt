-- What is wanting of a call that writes a fork is a want of the call's own words: of the file that it names, as the volume has it.
use Rattle.std.proofs.Common.{◌≡◌, ℕ, ◌+◌, max, not, List, [], length, Option, Some, None, Ok, refl, sym, ap, ◌∙◌, subst}
use Rattle.std.specs.Prelude.{IsTrue, IfSome}
use Rattle.std.specs.Option.{option_map_or, ok_or}
use Rattle.hfs_fields.specs.Names.{is_item_name}
use Rattle.hfs_fields.specs.Records.{file_record_of}
use Rattle.hfs_fields.specs.declared.key.CatKey.{CatKey}
use Rattle.hfs_fields.specs.declared.file_record.FileRecord.{FileRecord}
use Rattle.hfs_blocks.specs.Blocks.{block_at, block_count, length-block_at}
use Rattle.hfs_fields.specs.Members.{In}
use Rattle.hfs_fields.proofs.MemberLemmas.{each_in}
use Rattle.hfs_model.specs.declared.codes.TheConstants.{BAD_NAME, NOT_A_FOLDER, NOT_FOUND}
use Rattle.hfs_model.specs.declared.call.Call.TheVariants as call
use Rattle.hfs_model.specs.declared.call.Fork.{Fork}
use Rattle.hfs_model.specs.declared.call.Fork.TheVariants.{DataFork, ResFork}
use Rattle.hfs_model.specs.declared.item.Item.{Item}
use Rattle.hfs_model.specs.declared.journal.Want.{Want}
use Rattle.hfs_model.specs.Changes.{Outcome}
use Rattle.hfs_model.specs.Children.{child_named, entries_of, is_folder}
use Rattle.hfs_model.specs.Choices.{child_to_change, file_to_change, is_locked, lock_code}
use Rattle.hfs_model.specs.ForkCalls.{file_to_write}
use Rattle.hfs_model.specs.Forks.{blocks, fork_bytes}
use Rattle.hfs_model.specs.Replies.{is_accepted}
use Rattle.hfs_model.specs.Step.{step}
use Rattle.hfs_model.specs.Volume.{Volume, Entry}
use Rattle.hfs_model.proofs.Facts.{not_refused}
use Rattle.hfs_model.proofs.KeepsCalls.{same_entry, err_is_ok, chained, unlocked_is}
use Rattle.hfs_model.specs.ForkCallLaws.{fork_named}
use Rattle.hfs_catalog.proofs.FileRecords.{not-dir}
use Rattle.hfs_record_edits.specs.Wants.{IsForkWant, IsSetEofWant, IsWriteForkWant, length_written}
use Rattle.hfs_catalog.specs.Records.{Record, has_thread}
use Rattle.hfs_catalog.specs.Items.{file_of, item_of}
use Rattle.hfs_check.specs.Parts.{Blocks, mdb_in, catalog_in}
use Rattle.hfs_check.specs.Sound.{IsSound}
use Rattle.hfs_check.specs.VolumeOf.{contents_in, volume_in, volume_of}
use Rattle.hfs_record_edits.proofs.Made.{file_item}
use Rattle.hfs_items.specs.Told.{pick}
use Rattle.hfs_items.proofs.FolderLemmas.{found_with}
use Rattle.hfs_items.proofs.Queries.{AreLong, files_are_long}
use Rattle.hfs_call_patches.specs.Files.{fork_of}
use Rattle.hfs_call_patches.specs.Settings.{IsFileChoice}
use Rattle.hfs_call_edits.specs.ForkWants.{length_with}
use Rattle.hfs_volume.specs.Serving.{IsForkOutcome}

-- ---- the file that is chosen is the folder's child of that name

child_is : (v : Volume) (dir : ℕ) (name : List ℕ) (e : Entry) → child_to_change v dir name ≡ Ok e → child_named (entries_of v) dir name ≡ Some e
unfolding child_to_change
child_is v dir name e is =
    let a = not_refused (is_locked v) (lock_code v) _ e is in
    let b = not_refused (not (is_item_name name)) BAD_NAME _ e a.1 in
    let c = not_refused (not (is_folder (entries_of v) dir)) NOT_A_FOLDER _ e b.1 in
    elim (child_named (entries_of v) dir name) as (λ (o : Option Entry). ok_or o NOT_FOUND ≡ Ok e → o ≡ Some e) [
      | None ↦ λ none. absurd (err_is_ok NOT_FOUND e none)
      | Some f ↦ λ same. ap (λ (x : Entry). Some x) (same_entry f e same)
    ] c.1

file_is : (v : Volume) (dir : ℕ) (name : List ℕ) (e : Entry) → file_to_change v dir name ≡ Ok e → child_named (entries_of v) dir name ≡ Some e
unfolding file_to_change
file_is v dir name e is =
    let step = chained _ _ e is in
    child_is v dir name step.0 step.1 ∙ ap (λ (x : Entry). Some x) (same_entry step.0 e (not_refused _ _ _ e step.2).1)

written_is : (v : Volume) (dir : ℕ) (name : List ℕ) (e : Entry) → file_to_write v dir name ≡ Ok e → child_named (entries_of v) dir name ≡ Some e
written_is v dir name e is =
    let step = chained _ _ e is in
    file_is v dir name step.0 step.1 ∙ ap (λ (x : Entry). Some x) (unlocked_is e step.0 step.2)

-- ---- its fork has as many bytes as its record says

module _ (image : List ℕ) (sound : IsSound image) (dir : ℕ) (name : List ℕ) (key : CatKey) (file : FileRecord) (choice : IsFileChoice (block_at image) (file_to_write (volume_in (block_at image)) dir name) key file) where
  abbrev old : Blocks
  old = block_at image

  abbrev r : Record
  r = choice.of

  there : In r (catalog_in old)
  there = (found_with (catalog_in old) choice.choice.id r choice.choice.was).there

  kind_is : (fork : Fork) → fork_bytes fork (item_of (contents_in old) (catalog_in old) r).kind ≡ pick fork (contents_in old (file_record_of r.1))
  unfolding file_of
  kind_is fork = ap (λ (x : Item). fork_bytes fork x.kind) (file_item (contents_in old) (catalog_in old) r (not-dir r.1 choice.is)) ∙ by fork
    where
      by : (k : Fork) → fork_bytes k (file_of (has_thread (catalog_in old) (file_record_of r.1).id) (contents_in old (file_record_of r.1)) r.0 (file_record_of r.1)).kind ≡ pick k (contents_in old (file_record_of r.1))
      by DataFork = refl
      by ResFork = refl

  record_long : (fork : Fork) → length (pick fork (contents_in old (file_record_of r.1))) ≡ (fork_of fork (file_record_of r.1)).length
  record_long fork = by fork (each_in _ (catalog_in old) r (files_are_long (block_count image) old (length-block_at image) sound.blocks) there choice.is)
    where
      by : (k : Fork) → AreLong old (file_record_of r.1) → length (pick k (contents_in old (file_record_of r.1))) ≡ (fork_of k (file_record_of r.1)).length
      by DataFork long = long.is_data
      by ResFork long = long.is_resource

  -- as the volume has it
  named_long : (fork : Fork) → length (fork_named (volume_in old) dir name fork) ≡ (fork_of fork file).length
  named_long fork =
      ap (λ (o : Option Entry). length (option_map_or (λ (e : Entry). fork_bytes fork e.1.kind) o [])) (written_is (volume_in old) dir name _ choice.choice.is)
      ∙ ap (λ (l : List ℕ). length l) (kind_is fork)
      ∙ record_long fork
      ∙ ap (λ (f : FileRecord). (fork_of fork f).length) choice.own_file

  length_is : (fork : Fork) (offset : ℕ) (bytes : List ℕ) → length_with fork offset bytes file ≡ length_written (volume_in old) dir name fork offset bytes
  length_is fork offset bytes = ap (λ (n : ℕ). max n (offset + length bytes)) (sym (named_long fork))

-- ---- the wants

with_fact : (o : Option Want) (F : Type 0) (P : Want → Type 0) → F → IfSome o P → IfSome o (λ w. F × P w)
with_fact None F P f p = tt
with_fact (Some w) F P f p = (f, p)

pub set_eof_wants : (image : List ℕ) (dir : ℕ) (name : List ℕ) (fork : Fork) (length now : ℕ) (o : Outcome) → let c = call.SetEof dir name fork length now in let v = volume_of image in
    (is : IsForkOutcome image c o) → IsTrue (is_accepted (step v c).1) → IfSome is.want (IsSetEofWant v.block_size v dir name fork length now)
unfolding volume_of volume_in
set_eof_wants image dir name fork length now o is accepted = with_fact is.want _ (IsForkWant (blocks (mdb_in (block_at image)).allocation_block_size length)) accepted (is.meets accepted).told

pub write_fork_wants : (image : List ℕ) → IsSound image → (dir : ℕ) (name : List ℕ) (fork : Fork) (offset : ℕ) (bytes : List ℕ) (now : ℕ) (o : Outcome)
    → let c = call.WriteFork dir name fork offset bytes now in let v = volume_of image in
    (is : IsForkOutcome image c o) → IsTrue (is_accepted (step v c).1) → IfSome is.want (IsWriteForkWant v.block_size v dir name fork offset bytes now)
unfolding volume_of volume_in
write_fork_wants image sound dir name fork offset bytes now o is accepted =
    let meets = is.meets accepted in
    let size = (mdb_in (block_at image)).allocation_block_size in
    with_fact is.want _ (IsForkWant (blocks size (length_written (volume_in (block_at image)) dir name fork offset bytes))) accepted
    (subst (λ (len : ℕ). IfSome is.want (IsForkWant (blocks size len))) (length_is image sound dir name meets.key meets.file meets.choice fork offset bytes) meets.told)
