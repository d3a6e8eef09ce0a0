-- What SetEof and WriteFork choose, where the file was looked for already.
use Rattle.std.proofs.Common.{◌≡◌, ℕ, ◌+◌, ◌≤◌, ℤ, Bool, true, false, cond, ltb, ◌||◌, List, length, refl, ◌∙◌, ap, Result, Ok, Err}
use Rattle.std.specs.Prelude.{nat_lt, IfOk}
use Rattle.std.proofs.lemmas.Bool.{ltb-false}
use Rattle.hfs_fields.specs.Records.{file_record_of}
use Rattle.hfs_fields.specs.declared.file_record.FileRecord.{FileRecord}
use Rattle.hfs_fields.specs.Members.{In}
use Rattle.hfs_fields.proofs.MemberLemmas.{each_in}
use Rattle.hfs_model.specs.declared.codes.TheConstants.{END_OF_FILE, PARAMETER}
use Rattle.hfs_model.specs.declared.call.Fork.{Fork}
use Rattle.hfs_model.specs.declared.call.Fork.TheVariants.{DataFork, ResFork}
use Rattle.hfs_model.specs.declared.item.Item.{Item}
use Rattle.hfs_model.specs.Choices.{and_then}
use Rattle.hfs_model.specs.Volume.{Entry}
use Rattle.hfs_catalog.proofs.FileRecords.{not-dir}
use Rattle.hfs_catalog.specs.Records.{Record, has_thread}
use Rattle.hfs_catalog.specs.Items.{file_of, item_of}
use Rattle.hfs_check.specs.Parts.{Blocks, catalog_in}
use Rattle.hfs_check.specs.VolumeOf.{contents_in, volume_in}
use Rattle.hfs_record_edits.proofs.Made.{file_item}
use Rattle.hfs_items.specs.Told.{pick}
use Rattle.hfs_items.proofs.FolderLemmas.{found_with}
use Rattle.hfs_items.proofs.Queries.{AreLong, files_are_long}
use Rattle.hfs_model.specs.Forks.{fork_bytes}
use Rattle.hfs_model.specs.ForkCalls.{file_to_write, unless_past_end, to_set_eof, to_write_fork}
use Rattle.hfs_call_patches.specs.Files.{fork_of}
use Rattle.hfs_call_patches.specs.declared.choosing.FoundFile.{FoundFile}
use Rattle.hfs_call_patches.specs.Found.{IsFoundFile, FindsFile, AreWholeSound, if_short, unless_past, if_writable, ChoosesSetEof, ChoosesWriteFork, IsWritable}

-- ---- a file that was found

module _ (total : ℕ) (old : Blocks) (h : AreWholeSound total old) (chosen : Result Entry ℤ) (f : FoundFile) (found : IsFoundFile old chosen f) where
  abbrev r : Record
  r = found.choice.of

  abbrev entry : Entry
  entry = (found.choice.choice.id, item_of (contents_in old) (catalog_in old) r)

  there : In r (catalog_in old)
  there = (found_with (catalog_in old) found.choice.choice.id r found.choice.choice.was).there

  bytes_are : (fork : Fork) → fork_bytes fork entry.1.kind ≡ pick fork (contents_in old (file_record_of r.1))
  unfolding file_of
  bytes_are fork = ap (λ (x : Item). fork_bytes fork x.kind) (file_item (contents_in old) (catalog_in old) r (not-dir r.1 found.choice.is)) ∙ by fork
    where
      by : (k : Fork) → fork_bytes k (file_of (has_thread (catalog_in old) (file_record_of r.1).id) (contents_in old (file_record_of r.1)) r.0 (file_record_of r.1)).kind ≡ pick k (contents_in old (file_record_of r.1))
      by DataFork = refl
      by ResFork = refl

  -- its fork has as many bytes as its record says
  pub fork_long : (fork : Fork) → length (fork_bytes fork entry.1.kind) ≡ (fork_of fork f.file).length
  fork_long fork =
      let long : AreLong old (file_record_of r.1) = each_in _ (catalog_in old) r (files_are_long total old h.whole h.sound) there found.choice.is in
      ap (λ (l : List ℕ). length l) (bytes_are fork) ∙ by fork long ∙ ap (λ (g : FileRecord). (fork_of fork g).length) found.choice.own_file
    where
      by : (k : Fork) → AreLong old (file_record_of r.1) → length (pick k (contents_in old (file_record_of r.1))) ≡ (fork_of k (file_record_of r.1)).length
      by DataFork long = long.is_data
      by ResFork long = long.is_resource

  -- another choice of the same file
  pub found_by : (x : Result Entry ℤ) → x ≡ Ok entry → IsFoundFile old x f
  found_by x is = record {
    choice = record {
      of = r;
      choice = record { id = found.choice.choice.id; is = is; was = found.choice.choice.was };
      own_key = found.choice.own_key;
      own_file = found.choice.own_file;
      is = found.choice.is;
    };
    place = found.place;
  }

  then_past : (fork : Fork) (offset : ℕ) → and_then chosen (unless_past_end fork offset) ≡ cond (nat_lt (fork_of fork f.file).length offset) (Err END_OF_FILE) (Ok entry)
  then_past fork offset =
      ap (λ (c : Result Entry ℤ). and_then c (unless_past_end fork offset)) found.choice.choice.is
      ∙ ap (λ (n : ℕ). cond (nat_lt n offset) (Err END_OF_FILE) (Ok entry)) (fork_long fork)

  pub finds_past : (fork : Fork) (offset : ℕ) → FindsFile old (and_then chosen (unless_past_end fork offset)) (unless_past fork offset f)
  finds_past fork offset = by (nat_lt (fork_of fork f.file).length offset) (then_past fork offset)
    where
      by : (b : Bool) → and_then chosen (unless_past_end fork offset) ≡ cond b (Err END_OF_FILE) (Ok entry) → FindsFile old (and_then chosen (unless_past_end fork offset)) (cond b (Err END_OF_FILE) (Ok f))
      by true e = e
      by false e = found_by (and_then chosen (unless_past_end fork offset)) e

-- ---- the choices

pub set_eof_chosen : (found : Result FoundFile ℤ) (length : ℕ) → ChoosesSetEof found length (if_short length found)
unfolding to_set_eof
set_eof_chosen found length old dir name finds = by (nat_lt 2147483647 length)
  where
    by : (b : Bool) → FindsFile old (cond b (Err PARAMETER) (file_to_write (volume_in old) dir name)) (cond b (Err PARAMETER) found)
    by true = refl
    by false = finds

pub write_fork_chosen : (found : Result FoundFile ℤ) (fork : Fork) (offset : ℕ) (bytes : List ℕ) → ChoosesWriteFork found fork offset bytes (if_writable fork offset bytes found)
unfolding to_write_fork
write_fork_chosen found fork offset bytes total old dir name h finds = by (nat_lt 65536 (length bytes) || nat_lt 2147483647 (offset + length bytes))
  where
    next : (found : Result FoundFile ℤ) → FindsFile old (file_to_write (volume_in old) dir name) found
        → FindsFile old (and_then (file_to_write (volume_in old) dir name) (unless_past_end fork offset)) (and_then found (unless_past fork offset))
    next (Ok f) is = finds_past total old h (file_to_write (volume_in old) dir name) f is fork offset
    next (Err code) is = ap (λ (c : Result Entry ℤ). and_then c (unless_past_end fork offset)) is

    by : (b : Bool) → FindsFile old (cond b (Err PARAMETER) (and_then (file_to_write (volume_in old) dir name) (unless_past_end fork offset))) (cond b (Err PARAMETER) (and_then found (unless_past fork offset)))
    by true = refl
    by false = next found finds

-- ---- what was found, where a file is chosen

pub short_found : (found : Result FoundFile ℤ) (length : ℕ) → IfOk (if_short length found) (λ f. found ≡ Ok f)
short_found found length = by (nat_lt 2147483647 length) found
  where
    by : (b : Bool) (r : Result FoundFile ℤ) → IfOk (cond b (Err PARAMETER) r) (λ f. r ≡ Ok f)
    by true r = tt
    by false (Ok f) = refl
    by false (Err code) = tt

pub writable_found : (found : Result FoundFile ℤ) (fork : Fork) (offset : ℕ) (bytes : List ℕ) → IfOk (if_writable fork offset bytes found) (IsWritable found fork offset bytes)
writable_found found fork offset bytes = by (ltb 65536 (length bytes)) (ltb 2147483647 (offset + length bytes)) refl found
  where
    past : (f : FoundFile) (b : Bool) → offset + length bytes ≤ 2147483647 → ltb (fork_of fork f.file).length offset ≡ b → IfOk (cond b (Err END_OF_FILE) (Ok f)) (IsWritable (Ok f) fork offset bytes)
    past f true few e = tt
    past f false few e = record { is = refl; starts = ltb-false (fork_of fork f.file).length offset e; ends = few }

    by : (a b : Bool) → ltb 2147483647 (offset + length bytes) ≡ b → (r : Result FoundFile ℤ) → IfOk (cond (a || b) (Err PARAMETER) (and_then r (unless_past fork offset))) (IsWritable r fork offset bytes)
    by true b e r = tt
    by false true e r = tt
    by false false e (Ok f) = past f (ltb (fork_of fork f.file).length offset) (ltb-false 2147483647 (offset + length bytes) e) refl
    by false false e (Err code) = tt
