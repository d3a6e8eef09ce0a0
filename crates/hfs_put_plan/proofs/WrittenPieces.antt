-- A piece of a file's fork that is written within it: of the volume that piece changes, and nothing else, where the file was changed at that
-- moment before.
use Rattle.std.proofs.Common.{◌≡◌, ℕ, ◌+◌, ◌≤◌, Bool, false, cond, ltb, List, ◌∷◌, length, Some, refl, sym, ◌∙◌, ap, Option, Result, Ok, Err, arith}
use Rattle.std.specs.Prelude.{ℤ, ◌||◌}
use Rattle.std.specs.FinMap as fin
use Rattle.hfs_model.specs.declared.call.Call.TheVariants as call
use Rattle.hfs_model.specs.declared.call.Fork.{Fork}
use Rattle.hfs_model.specs.declared.call.Fork.TheVariants.{DataFork, ResFork}
use Rattle.hfs_model.specs.declared.codes.TheConstants.{END_OF_FILE, PARAMETER}
use Rattle.hfs_model.specs.declared.item.File.{File as FileRecord}
use Rattle.hfs_model.specs.declared.item.Kind.{Kind}
use Rattle.hfs_model.specs.declared.item.Kind.TheVariants.{File}
use Rattle.hfs_model.specs.declared.reply.Value.TheVariants as value
use Rattle.hfs_model.specs.Changes.{change}
use Rattle.hfs_model.specs.Choices.{and_then}
use Rattle.hfs_model.specs.ForkCalls.{file_to_write, to_write_fork, unless_past_end, write_fork}
use Rattle.hfs_model.specs.Forks.{physical_length, with_physical_length, fork_bytes, kind_with_fork, laid_over, written}
use Rattle.hfs_model.specs.Lawful.{Has}
use Rattle.hfs_model.specs.Replies.{success}
use Rattle.hfs_model.specs.Step.{step}
use Rattle.hfs_model.specs.Volume.{Entry, Volume}
use Rattle.hfs_model.proofs.ForkLemmas.{length-laid_over}
use Rattle.hfs_model.proofs.KeepsForks.{edits}
use Rattle.hfs_put_plan.specs.WithForks.{FileForks, kind_with_forks, with_forks}
use Rattle.hfs_put_plan.proofs.ForkMaps.{by_forks, tells-forks, forks-here, forks-there, insert-is-mapped}
use Rattle.hfs_model.proofs.MappedChoices.{mapped_choice, file_to_write-mapped}
use Rattle.hfs_model.proofs.MappedEntries.{mapped_entry, mapped_items, mapped}
use Rattle.hfs_put_plan.proofs.PartialBytes.{written-within, is-above}

-- ---- one of two forks

abbrev pub fork_of : Fork → List ℕ → List ℕ → List ℕ
fork_of DataFork «data» resource = «data»
fork_of ResFork «data» resource = resource

abbrev pub data_with : Fork → List ℕ → List ℕ → List ℕ
data_with DataFork bytes «data» = bytes
data_with ResFork bytes «data» = «data»

abbrev pub resource_with : Fork → List ℕ → List ℕ → List ℕ
resource_with DataFork bytes resource = resource
resource_with ResFork bytes resource = bytes

abbrev pub filled : List ℕ → List ℕ → FileRecord → FileRecord
filled d r file = record file { «data» = d; resource = r }

-- the kept bytes have the length of this fork's blocks
abbrev pub HasLength : ℕ → Fork → FileRecord → Type 0
HasLength size fork file = with_physical_length fork (physical_length size (length (fork_bytes fork (File file)))) file.kept ≡ file.kept

own-bytes : (fork : Fork) (d r : List ℕ) (file : FileRecord) → fork_bytes fork (File (filled d r file)) ≡ fork_of fork d r
own-bytes DataFork d r file = refl
own-bytes ResFork d r file = refl

put-bytes : (size : ℕ) (fork : Fork) (d r bytes : List ℕ) (file : FileRecord) → length bytes ≡ length (fork_bytes fork (File file))
    → HasLength size fork file
    → kind_with_fork size fork bytes (File (filled d r file)) ≡ File (filled (data_with fork bytes d) (resource_with fork bytes r) file)
put-bytes size DataFork d r bytes file same has =
    ap (λ (kept : List ℕ). File (record file { kept = kept; «data» = bytes; resource = r }))
    (ap (λ (n : ℕ). with_physical_length DataFork (physical_length size n) file.kept) same ∙ has)
put-bytes size ResFork d r bytes file same has =
    ap (λ (kept : List ℕ). File (record file { kept = kept; «data» = d; resource = bytes }))
    (ap (λ (n : ℕ). with_physical_length ResFork (physical_length size n) file.kept) same ∙ has)

-- ---- the file in a volume

-- the file of that name, changed at this moment, as was the volume
pub record IsWritable (v : Volume) (dir : ℕ) (name : List ℕ) (now : ℕ) (e : Entry) (file : FileRecord) : Type 0 where
  pub has : Has v.items e.0 e.1
  pub may : file_to_write v dir name ≡ Ok e
  pub kind : e.1.kind ≡ File file
  pub modified : e.1.modified ≡ now
  pub changed : v.changed ≡ now

module _ (v : Volume) (dir : ℕ) (name : List ℕ) (now : ℕ) (e : Entry) (file : FileRecord) (is : IsWritable v dir name now e file)
    (forks : List FileForks) (d r : List ℕ) where
  -- the file's forks have these bytes
  abbrev own : FileForks
  own = record { id = e.0; data_fork = d; resource_fork = r }

  abbrev g : ℕ → Kind → Kind
  g = by_forks (own ∷ forks)

  kind-is : g e.0 e.1.kind ≡ File (filled d r file)
  kind-is = ap (λ (o : Option FileForks). kind_with_forks o e.1.kind) (forks-here own forks) ∙ ap (kind_with_forks (Some own)) is.kind

  may-write : file_to_write (mapped g v) dir name ≡ Ok (mapped_entry g e)
  may-write = file_to_write-mapped g (tells-forks (own ∷ forks)) v dir name ∙ ap (mapped_choice g) is.may

  module _ (fork : Fork) (offset : ℕ) (bytes : List ℕ) (few : length bytes ≤ 65536) (within : offset + length bytes ≤ length (fork_of fork d r))
      (short : length (fork_of fork d r) ≤ 2147483647) where
    bytes-are : fork_bytes fork (g e.0 e.1.kind) ≡ fork_of fork d r
    bytes-are = ap (fork_bytes fork) kind-is ∙ own-bytes fork d r file

    chosen : to_write_fork (mapped g v) dir name fork offset bytes ≡ Ok (mapped_entry g e)
    unfolding to_write_fork
    chosen =
        let no_more : ltb 65536 (length bytes) ≡ false = is-above (length bytes) 65536 few in
        let no_longer : ltb 2147483647 (offset + length bytes) ≡ false = is-above (offset + length bytes) 2147483647 (omega (arith, within, short)) in
        let not_past : ltb (length (fork_bytes fork (g e.0 e.1.kind))) offset ≡ false =
        ap (λ (l : List ℕ). ltb (length l) offset) bytes-are ∙ is-above offset (length (fork_of fork d r)) (omega (arith, within)) in
        (λ i. cond (no_more i || no_longer i) (Err PARAMETER) (and_then (file_to_write (mapped g v) dir name) (unless_past_end fork offset)))
        ∙ ap (λ (r : Result Entry ℤ). and_then r (unless_past_end fork offset)) may-write
        ∙ ap (λ (b : Bool). cond b (Err END_OF_FILE) (Ok (mapped_entry g e))) not_past

    module _ (same : length (fork_of fork d r) ≡ length (fork_bytes fork (File file))) (has : HasLength v.block_size fork file) where
      abbrev laid : List ℕ
      laid = laid_over offset bytes (fork_of fork d r)

      -- its forks then
      abbrev made : FileForks
      made = record { id = e.0; data_fork = data_with fork laid d; resource_fork = resource_with fork laid r }

      abbrev after : Kind
      after = File (filled (data_with fork laid d) (resource_with fork laid r) file)

      kind-after : kind_with_fork v.block_size fork (written offset bytes (fork_bytes fork (g e.0 e.1.kind))) (g e.0 e.1.kind) ≡ after
      kind-after =
          ap (λ (k : Kind). kind_with_fork v.block_size fork (written offset bytes (fork_bytes fork k)) k) kind-is
          ∙ ap (λ (l : List ℕ). kind_with_fork v.block_size fork l (File (filled d r file)))
          (ap (written offset bytes) (own-bytes fork d r file) ∙ written-within offset bytes (fork_of fork d r) within)
          ∙ put-bytes v.block_size fork d r laid file (length-laid_over offset bytes (fork_of fork d r) within ∙ same) has

      item-after : edits v.block_size fork (written offset bytes) now (mapped_entry g e) (mapped_items g v.items)
          ≡ mapped_items (by_forks (made ∷ forks)) v.items
      item-after =
          (λ i. fin.insert (mapped_items g v.items) e.0 (record e.1 { modified = sym is.modified i; kind = kind-after i }))
          ∙ insert-is-mapped g (by_forks (made ∷ forks)) v.items e.0 e.1 after is.has
          (ap (λ (o : Option FileForks). kind_with_forks o e.1.kind) (forks-here made forks) ∙ ap (kind_with_forks (Some made)) is.kind)
          (λ q j there other. ap (λ (o : Option FileForks). kind_with_forks o j.kind) (forks-there own forks q other
          ∙ sym (forks-there made forks q other)))

      pub piece-written : step (with_forks (own ∷ forks) v) (call.WriteFork dir name fork offset bytes now)
          ≡ (with_forks (made ∷ forks) v, success value.Nothing)
      unfolding write_fork
      piece-written =
          ap (λ (r : Result Entry ℤ). change (mapped g v) r (edits v.block_size fork (written offset bytes) now) now) chosen
          ∙ (λ i. (record v { items = item-after i; changed = sym is.changed i }, success value.Nothing))
