-- What holds of these calls. Each statement is what a function of src/laws.rt ensures.
use Rattle.std.specs.Prelude.{◌≡◌, ◌≢◌, ℕ, ◌+◌, max, pos, IsTrue, List, [], length}
use Rattle.std.specs.Option.{option_map_or}
use Rattle.hfs_model.specs.declared.codes.TheConstants.{DISK_FULL}
use Rattle.hfs_model.specs.declared.call.Fork.{Fork}
use Rattle.hfs_model.specs.declared.reply.Value.TheVariants as value
use Rattle.hfs_model.specs.Volume.{Volume, Entry}
use Rattle.hfs_model.specs.Children.{entries_of, child_named}
use Rattle.hfs_model.specs.Lawful.{IsLawful}
use Rattle.hfs_model.specs.Replies.{is_accepted, success}
use Rattle.hfs_model.specs.Reading.{read_fork}
use Rattle.hfs_model.specs.Changes.{Outcome}
use Rattle.hfs_model.specs.Forks.{resized, laid_over, fork_bytes}
use Rattle.hfs_model.specs.ForkCalls.{set_eof, write_fork}

-- ---- both calls

-- a lawful volume stays lawful; a code other than 0 leaves any volume; -34 is none of the codes; allocation blocks stay as large
pub record IsLawfulChange (v : Volume) (made : Outcome) : Type 0 where
  pub lawful : IsLawful v → IsLawful made.0
  pub refused : made.1.code ≢ pos 0 → made.0 ≡ v
  pub never_full : made.1.code ≢ DISK_FULL
  pub block_size : made.0.block_size ≡ v.block_size

abbrev pub SetEofIsLawful : Type 0
SetEofIsLawful = (size : ℕ) (v : Volume) (dir : ℕ) (name : List ℕ) (fork : Fork) (length now : ℕ) → IsLawfulChange v (set_eof size v dir name fork length now)

abbrev pub WriteForkIsLawful : Type 0
WriteForkIsLawful = (size : ℕ) (v : Volume) (dir : ℕ) (name : List ℕ) (fork : Fork) (offset : ℕ) (bytes : List ℕ) (now : ℕ) → IsLawfulChange v (write_fork size v dir name fork offset bytes now)

-- ---- forks afterwards

-- the bytes of the fork of a folder's file, none where there is no such file
abbrev pub fork_named : Volume → ℕ → List ℕ → Fork → List ℕ
fork_named v dir name fork = option_map_or (λ (e : Entry). fork_bytes fork e.1.kind) (child_named (entries_of v) dir name) []

-- the call changed the bytes of this fork so, and of the file's forks no other
pub record HasChangedFork (v : Volume) (dir : ℕ) (name : List ℕ) (fork : Fork) (bytes : List ℕ) (new : Volume) : Type 0 where
  pub bytes_are : fork_named new dir name fork ≡ bytes
  pub others : (other : Fork) → other ≢ fork → fork_named new dir name other ≡ fork_named v dir name other

-- an accepted SetEof makes the fork its first bytes, with zeros after them
abbrev pub SetEofResizes : Type 0
SetEofResizes = (size : ℕ) (v : Volume) (dir : ℕ) (name : List ℕ) (fork : Fork) (length now : ℕ) →
    IsTrue (is_accepted (set_eof size v dir name fork length now).1) →
    HasChangedFork v dir name fork (resized length (fork_named v dir name fork)) (set_eof size v dir name fork length now).0

-- to the length that it has it changes no byte
abbrev pub SetEofToItsLength : Type 0
SetEofToItsLength = (size : ℕ) (v : Volume) (dir : ℕ) (name : List ℕ) (fork : Fork) (now : ℕ) →
    IsTrue (is_accepted (set_eof size v dir name fork (length (fork_named v dir name fork)) now).1) →
    fork_named (set_eof size v dir name fork (length (fork_named v dir name fork)) now).0 dir name fork ≡ fork_named v dir name fork

-- an accepted WriteFork is SetEof to the greater of the fork's length and where the bytes end, and then the bytes in their place
abbrev pub WriteForkIsSetEofAndBytes : Type 0
WriteForkIsSetEofAndBytes = (size : ℕ) (v : Volume) (dir : ℕ) (name : List ℕ) (fork : Fork) (offset : ℕ) (bytes : List ℕ) (now : ℕ) →
    IsTrue (is_accepted (write_fork size v dir name fork offset bytes now).1) →
    HasChangedFork v dir name fork (laid_over offset bytes (resized (max (length (fork_named v dir name fork)) (offset + length bytes)) (fork_named v dir name fork))) (write_fork size v dir name fork offset bytes now).0

-- what was written is read
abbrev pub WrittenIsRead : Type 0
WrittenIsRead = (size : ℕ) (v : Volume) (dir : ℕ) (name : List ℕ) (fork : Fork) (offset : ℕ) (bytes : List ℕ) (now : ℕ) →
    IsTrue (is_accepted (write_fork size v dir name fork offset bytes now).1) →
    read_fork (entries_of (write_fork size v dir name fork offset bytes now).0) dir name fork offset (length bytes) ≡ success (value.Bytes bytes)
