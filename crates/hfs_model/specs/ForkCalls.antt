-- The calls that write forks. `size` is how many bytes an allocation block of the volume has. That there are blocks and nodes enough is
-- no part of these definitions, as with the other calls. In each choice the first code that holds is the one.
use Rattle.std.specs.Prelude.{ℕ, ◌+◌, ℤ, ◌||◌, nat_lt, if◌then◌else◌, List, length, Result, Ok, Err}
use Rattle.std.specs.FinMap as map
use Rattle.hfs_model.specs.declared.codes.TheConstants.{END_OF_FILE, PARAMETER}
use Rattle.hfs_model.specs.declared.call.Fork.{Fork}
use Rattle.hfs_model.specs.Volume.{Volume, Entry}
use Rattle.hfs_model.specs.Choices.{and_then, file_to_change, unless_locked_file}
use Rattle.hfs_model.specs.Changes.{Outcome, change}
use Rattle.hfs_model.specs.Forks.{resized, written, fork_bytes, item_with_fork}

-- ---- the choices

-- the folder's file of that name, which is not locked, in a volume that may be changed: -44 or -46, -37, -120, -43, also of a folder, -45
abbrev pub file_to_write : Volume → ℕ → List ℕ → Result Entry ℤ
file_to_write v dir name = and_then (file_to_change v dir name) unless_locked_file

-- -50 above 2,147,483,647 bytes; then the codes of file_to_write
unfoldable pub to_set_eof : Volume → ℕ → List ℕ → ℕ → Result Entry ℤ
to_set_eof v dir name length =
    if nat_lt 2147483647 length then Err PARAMETER
    else file_to_write v dir name

-- -39 where the fork ends before the offset
abbrev pub unless_past_end : Fork → ℕ → Entry → Result Entry ℤ
unless_past_end fork offset e = if nat_lt (length (fork_bytes fork e.1.kind)) offset then Err END_OF_FILE else Ok e

-- -50 of more than 65,536 bytes, and where the last would be past 2,147,483,647 of them; then the codes of file_to_write, and -39
unfoldable pub to_write_fork : Volume → ℕ → List ℕ → Fork → ℕ → List ℕ → Result Entry ℤ
to_write_fork v dir name fork offset bytes =
    if nat_lt 65536 (length bytes) || nat_lt 2147483647 (offset + length bytes) then Err PARAMETER
    else and_then (file_to_write v dir name) (unless_past_end fork offset)

-- ---- the calls

-- the fork is its first bytes, or has zeros after them; the file is modified now, also where it has as many already
unfoldable pub set_eof : ℕ → Volume → ℕ → List ℕ → Fork → ℕ → ℕ → Outcome
set_eof size v dir name fork length now =
    change v (to_set_eof v dir name length) (λ e m. map.insert m e.0 (item_with_fork size fork (resized length (fork_bytes fork e.1.kind)) now e.1)) now

-- the fork has these bytes from the offset on, and is longer where they go past its end; the file is modified now, also by no bytes
unfoldable pub write_fork : ℕ → Volume → ℕ → List ℕ → Fork → ℕ → List ℕ → ℕ → Outcome
write_fork size v dir name fork offset bytes now =
    change v (to_write_fork v dir name fork offset bytes) (λ e m. map.insert m e.0 (item_with_fork size fork (written offset bytes (fork_bytes fork e.1.kind)) now e.1)) now
