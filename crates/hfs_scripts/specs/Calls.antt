-- The call that a line's word and the fields after it make, at a moment.
use Rattle.std.specs.Prelude.{ℕ, List, [], ◌∷◌, Option, Some, None}
use Rattle.std.specs.Option.{option_map}
use Rattle.hfs_model.specs.declared.call.Call.{Call}
use Rattle.hfs_model.specs.declared.call.Call.TheVariants as call
use Rattle.hfs_model.specs.declared.call.Fork.{Fork}
use Rattle.hfs_scripts.specs.declared.calls.Target.{Target}
use Rattle.hfs_scripts.specs.declared.words.Word.{Word}
use Rattle.hfs_scripts.specs.declared.words.Word.TheVariants as word
use Rattle.hfs_scripts.specs.Options.{◌>>=◌}
use Rattle.hfs_scripts.specs.Numbers.{number_of}
use Rattle.hfs_scripts.specs.Fields.{bytes_of, few_bytes_of, fork_of}

-- DIR, or ID
unfoldable pub number_alone : List (List ℕ) → Option ℕ
number_alone (number ∷ []) = number_of number
number_alone _ = None

-- DIR INDEX
unfoldable pub indexed_of : List (List ℕ) → Option Call
indexed_of (dir ∷ index ∷ []) = do
  dir ← number_of dir
  index ← number_of index
  Some (call.GetIndexed dir index)
indexed_of _ = None

-- DIR NAME
unfoldable pub target_of : List (List ℕ) → Option Target
target_of (dir ∷ name ∷ []) = do
  dir ← number_of dir
  Some (record { dir = dir; name = name })
target_of _ = None

-- OFFSET COUNT of a fork
abbrev pub part_of : ℕ → List ℕ → Fork → List ℕ → List ℕ → Option Call
part_of dir name fork offset count = do
  offset ← number_of offset
  count ← number_of count
  Some (call.ReadFork dir name fork offset count)

-- DIR NAME, `data` or `res`, OFFSET COUNT
unfoldable pub read_of : List (List ℕ) → Option Call
read_of (dir ∷ name ∷ fork ∷ offset ∷ count ∷ []) = do
  dir ← number_of dir
  fork ← fork_of fork
  part_of dir name fork offset count
read_of _ = None

-- DIR NAME NEW
unfoldable pub rename_of : ℕ → List (List ℕ) → Option Call
rename_of now (dir ∷ name ∷ new_name ∷ []) = do
  dir ← number_of dir
  Some (call.Rename dir name new_name now)
rename_of now _ = None

-- DIR NAME NEWDIR
unfoldable pub move_of : ℕ → List (List ℕ) → Option Call
move_of now (dir ∷ name ∷ new_dir ∷ []) = do
  dir ← number_of dir
  new_dir ← number_of new_dir
  Some (call.CatMove dir name new_dir now)
move_of now _ = None

-- DIR NAME HEX, 32 digits
unfoldable pub set_f_info_of : ℕ → List (List ℕ) → Option Call
set_f_info_of now (dir ∷ name ∷ info ∷ []) = do
  dir ← number_of dir
  info ← bytes_of 16 info
  Some (call.SetFInfo dir name info now)
set_f_info_of now _ = None

-- DIR NAME CREATED MODIFIED BACKUP HEX, 64 digits
unfoldable pub set_info_of : ℕ → List (List ℕ) → Option Call
set_info_of now (dir ∷ name ∷ created ∷ modified ∷ backup ∷ info ∷ []) = do
  dir ← number_of dir
  created ← number_of created
  modified ← number_of modified
  backup ← number_of backup
  info ← bytes_of 32 info
  Some (call.SetCatInfo dir name created modified backup info now)
set_info_of now _ = None

-- DIR NAME, `data` or `res`, LENGTH
unfoldable pub set_eof_of : ℕ → List (List ℕ) → Option Call
set_eof_of now (dir ∷ name ∷ fork ∷ length ∷ []) = do
  dir ← number_of dir
  fork ← fork_of fork
  length ← number_of length
  Some (call.SetEof dir name fork length now)
set_eof_of now _ = None

-- OFFSET HEX of a fork
abbrev pub written_of : ℕ → ℕ → List ℕ → Fork → List ℕ → List ℕ → Option Call
written_of now dir name fork offset bytes = do
  offset ← number_of offset
  bytes ← few_bytes_of bytes
  Some (call.WriteFork dir name fork offset bytes now)

-- DIR NAME, `data` or `res`, OFFSET HEX, at most 131,072 digits
unfoldable pub write_of : ℕ → List (List ℕ) → Option Call
write_of now (dir ∷ name ∷ fork ∷ offset ∷ bytes ∷ []) = do
  dir ← number_of dir
  fork ← fork_of fork
  written_of now dir name fork offset bytes
write_of now _ = None

-- the call of a word that has DIR NAME alone after it
abbrev pub target_call : ℕ → Word → Target → Option Call
target_call now word.Info item = Some (call.GetCatInfo item.dir item.name)
target_call now word.Create item = Some (call.Create item.dir item.name now)
target_call now word.MkDir item = Some (call.DirCreate item.dir item.name now)
target_call now word.Delete item = Some (call.Delete item.dir item.name now)
target_call now word.Lock item = Some (call.SetFLock item.dir item.name now)
target_call now word.Unlock item = Some (call.RstFLock item.dir item.name now)
target_call now word.NewId item = Some (call.CreateFileId item.dir item.name now)
target_call now word.DirInfo item = None
target_call now word.Indexed item = None
target_call now word.List item = None
target_call now word.Read item = None
target_call now word.Rename item = None
target_call now word.Move item = None
target_call now word.SetFInfo item = None
target_call now word.SetInfo item = None
target_call now word.DropId item = None
target_call now word.Resolve item = None
target_call now word.SetEof item = None
target_call now word.Write item = None

unfoldable pub call_on_target : ℕ → Word → List (List ℕ) → Option Call
call_on_target now word fields = ◌>>=◌ (target_of fields) (target_call now word)

-- the call of a word and its fields; a change is made at the moment `now`
unfoldable pub call_of : ℕ → Word → List (List ℕ) → Option Call
call_of now word.DirInfo fields = option_map (λ dir. call.GetDirInfo dir) (number_alone fields)
call_of now word.Indexed fields = indexed_of fields
call_of now word.List fields = option_map (λ dir. call.List dir) (number_alone fields)
call_of now word.Read fields = read_of fields
call_of now word.Rename fields = rename_of now fields
call_of now word.Move fields = move_of now fields
call_of now word.SetFInfo fields = set_f_info_of now fields
call_of now word.SetInfo fields = set_info_of now fields
call_of now word.DropId fields = option_map (λ id. call.DeleteFileId id now) (number_alone fields)
call_of now word.Resolve fields = option_map (λ id. call.ResolveFileId id) (number_alone fields)
call_of now word.SetEof fields = set_eof_of now fields
call_of now word.Write fields = write_of now fields
call_of now word.Info fields = call_on_target now word.Info fields
call_of now word.Create fields = call_on_target now word.Create fields
call_of now word.MkDir fields = call_on_target now word.MkDir fields
call_of now word.Delete fields = call_on_target now word.Delete fields
call_of now word.Lock fields = call_on_target now word.Lock fields
call_of now word.Unlock fields = call_on_target now word.Unlock fields
call_of now word.NewId fields = call_on_target now word.NewId fields
