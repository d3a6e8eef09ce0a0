-- What calls that write forks make of rows.
use Rattle.std.specs.Prelude.{⊤, ◌≡◌, ℕ, ◌+◌, ◌≤◌, ◌<◌, ◌^◌, List, length, take, drop, Some}
use Rattle.std.specs.Ordering.{nat_cmp}
use Rattle.std.specs.BTreeMap as tree
use Rattle.hfs_model.specs.declared.call.Fork.{Fork}
use Rattle.hfs_model.specs.declared.call.Fork.TheVariants.{DataFork, ResFork}
use Rattle.hfs_model.specs.Forks.{resized, written, physical_length, with_physical_length}
use Rattle.hfs_viewers.specs.declared.fork.ForkPieces.{ForkPieces}
use Rattle.hfs_viewers.specs.Pieces.{ArePieces, fork_length}
use Rattle.hfs_viewers.specs.PieceEdits.{Keeps, Makes}
use Rattle.hfs_viewers.specs.declared.writing_forks.ForkEdit.{ForkEdit}
use Rattle.hfs_viewers.specs.declared.writing_forks.ForkEdit.TheVariants.{SetLength, Write}
use Rattle.hfs_viewers.specs.declared.row.Row.{Row}
use Rattle.hfs_viewers.specs.declared.row.RowKind.{RowKind}
use Rattle.hfs_viewers.specs.declared.row.RowKind.TheVariants.{Folder, File}
use Rattle.hfs_viewers.specs.declared.row.RowFile.{RowFile}
use Rattle.hfs_viewers.specs.declared.row.RowFork.{RowFork}

-- ---- a fork

-- what the edit makes of the fork's bytes
abbrev pub edit_bytes : ForkEdit → List ℕ → List ℕ
edit_bytes (SetLength count) = resized count
edit_bytes (Write offset bytes) = written offset bytes.now

-- the bytes begin within the fork, and each place among them is a number of 32 bits
abbrev pub MayEdit : ForkEdit → ForkPieces → Type 0
MayEdit (SetLength count) pieces = ⊤
MayEdit (Write offset bytes) pieces = (offset ≤ fork_length pieces) × (offset + length bytes.now < 2 ^ 32)

-- ---- a file

abbrev pub row_fork : Fork → RowFile → RowFork
row_fork DataFork file = file.«data»
row_fork ResFork file = file.resource

abbrev pub with_pieces : Fork → ForkPieces → RowFile → RowFile
with_pieces DataFork pieces file = record file { «data» = record file.«data» { pieces = pieces } }
with_pieces ResFork pieces file = record file { resource = record file.resource { pieces = pieces } }

-- the file with that physical length of the fork
abbrev pub with_physical : Fork → ℕ → RowFile → RowFile
with_physical fork n file = record file { kept = with_physical_length fork n file.kept }

-- the fork shows what f makes of its bytes, and its physical length is that of the blocks that it takes; else the file is as it was
pub record EditsFile (size : ℕ) (fork : Fork) (f : List ℕ → List ℕ) (old new : RowFile) : Type 0 where
  pub pieces : ForkPieces
  pub makes : Makes f (row_fork fork old).pieces pieces
  pub file_is : new ≡ with_physical fork (physical_length size (fork_length pieces)) (with_pieces fork pieces old)

-- the file shows what it showed
pub record KeepsFile (fork : Fork) (old new : RowFile) : Type 0 where
  pub pieces : ForkPieces
  pub keeps : Keeps (row_fork fork old).pieces pieces
  pub file_is : new ≡ with_pieces fork pieces old

-- ---- a row

-- of a file alone
abbrev pub OfFile : (RowFile → Type 0) → RowKind → Type 0
OfFile P (Folder kept children) = ⊤
OfFile P (File file) = P file

-- a file becomes so, and a folder stays
abbrev pub OfFiles : (RowFile → RowFile → Type 0) → RowKind → RowKind → Type 0
OfFiles P (Folder kept children) k = k ≡ Folder kept children
OfFiles P (File file) k = (new : RowFile) × (k ≡ File new) × P file new

-- the row's fork may be edited so
abbrev pub MayEditRow : Fork → ForkEdit → Row → Type 0
MayEditRow fork edit r = OfFile (λ file. ArePieces (row_fork fork file).pieces × MayEdit edit (row_fork fork file).pieces) r.kind

-- the row was modified then, and its file became so
pub record EditsRow (P : RowFile → RowFile → Type 0) (modified : ℕ) (old new : Row) : Type 0 where
  pub row_is : new ≡ record old { modified = modified; kind = new.kind }
  pub kind_is : OfFiles P old.kind new.kind

-- the row of that ID becomes so, and each other stays
pub record EditsRows (P : Row → Row → Type 0) (id : ℕ) (m n : tree.BTreeMap ℕ Row) : Type 0 where
  pub sorted : tree.IsOrdered nat_cmp n
  pub others : (q : ℕ) → (id ≡ q → ⊥) → tree.get nat_cmp n q ≡ tree.get nat_cmp m q
  pub here : (r : Row) → tree.get nat_cmp m id ≡ Some r → (s : Row) × (tree.get nat_cmp n id ≡ Some s) × P r s
