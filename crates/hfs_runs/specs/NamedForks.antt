-- The forks of the files that the lines of a script name, and where they lie.
use Rattle.std.specs.Prelude.{◌≡◌, ℕ, ◌≤◌, ◌⊎◌, true, List, ◌++◌, Option, Some, None, IsSome, IfOk, IfSome, nat_eq}
use Rattle.std.specs.List.{flat_map}
use Rattle.std.specs.Map.{lookup}
use Rattle.hfs_fields.specs.declared.file_record.FileRecord.{FileRecord}
use Rattle.hfs_fields.specs.declared.file_record.ForkRecord.{ForkRecord}
use Rattle.hfs_fields.specs.Records.{is_file, file_record_of}
use Rattle.hfs_fields.specs.Each.{Each}
use Rattle.hfs_fields.specs.Members.{In}
use Rattle.hfs_model.specs.declared.call.Call.{Call}
use Rattle.hfs_model.specs.declared.reply.Value.{Value}
use Rattle.hfs_model.specs.declared.reply.Value.TheVariants as value
use Rattle.hfs_blocks.specs.declared.run.Run.{Run}
use Rattle.hfs_blocks.specs.Blocks.{run_of}
use Rattle.hfs_blocks.specs.Layers.{Numbered}
use Rattle.hfs_space.specs.declared.fork_kind.ForkKind.{ForkKind}
use Rattle.hfs_space.specs.Extents.{fork_extents, fork_byte}
use Rattle.hfs_space.specs.ForkLaws.{block_numbers}
use Rattle.hfs_space.specs.declared.fork_kind.ForkKind.TheVariants.{Data, Resource}
use Rattle.hfs_catalog.specs.Records.{Record, Catalog}
use Rattle.hfs_check.specs.Parts.{Blocks, mdb_in, overflow_in, catalog_in}
use Rattle.hfs_items.specs.Told.{cat_info, file_named}
use Rattle.hfs_source.specs.Sparse.{HasEach}
use Rattle.hfs_scripts.specs.declared.lines.ScriptLine.{ScriptLine}
use Rattle.hfs_model.specs.Named.{named_by}
use Rattle.hfs_copy.specs.Keeping.{LieIn}
use Rattle.hfs_runs.specs.Naming.{read_forks}
use Rattle.hfs_runs.specs.declared.made_files.ScriptFiles.{ScriptFiles}

-- ---- where forks lie

-- the blocks of a fork of a file, those after its end, too
abbrev pub fork_blocks : Blocks → ℕ → ForkKind → ForkRecord → List ℕ
fork_blocks blocks file kind fork = block_numbers (mdb_in blocks) (fork_extents (overflow_in blocks) file (fork_byte kind) fork.extents)

-- those of both forks
abbrev pub file_blocks : Blocks → FileRecord → List ℕ
file_blocks blocks file = fork_blocks blocks file.id Data file.«data» ++ fork_blocks blocks file.id Resource file.resource

-- the file that a call names, if it names one, has this
abbrev pub OfNamed : Catalog → (FileRecord → Type 0) → Call → Type 0
OfNamed catalog Fact call = (dir : ℕ) (name : List ℕ) → named_by call ≡ Some (dir, name) → IfOk (file_named catalog dir name) Fact

-- each of these blocks is one of those
abbrev pub AreAmong : List ℕ → List ℕ → Type 0
AreAmong numbers others = Each (λ n. In n others) numbers

-- the blocks of both forks of each file that these lines name are among those
abbrev pub HaveNamedForks : Blocks → List ScriptLine → List ℕ → Type 0
HaveNamedForks blocks lines numbers =
    Each (λ (line : ScriptLine). OfNamed (catalog_in blocks) (λ (file : FileRecord). AreAmong (file_blocks blocks file) numbers) line.call) lines

-- ---- what was read

-- the blocks of both forks of each file that these lines name were read
abbrev pub HasNamedForks : Blocks → List ScriptLine → Numbered → Type 0
HasNamedForks blocks lines read =
    Each (λ (line : ScriptLine). OfNamed (catalog_in blocks) (λ (file : FileRecord). HasEach read (file_blocks blocks file)) line.call) lines

-- ---- on the way

-- the blocks of these runs
abbrev pub blocks_of_runs : List Run → List ℕ
blocks_of_runs runs = flat_map run_of runs

-- the record is that of one of the catalog's files
pub record IsFileOf (catalog : Catalog) (file : FileRecord) : Type 0 where
  pub of : Record
  pub there : In of catalog
  pub kind : is_file of.1 ≡ true
  pub is : file_record_of of.1 ≡ file

-- the ID is one of those that were met
abbrev pub HasMet : {A : Type 0} → List (ℕ × A) → ℕ → Type 0
HasMet ids id = IsSome (lookup (nat_eq id) ids)

-- the forks of each file whose ID was met lie in these runs
abbrev pub HaveMet : {A : Type 0} → Blocks → List (ℕ × A) → List Run → Type 0
HaveMet blocks ids runs =
    (file : FileRecord) → IsFileOf (catalog_in blocks) file → HasMet ids file.id → AreAmong (file_blocks blocks file) (blocks_of_runs runs)

-- more runs were added, and none was removed
abbrev pub GainForks : List Run → List Run → Type 0
GainForks old new = (more : List Run) × (new ≡ old ++ more)

-- ---- the forks that files have after a run

-- the ID that a value gives of an item
abbrev pub id_told : Value → Option ℕ
id_told value.Nothing = None
id_told (value.Id id) = None
id_told (value.One info) = Some info.id
id_told (value.Many infos) = None
id_told (value.Bytes bytes) = None
id_told (value.Full free depth) = None
id_told (value.Room free wanted) = None
id_told (value.ExtentNodes free depth) = None
id_told (value.Place dir name) = None

-- the ID of the folder's item of that name
abbrev pub id_named : Catalog → ℕ → List ℕ → Option ℕ
id_named catalog dir name = id_told (cat_info catalog dir name).value

-- the ID of the item that a call names, if it names one, is among these
abbrev pub HasIdOf : {A : Type 0} → Catalog → List (ℕ × A) → Call → Type 0
HasIdOf catalog ids call = (dir : ℕ) (name : List ℕ) → named_by call ≡ Some (dir, name) → IfSome (id_named catalog dir name) (HasMet ids)

-- the IDs of the items that these lines name are among these
abbrev pub HaveIdsOf : {A : Type 0} → Catalog → List (ℕ × A) → List ScriptLine → Type 0
HaveIdsOf catalog ids lines = Each (λ (line : ScriptLine). HasIdOf catalog ids line.call) lines

-- the ID is that of the item that a call names
pub record IsIdOf (catalog : Catalog) (call : Call) (id : ℕ) : Type 0 where
  pub dir : ℕ
  pub name : List ℕ
  pub by : named_by call ≡ Some (dir, name)
  pub is : id_named catalog dir name ≡ Some id

-- the ID is that of an item that one of these lines names
abbrev pub IsIdOfLine : Catalog → List ScriptLine → ℕ → Type 0
IsIdOfLine catalog lines id = (line : ScriptLine) × In line lines × IsIdOf catalog line.call id

-- these are the IDs of the items that lines name, and no others
pub record AreIdsOf {A : Type 0} (catalog : Catalog) (ids : List (ℕ × A)) (lines : List ScriptLine) : Type 0 where
  pub have : HaveIdsOf catalog ids lines
  pub only : (id : ℕ) → HasMet ids id → IsIdOfLine catalog lines id

-- the ID of the item that a call names was added, if it names one, and no other; none was removed
pub record GainsIdOf {A : Type 0} (catalog : Catalog) (call : Call) (old new : List (ℕ × A)) : Type 0 where
  pub has : HasIdOf catalog new call
  pub more : (id : ℕ) → HasMet old id → HasMet new id
  pub only : (id : ℕ) → HasMet new id → HasMet old id ⊎ IsIdOf catalog call id

-- the file of that ID is one of these, or was made since
abbrev pub IsScriptFile : ScriptFiles → ℕ → Type 0
IsScriptFile files id = (files.next ≤ id) ⊎ HasMet files.ids.entries id

-- the files that these lines name in a volume, no others, and those that will be made in it; one of the lines reads or writes a fork
pub record AreScriptFiles (blocks : Blocks) (lines : List ScriptLine) (files : ScriptFiles) : Type 0 where
  pub used : read_forks lines ≡ true
  pub ids : AreIdsOf (catalog_in blocks) files.ids.entries lines
  pub next : files.next ≡ (mdb_in blocks).next_id

-- the record is that of one of the files, and the block has bytes of one of its forks
pub record IsForkBlockOf (blocks : Blocks) (Kept : ℕ → Type 0) (r : Record) (n : ℕ) : Type 0 where
  pub file : is_file r.1 ≡ true
  pub kept : Kept (file_record_of r.1).id
  pub has : In n (file_blocks blocks (file_record_of r.1))

-- the block has bytes of a fork of one of the files
abbrev pub IsForkBlock : Blocks → (ℕ → Type 0) → ℕ → Type 0
IsForkBlock blocks Kept n = (r : Record) × In r (catalog_in blocks) × IsForkBlockOf blocks Kept r n

-- the blocks of both forks of the file are among these, if the record is that of one of the files
abbrev pub HasForksOf : Blocks → (ℕ → Type 0) → List ℕ → Record → Type 0
HasForksOf blocks Kept numbers r = is_file r.1 ≡ true → Kept (file_record_of r.1).id → AreAmong (file_blocks blocks (file_record_of r.1)) numbers

-- in these runs, which lie among so many blocks, are the forks of the files among these records, and no block that is in no fork of such a file
pub record AreForksOf (blocks : Blocks) (Kept : ℕ → Type 0) (total : ℕ) (records : Catalog) (runs : List Run) : Type 0 where
  pub within : LieIn total runs
  pub has : Each (HasForksOf blocks Kept (flat_map run_of runs)) records
  pub only : Each (IsForkBlock blocks Kept) (flat_map run_of runs)

-- the forks of a record's file were added, if it is one of the files
pub record GainsForksOf (blocks : Blocks) (Kept : ℕ → Type 0) (total : ℕ) (r : Record) (old new : List Run) : Type 0 where
  pub more : List Run
  pub are : new ≡ old ++ more
  pub within : LieIn total more
  pub has : HasForksOf blocks Kept (flat_map run_of more) r
  pub only : Each (IsForkBlockOf blocks Kept r) (flat_map run_of more)
