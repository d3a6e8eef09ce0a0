-- Lemmas about the definitions of specs/RecordForms.antt.
use Rattle.std.proofs.Common.{◌≡◌, ℕ, ◌+◌, ◌-◌, true, List, [], ◌∷◌, ◌++◌, length, take, drop, replicate, refl, sym, ap, ◌∙◌, arith}
use Rattle.std.specs.Prelude.{nat_le, ◌==◌, ◌&&◌, ◌||◌, slice_index}
use Rattle.std.proofs.lemmas.List.{append-nil, take_at, get_or-drop, length-append, length-replicate}
use Rattle.std.proofs.lemmas.Bool.{le-leb}
use Rattle.byteorder.specs.Endian.{big_bytes}
use Rattle.hfs_fields.proofs.LaidLemmas.{behind, next, number-read, bytes-read, laid, row, laid-append}
use Rattle.hfs_fields.specs.Mdb.{extent_at, extents_at}
use Rattle.hfs_fields.specs.Keys.{name_len, name_at}
use Rattle.hfs_fields.specs.Records.{is_dir, begins_dir, dir_record_of, begins_file, fork_at, file_record_of, begins_thread, thread_kind_of, thread_record_of}
use Rattle.hfs_fields.specs.declared.extent.Extent.{Extent}
use Rattle.hfs_fields.specs.declared.dir_record.DirRecord.{DirRecord}
use Rattle.hfs_fields.specs.declared.file_flags.FileFlags.{FileFlags}
use Rattle.hfs_fields.specs.declared.file_record.FileRecord.{FileRecord}
use Rattle.hfs_fields.specs.declared.file_record.ForkRecord.{ForkRecord}
use Rattle.hfs_fields.specs.declared.thread_record.ThreadKind.{ThreadKind}
use Rattle.hfs_fields.specs.declared.thread_record.ThreadKind.TheVariants.{Folder, File}
use Rattle.hfs_fields.specs.declared.thread_record.ThreadRecord.{ThreadRecord}
use Rattle.hfs_fields.specs.RecordForms.{IsExtentValue, AreExtentValues, extent_bytes, extents_bytes, IsDirRecordValue, dir_record_bytes, IsForkRecordValue, IsFileRecordValue, fork_bytes, file_record_bytes, IsThreadRecordValue, thread_type, thread_record_bytes}

extent-rebuilt : (extent : Extent) (first count : ℕ) → first ≡ extent.first → count ≡ extent.count → record extent { first = first; count = count } ≡ extent
extent-rebuilt extent first count e f = λ i. record { first = e i; count = f i }

pub extent_at-read : (i : ℕ) (extent : Extent) (w rest : List ℕ) → drop i w ≡ extent_bytes extent ++ rest → IsExtentValue extent → extent_at i w ≡ extent
extent_at-read i extent w rest h ok =
    extent-rebuilt extent _ _ (number-read i 2 extent.first w (big_bytes 2 extent.count ++ rest) h (omega (arith, ok.first)))
    (number-read (i + 2) 2 extent.count w rest (behind i 2 w _ h) (omega (arith, ok.count)))

pub extents_at-read : (i : ℕ) (extents : List Extent) (w rest : List ℕ) → drop i w ≡ extents_bytes extents ++ rest → AreExtentValues extents → extents_at i w ≡ extents
extents_at-read i [] w rest h ok = absurd (omega (arith, ok.three))
extents_at-read i (a ∷ []) w rest h ok = absurd (omega (arith, ok.three))
extents_at-read i (a ∷ b ∷ []) w rest h ok = absurd (omega (arith, ok.three))
extents_at-read i (a ∷ b ∷ c ∷ []) w rest h ok =
    let first = extent_at-read i a w (extent_bytes b ++ (extent_bytes c ++ rest)) h (ok.each 0 a (omega arith)) in
    let second = extent_at-read (i + 4) b w (extent_bytes c ++ rest) (behind i 4 w _ h) (ok.each 1 a (omega arith)) in
    let third = extent_at-read (i + 8) c w rest (behind i 8 w _ h) (ok.each 2 a (omega arith)) in
    λ j. first j ∷ second j ∷ third j ∷ []
extents_at-read i (a ∷ b ∷ c ∷ d ∷ more) w rest h ok = absurd (omega (arith, ok.three))

pub length-extents_bytes : (extents : List Extent) → length extents ≡ 3 → length (extents_bytes extents) ≡ 12
length-extents_bytes [] three = absurd (omega (arith, three))
length-extents_bytes (a ∷ []) three = absurd (omega (arith, three))
length-extents_bytes (a ∷ b ∷ []) three = absurd (omega (arith, three))
length-extents_bytes (a ∷ b ∷ c ∷ []) three = refl
length-extents_bytes (a ∷ b ∷ c ∷ d ∷ more) three = absurd (omega (arith, three))

pub length-dir_record_bytes : (dir : DirRecord) → IsDirRecordValue dir → length (dir_record_bytes dir) ≡ 70
unfolding dir_record_bytes
length-dir_record_bytes dir ok =
    simp length-append (omega (arith, ok.finder_info, ok.extended_finder_info, ok.reserved_area))

dir-rebuilt : (dir : DirRecord) (flags valence id created modified backup : ℕ) (finder_info extended_finder_info reserved_area : List ℕ)
    → flags ≡ dir.flags → valence ≡ dir.valence → id ≡ dir.id → created ≡ dir.created → modified ≡ dir.modified → backup ≡ dir.backup
    → finder_info ≡ dir.finder_info → extended_finder_info ≡ dir.extended_finder_info → reserved_area ≡ dir.reserved_area
    → record dir { flags = flags; valence = valence; id = id; created = created; modified = modified; backup = backup; finder_info = finder_info; extended_finder_info = extended_finder_info; reserved_area = reserved_area } ≡ dir
dir-rebuilt dir _ _ _ _ _ _ _ _ _ a b c d e f g h k =
    λ i. record { reserved = dir.reserved; flags = a i; valence = b i; id = c i; created = d i; modified = e i; backup = f i; finder_info = g i; extended_finder_info = h i; reserved_area = k i }

pub dir_record_of-written : (dir : DirRecord) (rest : List ℕ) → IsDirRecordValue dir → dir_record_of (dir_record_bytes dir ++ rest) ≡ dir
unfolding dir_record_of dir_record_bytes laid row
dir_record_of-written dir rest ok =
    let w : List ℕ = dir_record_bytes dir ++ rest in
    let info : drop 22 w ≡ dir.finder_info ++ (dir.extended_finder_info ++ (dir.reserved_area ++ rest)) =
    laid-append dir.finder_info (dir.extended_finder_info ∷ dir.reserved_area ∷ []) rest in
    let extended : drop 38 w ≡ dir.extended_finder_info ++ (dir.reserved_area ++ rest) = next 22 16 _ w _ info ok.finder_info in
    let area : drop 54 w ≡ dir.reserved_area ++ rest = next 38 16 _ w _ extended ok.extended_finder_info in
    dir-rebuilt dir _ _ _ _ _ _ _ _ _
    (number-read 2 2 dir.flags w _ refl ok.flags)
    (number-read 4 2 dir.valence w _ refl ok.valence)
    (number-read 6 4 dir.id w _ refl ok.id)
    (number-read 10 4 dir.created w _ refl ok.created)
    (number-read 14 4 dir.modified w _ refl ok.modified)
    (number-read 18 4 dir.backup w _ refl ok.backup)
    (bytes-read 22 16 dir.finder_info w _ info ok.finder_info)
    (bytes-read 38 16 dir.extended_finder_info w _ extended ok.extended_finder_info)
    (bytes-read 54 16 dir.reserved_area w _ area ok.reserved_area)

dir-first : (dir : DirRecord) (rest : List ℕ) → slice_index (dir_record_bytes dir ++ rest) 0 ≡ 1
unfolding dir_record_bytes
dir-first dir rest = refl

pub begins_dir-written : (dir : DirRecord) (rest : List ℕ) → IsDirRecordValue dir → begins_dir (dir_record_bytes dir ++ rest) ≡ true
unfolding begins_dir
begins_dir-written dir rest ok =
    let whole = length-dir_record_bytes dir ok in
    let all = length-append (dir_record_bytes dir) rest in
    let long = le-leb 70 (length (dir_record_bytes dir ++ rest)) (omega (arith, whole, all)) in
    λ i. long i && (dir-first dir rest i == 1)

pub is_dir-written : (dir : DirRecord) → IsDirRecordValue dir → is_dir (dir_record_bytes dir) ≡ true
is_dir-written dir ok =
    let first : slice_index (dir_record_bytes dir) 0 ≡ 1 = ap (λ (bytes : List ℕ). slice_index bytes 0) (sym (append-nil (dir_record_bytes dir))) ∙ dir-first dir [] in
    λ i. (first i == 1) && (length-dir_record_bytes dir ok i == 70)

pub length-file_record_bytes : (file : FileRecord) → IsFileRecordValue file → length (file_record_bytes file) ≡ 102
unfolding file_record_bytes
length-file_record_bytes file ok =
    let first = length-extents_bytes file.data.extents ok.data_fork.extents.three in
    let second = length-extents_bytes file.resource.extents ok.resource_fork.extents.three in
    simp length-append (omega (arith, ok.finder_info, ok.extended_finder_info, ok.reserved_area, first, second))

-- what stands behind the Finder's bytes
file-rest : FileRecord → List ℕ → List ℕ
file-rest file rest =
    row (
    big_bytes 4 file.id ∷ fork_bytes file.data ∷ fork_bytes file.resource ∷ big_bytes 4 file.created ∷ big_bytes 4 file.modified ∷ big_bytes 4 file.backup
    ∷ file.extended_finder_info ∷ big_bytes 2 file.clump_size ∷ extents_bytes file.data.extents ∷ extents_bytes file.resource.extents ∷ file.reserved_area ∷ []
    ) rest

file-row : (file : FileRecord) (rest : List ℕ) → drop 4 (file_record_bytes file ++ rest) ≡ file.finder_info ++ file-rest file rest
unfolding file_record_bytes file-rest laid
file-row file rest =
    laid-append file.finder_info (
    big_bytes 4 file.id ∷ fork_bytes file.data ∷ fork_bytes file.resource ∷ big_bytes 4 file.created ∷ big_bytes 4 file.modified ∷ big_bytes 4 file.backup
    ∷ file.extended_finder_info ∷ big_bytes 2 file.clump_size ∷ extents_bytes file.data.extents ∷ extents_bytes file.resource.extents ∷ file.reserved_area ∷ []
    ) rest

-- the numbers behind the Finder's bytes, and what stands behind them
file-behind : (file : FileRecord) (rest : List ℕ) → IsFileRecordValue file → drop 20 (file_record_bytes file ++ rest) ≡ file-rest file rest
file-behind file rest ok = next 4 16 file.finder_info (file_record_bytes file ++ rest) _ (file-row file rest) ok.finder_info

fork-rebuilt : (fork : ForkRecord) (first_block len physical_length : ℕ) (extents : List Extent)
    → first_block ≡ fork.first_block → len ≡ fork.length → physical_length ≡ fork.physical_length → extents ≡ fork.extents
    → record fork { first_block = first_block; length = len; physical_length = physical_length; extents = extents } ≡ fork
fork-rebuilt fork _ _ _ _ a b c d = λ i. record { first_block = a i; length = b i; physical_length = c i; extents = d i }

-- a fork is read where its numbers and its extents stand
fork_at-read : (i extents : ℕ) (fork : ForkRecord) (w rest more : List ℕ) → drop i w ≡ fork_bytes fork ++ rest → drop extents w ≡ extents_bytes fork.extents ++ more
    → IsForkRecordValue fork → fork_at i extents w ≡ fork
fork_at-read i extents fork w rest more h k ok =
    fork-rebuilt fork _ _ _ _
    (number-read i 2 fork.first_block w _ h ok.first_block)
    (number-read (i + 2) 4 fork.length w _ (behind i 2 w _ h) ok.length)
    (number-read (i + 6) 4 fork.physical_length w _ (behind i 6 w _ h) ok.physical_length)
    (extents_at-read extents fork.extents w more k ok.extents)

file-rebuilt : (file : FileRecord) (finder_info : List ℕ) (id : ℕ) (data_fork resource_fork : ForkRecord) (created modified backup : ℕ)
    (extended_finder_info : List ℕ) (clump_size : ℕ) (reserved_area : List ℕ)
    → finder_info ≡ file.finder_info → id ≡ file.id → data_fork ≡ file.data → resource_fork ≡ file.resource → created ≡ file.created → modified ≡ file.modified
    → backup ≡ file.backup → extended_finder_info ≡ file.extended_finder_info → clump_size ≡ file.clump_size → reserved_area ≡ file.reserved_area
    → record file {
      finder_info = finder_info;
      id = id;
      «data» = data_fork;
      resource = resource_fork;
      created = created;
      modified = modified;
      backup = backup;
      extended_finder_info = extended_finder_info;
      clump_size = clump_size;
      reserved_area = reserved_area;
    } ≡ file
file-rebuilt file _ _ _ _ _ _ _ _ _ _ a b c d e f g h k l =
    λ i. record {
      reserved = file.reserved;
      flags = file.flags;
      file_type = file.file_type;
      finder_info = a i;
      id = b i;
      «data» = c i;
      resource = d i;
      created = e i;
      modified = f i;
      backup = g i;
      extended_finder_info = h i;
      clump_size = k i;
      reserved_area = l i;
    }

-- the first four bytes of a file's record
file-head : (file : FileRecord) (rest : List ℕ) → (slice_index (file_record_bytes file ++ rest) 0 ≡ 2) × (slice_index (file_record_bytes file ++ rest) 1 ≡ file.reserved)
    × (slice_index (file_record_bytes file ++ rest) 2 ≡ file.flags.0) × (slice_index (file_record_bytes file ++ rest) 3 ≡ file.file_type)
unfolding file_record_bytes
file-head file rest = (refl, refl, refl, refl)

-- the fields behind the first four bytes, read from their places
file-fields : (file : FileRecord) (w rest : List ℕ) → drop 4 w ≡ file.finder_info ++ file-rest file rest → drop 20 w ≡ file-rest file rest → IsFileRecordValue file
    → record (file_record_of w) { reserved = file.reserved; flags = file.flags; file_type = file.file_type } ≡ file
unfolding file_record_of file-rest row
file-fields file w rest info behind-info ok =
    let extended : drop 56 w ≡ file.extended_finder_info ++ (big_bytes 2 file.clump_size ++ (extents_bytes file.data.extents ++ (extents_bytes file.resource.extents ++ (file.reserved_area ++ rest)))) =
    behind 20 36 w _ behind-info in
    let clump : drop 72 w ≡ big_bytes 2 file.clump_size ++ (extents_bytes file.data.extents ++ (extents_bytes file.resource.extents ++ (file.reserved_area ++ rest))) =
    next 56 16 _ w _ extended ok.extended_finder_info in
    let first : drop 74 w ≡ extents_bytes file.data.extents ++ (extents_bytes file.resource.extents ++ (file.reserved_area ++ rest)) = behind 72 2 w _ clump in
    let second : drop 86 w ≡ extents_bytes file.resource.extents ++ (file.reserved_area ++ rest) =
    next 74 12 _ w _ first (length-extents_bytes file.data.extents ok.data_fork.extents.three) in
    let area : drop 98 w ≡ file.reserved_area ++ rest = next 86 12 _ w _ second (length-extents_bytes file.resource.extents ok.resource_fork.extents.three) in
    file-rebuilt file _ _ _ _ _ _ _ _ _ _
    (bytes-read 4 16 file.finder_info w _ info ok.finder_info)
    (number-read 20 4 file.id w _ behind-info ok.id)
    (fork_at-read 24 74 file.data w _ _ (behind 20 4 w _ behind-info) first ok.data_fork)
    (fork_at-read 34 86 file.resource w _ _ (behind 20 14 w _ behind-info) second ok.resource_fork)
    (number-read 44 4 file.created w _ (behind 20 24 w _ behind-info) ok.created)
    (number-read 48 4 file.modified w _ (behind 20 28 w _ behind-info) ok.modified)
    (number-read 52 4 file.backup w _ (behind 20 32 w _ behind-info) ok.backup)
    (bytes-read 56 16 file.extended_finder_info w _ extended ok.extended_finder_info)
    (number-read 72 2 file.clump_size w _ clump ok.clump_size)
    (bytes-read 98 4 file.reserved_area w _ area ok.reserved_area)

head-rebuilt : (file : FileRecord) (reserved file_type : ℕ) (flags : FileFlags) → file.reserved ≡ reserved → file.flags ≡ flags → file.file_type ≡ file_type
    → file ≡ record file { reserved = reserved; flags = flags; file_type = file_type }
head-rebuilt file _ _ _ a b c = λ i. record file { reserved = a i; flags = b i; file_type = c i }

flags-read : (x : ℕ) (flags : FileFlags) → x ≡ flags.0 → record { 0 = x } ≡ flags
flags-read x flags e = λ i. record { 0 = e i }

pub file_record_of-written : (file : FileRecord) (rest : List ℕ) → IsFileRecordValue file → file_record_of (file_record_bytes file ++ rest) ≡ file
unfolding file_record_of
file_record_of-written file rest ok =
    let head = file-head file rest in
    head-rebuilt (file_record_of (file_record_bytes file ++ rest)) file.reserved file.file_type file.flags head.1 (flags-read _ file.flags head.2) head.3
    ∙ file-fields file (file_record_bytes file ++ rest) rest (file-row file rest) (file-behind file rest ok) ok

pub begins_file-written : (file : FileRecord) (rest : List ℕ) → IsFileRecordValue file → begins_file (file_record_bytes file ++ rest) ≡ true
unfolding begins_file
begins_file-written file rest ok =
    let whole = length-file_record_bytes file ok in
    let all = length-append (file_record_bytes file) rest in
    let long = le-leb 102 (length (file_record_bytes file ++ rest)) (omega (arith, whole, all)) in
    λ i. long i && ((file-head file rest).0 i == 2)

pub length-thread_record_bytes : (thread : ThreadRecord) → IsThreadRecordValue thread → length (thread_record_bytes thread) ≡ 46
unfolding thread_record_bytes
length-thread_record_bytes thread ok =
    let zeros = length-replicate {A = ℕ} (31 - length thread.name) 0 in
    simp length-append (omega (arith, ok.reserved_area, ok.name, zeros))

thread-row : (thread : ThreadRecord) (rest : List ℕ)
    → drop 2 (thread_record_bytes thread ++ rest)
    ≡ thread.reserved_area ++ (big_bytes 4 thread.parent ++ (length thread.name ∷ (thread.name ++ (replicate (31 - length thread.name) 0 ++ rest))))
unfolding thread_record_bytes laid row
thread-row thread rest = laid-append thread.reserved_area (big_bytes 4 thread.parent ∷ (length thread.name ∷ []) ∷ thread.name ∷ replicate (31 - length thread.name) 0 ∷ []) rest

kind-read : (kind : ThreadKind) → thread_kind_of (thread_type kind) ≡ kind
kind-read Folder = refl
kind-read File = refl

thread-type : (kind : ThreadKind) → ((thread_type kind == 3) || (thread_type kind == 4)) ≡ true
thread-type Folder = refl
thread-type File = refl

thread-head : (thread : ThreadRecord) (rest : List ℕ)
    → (slice_index (thread_record_bytes thread ++ rest) 0 ≡ thread_type thread.kind) × (slice_index (thread_record_bytes thread ++ rest) 1 ≡ thread.reserved)
unfolding thread_record_bytes
thread-head thread rest = (refl, refl)

-- the name's length byte at place 14
thread-name-length : (thread : ThreadRecord) (w rest : List ℕ) → drop 10 w ≡ big_bytes 4 thread.parent ++ (length thread.name ∷ rest) → name_len 14 w ≡ length thread.name
thread-name-length thread w rest h = sym (get_or-drop 10 w 4 0) ∙ ap (λ (bytes : List ℕ). slice_index bytes 4) h

thread-name : (thread : ThreadRecord) (w rest : List ℕ) → drop 10 w ≡ big_bytes 4 thread.parent ++ (length thread.name ∷ (thread.name ++ rest)) → name_at 14 w ≡ thread.name
thread-name thread w rest h =
    let len = thread-name-length thread w (thread.name ++ rest) h in
    let text : drop 15 w ≡ thread.name ++ rest = behind 10 5 w _ h in
    (λ i. take (len i) (text i)) ∙ take_at thread.name rest (length thread.name) refl

thread-rebuilt : (thread : ThreadRecord) (kind : ThreadKind) (reserved : ℕ) (reserved_area : List ℕ) (parent : ℕ) (name : List ℕ)
    → kind ≡ thread.kind → reserved ≡ thread.reserved → reserved_area ≡ thread.reserved_area → parent ≡ thread.parent → name ≡ thread.name
    → record thread { kind = kind; reserved = reserved; reserved_area = reserved_area; parent = parent; name = name } ≡ thread
thread-rebuilt thread _ _ _ _ _ a b c d e = λ i. record { kind = a i; reserved = b i; reserved_area = c i; parent = d i; name = e i }

thread-behind : (thread : ThreadRecord) (rest : List ℕ) → IsThreadRecordValue thread
    → drop 10 (thread_record_bytes thread ++ rest) ≡ big_bytes 4 thread.parent ++ (length thread.name ∷ (thread.name ++ (replicate (31 - length thread.name) 0 ++ rest)))
thread-behind thread rest ok = next 2 8 thread.reserved_area (thread_record_bytes thread ++ rest) _ (thread-row thread rest) ok.reserved_area

pub thread_record_of-written : (thread : ThreadRecord) (rest : List ℕ) → IsThreadRecordValue thread → thread_record_of (thread_record_bytes thread ++ rest) ≡ thread
unfolding thread_record_of
thread_record_of-written thread rest ok =
    let w : List ℕ = thread_record_bytes thread ++ rest in
    let head = thread-head thread rest in
    let numbers = thread-behind thread rest ok in
    thread-rebuilt thread _ _ _ _ _
    (ap thread_kind_of head.0 ∙ kind-read thread.kind)
    head.1
    (bytes-read 2 8 thread.reserved_area w _ (thread-row thread rest) ok.reserved_area)
    (number-read 10 4 thread.parent w _ numbers ok.parent)
    (thread-name thread w _ numbers)

pub begins_thread-written : (thread : ThreadRecord) (rest : List ℕ) → IsThreadRecordValue thread → begins_thread (thread_record_bytes thread ++ rest) ≡ true
unfolding begins_thread
begins_thread-written thread rest ok =
    let whole = length-thread_record_bytes thread ok in
    let all = length-append (thread_record_bytes thread) rest in
    let long = le-leb 46 (length (thread_record_bytes thread ++ rest)) (omega (arith, whole, all)) in
    let kind = ap (λ (byte : ℕ). (byte == 3) || (byte == 4)) (thread-head thread rest).0 ∙ thread-type thread.kind in
    let len = thread-name-length thread (thread_record_bytes thread ++ rest) _ (thread-behind thread rest ok) in
    let short = ap (λ (n : ℕ). nat_le n 31) len ∙ le-leb (length thread.name) 31 ok.name in
    λ i. long i && kind i && short i
