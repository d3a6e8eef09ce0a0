-- Where the forks of files lie, as more of them come.
use Rattle.std.proofs.Common.{◌≡◌, ◌⊎◌, inl, inr, ⊎_elim, ℕ, Bool, true, false, cond, List, [], ◌∷◌, ◌++◌, Some, None, is_some, Result, Ok, Err, IfOk, refl, sym, ap, subst, ◌∙◌, true≢false, length, arith, take, get_or, suc, ◌+◌, ◌<◌, ◌≤◌}
use Rattle.std.specs.Prelude.{nat_eq, ◌||◌}
use Rattle.std.specs.Map.{lookup}
use Rattle.std.proofs.lemmas.Bool.{eqb-true}
use Rattle.std.proofs.lemmas.Grind.{flat_map-append}
use Rattle.std.proofs.Math.Seq.{take-suc}
use Rattle.hfs_fields.specs.declared.file_record.FileRecord.{FileRecord}
use Rattle.hfs_fields.specs.Records.{is_file, is_item, item_id, dir_record_of, file_record_of}
use Rattle.hfs_fields.specs.Members.{In}
use Rattle.hfs_fields.proofs.MemberLemmas.{in-left, in-right}
use Rattle.hfs_fields.proofs.ElementLemmas.{each-append, each-mono}
use Rattle.hfs_model.proofs.Facts.{same_some}
use Rattle.hfs_model.specs.declared.call.Call.{Call}
use Rattle.hfs_model.specs.declared.reply.Reply.{Reply}
use Rattle.hfs_blocks.specs.declared.run.Run.{Run}
use Rattle.hfs_blocks.specs.Blocks.{run_of}
use Rattle.hfs_catalog.specs.Records.{Record, Catalog, item_with}
use Rattle.hfs_catalog.proofs.DistinctLemmas.{later_from_distinct}
use Rattle.hfs_catalog.proofs.NameOrder.{found_by_id}
use Rattle.hfs_check.specs.Parts.{Blocks, catalog_in}
use Rattle.hfs_check.specs.Sound.{AreBlocksSound}
use Rattle.hfs_items.specs.Told.{file_named}
use Rattle.hfs_items.proofs.NamedFileLemmas.{found_file}
use Rattle.hfs_scripts.specs.declared.lines.ScriptLine.{ScriptLine}
use Rattle.hfs_model.specs.Named.{named_by}
use Rattle.hfs_copy.specs.Keeping.{GainsRuns, LieIn}
use Rattle.hfs_runs.specs.NamedForks.{AreAmong, GainForks, HasMet, HaveMet, HaveNamedForks, IsFileOf, OfNamed, blocks_of_runs, file_blocks}
use Rattle.hfs_catalog.proofs.FileRecords.{not-dir}

-- ---- members

pub among-left : (ns xs ys : List ℕ) → AreAmong ns xs → AreAmong ns (xs ++ ys)
among-left ns xs ys h = each-mono (λ n. In n xs) (λ n. In n (xs ++ ys)) ns (λ n i. in-left n xs ys i) h

pub among-right : (ns xs ys : List ℕ) → AreAmong ns ys → AreAmong ns (xs ++ ys)
among-right ns xs ys h = each-mono (λ n. In n ys) (λ n. In n (xs ++ ys)) ns (λ n i. in-right n xs ys i) h

pub among-itself : (ns : List ℕ) → AreAmong ns ns
among-itself [] = tt
among-itself (n ∷ ns) = (inl refl, each-mono (λ m. In m ns) (λ m. In m (n ∷ ns)) ns (λ m i. inr i) (among-itself ns))

-- ---- runs

pub blocks-append : (a b : List Run) → blocks_of_runs (a ++ b) ≡ blocks_of_runs a ++ blocks_of_runs b
blocks-append a b = flat_map-append run_of a b

pub among-gained : (ns : List ℕ) (old new : List Run) → GainForks old new → AreAmong ns (blocks_of_runs old) → AreAmong ns (blocks_of_runs new)
among-gained ns old new gained h =
    subst (AreAmong ns) (sym (ap blocks_of_runs gained.1 ∙ blocks-append old gained.0)) (among-left ns (blocks_of_runs old) (blocks_of_runs gained.0) h)

pub gained-itself : (forks : List Run) → GainForks forks forks
gained-itself forks = ([], sym (append-nil forks))
  where
    append-nil : (xs : List Run) → xs ++ [] ≡ xs
    append-nil [] = refl
    append-nil (x ∷ xs) = ap (λ (l : List Run). x ∷ l) (append-nil xs)

pub gained-on : (a b c : List Run) → GainForks a b → GainForks b c → GainForks a c
gained-on a b c first second = (first.0 ++ second.0, second.1 ∙ ap (λ (l : List Run). l ++ second.0) first.1 ∙ append-assoc a first.0 second.0)
  where
    append-assoc : (xs ys zs : List Run) → (xs ++ ys) ++ zs ≡ xs ++ (ys ++ zs)
    append-assoc [] ys zs = refl
    append-assoc (x ∷ xs) ys zs = ap (λ (l : List Run). x ∷ l) (append-assoc xs ys zs)

-- ---- the files that are named

pub of-named : (catalog : Catalog) (P Q : FileRecord → Type 0) (call : Call) → ((file : FileRecord) → P file → Q file) → OfNamed catalog P call → OfNamed catalog Q call
of-named catalog P Q call step h dir name is = by (file_named catalog dir name) (h dir name is)
  where
    by : (r : Result FileRecord Reply) → IfOk r P → IfOk r Q
    by (Ok file) p = step file p
    by (Err reply) p = tt

pub named-gained : (blocks : Blocks) (lines : List ScriptLine) (old new : List Run) → GainForks old new
    → HaveNamedForks blocks lines (blocks_of_runs old) → HaveNamedForks blocks lines (blocks_of_runs new)
named-gained blocks lines old new gained h =
    each-mono (λ (line : ScriptLine). OfNamed (catalog_in blocks) (λ (file : FileRecord). AreAmong (file_blocks blocks file) (blocks_of_runs old)) line.call)
    (λ (line : ScriptLine). OfNamed (catalog_in blocks) (λ (file : FileRecord). AreAmong (file_blocks blocks file) (blocks_of_runs new)) line.call) lines
    (λ line p. of-named (catalog_in blocks) (λ (file : FileRecord). AreAmong (file_blocks blocks file) (blocks_of_runs old))
    (λ (file : FileRecord). AreAmong (file_blocks blocks file) (blocks_of_runs new)) line.call (λ file among. among-gained (file_blocks blocks file) old new gained among) p) h

-- a call that names nothing
pub names-none : (catalog : Catalog) (P : FileRecord → Type 0) (call : Call) → named_by call ≡ None → OfNamed catalog P call
names-none catalog P call none dir name is = absurd (none-some (dir, name) (sym none ∙ is))
  where
    none-some : (x : ℕ × List ℕ) → None ≡ Some x → ⊥
    none-some x e = cc

-- the one that it names
pub names-one : (catalog : Catalog) (P : FileRecord → Type 0) (call : Call) (dir : ℕ) (name : List ℕ) → named_by call ≡ Some (dir, name)
    → IfOk (file_named catalog dir name) P → OfNamed catalog P call
names-one catalog P call dir name is h other_dir other_name other =
    let same : (dir, name) ≡ (other_dir, other_name) = same_some (dir, name) (other_dir, other_name) (sym is ∙ other) in
    subst (λ (place : ℕ × List ℕ). IfOk (file_named catalog place.0 place.1) P) same h
  where
    same_some : (x y : ℕ × List ℕ) → Some x ≡ Some y → x ≡ y
    same_some x y e = cc

pub file-is : (catalog : Catalog) (dir : ℕ) (name : List ℕ) (found : Result FileRecord Reply) → found ≡ file_named catalog dir name → IfOk found (IsFileOf catalog)
file-is catalog dir name (Ok file) is = let f = found_file catalog dir name file (sym is) in record { of = f.of; there = f.there; kind = f.file; is = f.is }
file-is catalog dir name (Err reply) is = tt

-- ---- with distinct IDs

pub item-id : (body : List ℕ) → is_file body ≡ true → item_id body ≡ (file_record_of body).id
item-id body file = ap (λ (b : Bool). cond b (dir_record_of body).id (file_record_of body).id) (not-dir body file)

pub item-is : (body : List ℕ) → is_file body ≡ true → is_item body ≡ true
item-is body file = ap (λ (b : Bool). b || is_file body) (not-dir body file) ∙ file

-- two files with one ID are one
pub same-file : (total : ℕ) (blocks : Blocks) → AreBlocksSound total blocks → (f g : FileRecord) → IsFileOf (catalog_in blocks) f → IsFileOf (catalog_in blocks) g
    → f.id ≡ g.id → f ≡ g
same-file total blocks sound f g is-f is-g same =
    let catalog = catalog_in blocks in
    let later = later_from_distinct catalog sound.ids.distinct in
    let first : item_with catalog (item_id is-f.of.1) ≡ Some is-f.of = found_by_id catalog is-f.of later is-f.there (item-is is-f.of.1 is-f.kind) in
    let second : item_with catalog (item_id is-g.of.1) ≡ Some is-g.of = found_by_id catalog is-g.of later is-g.there (item-is is-g.of.1 is-g.kind) in
    let ids : item_id is-f.of.1 ≡ item_id is-g.of.1 =
    item-id is-f.of.1 is-f.kind ∙ ap (λ (r : FileRecord). r.id) is-f.is ∙ same ∙ sym (item-id is-g.of.1 is-g.kind ∙ ap (λ (r : FileRecord). r.id) is-g.is) in
    let records : is-f.of ≡ is-g.of = same_some is-f.of is-g.of (sym first ∙ ap (item_with catalog) ids ∙ second) in
    sym is-f.is ∙ ap (λ (r : Record). file_record_of r.1) records ∙ is-g.is

-- the IDs that were met, with one more
pub met-first : {A : Type 0} (blocks : Blocks) (ids : List (ℕ × A)) (forks : List Run) → ids ≡ [] → HaveMet blocks ids forks
met-first {A} blocks ids forks none file is met = absurd (true≢false (sym met ∙ ap (λ (es : List (ℕ × A)). is_some (lookup (nat_eq file.id) es)) none))

pub met-gained : {A : Type 0} (blocks : Blocks) (ids : List (ℕ × A)) (old new : List Run) → GainForks old new → HaveMet blocks ids old → HaveMet blocks ids new
met-gained blocks ids old new gained h file is met = among-gained (file_blocks blocks file) old new gained (h file is met)

pub met-more : {A : Type 0} (total : ℕ) (blocks : Blocks) → AreBlocksSound total blocks → (old new : List (ℕ × A)) (forks : List Run) (file : FileRecord)
    → IsFileOf (catalog_in blocks) file → HaveMet blocks old forks → AreAmong (file_blocks blocks file) (blocks_of_runs forks)
    → ((id : ℕ) → HasMet new id → (id ≡ file.id) ⊎ HasMet old id) → HaveMet blocks new forks
met-more total blocks sound old new forks file is h here step other is-other met = ⊎_elim
    (λ (same : other.id ≡ file.id).
    subst (λ (f : FileRecord). AreAmong (file_blocks blocks f) (blocks_of_runs forks)) (sym (same-file total blocks sound other file is-other is same)) here)
    (λ (before : HasMet old other.id). h other is-other before)
    (step other.id met)

-- ---- the runs of one file

pub pushed-among : (first second : List ℕ) (count : ℕ) (old middle new : List Run) → GainsRuns first count old middle → GainsRuns second count middle new
    → AreAmong (first ++ second) (blocks_of_runs new)
pushed-among first second count old middle new one two =
    each-append (λ n. In n (blocks_of_runs new)) first second
    (among-gained first middle new (two.more, two.are)
    (subst (AreAmong first) (sym (ap blocks_of_runs one.are ∙ blocks-append old one.more))
    (among-right first (blocks_of_runs old) (blocks_of_runs one.more) (subst (AreAmong first) (sym one.numbers_are) (among-itself first)))))
    (subst (AreAmong second) (sym (ap blocks_of_runs two.are ∙ blocks-append middle two.more))
    (among-right second (blocks_of_runs middle) (blocks_of_runs two.more) (subst (AreAmong second) (sym two.numbers_are) (among-itself second))))

pub pushed-gained : (first second : List ℕ) (count : ℕ) (old middle new : List Run) → GainsRuns first count old middle → GainsRuns second count middle new
    → GainForks old new
pushed-gained first second count old middle new one two = gained-on old middle new (one.more, one.are) (two.more, two.are)

pub lie-more : (numbers : List ℕ) (count : ℕ) (old new : List Run) → GainsRuns numbers count old new → LieIn count old → LieIn count new
lie-more numbers count old new came h =
    subst (LieIn count) (sym came.are) (each-append (λ (run : Run). run.first + run.count ≤ count) old came.more h came.within)

-- an entry that was put in
pub met-by : {A : Type 0} (old new : List (ℕ × A)) (id : ℕ) (x : A) → ((q : ℕ) → lookup (nat_eq q) new ≡ cond (nat_eq id q) (Some x) (lookup (nat_eq q) old))
    → (other : ℕ) → HasMet new other → (other ≡ id) ⊎ HasMet old other
met-by old new id x updates other met = elim (nat_eq id other) as (λ (b : Bool). nat_eq id other ≡ b → (other ≡ id) ⊎ HasMet old other) [
  | true ↦ λ e. inl (sym (eqb-true id other e))
  | false ↦ λ e. inr (sym (ap is_some (updates other ∙ ap (λ (b : Bool). cond b (Some x) (lookup (nat_eq other) old)) e)) ∙ met)
] refl

-- one line more
pub named-next : (blocks : Blocks) (lines : List ScriptLine) (i : ℕ) (line : ScriptLine) (old new : List Run) → i < length lines → GainForks old new
    → HaveNamedForks blocks (take i lines) (blocks_of_runs old)
    → OfNamed (catalog_in blocks) (λ (file : FileRecord). AreAmong (file_blocks blocks file) (blocks_of_runs new)) (get_or lines i line).call
    → HaveNamedForks blocks (take (i + 1) lines) (blocks_of_runs new)
named-next blocks lines i line old new within gained before here =
    subst (λ (ls : List ScriptLine). HaveNamedForks blocks ls (blocks_of_runs new)) (sym (take-suc lines i line within) ∙ ap (λ (n : ℕ). take n lines) (one-more i))
    (each-append (λ (l : ScriptLine). OfNamed (catalog_in blocks) (λ (file : FileRecord). AreAmong (file_blocks blocks file) (blocks_of_runs new)) l.call)
    (take i lines) (get_or lines i line ∷ []) (named-gained blocks (take i lines) old new gained before) (here, tt))
  where
    one-more : (n : ℕ) → suc n ≡ n + 1
    one-more n = omega arith
