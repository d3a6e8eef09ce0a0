-- The forks that files have after a run.
use Rattle.std.proofs.Common.{◌≡◌, ⊎_elim, ℕ, zero, suc, ◌+◌, ◌<◌, ◌≤◌, Bool, true, false, cond, List, [], ◌∷◌, ◌++◌, length, map, take, get_or, Some, None, refl, sym, ap, subst, ◌∙◌, arith, true≢false}
use Rattle.std.specs.List.{flat_map}
use Rattle.std.proofs.lemmas.Grind.{flat_map-append}
use Rattle.std.proofs.lemmas.List.Concat.{flat_map-cons}
use Rattle.std.proofs.Math.Seq.{take-suc}
use Rattle.hfs_fields.specs.declared.file_record.FileRecord.{FileRecord}
use Rattle.hfs_fields.specs.declared.extent.Extent.{Extent}
use Rattle.hfs_fields.specs.declared.mdb.Mdb.{Mdb}
use Rattle.hfs_fields.specs.declared.dir_record.DirRecord.{DirRecord}
use Rattle.hfs_fields.specs.Records.{is_dir, is_file, is_item, item_id, dir_record_of, file_record_of}
use Rattle.hfs_model.specs.declared.call.Fork.{Fork as ModelFork}
use Rattle.hfs_model.specs.declared.call.Fork.TheVariants.{DataFork, ResFork}
use Rattle.hfs_fields.specs.Each.{Each}
use Rattle.hfs_fields.specs.Members.{In}
use Rattle.hfs_fields.proofs.ElementLemmas.{each-append, each-mono}
use Rattle.hfs_fields.proofs.MemberLemmas.{each_in}
use Rattle.hfs_blocks.specs.declared.run.Run.{Run}
use Rattle.hfs_blocks.specs.Blocks.{block_count, run_of}
use Rattle.hfs_catalog.specs.declared.item.CatalogItem.{CatalogItem}
use Rattle.hfs_catalog.specs.declared.item.ItemRecord.TheVariants.{Folder, File}
use Rattle.hfs_catalog.specs.Lookups.{record_of}
use Rattle.hfs_catalog.specs.Records.{Record, Catalog}
use Rattle.hfs_catalog.specs.Sound.{IsGiven, IsRoot}
use Rattle.hfs_check.specs.Parts.{Blocks, mdb_in, overflow_in, catalog_in}
use Rattle.hfs_check.specs.Sound.{AreBlocksSound, IsImageLength}
use Rattle.hfs_image.specs.Forks.{AreForksIn}
use Rattle.hfs_space.specs.declared.fork_kind.ForkKind.TheVariants.{Data, Resource}
use Rattle.hfs_space.specs.Extents.{AreExtentsWithin}
use Rattle.hfs_space.specs.Forks.{HasArea, run_in}
use Rattle.hfs_space.specs.Owners.{Fork, forks_of_file}
use Rattle.hfs_space.specs.Sound.{IsForkSound}
use Rattle.hfs_volume.specs.Sharing.{file_extents}
use Rattle.hfs_copy.specs.Keeping.{GainsExtents, GainsRuns, LieIn}
use Rattle.hfs_runs.specs.NamedForks.{AreAmong, AreForksOf, GainsForksOf, HasForksOf, IsForkBlock, IsForkBlockOf, file_blocks, fork_blocks}
use Rattle.hfs_runs.proofs.ForkPlaces.{among-itself, among-left, among-right, item-is}
use Rattle.hfs_catalog.proofs.FileRecords.{not-dir}

-- ---- runs that came

append-nil : {A : Type 0} (xs : List A) → xs ++ [] ≡ xs
append-nil [] = refl
append-nil {A = A} (x ∷ xs) = ap (λ (l : List A). x ∷ l) (append-nil xs)

append-assoc : {A : Type 0} (xs ys zs : List A) → (xs ++ ys) ++ zs ≡ xs ++ (ys ++ zs)
append-assoc [] ys zs = refl
append-assoc {A = A} (x ∷ xs) ys zs = ap (λ (l : List A). x ∷ l) (append-assoc xs ys zs)

pub no-runs : (mdb : Mdb) (old new : List Run) → new ≡ old → GainsExtents mdb [] old new
no-runs mdb old new same total area = record { more = []; are = same ∙ sym (append-nil old); numbers_are = refl; within = tt }

-- one extent more
pub next-runs : (mdb : Mdb) (extents : List Extent) (i : ℕ) (e : Extent) (run : Run) (old middle new : List Run) → i < length extents
    → run_of run ≡ run_of (run_in mdb (get_or extents i e)) → ((total : ℕ) → HasArea mdb total → run.first + run.count ≤ total) → new ≡ middle ++ run ∷ []
    → GainsExtents mdb (take i extents) old middle → GainsExtents mdb (take (i + 1) extents) old new
next-runs mdb extents i e run old middle new lt same inside pushed before total area =
    let came = before total area in
    record {
      more = came.more ++ run ∷ [];
      are = pushed ∙ ap (λ (l : List Run). l ++ run ∷ []) came.are ∙ append-assoc old came.more (run ∷ []);
      numbers_are =
          flat_map-append run_of came.more (run ∷ []) ∙ (λ t. came.numbers_are t ++ (one-run run ∙ same ∙ sym (one-run (run_in mdb item))) t)
          ∙ sym (flat_map-append run_of (map (run_in mdb) (take i extents)) (run_in mdb item ∷ []))
          ∙ ap (flat_map run_of) (sym (map-append (take i extents)) ∙ ap (map (run_in mdb)) (sym (take-suc extents i e lt) ∙ ap (λ (n : ℕ). take n extents) (one-more i)));
      within = each-append (λ (r : Run). r.first + r.count ≤ total) came.more (run ∷ []) came.within (inside total area, tt);
    }
  where
    item : Extent
    item = get_or extents i e

    one-more : (n : ℕ) → suc n ≡ n + 1
    one-more n = omega arith

    one-run : (r : Run) → flat_map run_of (r ∷ []) ≡ run_of r
    one-run r = flat_map-cons run_of r [] ∙ append-nil (run_of r)

    map-append : (xs : List Extent) → map (run_in mdb) (xs ++ item ∷ []) ≡ map (run_in mdb) xs ++ run_in mdb item ∷ []
    map-append [] = refl
    map-append (x ∷ xs) = ap (λ (l : List Run). run_in mdb x ∷ l) (map-append xs)

pub both-runs : (numbers others : List ℕ) (total : ℕ) (old middle new : List Run) → GainsRuns numbers total old middle → GainsRuns others total middle new
    → GainsRuns (numbers ++ others) total old new
both-runs numbers others total old middle new first second = record {
  more = first.more ++ second.more;
  are = second.are ∙ ap (λ (l : List Run). l ++ second.more) first.are ∙ append-assoc old first.more second.more;
  numbers_are = flat_map-append run_of first.more second.more ∙ (λ i. first.numbers_are i ++ second.numbers_are i);
  within = each-append (λ (run : Run). run.first + run.count ≤ total) first.more second.more first.within second.within;
}

-- ---- the forks of a record

module _ (blocks : Blocks) (Kept : ℕ → Type 0) (total : ℕ) (r : Record) where
  pub gains-none : (old : List Run) → (is_file r.1 ≡ true → Kept (file_record_of r.1).id → ⊥) → GainsForksOf blocks Kept total r old old
  gains-none old none = record { more = []; are = sym (append-nil old); within = tt; has = λ file kept. absurd (none file kept); only = tt }

  each-own : is_file r.1 ≡ true → Kept (file_record_of r.1).id → (ns : List ℕ) → AreAmong ns (file_blocks blocks (file_record_of r.1)) → Each (IsForkBlockOf blocks Kept r) ns
  each-own file kept [] h = tt
  each-own file kept (n ∷ ns) h = (record { file = file; kept = kept; has = h.0 }, each-own file kept ns h.1)

  pub gains-forks : (old new : List Run) → is_file r.1 ≡ true → Kept (file_record_of r.1).id → GainsRuns (file_blocks blocks (file_record_of r.1)) total old new → GainsForksOf blocks Kept total r old new
  gains-forks old new file kept_one came = record {
    more = came.more;
    are = came.are;
    within = came.within;
    has = λ is kept. subst (λ (ns : List ℕ). AreAmong (file_blocks blocks (file_record_of r.1)) ns) (sym came.numbers_are) (among-itself (file_blocks blocks (file_record_of r.1)));
    only = subst (λ (ns : List ℕ). Each (IsForkBlockOf blocks Kept r) ns) (sym came.numbers_are)
        (each-own file kept_one (file_blocks blocks (file_record_of r.1)) (among-itself (file_blocks blocks (file_record_of r.1))));
  }

-- ---- of record after record

pub forks-none : (blocks : Blocks) (Kept : ℕ → Type 0) (total : ℕ) → AreForksOf blocks Kept total [] []
forks-none blocks Kept total = record { within = tt; has = tt; only = tt }

has-more : (blocks : Blocks) (Kept : ℕ → Type 0) (r : Record) (old new : List ℕ) → ((ns : List ℕ) → AreAmong ns old → AreAmong ns new) → HasForksOf blocks Kept old r → HasForksOf blocks Kept new r
has-more blocks Kept r old new step h file kept = step (file_blocks blocks (file_record_of r.1)) (h file kept)

pub forks-next : (blocks : Blocks) (Kept : ℕ → Type 0) (total : ℕ) (records : Catalog) (i : ℕ) (r : Record) (old new : List Run) → i < length records
    → In (get_or records i r) (catalog_in blocks) → AreForksOf blocks Kept total (take i records) old → GainsForksOf blocks Kept total (get_or records i r) old new
    → AreForksOf blocks Kept total (take (i + 1) records) new
forks-next blocks Kept total records i r old new lt there before came = record {
  within = subst (LieIn total) (sym came.are)
      (each-append (λ (run : Run). run.first + run.count ≤ total) old came.more before.within came.within);
  has = subst (λ (rs : Catalog). Each (HasForksOf blocks Kept (flat_map run_of new)) rs) (sym (take-suc records i r lt) ∙ ap (λ (n : ℕ). take n records) (one-more i))
      (each-append (HasForksOf blocks Kept (flat_map run_of new)) (take i records) (item ∷ [])
      (each-mono (HasForksOf blocks Kept (flat_map run_of old)) (HasForksOf blocks Kept (flat_map run_of new)) (take i records)
      (λ q h. has-more blocks Kept q (flat_map run_of old) (flat_map run_of new)
      (λ ns among. subst (AreAmong ns) (sym numbers) (among-left ns (flat_map run_of old) (flat_map run_of came.more) among)) h) before.has) (
        has-more blocks Kept item (flat_map run_of came.more) (flat_map run_of new)
            (λ ns among. subst (AreAmong ns) (sym numbers) (among-right ns (flat_map run_of old) (flat_map run_of came.more) among)) came.has,
        tt,
      ));
  only = subst (λ (ns : List ℕ). Each (IsForkBlock blocks Kept) ns) (sym numbers)
      (each-append (IsForkBlock blocks Kept) (flat_map run_of old) (flat_map run_of came.more) before.only
      (each-mono (IsForkBlockOf blocks Kept item) (IsForkBlock blocks Kept) (flat_map run_of came.more) (λ n own. (item, there, own)) came.only));
}
  where
    item : Record
    item = get_or records i r

    numbers : flat_map run_of new ≡ flat_map run_of old ++ flat_map run_of came.more
    numbers = ap (flat_map run_of) came.are ∙ flat_map-append run_of old came.more

    one-more : (n : ℕ) → suc n ≡ n + 1
    one-more n = omega arith

pub take-all : {A : Type 0} (xs : List A) (n : ℕ) → length xs ≤ n → take n xs ≡ xs
take-all [] zero le = refl
take-all [] (suc n) le = refl
take-all (x ∷ xs) zero le = absurd (omega (arith, le))
take-all {A = A} (x ∷ xs) (suc n) le = ap (λ (l : List A). x ∷ l) (take-all xs n (omega (arith, le)))

-- ---- of a sound volume

pub forks-in : (total : ℕ) (blocks : Blocks) → AreBlocksSound total blocks → (r : Record) → In r (catalog_in blocks) → is_file r.1 ≡ true
    → AreForksIn blocks (file_record_of r.1)
forks-in total blocks sound r there file =
    subst (λ (fs : List Fork). Each (IsForkSound (mdb_in blocks) (overflow_in blocks)) fs) (ap (λ (b : Bool). cond b (forks_of_file (file_record_of r.1)) []) file)
    (each_in _ (catalog_in blocks) r sound.forks.files there)

pub file-given : (total : ℕ) (blocks : Blocks) → AreBlocksSound total blocks → (r : Record) → In r (catalog_in blocks) → is_file r.1 ≡ true → 16 ≤ item_id r.1
file-given total blocks sound r there file = ⊎_elim
    (λ (root : IsRoot r). absurd (true≢false (sym root.folder ∙ not-dir r.1 file)))
    (λ (given : IsGiven (mdb_in blocks).next_id r). given.least)
    (each_in _ (catalog_in blocks) r sound.ids.each there (item-is r.1 file))

pub forks-within : (blocks : Blocks) (file : FileRecord) → AreForksIn blocks file → (fork : ModelFork) → AreExtentsWithin (mdb_in blocks).allocation_blocks (file_extents blocks fork file)
unfolding file_extents forks_of_file
forks-within blocks file h DataFork = h.0.within
forks-within blocks file h ResFork = h.1.0.within

pub made-forks : (blocks : Blocks) (file : FileRecord) (total : ℕ) (old middle new : List Run) → HasArea (mdb_in blocks) total
    → GainsExtents (mdb_in blocks) (file_extents blocks DataFork file) old middle → GainsExtents (mdb_in blocks) (file_extents blocks ResFork file) middle new
    → GainsRuns (file_blocks blocks file) total old new
unfolding file_extents
made-forks blocks file total old middle new area one two =
    both-runs (fork_blocks blocks file.id Data file.«data») (fork_blocks blocks file.id Resource file.resource) total old middle new (one total area) (two total area)

pub area-few : (mdb : Mdb) (image : List ℕ) → IsImageLength (length image) → HasArea mdb (block_count image) → HasArea mdb 4294967295
area-few mdb image len area = omega (arith, area, few-count image len)
  where
    few-count : (bytes : List ℕ) → IsImageLength (length bytes) → block_count bytes ≤ 4294967295
    few-count bytes h = omega (arith, h.most)

-- ---- a record that is none of a file, and one of a file

pub no-item : (r : Record) → is_item r.1 ≡ false → is_file r.1 ≡ true → ⊥
no-item r none file = true≢false (sym (item-is r.1 file) ∙ none)

pub none-is : (body : List ℕ) (other : CatalogItem) → None ≡ cond (is_item body) (Some other) None → is_item body ≡ false
none-is body other found = by (is_item body) found
  where
    none-some : (x : CatalogItem) → None ≡ Some x → ⊥
    none-some x e = cc

    by : (b : Bool) → None ≡ cond b (Some other) None → b ≡ false
    by true e = absurd (none-some other e)
    by false e = refl
